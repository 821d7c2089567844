-- Nothing is wrong with the lines of a source that has no fault.
use Rattle.std.proofs.Common.{◌≡◌, ◌*◌, List, [], ◌∷◌, ◌++◌, inl, length, refl, sym, subst, ◌∙◌, arith}
use Rattle.std.specs.List.{Any}
use Rattle.std.proofs.lemmas.List.{append_assoc, length-append, get_or_at}
use Rattle.code_model.specs.declared.object.Object.{Object}
use Rattle.code_model.specs.Fields.{fields}
use Rattle.insert_model.specs.declared.fault.InsertKind.TheVariants.{UsesCheckRegister, Forbidden, BadTarget}
use Rattle.insert_model.specs.declared.line.Line.{Line}
use Rattle.insert_model.specs.Source.{lines}
use Rattle.insert_model.specs.Faults.{LineHas, LinesHave, NoHit}
use Rattle.insert_laws.specs.Shapes.{IsCleanLine}
use Rattle.insert_laws.proofs.UnitsFit.{LinesFit}

abbrev pub AllClean : Object → List Line → Type 0
AllClean o [] = Unit {0}
AllClean o (l ∷ ls) = IsCleanLine o l × AllClean o ls

line_hit : (o : Object) (done : List Line) (l : Line) (rest : List Line) (P : Line → Type 0) → P l → Any P (done ++ l ∷ rest)
line_hit o done l rest P h = (length done, l, omega (arith, length-append done (l ∷ rest)), get_or_at done l rest l (length done) refl, h)

clean_lines : (o : Object) (done rest : List Line) → NoHit o → lines (fields o) ≡ done ++ rest → LinesFit rest → AllClean o rest
unfolding LinesHave
clean_lines o done [] none' e fits = tt
clean_lines o done (l ∷ rest) none' e fits =
    let at : (P : Line → Type 0) → P l → Any P (lines (fields o)) = λ P h. subst (Any P) (sym e) (line_hit o done l rest P h) in (
      record {
        fits = fits.0.0;
        free = λ h. none' UsesCheckRegister (2 * l.at) (inl (at (λ m. (2 * l.at ≡ 2 * m.at) × LineHas UsesCheckRegister o m) (refl, h)));
        allowed = λ h. none' Forbidden (2 * l.at) (inl (at (λ m. (2 * l.at ≡ 2 * m.at) × LineHas Forbidden o m) (refl, h)));
        lands = λ h. none' BadTarget (2 * l.at) (inl (at (λ m. (2 * l.at ≡ 2 * m.at) × LineHas BadTarget o m) (refl, h)));
      },
      clean_lines o (done ++ l ∷ []) rest none' (e ∙ sym (append_assoc done (l ∷ []) rest)) fits.1,
    )

pub all_clean : (o : Object) → NoHit o → LinesFit (lines (fields o)) → AllClean o (lines (fields o))
all_clean o none' fits = clean_lines o [] (lines (fields o)) none' refl fits

pub clean_parts : (o : Object) (xs ys : List Line) → AllClean o (xs ++ ys) → AllClean o xs × AllClean o ys
clean_parts o [] ys c = (tt, c)
clean_parts o (x ∷ xs) ys c = let r = clean_parts o xs ys c.1 in ((c.0, r.0), r.1)
