-- Where running the unit of each source instruction ends.
use Rattle.std.proofs.Common.{◌≡◌, ℕ, Bool, true, false, List, [], ◌∷◌, ℤ, Option, None, Some, refl, sym, ap, ◌∙◌, subst, inl, inr}
use Rattle.std.specs.Prelude.{if◌then◌else◌}
use Rattle.msp_encode.specs.declared.instr.Instr.{Instr}
use Rattle.msp_encode.specs.declared.instr.Instr.TheVariants as instr
use Rattle.msp_encode.specs.Forms.{IsReti}
use Rattle.code_model.specs.declared.object.Object.{Object}
use Rattle.code_model.specs.Fields.{fields}
use Rattle.load_model.specs.Domains.{Domain}
use Rattle.insert_model.specs.declared.line.Line.{Line}
use Rattle.insert_model.specs.declared.piece.Piece.{Piece}
use Rattle.insert_model.specs.Source.{own}
use Rattle.insert_model.specs.Guards.{jump}
use Rattle.insert_model.specs.Units.{static_bytes, unit_of, unit}
use Rattle.insert_model.specs.Groups.{alone}
use Rattle.insert_model.specs.Layout.{jump_by, line_unit_of, line_unit, unit_in, is_short, final_offset, final}
use Rattle.insert_laws.specs.Pieces.{unit_of_group}
use Rattle.unit_laws.specs.Rows.{Halts}
use Rattle.placed_unit_laws.specs.Placed.{unit_at, unit_behind}
use Rattle.placed_unit_laws.specs.Checks.{Check, Unchecked, check_of, check_of_two, check_of_one, check_of_instr, Fails, entry_of, before_check, handed}
use Rattle.placed_unit_laws.specs.Ends.{EndsBy, UnitEnds, Halted, Done, UnitEndsLaw, UnitStandsLaw}
use Rattle.placed_unit_laws.specs.Given.{RowLaws}
use Rattle.placed_unit_laws.proofs.Here.{IsHere, here_of, stands_here, LineStands}
use Rattle.placed_unit_laws.proofs.Pieces.{Stands}
use Rattle.placed_unit_laws.proofs.Results.{Row}
use Rattle.placed_unit_laws.proofs.TwoUnits.{two-row}
use Rattle.placed_unit_laws.proofs.Calls.{one-row}
use Rattle.placed_unit_laws.proofs.Jumps.{jump-row, short-row}

module _ (g : RowLaws) (o : Object) (d : Domain) (low top : ℕ) (m r : List ℕ) (l : Line) (a : IsHere o d low top m r l) (st : LineStands o d m l) where
  abbrev bytes : ℕ
  bytes = static_bytes (fields o)

  -- the words of the line's unit, where its instruction is given
  own-unit : (i : Instr) → l.instr ≡ i → unit_of_group (fields o) (alone l) ≡ line_unit_of (final (fields o)) bytes l i
  unfolding unit_of_group unit_in line_unit
  own-unit i e = ap (line_unit_of (final (fields o)) bytes l) e

  stands : (ps : List Piece) → unit_of_group (fields o) (alone l) ≡ ps → Stands o d m (unit_at o d l) (unit_behind o d l) ps
  stands ps e = subst (Stands o d m (unit_at o d l) (unit_behind o d l)) e (st.words, st.behind)

  final-is : (b : Bool) → is_short (fields o) l ≡ b → final (fields o) l ≡ (if b then Some (final_offset (fields o) l l.instr) else None)
  unfolding final
  final-is b f = ap (λ (x : Bool). if x then Some (final_offset (fields o) l l.instr) else None) f

  unit-is : (i : Instr) → l.instr ≡ i → unit bytes l ≡ unit_of bytes l.at (own l) i
  unfolding unit
  unit-is i e = ap (unit_of bytes l.at (own l)) e

  ends : (c : Check) (i : Instr) → check_of o l ≡ c → l.instr ≡ i → Row o d low top m r l c i (handed i) → UnitEnds o d low top m r l
  ends c i e f (inl s) =
      let same = subst (λ (j : Instr). Halts m r (unit_at o d l) (unit_behind o d l) (entry_of c) (before_check o d r l c j)) (sym f) s.1 in
      Halted (subst (Fails o d low top m r) (sym e) s.0) (subst (λ (x : Check). Halts m r (unit_at o d l) (unit_behind o d l) (entry_of x) (before_check o d r l x l.instr)) (sym e) same)
  ends c i e f (inr p) = Done (λ q. p.0 (subst (Fails o d low top m r) e q)) (subst (λ (j : Instr). EndsBy o d m r l (handed j)) (sym f) p.1)

  check-is : (i : Instr) → l.instr ≡ i → check_of o l ≡ check_of_instr bytes (own l) i
  unfolding check_of
  check-is i e = ap (check_of_instr bytes (own l)) e

  by-instr : (i : Instr) → l.instr ≡ i → UnitEnds o d low top m r l
  by-instr (instr.Two op w s t) e =
      ends (check_of_two bytes op w s t (own l)) (instr.Two op w s t) (check-is (instr.Two op w s t) e) e
      (two-row g o d low top m r l a st op w bytes s t (record { clean = st.clean; line = e }) (stands (unit_of bytes l.at (own l) (instr.Two op w s t)) (own-unit (instr.Two op w s t) e ∙ unit-is (instr.Two op w s t) e)))
  by-instr (instr.One op w s) e =
      ends (check_of_one bytes op s (own l)) (instr.One op w s) (check-is (instr.One op w s) e) e
      (one-row g o d low top m r l a st w bytes op s (record { clean = st.clean; line = e }) (stands (unit_of bytes l.at (own l) (instr.One op w s)) (own-unit (instr.One op w s) e ∙ unit-is (instr.One op w s) e)))
  by-instr instr.Reti e = absurd (st.clean.allowed (inl (inl (subst IsReti (sym e) tt))))
  by-instr (instr.Jump c k) e = ends Unchecked (instr.Jump c k) (check-is (instr.Jump c k) e) e (by (is_short (fields o) l) refl)
    where
      by : (b : Bool) → is_short (fields o) l ≡ b → Row o d low top m r l Unchecked (instr.Jump c k) (handed (instr.Jump c k))
      by true f =
          inr (
            (λ q. q),
            short-row g o d low top m r l a st c k st.clean e f
                (stands (jump c (final_offset (fields o) l l.instr) ∷ []) (own-unit (instr.Jump c k) e ∙ ap (λ (x : Option ℤ). jump_by x c (unit bytes l)) (final-is true f))),
          )
      by false f =
          jump-row g o d low top m r l a st c k st.clean e
          (stands (unit_of bytes l.at (own l) (instr.Jump c k)) (own-unit (instr.Jump c k) e ∙ ap (λ (x : Option ℤ). jump_by x c (unit bytes l)) (final-is false f) ∙ unit-is (instr.Jump c k) e))

pub unit-ends : RowLaws → UnitStandsLaw → UnitEndsLaw
unit-ends g stand o q i d low top m r l e at =
    let here : IsHere o d low top m r l = here_of o q i d low top m r (alone l) e at in by-instr g o d low top m r l here (stands_here stand o d low top m r l here) l.instr refl
