-- The groups of a source that has no fault: each is a line or a run, and nothing is wrong with its lines.
use Rattle.std.proofs.Common.{◌≡◌, List, [], ◌∷◌, ◌++◌, sym, subst}
use Rattle.std.specs.List.{AllByRecursion, flat_map}
use Rattle.std.proofs.lemmas.List.Elements.{recursion_from_All}
use Rattle.msp_encode.specs.Laws.{LegalByCases}
use Rattle.msp_decode.specs.Function.{ReadingLaw}
use Rattle.code_model.specs.declared.object.Object.{Object}
use Rattle.code_model.specs.Fields.{fields}
use Rattle.code_laws.specs.Laws.{OneStands}
use Rattle.insert_model.specs.declared.line.Line.{Line}
use Rattle.insert_model.specs.Source.{lines}
use Rattle.insert_model.specs.Groups.{Group, members, groups}
use Rattle.insert_model.specs.Faults.{IsInserted}
use Rattle.insert_model.specs.Laws.{IsGroup, GroupsStand, GroupsLaw, ShortLaw}
use Rattle.insert_laws.proofs.UnitsFit.{LinesFit, source_fits}
use Rattle.insert_laws.proofs.CleanLines.{AllClean, all_clean, clean_parts}

-- the laws of the layers below that all proofs on pieces start from
pub record Premises : Type 0 where
  pub one : OneStands
  pub reads : ReadingLaw
  pub legal : LegalByCases
  pub groups : GroupsLaw
  pub short : ShortLaw

pub record IsCleanGroup (o : Object) (g : Group) : Type 0 where
  pub fits : LinesFit (members g)
  pub clean : AllClean o (members g)
  pub is : IsGroup (fields o) g

abbrev pub AllGroups : Object → List Group → Type 0
AllGroups o [] = Unit {0}
AllGroups o (g ∷ gs) = IsCleanGroup o g × AllGroups o gs

fit_parts : (xs ys : List Line) → LinesFit (xs ++ ys) → LinesFit xs × LinesFit ys
fit_parts [] ys h = (tt, h)
fit_parts (x ∷ xs) ys h = let r = fit_parts xs ys h.1 in ((h.0, r.0), r.1)

clean_groups : (o : Object) (gs : List Group) → LinesFit (flat_map members gs) → AllClean o (flat_map members gs) → AllByRecursion (IsGroup (fields o)) gs → AllGroups o gs
clean_groups o [] fits clean each = tt
clean_groups o (g ∷ gs) fits clean each =
    let f : LinesFit (members g) × LinesFit (flat_map members gs) = fit_parts (members g) (flat_map members gs) fits in
    let c : AllClean o (members g) × AllClean o (flat_map members gs) = clean_parts o (members g) (flat_map members gs) clean in
    (record { fits = f.0; clean = c.0; is = each.0 }, clean_groups o gs f.1 c.1 each.1)

pub all_groups : Premises → (o q : Object) → IsInserted o q → AllGroups o (groups (fields o))
all_groups h o q i =
    let s : GroupsStand (fields o) = h.groups (fields o) in
    let fits : LinesFit (lines (fields o)) = source_fits o h.reads h.legal in
    clean_groups o (groups (fields o)) (subst LinesFit (sym s.are) fits) (subst (AllClean o) (sym s.are) (all_clean o i.clean fits)) (recursion_from_All (IsGroup (fields o)) (groups (fields o)) s.each)

-- ---- parts

pub front_groups : (o : Object) (xs ys : List Group) → AllGroups o (xs ++ ys) → AllGroups o xs
front_groups o [] ys c = tt
front_groups o (x ∷ xs) ys c = (c.0, front_groups o xs ys c.1)

group_at : (o : Object) (front : List Group) (g : Group) (back : List Group) → AllGroups o (front ++ g ∷ back) → IsCleanGroup o g
group_at o [] g back c = c.0
group_at o (x ∷ front) g back c = group_at o front g back c.1

pub clean_of : Premises → (o q : Object) → IsInserted o q → (front : List Group) (g : Group) (back : List Group) → groups (fields o) ≡ front ++ g ∷ back → IsCleanGroup o g
clean_of h o q i front g back e = group_at o front g back (subst (AllGroups o) e (all_groups h o q i))
