-- A group of several lines stores behind one base register.
use Rattle.std.proofs.Common.{◌≡◌, ◌≢◌, ℕ, suc, ◌<◌, ◌≤◌, true, List, [], ◌∷◌, inl, inr, Option, None, Some, refl, sym, subst, ap, ◌∙◌, arith}
use Rattle.std.specs.List.{AllByRecursion, Any}
use Rattle.std.proofs.lemmas.Bool.{cases_lt, and_parts, eqb-true}
use Rattle.std.proofs.lemmas.List.Elements.{All-contains, All-from_recursion, recursion_from_All}
use Rattle.msp_encode.specs.declared.instr.Dst.TheVariants as dst
use Rattle.msp_encode.specs.declared.instr.Instr.TheVariants as instr
use Rattle.code_model.specs.declared.object.Object.{Object}
use Rattle.code_model.specs.declared.parts.RelKind.{RelKind}
use Rattle.code_model.specs.declared.parts.RelKind.TheVariants.{Code, Data, Lo, Hi}
use Rattle.code_model.specs.Guards.{reach_bytes}
use Rattle.code_model.specs.Fields.{fields}
use Rattle.insert_model.specs.declared.line.Line.{Line}
use Rattle.insert_model.specs.Source.{own}
use Rattle.insert_model.specs.Groups.{Cell, cell, difference, is_alike, greatest, Group, groups}
use Rattle.insert_model.specs.Layout.{difference_of, reach_from}
use Rattle.insert_model.specs.Laws.{Joins, IsRun}
use Rattle.insert_laws.specs.Shapes.{IsCleanLine}
use Rattle.insert_laws.specs.Stores.{IsIndexKind, StoresBehind, StoresTogether, GroupsStore}
use Rattle.insert_laws.proofs.UnitsFit.{LinesFit}
use Rattle.insert_laws.proofs.CleanLines.{AllClean}
use Rattle.insert_laws.proofs.CleanGroups.{Premises, IsCleanGroup, AllGroups, all_groups}
use Rattle.insert_laws.proofs.Carried.{DstMay, two_own}
use Rattle.insert_laws.proofs.GroupUnits.{StoresAt, stores_of, IsReached, Joined, joined, differences, greatest_reached, rest_least, reach_is, no_difference, all_joined, run_unit, wide_is, stored_read}

-- ---- relocations of indexes

may_be : (n x : ℕ) (k : Option RelKind) → DstMay (dst.Indexed n x) k → IsIndexKind k
may_be n x None h = tt
may_be n x (Some Code) h = h Code refl (omega arith) (λ c. c)
may_be n x (Some Data) h = tt
may_be n x (Some Lo) h = h Lo refl (omega arith) (λ c. c)
may_be n x (Some Hi) h = h Hi refl (omega arith) (λ c. c)

alike_so : (j k : Option RelKind) → IsIndexKind j → IsIndexKind k → is_alike j k ≡ true → k ≡ j
alike_so None None a b e = refl
alike_so None (Some Data) a b e = cc
alike_so (Some Data) None a b e = cc
alike_so (Some Data) (Some Data) a b e = refl
alike_so None (Some Code) a b e = absurd b
alike_so None (Some Lo) a b e = absurd b
alike_so None (Some Hi) a b e = absurd b
alike_so (Some Data) (Some Code) a b e = absurd b
alike_so (Some Data) (Some Lo) a b e = absurd b
alike_so (Some Data) (Some Hi) a b e = absurd b
alike_so (Some Code) k a b e = absurd a
alike_so (Some Lo) k a b e = absurd a
alike_so (Some Hi) k a b e = absurd a

-- ---- lines

-- a clean line that stores at a cell, which differs from another in its index alone
behind_of : (o : Object) (most : ℕ) (c e : Cell) (l : Line) → IsCleanLine o l → (t : StoresAt l.instr (own l).destination e) → cell l ≡ Some e → e.base ≡ c.base → e.kind ≡ c.kind → e.index < 65536
    → difference_of c (cell l) ≤ most → StoresBehind o c most l
behind_of o most c e l clean t s base kind word near =
    let ahead : difference_of c (cell l) ≡ difference c.index e.index = ap (difference_of c) s in
    record {
      op = t.op;
      width = t.width;
      source = t.source;
      index = e.index;
      clean = clean;
      line = t.is ∙ ap (λ (n : ℕ). instr.Two t.op t.width t.source (dst.Indexed n e.index)) base;
      stores = t.does;
      kind = t.kind ∙ kind;
      word = word;
      ahead = ahead;
      near = omega (arith, ahead, near);
    }

cell_kind : (o : Object) (l : Line) (e : Cell) → IsCleanLine o l → (t : StoresAt l.instr (own l).destination e) → IsIndexKind e.kind
cell_kind o l e clean t = may_be e.base e.index e.kind (subst (DstMay (dst.Indexed e.base e.index)) t.kind (two_own o l clean t.op t.width t.source (dst.Indexed e.base e.index) t.is).1)

module _ (o : Object) (c : Cell) (most : ℕ) (kind : IsIndexKind c.kind) where
  joins_behind : (l : Line) → IsCleanLine o l → LinesFit (l ∷ []) → Joined c l → difference_of c (cell l) ≤ most → StoresBehind o c most l
  joins_behind l clean fits j near =
      let t : StoresAt l.instr (own l).destination j.at = stores_of l.instr (own l).destination j.at j.cell_is in
      let parts = and_parts _ _ j.near in
      let base : j.at.base ≡ c.base = eqb-true j.at.base c.base parts.0 in
      let same : j.at.kind ≡ c.kind = alike_so c.kind j.at.kind kind (cell_kind o l j.at clean t) (and_parts _ _ parts.1).0 in
      behind_of o most c j.at l clean t j.cell_is base same (stored_read l j.at fits.0.0 fits.0.1 j.cell_is).1 near

  rest_behind : (ls : List Line) → AllClean o ls → LinesFit ls → AllByRecursion (Joins (fields o) c) ls → greatest (differences c ls) ≤ most → AllByRecursion (StoresBehind o c most) ls
  unfolding greatest
  rest_behind [] clean fits h top = tt
  rest_behind (l ∷ ls) clean fits h top = (
    joins_behind l clean.0 (fits.0, tt) (joined (fields o) c l h.0) (omega (arith, top)),
    rest_behind ls clean.1 fits.1 h.1 (omega (arith, top)),
  )

-- ---- the farthest store

later_any : (P : Line → Type 0) (l : Line) (ls : List Line) → Any P ls → Any P (l ∷ ls)
later_any P l ls h = (suc h.0, h.1, omega (arith, h.2), h.3, h.4)

attained : (c : Cell) (ls : List Line) (d : ℕ) → greatest (differences c ls) ≡ d → d ≢ 0 → Any (λ (l : Line). difference_of c (cell l) ≡ d) ls
unfolding greatest
attained c [] d e some = absurd (some (sym e))
attained c (l ∷ ls) d e some = elim (cases_lt (difference_of c (cell l)) (greatest (differences c ls))) [
  | inl less ↦ later_any (λ (l : Line). difference_of c (cell l) ≡ d) l ls (attained c ls d (omega (arith, e, less)) some)
  | inr more ↦ (0, l, omega arith, refl, omega (arith, e, more))
]

-- ---- groups

run_stores : (o : Object) (l k : Line) (ks : List Line) → IsCleanGroup o (record { head = l; rest = k ∷ ks }) → IsRun (fields o) (record { head = l; rest = k ∷ ks }) → StoresTogether o (record { head = l; rest = k ∷ ks })
run_stores o l k ks h r =
    let c = r.from in
    let joins' = recursion_from_All (Joins (fields o) c) (k ∷ ks) r.others in
    let read = stored_read l c h.fits.0.0 h.fits.0.1 r.begins in
    let first : difference_of c (cell l) ≡ 0 = no_difference c (cell l) r.begins read.1 in
    let all = differences c (l ∷ k ∷ ks) in
    let top : IsReached (greatest all) = greatest_reached all ((omega (arith, first), omega (arith, first)), all_joined (fields o) c (k ∷ ks) joins') in
    let more : greatest (differences c (k ∷ ks)) ≤ greatest all = rest_least (difference_of c (cell l)) (differences c (k ∷ ks)) in
    let never : greatest all ≢ 0 = λ e. r.reaches (omega (arith, e, more)) in
    let bytes : reach_bytes (reach_from c (l ∷ k ∷ ks)) ≡ greatest all = reach_is (greatest all) top never in
    let most = reach_bytes (reach_from c (l ∷ k ∷ ks)) in
    let t : StoresAt l.instr (own l).destination c = stores_of l.instr (own l).destination c r.begins in
    let kind : IsIndexKind c.kind = cell_kind o l c h.clean.0 t in
    let each : AllByRecursion (StoresBehind o c most) (l ∷ k ∷ ks) = (
      behind_of o most c c l h.clean.0 t r.begins refl refl read.1 (omega (arith, first)),
      rest_behind o c most kind (k ∷ ks) h.clean.1 h.fits.1 joins' (omega (arith, bytes, more)),
    ) in
    record {
      from = c;
      reach = reach_from c (l ∷ k ∷ ks);
      fits = read.0;
      are = run_unit o l k ks c r.begins ∙ wide_is c (l ∷ k ∷ ks);
      kind = kind;
      word = read.1;
      each = All-from_recursion (StoresBehind o c most) (l ∷ k ∷ ks) each;
      first = first;
      reached = attained c (l ∷ k ∷ ks) most (sym bytes) (λ e. never (omega (arith, e, bytes)));
    }

stores_so : (o : Object) (g : Group) → IsCleanGroup o g → g.rest ≢ [] → StoresTogether o g
stores_so o g c more = elim c.is [ inl e ↦ absurd (more e) | inr r ↦ by g.head g.rest c r more ]
  where
    by : (l : Line) (ks : List Line) → IsCleanGroup o (record { head = l; rest = ks }) → IsRun (fields o) (record { head = l; rest = ks }) → ks ≢ [] → StoresTogether o (record { head = l; rest = ks })
    by l [] h r more = absurd (more refl)
    by l (k ∷ ks) h r more = run_stores o l k ks h r

clean_each : (o : Object) (gs : List Group) → AllGroups o gs → AllByRecursion (IsCleanGroup o) gs
clean_each o [] c = tt
clean_each o (g ∷ gs) c = (c.0, clean_each o gs c.1)

pub groups_store : Premises → GroupsStore
groups_store h o q i g at more =
    let c : AllByRecursion (IsCleanGroup o) (groups (fields o)) = clean_each o (groups (fields o)) (all_groups h o q i) in
    stores_so o g (All-contains (IsCleanGroup o) (groups (fields o)) g (All-from_recursion (IsCleanGroup o) (groups (fields o)) c) at) more
