-- The groups are the lines, cut.
use Rattle.std.proofs.Common.{◌≡◌, ℕ, zero, suc, ◌*◌, ◌≤◌, nat_eq, nat_le, if◌then◌else◌, Bool, true, false, List, [], ◌∷◌, ◌++◌, inl, inr, length, map, take, drop, Option, None, Some, refl, sym, ap, ◌∙◌, arith, rules, eq-eqb}
use Rattle.std.specs.List.{AllByRecursion, flat_map}
use Rattle.std.proofs.lemmas.List.{length-take, take-append-drop}
use Rattle.std.proofs.lemmas.List.Elements.{All-from_recursion}
use Rattle.code_model.specs.Fields.{Fields}
use Rattle.insert_model.specs.declared.line.Line.{Line}
use Rattle.insert_model.specs.Source.{lines}
use Rattle.insert_model.specs.Groups.{Cell, cell, difference, is_near_cell, is_target, if_near, joins, cons_if, run, greatest, later_of, later, members, groups_from, groups}
use Rattle.insert_model.specs.Layout.{difference_of}
use Rattle.insert_model.specs.Laws.{Joins, IsGroup, GroupsLaw}

-- ---- runs

-- the difference of a line that joins is that of its cell
by_test : (b : Bool) (x d : ℕ) → (if b then Some x else None) ≡ Some d → x ≡ d
by_test true x d e = cc
by_test false x d e = cc

by_cell : (c : Cell) (e : Option Cell) (d : ℕ) → if_near c e ≡ Some d → difference_of c e ≡ d
by_cell c None d h = cc
by_cell c (Some e) d h = by_test (is_near_cell c e) (difference c.index e.index) d h

by_target : (b : Bool) (x : Option ℕ) (d : ℕ) → (if b then None else x) ≡ Some d → x ≡ Some d
by_target true x d e = cc
by_target false x d e = e

joined : (f : Fields) (c : Cell) (l : Line) (d : ℕ) → joins f c l ≡ Some d → difference_of c (cell l) ≡ d
joined f c l d h = by_cell c (cell l) d (by_target (is_target f (2 * l.at)) (if_near c (cell l)) d h)

-- what is known of a run of at most so many lines
record RunOf (f : Fields) (c : Cell) (left : ℕ) (ls : List Line) (ds : List ℕ) : Type 0 where
  few : length ds ≤ left
  all : AllByRecursion (Joins f c) (take (length ds) ls)
  are : map (λ (l : Line). difference_of c (cell l)) (take (length ds) ls) ≡ ds

none : (f : Fields) (c : Cell) (left : ℕ) (ls : List Line) → RunOf f c left ls []
none f c left ls = record { few = omega arith; all = tt; are = refl }

one_more : (f : Fields) (c : Cell) (left : ℕ) (l : Line) (ls : List Line) (ds : List ℕ) (j : Option ℕ) → joins f c l ≡ j → RunOf f c left ls ds → RunOf f c (suc left) (l ∷ ls) (cons_if j ds)
one_more f c left l ls ds None e r = none f c (suc left) (l ∷ ls)
one_more f c left l ls ds (Some d) e r = record {
  few = let n : length ds ≤ left = r.few in omega arith;
  all = ((d, e), r.all);
  are = ap (λ (x : ℕ). x ∷ map (λ (k : Line). difference_of c (cell k)) (take (length ds) ls)) (joined f c l d e) ∙ ap (λ (xs : List ℕ). d ∷ xs) r.are;
}

run_of : (f : Fields) (c : Cell) (left : ℕ) (ls : List Line) → RunOf f c left ls (run f c left ls)
unfolding run
run_of f c zero ls = none f c zero ls
run_of f c (suc left) [] = none f c (suc left) []
run_of f c (suc left) (l ∷ ls) = one_more f c left l ls (run f c left ls) (joins f c l) refl (run_of f c left ls)

-- ---- groups

of_test : (f : Fields) (c : Cell) (l : Line) (ls : List Line) (ds : List ℕ) (b : Bool) → cell l ≡ Some c → nat_le 2 f.version ≡ true → RunOf f c 3 ls ds → nat_eq (greatest ds) 0 ≡ b
    → IsGroup f (record { head = l; rest = take (if b then 0 else length ds) ls })
of_test f c l ls ds true s v r e = inl refl
of_test f c l ls ds false s v r e = inr (record {
  from = c;
  begins = s;
  others = All-from_recursion (Joins f c) (take (length ds) ls) r.all;
  few = few;
  reaches = λ z. let t : nat_eq (greatest ds) 0 ≡ true = eq-eqb (greatest ds) 0 (ap greatest (sym r.are) ∙ z) in let g : true ≡ false = sym t ∙ e in cc;
  version = search rules;
})
  where
    few : length (take (length ds) ls) ≤ 3
    few = let n : length ds ≤ 3 = r.few in omega (arith, n, length-take (length ds) ls)

by_first : (f : Fields) (l : Line) (ls : List Line) (s : Option Cell) → cell l ≡ s → nat_le 2 f.version ≡ true → IsGroup f (record { head = l; rest = take (later_of f s ls) ls })
by_first f l ls None s v = inl refl
by_first f l ls (Some c) s v = of_test f c l ls (run f c 3 ls) (nat_eq (greatest (run f c 3 ls)) 0) s v (run_of f c 3 ls) refl

by_version : (f : Fields) (l : Line) (ls : List Line) (b : Bool) → nat_le 2 f.version ≡ b → IsGroup f (record { head = l; rest = take (if b then later_of f (cell l) ls else 0) ls })
by_version f l ls true e = by_first f l ls (cell l) refl e
by_version f l ls false e = inl refl

is_group : (f : Fields) (l : Line) (ls : List Line) → IsGroup f (record { head = l; rest = take (later f l ls) ls })
unfolding later
is_group f l ls = by_version f l ls (nat_le 2 f.version) refl

all_groups : (f : Fields) (skip : ℕ) (ls : List Line) → AllByRecursion (IsGroup f) (groups_from f skip ls)
unfolding groups_from
all_groups f skip [] = tt
all_groups f (suc skip) (l ∷ ls) = all_groups f skip ls
all_groups f zero (l ∷ ls) = (is_group f l ls, all_groups f (later f l ls) ls)

-- the groups of lines are those behind the skipped ones
cut : (f : Fields) (skip : ℕ) (ls : List Line) → flat_map members (groups_from f skip ls) ≡ drop skip ls
unfolding groups_from
cut f zero [] = refl
cut f (suc skip) [] = refl
cut f (suc skip) (l ∷ ls) = cut f skip ls
cut f zero (l ∷ ls) =
    ap (λ (xs : List Line). l ∷ (take (later f l ls) ls ++ xs)) (cut f (later f l ls) ls) ∙ ap (λ (xs : List Line). l ∷ xs) (take-append-drop (later f l ls) ls)

pub groups_law : GroupsLaw
unfolding groups
groups_law f = record { are = cut f 0 (lines f); each = All-from_recursion (IsGroup f) (groups f) (all_groups f 0 (lines f)) }
