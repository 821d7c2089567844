-- Runs, counted line by line.
use Rattle.std.proofs.Common.{◌≡◌, ℕ, zero, suc, ◌+◌, ◌-◌, ◌≤◌, ◌<◌, max, min, inl, inr, List, [], ◌∷◌, length, take, drop, get_or, Option, None, Some, sym, refl, ap, ◌∙◌, arith}
use Rattle.std.proofs.lemmas.Bool.{cases_lt}
use Rattle.std.proofs.lemmas.List.{drop_more, drop_all, length-take, get_or-take}
use Rattle.code_model.specs.Fields.{Fields}
use Rattle.insert_model.specs.declared.line.Line.{Line}
use Rattle.insert_model.specs.Groups.{Cell, joins, cons_if, run, greatest}
use Rattle.check_inserter.specs.declared.groups.Run.{Run}
use Rattle.check_inserter.specs.Cells.{Counts}

-- what is left of a run behind so many of its lines
pub left_of : Fields → Cell → List Line → ℕ → List ℕ
left_of f c ls i = run f c (3 - i) (drop i ls)

-- so many lines of it were counted
pub record IsRunTo (f : Fields) (c : Cell) (ls : List Line) (i : ℕ) (r : Run) : Type 0 where
  pub lines : r.count ≡ i
  pub count : length (run f c 3 ls) ≡ r.count + length (left_of f c ls i)
  pub most : greatest (run f c 3 ls) ≡ max r.greatest (greatest (left_of f c ls i))

pub run_begins : (f : Fields) (c : Cell) (ls : List Line) (r : Run) → r.count ≡ 0 → r.greatest ≡ 0 → IsRunTo f c ls 0 r
unfolding left_of
run_begins f c ls r ec eg =
    let same : left_of f c ls 0 ≡ run f c 3 ls = refl in
    record {
      lines = ec;
      count = omega (arith, ec, ap length same);
      most = omega (arith, eg, ap greatest same);
    }

next_of : (f : Fields) (c : Cell) (ls : List Line) (i : ℕ) (d : Line) → i < 3 → i < length ls → left_of f c ls i ≡ cons_if (joins f c (get_or ls i d)) (left_of f c ls (i + 1))
unfolding left_of run
next_of f c ls i d few inside =
    let n : 3 - i ≡ suc (3 - (i + 1)) = omega arith in
    ap (λ (k : ℕ). run f c k (drop i ls)) n ∙ ap (run f c (suc (3 - (i + 1)))) (drop_more ls i d inside)

none_of : (f : Fields) (c : Cell) (ls : List Line) (i : ℕ) → 3 ≤ i → left_of f c ls i ≡ []
unfolding left_of run
none_of f c ls i h = let n : 3 - i ≡ 0 = omega arith in ap (λ (k : ℕ). run f c k (drop i ls)) n

run_of_none : (f : Fields) (c : Cell) (n : ℕ) → run f c n [] ≡ []
unfolding run
run_of_none f c zero = refl
run_of_none f c (suc n) = refl

past_of : (f : Fields) (c : Cell) (ls : List Line) (i : ℕ) → length ls ≤ i → left_of f c ls i ≡ []
unfolding left_of
past_of f c ls i h = ap (run f c (3 - i)) (drop_all i ls h) ∙ run_of_none f c (3 - i)

counts_all : (f : Fields) (c : Cell) (ls : List Line) (i : ℕ) (r : Run) → IsRunTo f c ls i r → left_of f c ls i ≡ [] → Counts (run f c 3 ls) r
unfolding greatest
counts_all f c ls i r h e = record {
  count_is = omega (arith, h.count, ap length e);
  greatest_is = omega (arith, h.most, ap greatest e);
}

-- the lines that may be of the run, as a part of those behind
near_few : (ls : List Line) (i m : ℕ) → m ≡ min (length ls) 3 → i < length (take m ls) → (i < 3) × (i < length ls)
near_few ls i m em h = (omega (arith, em, length-take m ls), omega (arith, em, length-take m ls))

near_line : (ls : List Line) (i m : ℕ) (d : Line) → i < length (take m ls) → get_or (take m ls) i d ≡ get_or ls i d
near_line ls i m d h = get_or-take m ls i d (omega (arith, length-take m ls))

-- a line that doesn't join ends the run
pub run_breaks : (f : Fields) (c : Cell) (ls : List Line) (i m : ℕ) (d : Line) (r : Run) → IsRunTo f c ls i r → m ≡ min (length ls) 3 → i < length (take m ls) → None ≡ joins f c (get_or (take m ls) i d) → Counts (run f c 3 ls) r
run_breaks f c ls i m d r h em inside e =
    let few : (i < 3) × (i < length ls) = near_few ls i m em inside in
    counts_all f c ls i r h (next_of f c ls i d few.0 few.1 ∙ ap (λ (l : Line). cons_if (joins f c l) (left_of f c ls (i + 1))) (sym (near_line ls i m d inside)) ∙ ap (λ (j : Option ℕ). cons_if j (left_of f c ls (i + 1))) (sym e))

pub run_ends : (f : Fields) (c : Cell) (ls : List Line) (i m : ℕ) (r : Run) → IsRunTo f c ls i r → m ≡ min (length ls) 3 → length (take m ls) ≤ i → Counts (run f c 3 ls) r
run_ends f c ls i m r h em past = elim (cases_lt i (length ls)) [
  | inl inside ↦ counts_all f c ls i r h (none_of f c ls i (omega (arith, em, length-take m ls)))
  | inr behind ↦ counts_all f c ls i r h (past_of f c ls i behind)
]

pub run_more : (f : Fields) (c : Cell) (ls : List Line) (i m : ℕ) (d : Line) (x : ℕ) (r s : Run) → IsRunTo f c ls i r → m ≡ min (length ls) 3 → i < length (take m ls) → Some x ≡ joins f c (get_or (take m ls) i d)
    → s.count ≡ r.count + 1 → s.greatest ≡ max r.greatest x → IsRunTo f c ls (i + 1) s
unfolding greatest
run_more f c ls i m d x r s h em inside e ec eg =
    let few : (i < 3) × (i < length ls) = near_few ls i m em inside in
    let n : left_of f c ls i ≡ x ∷ left_of f c ls (i + 1) =
    next_of f c ls i d few.0 few.1 ∙ ap (λ (l : Line). cons_if (joins f c l) (left_of f c ls (i + 1))) (sym (near_line ls i m d inside)) ∙ ap (λ (j : Option ℕ). cons_if j (left_of f c ls (i + 1))) (sym e) in
    record {
      lines = omega (arith, h.lines);
      count = omega (arith, h.count, ap length n);
      most = omega (arith, h.most, ap greatest n, eg);
    }
