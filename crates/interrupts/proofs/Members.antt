-- The members of sets of lines.
use Rattle.std.proofs.Common.{◌≡◌, ◌≢◌, ℕ, zero, suc, ◌+◌, ◌*◌, ◌%◌, ◌^◌, ◌<◌, ◌≤◌, min, max, true, false, ◌&&◌, ◌||◌, not, eqb, nat_eq, nat_lt, refl, sym, ap, ◌∙◌, arith, bit_and, bit_or}
use Rattle.std.specs.List.{range_with_len, list_any}
use Rattle.std.specs.Int.{w16, bit_at, bit_not}
use Rattle.std.specs.Ordering.{nat_cmp}
use Rattle.std.specs.Cmp.{unsigned_tied}
use Rattle.std.specs.FinSet as set
use Rattle.std.proofs.Math.Bool.{and-true, and-false}
use Rattle.std.proofs.Math.Nat.{div-eq_of_lt-le}
use Rattle.std.proofs.Math.Pow.{pow_mono}
use Rattle.std.proofs.lemmas.Cmp.{nat_cmp_total}
use Rattle.std.proofs.lemmas.Grind.{pow_more}
use Rattle.std.proofs.lemmas.Bool.{true≢false, ltb-true, ltb-false, eqb-true, eqb-false, lt-ltb, le-ltb, eq-eqb, ne_eqb}
use Rattle.std.proofs.lemmas.List.Folds.{list_any_at}
use Rattle.std.proofs.lemmas.List.FromFn.{get_or-range_with_len}
use Rattle.std.proofs.lemmas.Map.Views.{any-filter_same}
use Rattle.std.proofs.lemmas.Nat.Bits.{bit_at-lt, bit_at_and, bit_at_or, bit_at_ones, bit_at_above, bit_at-zero, bit_at_clear_same, bit_at_clear_other}
use Rattle.interrupts.specs.LineSets.{LineSet, lines_of, every_line}

not_in_range : (a k q : ℕ) → a + k ≤ q → list_any (λ y. nat_eq y q) (range_with_len a k) ≡ false
not_in_range a zero q h = refl
not_in_range a (suc k) q h = rw (ne_eqb a q (λ e. omega arith)) (not_in_range (a + 1) k q (omega arith))

is_line : (q : ℕ) → list_any (λ y. nat_eq y q) every_line ≡ nat_lt q 14
is_line q =
    elim (nat_lt q 14) as (λ b. nat_lt q 14 ≡ b → list_any (λ y. nat_eq y q) every_line ≡ b) [
      | true ↦ λ e. let lt : q < 14 = ltb-true q 14 e in list_any_at (λ y. nat_eq y q) every_line q 0 lt (eq-eqb _ q (get_or-range_with_len 0 14 q 0 lt ∙ omega arith))
      | false ↦ λ e. not_in_range 0 14 q (ltb-false q 14 e)
    ] refl

-- the lines of a word are those whose bits are 1
pub contains-lines_of : (w q : ℕ) → set.contains (lines_of w) q ≡ (eqb (bit_at w q) 1 && nat_lt q 14)
unfolding lines_of
contains-lines_of w q =
    set.contains-from_list_nat _ q
    ∙ (any-filter_same (λ y. nat_eq y q) (λ n. eqb (bit_at w n) 1) (eqb (bit_at w q) 1) (λ k e. ap (λ n. eqb (bit_at w n) 1) (eqb-true k q e)) every_line
    ∙ ap (λ b. eqb (bit_at w q) 1 && b) (is_line q))

pub contains-lines_of-line : (w q : ℕ) → q < 14 → set.contains (lines_of w) q ≡ eqb (bit_at w q) 1
contains-lines_of-line w q h = contains-lines_of w q ∙ (ap (λ b. eqb (bit_at w q) 1 && b) (lt-ltb q 14 h) ∙ and-true (eqb (bit_at w q) 1))

contains-lines_of-none : (w q : ℕ) → 14 ≤ q → set.contains (lines_of w) q ≡ false
contains-lines_of-none w q h = contains-lines_of w q ∙ (ap (λ b. eqb (bit_at w q) 1 && b) (le-ltb q 14 h) ∙ and-false (eqb (bit_at w q) 1))

-- two sets of words are equal where they have the same lines
same_lines : (s t : LineSet) → ((q : ℕ) → q < 14 → set.contains s q ≡ set.contains t q) → ((q : ℕ) → 14 ≤ q → set.contains s q ≡ set.contains t q) → s ≡ t
same_lines s t below above =
    set.same_set nat_cmp_total set.nat_cmp-IsAntisymmetric s t
    (λ q. elim (nat_lt q 14) as (λ b. nat_lt q 14 ≡ b → set.contains s q ≡ set.contains t q) [ true ↦ λ e. below q (ltb-true q 14 e) | false ↦ λ e. above q (ltb-false q 14 e) ] refl)

pub lines_are_low : (w q : ℕ) → set.contains (lines_of w) q ≡ true → q < 14
lines_are_low w q h =
    elim (nat_lt q 14) as (λ b. nat_lt q 14 ≡ b → q < 14) [
      | true ↦ λ e. ltb-true q 14 e
      | false ↦ λ e. absurd (true≢false (sym h ∙ contains-lines_of-none w q (ltb-false q 14 e)))
    ] refl

pub lines_of-zero : lines_of 0 ≡ set.empty
lines_of-zero =
    same_lines (lines_of 0) set.empty
    (λ q h. contains-lines_of-line 0 q h ∙ (ap (λ b. eqb b 1) (bit_at-zero q) ∙ sym (set.contains-empty nat_cmp q)))
    (λ q h. contains-lines_of-none 0 q h ∙ sym (set.contains-empty nat_cmp q))

-- bits 14 and 15 are no line's
pub lines_of-low : (w : ℕ) → lines_of (bit_and w 16383) ≡ lines_of w
lines_of-low w =
    same_lines (lines_of (bit_and w 16383)) (lines_of w)
    (λ q h. contains-lines_of-line (bit_and w 16383) q h
    ∙ (ap (λ b. eqb b 1) (bit_at_and w 16383 q ∙ (ap (λ b. min (bit_at w q) b) (bit_at_ones 14 q h) ∙ omega (arith, bit_at-lt w q)))
    ∙ sym (contains-lines_of-line w q h)))
    (λ q h. contains-lines_of-none (bit_and w 16383) q h ∙ sym (contains-lines_of-none w q h))

one_of_max : (a b : ℕ) → a < 2 → b < 2 → eqb (max a b) 1 ≡ (eqb a 1 || eqb b 1)
one_of_max zero zero h i = refl
one_of_max zero (suc zero) h i = refl
one_of_max zero (suc (suc b)) h i = absurd (omega arith)
one_of_max (suc zero) zero h i = refl
one_of_max (suc zero) (suc zero) h i = refl
one_of_max (suc zero) (suc (suc b)) h i = absurd (omega arith)
one_of_max (suc (suc a)) b h i = absurd (omega arith)

pub lines_of-or : (a b : ℕ) → lines_of (bit_or a b) ≡ set.union (lines_of a) (lines_of b)
lines_of-or a b =
    same_lines (lines_of (bit_or a b)) (set.union (lines_of a) (lines_of b))
    (λ q h. contains-lines_of-line (bit_or a b) q h
    ∙ (ap (λ n. eqb n 1) (bit_at_or a b q)
    ∙ (one_of_max (bit_at a q) (bit_at b q) (bit_at-lt a q) (bit_at-lt b q)
    ∙ sym (set.contains-union nat_cmp_total (lines_of a) (lines_of b) q ∙ (λ i. contains-lines_of-line a q h i || contains-lines_of-line b q h i)))))
    (λ q h. contains-lines_of-none (bit_or a b) q h
    ∙ sym (set.contains-union nat_cmp_total (lines_of a) (lines_of b) q ∙ (λ i. contains-lines_of-none a q h i || contains-lines_of-none b q h i)))

contains-removed : (s : LineSet) (n q : ℕ) → set.contains (set.remove s n) q ≡ (not (nat_eq q n) && set.contains s q)
contains-removed s n q = set.contains-remove nat_cmp_total s n q ∙ ap (λ b. not b && set.contains s q) (unsigned_tied q n)

-- a bit that is cleared is no line, and each other line stays
pub lines_of-clear : (a n : ℕ) → n < 14 → lines_of (bit_and a (bit_not w16 (1 * 2 ^ n % 65536))) ≡ set.remove (lines_of a) n
lines_of-clear a n l =
    let c : ℕ = bit_and a (bit_not w16 (1 * 2 ^ n % 65536)) in
    same_lines (lines_of c) (set.remove (lines_of a) n)
    (λ q h. contains-lines_of-line c q h
    ∙ (elim (nat_eq q n) as (λ b. nat_eq q n ≡ b → eqb (bit_at c q) 1 ≡ (not b && set.contains (lines_of a) q)) [
      | true ↦ λ e. ap (λ k. eqb (bit_at c k) 1) (eqb-true q n e) ∙ ap (λ b. eqb b 1) (bit_at_clear_same w16 a n (omega arith))
      | false ↦ λ e. ap (λ b. eqb b 1) (bit_at_clear_other w16 a n (omega arith) q (omega arith) (eqb-false q n e)) ∙ sym (contains-lines_of-line a q h)
    ] refl
    ∙ sym (contains-removed (lines_of a) n q)))
    (λ q h. contains-lines_of-none c q h ∙ sym (contains-removed (lines_of a) n q ∙ (ap (λ b. not (nat_eq q n) && b) (contains-lines_of-none a q h) ∙ and-false (not (nat_eq q n)))))

-- what is no line is not there to be removed
pub lines_of-no_line : (a n : ℕ) → 14 ≤ n → set.remove (lines_of a) n ≡ lines_of a
lines_of-no_line a n l =
    same_lines (set.remove (lines_of a) n) (lines_of a)
    (λ q h. contains-removed (lines_of a) n q ∙ ap (λ b. not b && set.contains (lines_of a) q) (ne_eqb q n (λ e. omega arith)))
    (λ q h. contains-removed (lines_of a) n q ∙ (ap (λ b. not (nat_eq q n) && b) (contains-lines_of-none a q h) ∙ (and-false (not (nat_eq q n)) ∙ sym (contains-lines_of-none a q h))))

-- the highest bit of a word
pub highest_is_line : (w n : ℕ) → w < 16384 → 2 ^ n ≤ w → w < 2 * 2 ^ n → n < 14
highest_is_line w n s h k =
    elim (nat_lt n 14) as (λ b. nat_lt n 14 ≡ b → n < 14) [
      | true ↦ λ e. ltb-true n 14 e
      | false ↦ λ e. let l : 2 ^ 14 ≤ 2 ^ n = pow_mono {i = 14} {j = n} (ltb-false n 14 e) in omega arith
    ] refl

pub highest_contained : (w n : ℕ) → w < 16384 → 2 ^ n ≤ w → w < 2 * 2 ^ n → set.contains (lines_of w) n ≡ true
highest_contained w n s h k = contains-lines_of-line w n (highest_is_line w n s h k) ∙ eq-eqb (bit_at w n) 1 (ap (λ q. q % 2) (div-eq_of_lt-le {k = 1} (2 ^ n) {m = w} (omega arith) (omega arith)))

pub none_higher : (w n : ℕ) → w < 2 * 2 ^ n → (k : ℕ) → set.contains (lines_of w) k ≡ true → k ≤ n
none_higher w n h k c =
    elim (nat_lt n k) as (λ b. nat_lt n k ≡ b → k ≤ n) [
      | true ↦ λ e.
          let lt : n < k = ltb-true n k e in
          let bit : bit_at w k ≡ 0 = bit_at_above w (n + 1) k (omega (arith, pow_more 2 n)) (omega arith) in
          absurd (true≢false (sym c ∙ (contains-lines_of w k ∙ ap (λ b. eqb b 1 && nat_lt k 14) bit)))
      | false ↦ λ e. ltb-false n k e
    ] refl

pub not_empty : (w n : ℕ) → w < 16384 → 2 ^ n ≤ w → w < 2 * 2 ^ n → lines_of w ≢ set.empty
not_empty w n s h k e = true≢false (sym (highest_contained w n s h k) ∙ (ap (λ (t : LineSet). set.contains t n) e ∙ set.contains-empty nat_cmp n))
