-- The words of sets of lines, as numbers.
use Rattle.std.proofs.Common.{◌≡◌, ℕ, zero, suc, ◌+◌, ◌-◌, ◌*◌, ◌%◌, ◌^◌, ◌<◌, ◌≤◌, ◌↔◌, Bool, true, false, eqb, nat_lt, refl, sym, ap, ◌∙◌, arith, bit_and, bit_or, find, Option, Some, None, IsTrue, IsNone, IfSome}
use Rattle.std.specs.Int.{w16, bit_at, bit_not}
use Rattle.std.specs.FinSet as set
use Rattle.std.specs.Ordering.{nat_cmp}
use Rattle.std.proofs.lemmas.Bool.{true≢false, eqb-true, ltb-true, ltb-false}
use Rattle.std.proofs.lemmas.Nat.{and_mask, and_le_l, and_comm, or_lt, one_shl, and-not, pow_below}
use Rattle.std.proofs.lemmas.Nat.Bits.{bit_at-lt, and_pow, same_from_bits_below}
use Rattle.interrupts.specs.LineSets.{LineSet, lines_of, numbers_down, highest_first}
use Rattle.interrupts.proofs.Members.{contains-lines_of-line, lines_are_low, lines_of-low, lines_of-or, lines_of-clear}

same_bit : (a b : ℕ) → a < 2 → b < 2 → eqb a 1 ≡ eqb b 1 → a ≡ b
same_bit zero zero h i e = refl
same_bit zero (suc zero) h i e = absurd (true≢false (sym e))
same_bit zero (suc (suc b)) h i e = absurd (omega arith)
same_bit (suc zero) zero h i e = absurd (true≢false e)
same_bit (suc zero) (suc zero) h i e = refl
same_bit (suc zero) (suc (suc b)) h i e = absurd (omega arith)
same_bit (suc (suc a)) b h i e = absurd (omega arith)

-- a set has one word below 2 ^ 14
same_word : (a b : ℕ) → a < 16384 → b < 16384 → lines_of a ≡ lines_of b → a ≡ b
same_word a b h i e =
    same_from_bits_below 14 a b h i
    (λ q l. same_bit (bit_at a q) (bit_at b q) (bit_at-lt a q) (bit_at-lt b q)
    (sym (contains-lines_of-line a q l) ∙ (ap (λ (s : LineSet). set.contains s q) e ∙ contains-lines_of-line b q l)))

lines_of-mod : (w : ℕ) → lines_of (w % 16384) ≡ lines_of w
lines_of-mod w = ap lines_of (sym (and_mask w 14)) ∙ lines_of-low w

pub kept : (before after : ℕ) → after < 16384 → lines_of after ≡ lines_of before → after ≡ before % 16384
kept b a h e = same_word a (b % 16384) h (omega arith) (e ∙ sym (lines_of-mod b))

pub raised : (before mask after : ℕ) → after < 16384 → lines_of after ≡ set.union (lines_of before) (lines_of mask) → after ≡ bit_or (before % 16384) (mask % 16384)
raised b m a h e =
    same_word a (bit_or (b % 16384) (m % 16384)) h (or_lt 14 (b % 16384) (m % 16384) (omega arith) (omega arith))
    (e ∙ sym (lines_of-or (b % 16384) (m % 16384) ∙ (λ i. set.union (lines_of-mod b i) (lines_of-mod m i))))

bit_of : (w n : ℕ) → n < 14 → set.contains (lines_of w) n ≡ true → bit_at w n ≡ 1
bit_of w n l c = eqb-true (bit_at w n) 1 (sym (contains-lines_of-line w n l) ∙ c)

-- a bit that is there taken from a word
cleared : (w n : ℕ) → w < 16384 → n < 14 → bit_at w n ≡ 1 → bit_and w (bit_not w16 (1 * 2 ^ n % 65536)) ≡ w - 2 ^ n
cleared w n s l b =
    let shifted : 1 * 2 ^ n % 65536 ≡ 2 ^ n = one_shl n 16 (omega arith) in
    let power : 2 ^ n < 16384 = pow_below n 14 l in
    let parts : bit_and (65535 - 2 ^ n) w + bit_and (2 ^ n) w ≡ w = and-not 16 (2 ^ n) w (omega arith) (omega arith) in
    let there : bit_and (2 ^ n) w ≡ 2 ^ n = and_comm (2 ^ n) w ∙ (and_pow w n ∙ (ap (λ k. k * 2 ^ n) b ∙ omega arith)) in
    ap (λ k. bit_and w (65535 - k)) shifted ∙ (and_comm w (65535 - 2 ^ n) ∙ omega (arith, parts, there))

pub dropped : (before n after : ℕ) → after < 16384 → set.contains (lines_of before) n ≡ true → lines_of after ≡ set.remove (lines_of before) n → after ≡ before % 16384 - 2 ^ n
dropped b n a h c e =
    let w : ℕ = b % 16384 in
    let l : n < 14 = lines_are_low b n c in
    let bit : bit_at w n ≡ 1 = bit_of w n l (ap (λ (s : LineSet). set.contains s n) (lines_of-mod b) ∙ c) in
    let v : ℕ = bit_and w (bit_not w16 (1 * 2 ^ n % 65536)) in
    same_word a v h (omega (arith, and_le_l w (bit_not w16 (1 * 2 ^ n % 65536))))
    (e ∙ sym (lines_of-clear w n l ∙ ap (λ (s : LineSet). set.remove s n) (lines_of-mod b)))
    ∙ cleared w n (omega arith) l bit

-- what is found first, from a number down
first_down : (p : ℕ → Bool) (n k : ℕ) → n < k → p n ≡ true → ((q : ℕ) → n < q → q < k → p q ≡ false) → find p (numbers_down k) ≡ Some n
first_down p n zero h y none = absurd (omega arith)
first_down p n (suc k) h y none =
    elim (nat_lt n k) as (λ b. nat_lt n k ≡ b → find p (numbers_down (suc k)) ≡ Some n) [
      | true ↦ λ e. let l : n < k = ltb-true n k e in rw (none k l (omega arith)) (first_down p n k l y (λ q i j. none q i (omega arith)))
      | false ↦ λ e. let same : k ≡ n = omega (arith, ltb-false n k e) in rw (same, y) refl
    ] refl

none_down : (p : ℕ → Bool) (k : ℕ) → ((q : ℕ) → q < k → p q ≡ false) → find p (numbers_down k) ≡ None
none_down p zero none = refl
none_down p (suc k) none = rw (none k (omega arith)) (none_down p k (λ q l. none q (omega arith)))

no_bit : (w q : ℕ) → q < 14 → (set.contains (lines_of w) q ≡ true → ⊥) → eqb (bit_at w q) 1 ≡ false
no_bit w q l n =
    elim (eqb (bit_at w q) 1) as (λ b. eqb (bit_at w q) 1 ≡ b → b ≡ false) [
      | true ↦ λ e. absurd (n (contains-lines_of-line w q l ∙ e))
      | false ↦ λ e. refl
    ] refl

pub found : (w : ℕ) (o : Option ℕ) → (IsNone o ↔ (lines_of w ≡ set.empty)) → IfSome o (λ n. IsTrue (set.contains (lines_of w) n)) → IfSome o (λ n. (k : ℕ) → IsTrue (set.contains (lines_of w) k) → k ≤ n)
    → o ≡ find (λ n. eqb (bit_at w n) 1) highest_first
found w None none is most =
    sym (none_down (λ n. eqb (bit_at w n) 1) 14 (λ q l. no_bit w q l (λ c. true≢false (sym c ∙ (ap (λ (s : LineSet). set.contains s q) (none.0 refl) ∙ set.contains-empty nat_cmp q)))))
found w (Some n) none is most =
    let l : n < 14 = lines_are_low w n is in
    sym (first_down (λ k. eqb (bit_at w k) 1) n 14 l (sym (contains-lines_of-line w n l) ∙ is) (λ q i j. no_bit w q j (λ c. let le : q ≤ n = most q c in omega arith)))
