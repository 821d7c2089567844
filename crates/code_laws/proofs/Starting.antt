-- Starts lie one behind the other.
use Rattle.std.proofs.Common.{◌≡◌, ℕ, zero, suc, ◌+◌, ◌≤◌, ◌<◌, List, inl, inr, length, drop, sym, subst, refl, ◌∙◌, arith}
use Rattle.std.proofs.Math.Nat.{eq-or-lt_of_le}
use Rattle.std.proofs.lemmas.Bool.{cases_order}
use Rattle.msp_encode.specs.declared.instr.Instr.{Instr}
use Rattle.code_model.specs.Starts.{Stands, Steps, Reached, Start}
use Rattle.code_laws.proofs.Standing.{size_least, same_size}

-- so many instructions lead to one place
pub one_place : (code : List ℕ) (n a b : ℕ) → Reached code n a → Reached code n b → a ≡ b
one_place code zero a b r s = r ∙ sym s
one_place code (suc n) a b (p, r, x) (q, s, y) =
    let e : p ≡ q = one_place code n p q r s in
    let f : x.words ≡ y.words = same_size x.instr y.instr (drop p code) x.words y.words x.stands (subst (λ (k : ℕ). Stands code k y.instr y.words) (sym e) y.stands) in
    omega (arith, x.ends, y.ends)

step_least : (code : List ℕ) (a b : ℕ) → Steps code a b → a < b
step_least code a b s = omega (arith, s.ends, size_least s.instr (drop a code) s.words s.stands)

-- more instructions lead further
pub further : (code : List ℕ) (m n a b : ℕ) → Reached code m a → Reached code n b → m < n → a < b
further code m zero a b r s h = absurd (omega arith)
further code m (suc n) a b r (q, s, y) h =
    let last : q < b = step_least code q b y in
    let m_in : m ≤ n = omega arith in
    elim (eq-or-lt_of_le m_in) [
      | inl same ↦ let e : a ≡ q = one_place code n a q (subst (λ (k : ℕ). Reached code k a) same r) s in omega arith
      | inr less ↦ let t : a < q = further code m n a q r s less in omega arith
    ]

-- no start lies within an instruction
pub past_step : (code : List ℕ) (m n a b : ℕ) (i : Instr) (w : ℕ) → Reached code m a → Stands code a i w → Reached code n b → m < n → a + w ≤ b
past_step code m zero a b i w r st s h = absurd (omega arith)
past_step code m (suc n) a b i w r st (q, s, y) h =
    let m_in : m ≤ n = omega arith in
    elim (eq-or-lt_of_le m_in) [
      | inl same ↦
          let e : a ≡ q = one_place code n a q (subst (λ (k : ℕ). Reached code k a) same r) s in
          let f : w ≡ y.words = same_size i y.instr (drop a code) w y.words st (subst (λ (k : ℕ). Stands code k y.instr y.words) (sym e) y.stands) in
          omega (arith, y.ends)
      | inr less ↦
          let t : a + w ≤ q = past_step code m n a q i w r st s less in
          let last : q < b = step_least code q b y in omega arith
    ]

pub apart_reached : (code : List ℕ) (m n a b : ℕ) (i : Instr) (w : ℕ) → Reached code m a → Stands code a i w → Reached code n b → a < b → a + w ≤ b
apart_reached code m n a b i w r st s h =
    elim (cases_order m n) [
      | inl same ↦ let e : a ≡ b = one_place code n a b (subst (λ (k : ℕ). Reached code k a) same r) s in absurd (omega arith)
      | inr other ↦ elim other [
        | inl less ↦ past_step code m n a b i w r st s less
        | inr more ↦ let t : b < a = further code n m b a s r more in absurd (omega arith)
      ]
    ]

pub starts_apart : (code : List ℕ) (a b : ℕ) (i : Instr) (w : ℕ) → Start code a → Stands code a i w → Start code b → a < b → a + w ≤ b
starts_apart code a b i w s st t h = apart_reached code s.count t.count a b i w s.reached st t.reached h

pub next_start : (code : List ℕ) (a : ℕ) (i : Instr) (w : ℕ) → Start code a → Stands code a i w → a + w < length code → Start code (a + w)
next_start code a i w s st h = record { count = suc s.count; reached = (a, s.reached, record { instr = i; words = w; stands = st; ends = refl }); below = h }
