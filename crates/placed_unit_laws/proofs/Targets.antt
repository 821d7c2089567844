-- What a clean branch, call or jump names is found: whether it is named is decided.
use Rattle.std.proofs.Common.{◌≡◌, ◌≢◌, ℕ, ◌+◌, ◌-◌, ◌*◌, ◌/◌, ◌%◌, ◌<◌, ◌≤◌, ◌⊎◌, List, ℤ, pos, negsuc, ◌+ℤ◌, ◌≤ℤ◌, Option, None, Some, refl, subst, inl, inr, arith}
use Rattle.std.proofs.lemmas.Bool.{cases_order, cases_lt}
use Rattle.std.proofs.lemmas.Int.{ints}
use Rattle.code_model.specs.declared.object.TheConstants.{CODE_WORDS_MAX}
use Rattle.code_model.specs.declared.object.Object.{Object}
use Rattle.kernel_model.specs.declared.entries.TheConstants.{CALLS, EMITS, FIRST_ENTRY, GOES, LEAVE, STACK_FAULT, STORE_FAULT, TICKS}
use Rattle.kernel_model.specs.declared.kinds.Kind.{Kind}
use Rattle.kernel_model.specs.declared.kinds.Kind.TheVariants.{App, Module}
use Rattle.code_model.specs.declared.parts.RelKind.{RelKind}
use Rattle.code_model.specs.declared.parts.RelKind.TheVariants.{Code, Data, Lo, Hi}
use Rattle.code_model.specs.Starts.{Start}
use Rattle.machine_model.specs.Does.{target}
use Rattle.insert_model.specs.Units.{target_offset}
use Rattle.insert_model.specs.Faults.{IsStartOffset, IsJumpStart, IsSourceJump, IsSourceCall, NamesStart, IsSourceTarget, IsSourceCallee}

abbrev pub Decided : Type 0 → Type 0
Decided P = P ⊎ (P → ⊥)

pub found : (P : Type 0) → Decided P → ((P → ⊥) → ⊥) → P
found P (inl p) h = p
found P (inr n) h = absurd (h n)

pub is-number : (a b : ℕ) → Decided (a ≡ b)
is-number a b = elim (cases_order a b) [
  | inl e ↦ inl e
  | inr d ↦ elim d [ inl l ↦ inr (λ e. omega (arith, e, l)) | inr g ↦ inr (λ e. omega (arith, e, g)) ]
]

is-below : (a b : ℕ) → Decided (a ≤ b)
is-below a b = elim (cases_lt b a) [ inl l ↦ inr (λ e. omega (arith, e, l)) | inr h ↦ inl (omega (arith, h)) ]

either : (P Q : Type 0) → Decided P → Decided Q → Decided (P ⊎ Q)
either P Q (inl p) q = inl (inl p)
either P Q (inr p) (inl q) = inl (inr q)
either P Q (inr p) (inr q) = inr (λ h. elim h [ inl x ↦ p x | inr y ↦ q y ])

both : (P Q : Type 0) → Decided P → Decided Q → Decided (P × Q)
both P Q (inl p) (inl q) = inl (p, q)
both P Q (inl p) (inr q) = inr (λ h. q h.1)
both P Q (inr p) q = inr (λ h. p h.0)

other : (P : Type 0) → Decided P → Decided (P → ⊥)
other P (inl p) = inr (λ n. n p)
other P (inr n) = inl n

-- ---- entries

jump-decided : (k : Kind) (x : ℕ) → Decided (IsSourceJump k x)
jump-decided App x =
    both ((x ≡ STORE_FAULT) ⊎ ((x ≡ STACK_FAULT) ⊎ (x ≡ GOES))) (x ≢ GOES)
    (either (x ≡ STORE_FAULT) ((x ≡ STACK_FAULT) ⊎ (x ≡ GOES)) (is-number x STORE_FAULT) (either (x ≡ STACK_FAULT) (x ≡ GOES) (is-number x STACK_FAULT) (is-number x GOES))) (other (x ≡ GOES) (is-number x GOES))
jump-decided Module x =
    both ((x ≡ STORE_FAULT) ⊎ ((x ≡ STACK_FAULT) ⊎ ((x ≡ GOES) ⊎ (x ≡ LEAVE)))) (x ≢ GOES)
    (either (x ≡ STORE_FAULT) ((x ≡ STACK_FAULT) ⊎ ((x ≡ GOES) ⊎ (x ≡ LEAVE))) (is-number x STORE_FAULT)
    (either (x ≡ STACK_FAULT) ((x ≡ GOES) ⊎ (x ≡ LEAVE)) (is-number x STACK_FAULT) (either (x ≡ GOES) (x ≡ LEAVE) (is-number x GOES) (is-number x LEAVE)))) (other (x ≡ GOES) (is-number x GOES))

call-decided : (k : Kind) (x : ℕ) → Decided (IsSourceCall k x)
call-decided App x = by (is-below CALLS x) (is-below x EMITS) (is-number (x % 2) 0) (is-number x CALLS)
  where
    by : Decided (CALLS ≤ x) → Decided (x ≤ EMITS) → Decided (x % 2 ≡ 0) → Decided (x ≡ CALLS) → Decided (IsSourceCall App x)
    by (inl a) (inl b) (inl e) (inr n) = inl ((a, b, e), n)
    by a b e (inl s) = inr (λ h. h.1 s)
    by (inr a) b e n = inr (λ h. a h.0.0)
    by (inl a) (inr b) e n = inr (λ h. b h.0.1)
    by (inl a) (inl b) (inr e) n = inr (λ h. e h.0.2)
call-decided Module x = both ((x ≡ CALLS) ⊎ (x ≡ TICKS)) (x ≢ CALLS) (either (x ≡ CALLS) (x ≡ TICKS) (is-number x CALLS) (is-number x TICKS)) (other (x ≡ CALLS) (is-number x CALLS))

-- ---- starts

module _ (code : List ℕ) (starts : (t : ℕ) → Decided (Start code t)) where
  offset-decided : (x : ℕ) → Decided (IsStartOffset code x)
  unfolding IsStartOffset
  offset-decided x = by (is-number (x % 2) 0) (starts (x / 2))
    where
      by : Decided (x % 2 ≡ 0) → Decided (Start code (x / 2)) → Decided (IsStartOffset code x)
      by (inl e) (inl s) = inl (x / 2, s, omega (arith, e))
      by (inr e) s = inr (λ h. e (omega (arith, h.2)))
      by (inl e) (inr s) = inr (λ h. s (subst (Start code) (omega (arith, h.2)) h.1))

  names-decided : (x : ℕ) (k : Option RelKind) → Decided (NamesStart code x k)
  names-decided x None = inr (λ h. let e : None ≡ Some Code = h.0 in absurd (cc))
  names-decided x (Some Code) = elim (offset-decided x) [ inl s ↦ inl (refl, s) | inr n ↦ inr (λ h. n h.1) ]
  names-decided x (Some Data) = inr (λ h. let e : Some Data ≡ Some Code = h.0 in absurd (cc))
  names-decided x (Some Lo) = inr (λ h. let e : Some Lo ≡ Some Code = h.0 in absurd (cc))
  names-decided x (Some Hi) = inr (λ h. let e : Some Hi ≡ Some Code = h.0 in absurd (cc))

  -- the start that a jump names
  pub jump-start : (at : ℕ) (k : ℤ) → ((IsJumpStart code at k → ⊥) → ⊥) → IsJumpStart code at k
  unfolding IsJumpStart
  jump-start at (pos n) h = found (IsJumpStart code at (pos n)) (by (starts (at + 1 + n))) h
    where
      by : Decided (Start code (at + 1 + n)) → Decided (IsJumpStart code at (pos n))
      by (inl s) = inl (at + 1 + n, s, omega (arith, ints))
      by (inr m) = inr (λ j. m (subst (Start code) (omega (arith, ints, j.2)) j.1))
  jump-start at (negsuc n) h = found (IsJumpStart code at (negsuc n)) (by (is-below n at) (starts (at - n))) h
    where
      by : Decided (n ≤ at) → Decided (Start code (at - n)) → Decided (IsJumpStart code at (negsuc n))
      by (inl b) (inl s) = inl (at - n, s, omega (arith, ints, b))
      by (inr b) s = inr (λ j. b (omega (arith, ints, j.2)))
      by (inl b) (inr m) = inr (λ j. m (subst (Start code) (omega (arith, ints, j.2, b)) j.1))

none-decided : (k : Option RelKind) → Decided (k ≡ None)
none-decided None = inl refl
none-decided (Some k) = inr (λ e. absurd (cc))

module _ (o : Object) (starts : (t : ℕ) → Decided (Start o.code t)) where
  pub branch-target : (x : ℕ) (k : Option RelKind) → ((IsSourceTarget o x k → ⊥) → ⊥) → IsSourceTarget o x k
  branch-target x k h =
      found (IsSourceTarget o x k)
      (either (NamesStart o.code x k) ((k ≡ None) × IsSourceJump o.kind x) (names-decided o.code starts x k) (both (k ≡ None) (IsSourceJump o.kind x) (none-decided k) (jump-decided o.kind x))) h

  pub call-target : (x : ℕ) (k : Option RelKind) → ((IsSourceCallee o x k → ⊥) → ⊥) → IsSourceCallee o x k
  call-target x k h =
      found (IsSourceCallee o x k)
      (either (NamesStart o.code x k) ((k ≡ None) × IsSourceCall o.kind x) (names-decided o.code starts x k) (both (k ≡ None) (IsSourceCall o.kind x) (none-decided k) (call-decided o.kind x))) h

-- the offset of the start that a jump names
pub jump-offset : (at : ℕ) (k : ℤ) (t : ℕ) → pos t ≡ pos (at + 1) +ℤ k → target_offset at k ≡ 2 * t
jump-offset at (pos n) t e = omega (arith, ints, e)
jump-offset at (negsuc n) t e = omega (arith, ints, e)

-- entries are even, and above all code
pub jump-entry : (k : Kind) (x : ℕ) → IsSourceJump k x → (FIRST_ENTRY ≤ x) × (x % 2 ≡ 0) × (x < 65536)
jump-entry App x h = elim h.0 [
  | inl e ↦ (omega (arith, e), omega (arith, e), omega (arith, e))
  | inr g ↦ elim g [ inl e ↦ (omega (arith, e), omega (arith, e), omega (arith, e)) | inr e ↦ (omega (arith, e), omega (arith, e), omega (arith, e)) ]
]
jump-entry Module x h = elim h.0 [
  | inl e ↦ (omega (arith, e), omega (arith, e), omega (arith, e))
  | inr g ↦ elim g [
    | inl e ↦ (omega (arith, e), omega (arith, e), omega (arith, e))
    | inr f ↦ elim f [ inl e ↦ (omega (arith, e), omega (arith, e), omega (arith, e)) | inr e ↦ (omega (arith, e), omega (arith, e), omega (arith, e)) ]
  ]
]

pub call-entry : (k : Kind) (x : ℕ) → IsSourceCall k x → (FIRST_ENTRY ≤ x) × (x % 2 ≡ 0) × (x < 65536)
call-entry App x h = (omega (arith, h.0.0), h.0.2, omega (arith, h.0.1))
call-entry Module x h = elim h.0 [ inl e ↦ (omega (arith, e), omega (arith, e), omega (arith, e)) | inr e ↦ (omega (arith, e), omega (arith, e), omega (arith, e)) ]

-- so is the offset that the machine takes from the jump's own
pub jump-goes : (at : ℕ) (k : ℤ) (t : ℕ) → t < CODE_WORDS_MAX → negsuc 511 ≤ℤ k → pos t ≡ pos (at + 1) +ℤ k → target (2 * at) k ≡ target_offset at k
jump-goes at (pos n) t b few e = omega (arith, ints, b, e)
jump-goes at (negsuc n) t b few e = omega (arith, ints, b, few, e)
