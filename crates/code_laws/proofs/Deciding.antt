-- Facts of an accepted object that can be decided, so that what isn't refused is so.
use Rattle.std.proofs.Common.{◌≡◌, ℕ, zero, suc, ◌+◌, ◌-◌, ◌*◌, ◌/◌, ◌%◌, ◌<◌, ◌≤◌, ◌⊎◌, Bool, true, false, List, [], ◌∷◌, length, get_or, refl, ap, ◌∙◌, subst, inl, inr, arith}
use Rattle.std.specs.Prelude.{ℤ, pos, negsuc, ◌+ℤ◌}
use Rattle.std.specs.List.{Contains}
use Rattle.std.proofs.lemmas.Bool.{cases_eq, cases_lt}
use Rattle.std.proofs.lemmas.Int.{ints}
use Rattle.msp_encode.specs.declared.instr.Src.{Src}
use Rattle.msp_encode.specs.declared.instr.Src.TheVariants as src
use Rattle.code_model.specs.declared.object.Object.{Object}
use Rattle.code_model.specs.declared.parts.Reloc.{Reloc}
use Rattle.kernel_model.specs.declared.entries.TheConstants.{CALLS, EMITS, GOES, LEAVE, STACK_FAULT, STORE_FAULT, TICKS}
use Rattle.kernel_model.specs.declared.kinds.Kind.{Kind}
use Rattle.kernel_model.specs.declared.kinds.Kind.TheVariants.{App, Module}
use Rattle.code_model.specs.declared.parts.RelKind.{RelKind}
use Rattle.code_model.specs.declared.parts.RelKind.TheVariants.{Code, Data, Lo, Hi}
use Rattle.kernel_model.specs.Bitmap.{Has}
use Rattle.code_model.specs.Relocs.{HasReloc, Unrelocated}
use Rattle.code_model.specs.Guards.{UnitStart}
use Rattle.code_model.specs.Rules.{IsJumpEntry, IsCallEntry, IsUnitOffset, IsBranchTarget, IsCallTarget, IsJumpTarget}
use Rattle.code_model.specs.Statics.{InStatic, static_size}
use Rattle.code_model.specs.Verdicts.{IsAccepted}

abbrev pub Decided : Type 0 → Type 0
Decided P = P ⊎ (P → ⊥)

pub stable : {P : Type 0} → Decided P → ((P → ⊥) → ⊥) → P
stable (inl p) n = p
stable (inr q) n = absurd (n q)

pub both : {P Q : Type 0} → Decided P → Decided Q → Decided (P × Q)
both (inl p) (inl q) = inl (p, q)
both (inl p) (inr q) = inr (λ h. q h.1)
both (inr p) d = inr (λ h. p h.0)

pub all-three : {P Q R : Type 0} → Decided P → Decided Q → Decided R → Decided (P × Q × R)
all-three (inl p) (inl q) (inl r) = inl (p, q, r)
all-three (inl p) (inl q) (inr r) = inr (λ h. r h.2)
all-three (inl p) (inr q) d = inr (λ h. q h.1)
all-three (inr p) c d = inr (λ h. p h.0)

neither : {P Q : Type 0} → (P → ⊥) → (Q → ⊥) → P ⊎ Q → ⊥
neither p q (inl h) = p h
neither p q (inr h) = q h

either : {P Q : Type 0} → Decided P → Decided Q → Decided (P ⊎ Q)
either (inl p) d = inl (inl p)
either (inr p) (inl q) = inl (inr q)
either (inr p) (inr q) = inr (neither p q)

-- ---- relocations

same-kind : (a b : RelKind) → Decided (a ≡ b)
same-kind Code Code = inl refl
same-kind Code Data = inr (λ (e : Code ≡ Data). cc)
same-kind Code Lo = inr (λ (e : Code ≡ Lo). cc)
same-kind Code Hi = inr (λ (e : Code ≡ Hi). cc)
same-kind Data Code = inr (λ (e : Data ≡ Code). cc)
same-kind Data Data = inl refl
same-kind Data Lo = inr (λ (e : Data ≡ Lo). cc)
same-kind Data Hi = inr (λ (e : Data ≡ Hi). cc)
same-kind Lo Code = inr (λ (e : Lo ≡ Code). cc)
same-kind Lo Data = inr (λ (e : Lo ≡ Data). cc)
same-kind Lo Lo = inl refl
same-kind Lo Hi = inr (λ (e : Lo ≡ Hi). cc)
same-kind Hi Code = inr (λ (e : Hi ≡ Code). cc)
same-kind Hi Data = inr (λ (e : Hi ≡ Data). cc)
same-kind Hi Lo = inr (λ (e : Hi ≡ Lo). cc)
same-kind Hi Hi = inl refl

same-bool : (a b : Bool) → Decided (a ≡ b)
same-bool true true = inl refl
same-bool true false = inr (λ (e : true ≡ false). cc)
same-bool false true = inr (λ (e : false ≡ true). cc)
same-bool false false = inl refl

pub from-fields : (a b : Reloc) → (a.in_code ≡ b.in_code) × ((a.kind ≡ b.kind) × (a.offset ≡ b.offset)) → a ≡ b
from-fields a b h =
    let m : Bool → RelKind → ℕ → Reloc = λ x y z. record { in_code = x; kind = y; offset = z } in
    ap (λ (x : Bool). m x a.kind a.offset) h.0 ∙ (ap (λ (y : RelKind). m b.in_code y a.offset) h.1.0 ∙ ap (λ (z : ℕ). m b.in_code b.kind z) h.1.1)

same-reloc : (a b : Reloc) → Decided (a ≡ b)
same-reloc a b = from (both (same-bool a.in_code b.in_code) (both (same-kind a.kind b.kind) (cases_eq a.offset b.offset)))
  where
    from : Decided ((a.in_code ≡ b.in_code) × ((a.kind ≡ b.kind) × (a.offset ≡ b.offset))) → Decided (a ≡ b)
    from (inl h) = inl (from-fields a b h)
    from (inr n) = inr (λ (e : a ≡ b). n (ap (λ (r : Reloc). r.in_code) e, (ap (λ (r : Reloc). r.kind) e, ap (λ (r : Reloc). r.offset) e)))

contains-or-not : (xs : List Reloc) (x : Reloc) → Decided (Contains xs x)
contains-or-not [] x = inr (λ (h : Contains [] x). omega (arith, h.1))
contains-or-not (y ∷ ys) x = from (same-reloc y x) (contains-or-not ys x)
  where
    in_rest : (k : ℕ) → k < length (y ∷ ys) → get_or (y ∷ ys) k x ≡ x → (y ≡ x → ⊥) → Contains ys x
    in_rest zero l e n = absurd (n e)
    in_rest (suc k) l e n = (k, omega arith, e)

    from : Decided (y ≡ x) → Decided (Contains ys x) → Decided (Contains (y ∷ ys) x)
    from (inl e) d = inl (0, omega arith, e)
    from (inr n) (inl h) = inl (suc h.0, omega (arith, h.1), h.2)
    from (inr n) (inr m) = inr (λ (h : Contains (y ∷ ys) x). m (in_rest h.0 h.1 h.2 n))

pub reloc-or-not : (relocs : List Reloc) (at : ℕ) (k : RelKind) → Decided (HasReloc relocs at k)
unfolding HasReloc
reloc-or-not relocs at k = contains-or-not relocs record { in_code = true; kind = k; offset = 2 * at }

of-four : (relocs : List Reloc) (at : ℕ) → (HasReloc relocs at Code → ⊥) → (HasReloc relocs at Data → ⊥) → (HasReloc relocs at Lo → ⊥) → (HasReloc relocs at Hi → ⊥) → (k : RelKind) → HasReloc relocs at k → ⊥
of-four relocs at a b c d Code h = a h
of-four relocs at a b c d Data h = b h
of-four relocs at a b c d Lo h = c h
of-four relocs at a b c d Hi h = d h

pub unrelocated-or-not : (relocs : List Reloc) (at : ℕ) → Decided (Unrelocated relocs at)
unfolding Unrelocated
unrelocated-or-not relocs at = from (reloc-or-not relocs at Code) (reloc-or-not relocs at Data) (reloc-or-not relocs at Lo) (reloc-or-not relocs at Hi)
  where
    from : Decided (HasReloc relocs at Code) → Decided (HasReloc relocs at Data) → Decided (HasReloc relocs at Lo) → Decided (HasReloc relocs at Hi) → Decided ((k : RelKind) → HasReloc relocs at k → ⊥)
    from (inl h) b c d = inr (λ n. n Code h)
    from (inr a) (inl h) c d = inr (λ n. n Data h)
    from (inr a) (inr b) (inl h) d = inr (λ n. n Lo h)
    from (inr a) (inr b) (inr c) (inl h) = inr (λ n. n Hi h)
    from (inr a) (inr b) (inr c) (inr d) = inl (of-four relocs at a b c d)

pub static-or-not : (o : Object) (at x : ℕ) → Decided (InStatic o at x)
static-or-not o at x = both (reloc-or-not o.relocs at Data) (less (cases_lt x (static_size o)))
  where
    less : (x < static_size o) ⊎ (static_size o ≤ x) → Decided (x < static_size o)
    less (inl h) = inl h
    less (inr h) = inr (λ (l : x < static_size o). omega arith)

-- ---- unit starts and targets

pub unit-or-not : (o : Object) (marks : List ℕ) (t : ℕ) → IsAccepted o marks → Decided (UnitStart o t)
unit-or-not o marks t a = from (cases_eq _ 1)
  where
    from : Decided (Has marks t) → Decided (UnitStart o t)
    from (inl h) = inl ((a.units t).0 h)
    from (inr n) = inr (λ (u : UnitStart o t). n ((a.units t).1 u))

pub offset-or-not : (o : Object) (marks : List ℕ) (x : ℕ) → IsAccepted o marks → Decided (IsUnitOffset o x)
unfolding IsUnitOffset
offset-or-not o marks x a = from (cases_eq x (2 * (x / 2))) (unit-or-not o marks (x / 2) a)
  where
    half : (t : ℕ) → x ≡ 2 * t → t ≡ x / 2
    half t e = omega arith

    from : Decided (x ≡ 2 * (x / 2)) → Decided (UnitStart o (x / 2)) → Decided ((t : ℕ) × UnitStart o t × (x ≡ 2 * t))
    from (inl e) (inl u) = inl (x / 2, u, e)
    from (inl e) (inr n) = inr (λ h. n (subst (UnitStart o) (half h.0 h.2) h.1))
    from (inr n) d = inr (λ h. n (omega (arith, h.2)))

entry-or-not : (k : Kind) (x : ℕ) → Decided (IsJumpEntry k x)
entry-or-not App x = either (cases_eq x STORE_FAULT) (either (cases_eq x STACK_FAULT) (cases_eq x GOES))
entry-or-not Module x =
    either (cases_eq x STORE_FAULT) (either (cases_eq x STACK_FAULT) (either (cases_eq x GOES) (cases_eq x LEAVE)))

at_most : (a b : ℕ) → Decided (a ≤ b)
at_most a b = from (cases_lt b a)
  where
    from : (b < a) ⊎ (a ≤ b) → Decided (a ≤ b)
    from (inl h) = inr (λ (l : a ≤ b). omega arith)
    from (inr h) = inl h

call-entry-or-not : (k : Kind) (x : ℕ) → Decided (IsCallEntry k x)
call-entry-or-not App x = all-three (at_most CALLS x) (at_most x EMITS) (cases_eq (x % 2) 0)
call-entry-or-not Module x = either (cases_eq x CALLS) (cases_eq x TICKS)

pub branch-or-not : (o : Object) (marks : List ℕ) (at : ℕ) (s : Src) → IsAccepted o marks → Decided (IsBranchTarget o at s)
branch-or-not o marks at (src.Immediate x) a = either (both (reloc-or-not o.relocs at Code) (offset-or-not o marks x a)) (both (unrelocated-or-not o.relocs at) (entry-or-not o.kind x))
branch-or-not o marks at (src.Reg n) a = inr (λ h. h)
branch-or-not o marks at (src.Indexed n x) a = inr (λ h. h)
branch-or-not o marks at (src.Symbolic x) a = inr (λ h. h)
branch-or-not o marks at (src.Absolute x) a = inr (λ h. h)
branch-or-not o marks at (src.Indirect n) a = inr (λ h. h)
branch-or-not o marks at (src.AutoInc n) a = inr (λ h. h)
branch-or-not o marks at (src.Const k) a = inr (λ h. h)

pub call-or-not : (o : Object) (marks : List ℕ) (at : ℕ) (s : Src) → IsAccepted o marks → Decided (IsCallTarget o at s)
call-or-not o marks at (src.Immediate x) a = either (both (reloc-or-not o.relocs at Code) (offset-or-not o marks x a)) (both (unrelocated-or-not o.relocs at) (call-entry-or-not o.kind x))
call-or-not o marks at (src.Reg n) a = inr (λ h. h)
call-or-not o marks at (src.Indexed n x) a = inr (λ h. h)
call-or-not o marks at (src.Symbolic x) a = inr (λ h. h)
call-or-not o marks at (src.Absolute x) a = inr (λ h. h)
call-or-not o marks at (src.Indirect n) a = inr (λ h. h)
call-or-not o marks at (src.AutoInc n) a = inr (λ h. h)
call-or-not o marks at (src.Const k) a = inr (λ h. h)

pub back-target : (at j t : ℕ) → pos t ≡ pos (at + 1) +ℤ negsuc j → t + j ≡ at
back-target at j t e = omega (arith, ints)

back-is : (at j : ℕ) → j ≤ at → pos (at - j) ≡ pos (at + 1) +ℤ negsuc j
back-is at j h = omega (arith, ints)

same-target : (t u : ℕ) → pos t ≡ pos u → t ≡ u
same-target t u e = omega (arith, ints)

pub jump-or-not : (o : Object) (marks : List ℕ) (at : ℕ) (k : ℤ) → IsAccepted o marks → Decided (IsJumpTarget o at k)
unfolding IsJumpTarget
jump-or-not o marks at (pos j) a = from (unit-or-not o marks (at + 1 + j) a)
  where
    from : Decided (UnitStart o (at + 1 + j)) → Decided ((t : ℕ) × UnitStart o t × (pos t ≡ pos (at + 1) +ℤ pos j))
    from (inl u) = inl (at + 1 + j, u, refl)
    from (inr n) = inr (λ h. n (subst (UnitStart o) (same-target h.0 (at + 1 + j) h.2) h.1))
jump-or-not o marks at (negsuc j) a = from (at_most j at) (unit-or-not o marks (at - j) a)
  where
    there : (t : ℕ) → pos t ≡ pos (at + 1) +ℤ negsuc j → t ≡ at - j
    there t e = omega (arith, back-target at j t e)

    from : Decided (j ≤ at) → Decided (UnitStart o (at - j)) → Decided ((t : ℕ) × UnitStart o t × (pos t ≡ pos (at + 1) +ℤ negsuc j))
    from (inl l) (inl u) = inl (at - j, u, back-is at j l)
    from (inl l) (inr n) = inr (λ h. n (subst (UnitStart o) (there h.0 h.2) h.1))
    from (inr l) d = inr (λ h. l (omega (arith, back-target at j h.0 h.2)))
