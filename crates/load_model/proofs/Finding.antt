-- The relocation of a word, found in the list.
use Rattle.std.proofs.Common.{◌≡◌, ◌≢◌, ℕ, zero, suc, ◌+◌, ◌<◌, Bool, true, false, cond, eqb, List, [], ◌∷◌, length, get_or, refl, sym, ap, ◌∙◌, inl, inr, arith}
use Rattle.std.specs.Prelude.{Option, Some, None, ◌==◌, ◌&&◌, not, if◌then◌else◌}
use Rattle.std.specs.List.{find, Contains}
use Rattle.std.proofs.lemmas.Bool.{cases_Bool}
use Rattle.std.proofs.lemmas.List.{get_or_default}
use Rattle.code_model.specs.declared.parts.Reloc.{Reloc}
use Rattle.code_model.specs.declared.parts.RelKind.{RelKind}
use Rattle.code_model.specs.Form.{key}
use Rattle.load_model.specs.Domains.{Domain, addend}
use Rattle.load_model.specs.Images.{is_on, added, added_by}

-- ---- the first that passes

pub find-none : {X : Type 0} (p : X → Bool) (xs : List X) → ((k : ℕ) (d : X) → k < length xs → p (get_or xs k d) ≡ false) → find p xs ≡ None
find-none p [] h = refl
find-none {X} p (x ∷ xs) h = ap (λ (b : Bool). cond b (Some x) (find p xs)) (h 0 x (omega arith)) ∙ find-none p xs (λ k d l. h (suc k) d (omega arith))

pub find-first : {X : Type 0} (p : X → Bool) (xs : List X) (i : ℕ) (q : X) → i < length xs → get_or xs i q ≡ q → p q ≡ true → ((k : ℕ) (d : X) → k < i → p (get_or xs k d) ≡ false) → find p xs ≡ Some q
find-first p [] i q l e t h = absurd (omega arith)
find-first p (x ∷ xs) zero q l e t h = ap (λ (b : Bool). cond b (Some x) (find p xs)) (ap p e ∙ t) ∙ ap (λ y. Some y) e
find-first p (x ∷ xs) (suc i) q l e t h =
    ap (λ (b : Bool). cond b (Some x) (find p xs)) (h 0 x (omega arith)) ∙ find-first p xs i q (omega arith) e t (λ k d l'. h (suc k) d (omega arith))

-- ---- the test

eqb-same : (x y : ℕ) → x ≡ y → eqb x y ≡ true
eqb-same x y e = grind arith

eqb-other : (x y : ℕ) → x ≢ y → eqb x y ≡ false
eqb-other x y n = grind arith

and-false : (b : Bool) → (b && false) ≡ false
and-false true = refl
and-false false = refl

on : (c : Bool) (at : ℕ) (r : Reloc) → r.in_code ≡ c → r.offset ≡ at → is_on c at r ≡ true
on true at r s e = ap (λ (b : Bool). b && (r.offset == at)) s ∙ eqb-same r.offset at e
on false at r s e = ap (λ (b : Bool). not b && (r.offset == at)) s ∙ eqb-same r.offset at e

off-place : (c : Bool) (at : ℕ) (r : Reloc) → r.offset ≢ at → is_on c at r ≡ false
off-place true at r n = ap (λ (b : Bool). r.in_code && b) (eqb-other r.offset at n) ∙ and-false r.in_code
off-place false at r n = ap (λ (b : Bool). not r.in_code && b) (eqb-other r.offset at n) ∙ and-false (not r.in_code)

off-section : (c : Bool) (at : ℕ) (r : Reloc) → r.in_code ≢ c → is_on c at r ≡ false
off-section true at r n = elim (cases_Bool r.in_code) [
  | inl t ↦ absurd (n t)
  | inr f ↦ ap (λ (b : Bool). b && (r.offset == at)) f
]
off-section false at r n = elim (cases_Bool r.in_code) [
  | inl t ↦ ap (λ (b : Bool). not b && (r.offset == at)) t
  | inr f ↦ absurd (n f)
]

-- a relocation is off a word, where it isn't both of its section and at its offset
pub off : (c : Bool) (at : ℕ) (r : Reloc) → (r.in_code ≡ c → r.offset ≢ at) → is_on c at r ≡ false
off true at r h = elim (cases_Bool r.in_code) [
  | inl t ↦ off-place true at r (h t)
  | inr f ↦ ap (λ (b : Bool). b && (r.offset == at)) f
]
off false at r h = elim (cases_Bool r.in_code) [
  | inl t ↦ ap (λ (b : Bool). not b && (r.offset == at)) t
  | inr f ↦ off-place false at r (h f)
]

-- ---- what is added

pub added-none : (d : Domain) (c : Bool) (at : ℕ) → ((k : ℕ) (r : Reloc) → k < length d.object.relocs → (get_or d.object.relocs k r).in_code ≡ c → (get_or d.object.relocs k r).offset ≢ at)
    → added d c at ≡ 0
unfolding added
added-none d c at h = ap (λ (f : Option Reloc). added_by d f) (find-none (is_on c at) d.object.relocs (λ k r l. off c at (get_or d.object.relocs k r) (h k r l)))

key-code : (r : Reloc) → r.in_code ≡ true → key r ≡ r.offset
key-code r t = ap (λ (b : Bool). if b then r.offset else r.offset + 65536) t

key-init : (r : Reloc) → r.in_code ≡ false → key r ≡ r.offset + 65536
key-init r t = ap (λ (b : Bool). if b then r.offset else r.offset + 65536) t

-- two relocations of one word have one key
same-key : (c : Bool) (r q : Reloc) → r.in_code ≡ c → q.in_code ≡ c → r.offset ≡ q.offset → key r ≡ key q
same-key true r q s t e = key-code r s ∙ e ∙ sym (key-code q t)
same-key false r q s t e = key-init r s ∙ ap (λ x. x + 65536) e ∙ sym (key-init q t)

pub added-one : (d : Domain) (c : Bool) (at : ℕ) (kind : RelKind) → Contains d.object.relocs (record { in_code = c; kind = kind; offset = at }) → added d c at ≡ addend d kind
unfolding added
added-one d c at kind h =
    let q : Reloc = record { in_code = c; kind = kind; offset = at } in
    let rs : List Reloc = d.object.relocs in
    let i : ℕ = h.0 in
    let within : i < length rs = h.1 in
    let is : get_or rs i q ≡ q = h.2 in
    let before : (k : ℕ) (r : Reloc) → k < i → is_on c at (get_or rs k r) ≡ false = λ k r l.
    off c at (get_or rs k r) (λ s e.
    let same : key (get_or rs k r) ≡ key q = same-key c (get_or rs k r) q s refl e in
    let default : get_or rs k r ≡ get_or rs k q = get_or_default rs k r q (omega arith) in
    let less : key (get_or rs k q) < key (get_or rs i q) = d.object.form.relocs_rise k i q l within in
    omega (arith, less, same, ap key is, ap key default)) in
    ap (λ (f : Option Reloc). added_by d f) (find-first (is_on c at) rs i q within is (on c at q refl refl) before)
