-- The relocations in their order: which one is of a word, and which comes next.
use Rattle.std.proofs.Common.{◌≡◌, ◌≢◌, ℕ, ◌+◌, ◌*◌, ◌%◌, ◌<◌, ◌≤◌, Bool, true, false, eqb, List, length, get_or, refl, sym, ap, ◌∙◌, subst, inl, inr, arith}
use Rattle.std.specs.Prelude.{Option, Some, None, ◌==◌, ◌&&◌, not, if◌then◌else◌, MatchOption, slice_get}
use Rattle.std.specs.List.{find}
use Rattle.std.proofs.lemmas.Bool.{cases_Bool, cases_eq, cases_lt}
use Rattle.std.proofs.lemmas.Option.{slice_get_within, get_or_from_slice_get, slice_get_cases}
use Rattle.code_model.specs.declared.object.TheConstants.{CODE_WORDS_MAX}
use Rattle.code_model.specs.declared.object.Object.{Object}
use Rattle.code_model.specs.declared.parts.Reloc.{Reloc}
use Rattle.code_model.specs.declared.parts.RelKind.{RelKind}
use Rattle.code_model.specs.Form.{key}
use Rattle.load_model.specs.Images.{is_on}
use Rattle.load_model.proofs.Finding.{find-none, find-first}
use Rattle.reloc_loader.specs.Sections.{key_at, IsNext, FindsOn, count_on}

-- ---- keys

key-code : (r : Reloc) → r.in_code ≡ true → key r ≡ r.offset
key-code r t = ap (λ (b : Bool). if b then r.offset else r.offset + 65536) t

key-init : (r : Reloc) → r.in_code ≡ false → key r ≡ r.offset + 65536
key-init r t = ap (λ (b : Bool). if b then r.offset else r.offset + 65536) t

-- what an object's relocations are
record Fine (r : Reloc) : Type 0 where
  pub even : r.offset % 2 ≡ 0
  pub small : r.in_code ≡ true → r.offset < 65536

fine : (o : Object) (k : ℕ) (d : Reloc) → k < length o.relocs → Fine (get_or o.relocs k d)
fine o k d l =
    let fits = o.form.relocs_fit k d l in
    let most : length o.code ≤ CODE_WORDS_MAX = o.form.code_most in
    record { even = fits.even; small = λ t. (let below : (get_or o.relocs k d).offset < 2 * length o.code = fits.in_code t in omega arith) }

key-even : (r : Reloc) → Fine r → key r % 2 ≡ 0
key-even r f = elim (cases_Bool r.in_code) [
  | inl t ↦ omega (arith, key-code r t, f.even)
  | inr n ↦ omega (arith, key-init r n, f.even)
]

eqb-same : (x y : ℕ) → x ≡ y → eqb x y ≡ true
eqb-same x y e = grind arith

eqb-other : (x y : ℕ) → x ≢ y → eqb x y ≡ false
eqb-other x y n = grind arith

and-false : (b : Bool) → (b && false) ≡ false
and-false true = refl
and-false false = refl

on-word : (c : Bool) (at : ℕ) (r : Reloc) → r.in_code ≡ c → r.offset ≡ at → is_on c at r ≡ true
on-word true at r s e = ap (λ (b : Bool). b && (r.offset == at)) s ∙ eqb-same r.offset at e
on-word false at r s e = ap (λ (b : Bool). not b && (r.offset == at)) s ∙ eqb-same r.offset at e

off-word : (c : Bool) (at : ℕ) (r : Reloc) → (r.in_code ≡ c → r.offset ≢ at) → is_on c at r ≡ false
off-word true at r h = elim (cases_Bool r.in_code) [
  | inl t ↦ ap (λ (b : Bool). r.in_code && b) (eqb-other r.offset at (h t)) ∙ and-false r.in_code
  | inr f ↦ ap (λ (b : Bool). b && (r.offset == at)) f
]
off-word false at r h = elim (cases_Bool r.in_code) [
  | inl t ↦ ap (λ (b : Bool). not b && (r.offset == at)) t
  | inr f ↦ ap (λ (b : Bool). not r.in_code && b) (eqb-other r.offset at (h f)) ∙ and-false (not r.in_code)
]

-- a relocation of the word has its key
key-on : (c : Bool) (at : ℕ) (r : Reloc) → r.in_code ≡ c → r.offset ≡ at → key r ≡ key_at c at
key-on true at r s e = key-code r s ∙ e
key-on false at r s e = key-init r s ∙ ap (λ x. x + 65536) e

off-key : (c : Bool) (at : ℕ) (r : Reloc) → key r ≢ key_at c at → is_on c at r ≡ false
off-key c at r n = off-word c at r (λ s e. n (key-on c at r s e))

-- a relocation with the word's key is of the word
not-both : (b : Bool) → b ≡ true → b ≡ false → ⊥
not-both true t f = grind arith
not-both false t f = grind arith

on-key : (c : Bool) (at : ℕ) (r : Reloc) → Fine r → at < 65536 → key r ≡ key_at c at → is_on c at r ≡ true
on-key true at r f l e = elim (cases_Bool r.in_code) [
  | inl t ↦ on-word true at r t (sym (key-code r t) ∙ e)
  | inr n ↦ absurd (omega (arith, key-init r n, e))
]
on-key false at r f l e = elim (cases_Bool r.in_code) [
  | inl t ↦ absurd (omega (arith, key-code r t, f.small t, e))
  | inr n ↦ on-word false at r n (omega (arith, key-init r n, e))
]

step : (c : Bool) (i : ℕ) → key_at c (2 * i + 2) ≡ key_at c (2 * i) + 2
step true i = refl
step false i = omega arith

key_at-even : (c : Bool) (i : ℕ) → key_at c (2 * i) % 2 ≡ 0
key_at-even true i = omega arith
key_at-even false i = omega arith

-- ---- the word has no relocation

other-keys : (o : Object) (n target : ℕ) → IsNext o.relocs n target → ((d : Reloc) → n < length o.relocs → key (get_or o.relocs n d) ≢ target)
    → (k : ℕ) (d : Reloc) → k < length o.relocs → key (get_or o.relocs k d) ≢ target
other-keys o n target h other k d l e = elim (cases_lt k n) [
  | inl below ↦ omega (arith, h.before k d below, e)
  | inr above ↦ elim (cases_eq k n) [
    | inl same ↦ other d (omega arith) (ap (λ j. key (get_or o.relocs j d)) (sym same) ∙ e)
    | inr not_same ↦
        let first : target ≤ key (get_or o.relocs n d) = h.from n d (omega arith) (omega arith) in
        let more : key (get_or o.relocs n d) < key (get_or o.relocs k d) = o.form.relocs_rise n k d (omega arith) l in
        omega (arith, first, more, e)
  ]
]

none-next : (o : Object) (n : ℕ) (c : Bool) (i : ℕ) → IsNext o.relocs n (key_at c (2 * i)) → ((d : Reloc) → n < length o.relocs → key (get_or o.relocs n d) ≢ key_at c (2 * i))
    → IsNext o.relocs (n + 0) (key_at c (2 * i + 2))
none-next o n c i h other = record {
  within = omega (arith, h.within);
  before = λ k d l. omega (arith, h.before k d (omega arith), step c i);
  from = λ k d g l.
      let least : key_at c (2 * i) ≤ key (get_or o.relocs k d) = h.from k d (omega arith) l in
      let not_same : key (get_or o.relocs k d) ≢ key_at c (2 * i) = other-keys o n (key_at c (2 * i)) h other k d l in
      omega (arith, least, not_same, key-even (get_or o.relocs k d) (fine o k d l), key_at-even c i, step c i);
}

none-found : (o : Object) (n : ℕ) (c : Bool) (i : ℕ) → IsNext o.relocs n (key_at c (2 * i)) → ((d : Reloc) → n < length o.relocs → key (get_or o.relocs n d) ≢ key_at c (2 * i))
    → find (is_on c (2 * i)) o.relocs ≡ None
none-found o n c i h other = find-none (is_on c (2 * i)) o.relocs (λ k d l. off-key c (2 * i) (get_or o.relocs k d) (other-keys o n (key_at c (2 * i)) h other k d l))

-- ---- the word has one

some-next : (o : Object) (n : ℕ) (c : Bool) (i : ℕ) (q : Reloc) → IsNext o.relocs n (key_at c (2 * i)) → slice_get o.relocs n ≡ Some q → key q ≡ key_at c (2 * i)
    → IsNext o.relocs (n + 1) (key_at c (2 * i + 2))
some-next o n c i q h s e =
    let within : n < length o.relocs = slice_get_within o.relocs n q s in
    let is : (d : Reloc) → get_or o.relocs n d ≡ q = λ d. get_or_from_slice_get o.relocs n q d s in
    record {
      within = omega arith;
      before = λ k d l. elim (cases_lt k n) [
        | inl below ↦ omega (arith, h.before k d below, step c i)
        | inr above ↦
            let same : k ≡ n = omega arith in
            let key_k : key (get_or o.relocs k d) ≡ key q = ap (λ j. key (get_or o.relocs j d)) same ∙ ap key (is d) in
            omega (arith, key_k, e, step c i)
      ];
      from = λ k d g l.
          let more : key (get_or o.relocs n d) < key (get_or o.relocs k d) = o.form.relocs_rise n k d (omega arith) l in
          let key_n : key (get_or o.relocs n d) ≡ key q = ap key (is d) in
          omega (arith, more, key_n, e, key-even (get_or o.relocs k d) (fine o k d l), key_at-even c i, step c i);
    }

some-found : (o : Object) (n : ℕ) (c : Bool) (i : ℕ) (q : Reloc) → IsNext o.relocs n (key_at c (2 * i)) → slice_get o.relocs n ≡ Some q → q.in_code ≡ c → q.offset ≡ 2 * i
    → find (is_on c (2 * i)) o.relocs ≡ Some q
some-found o n c i q h s t e = find-first (is_on c (2 * i)) o.relocs n q (slice_get_within o.relocs n q s) (get_or_from_slice_get o.relocs n q q s) (on-word c (2 * i) q t e)
    (λ k d l. off-key c (2 * i) (get_or o.relocs k d) (λ (same : key (get_or o.relocs k d) ≡ key_at c (2 * i)). omega (arith, h.before k d l, same)))

-- ---- the two clauses

pub record Found (o : Object) (n : ℕ) (c : Bool) (i : ℕ) (found : Option RelKind) : Type 0 where
  pub finds : FindsOn o.relocs c (2 * i) found
  pub next : IsNext o.relocs (n + count_on found) (key_at c (2 * i + 2))

pub kind_found : (o : Object) (n : ℕ) (c : Bool) (i : ℕ) (q : Reloc) (found : Option RelKind) → 2 * i < 65536 → IsNext o.relocs n (key_at c (2 * i)) → slice_get o.relocs n ≡ Some q
    → MatchOption found (is_on c (2 * i) q ≡ false) (λ k. q ≡ record { in_code = c; kind = k; offset = 2 * i })
    → Found o n c i found
kind_found o n c i q None l h s m =
    let within : n < length o.relocs = slice_get_within o.relocs n q s in
    let other : (d : Reloc) → n < length o.relocs → key (get_or o.relocs n d) ≢ key_at c (2 * i) = λ d l' e.
    let is : get_or o.relocs n d ≡ q = get_or_from_slice_get o.relocs n q d s in
    not-both (is_on c (2 * i) q) (on-key c (2 * i) q (subst (λ (r : Reloc). Fine r) is (fine o n d l')) l (sym (ap key is) ∙ e)) m in
    record { finds = none-found o n c i h other; next = none-next o n c i h other }
kind_found o n c i q (Some k) l h s m =
    let in_code : q.in_code ≡ c = ap (λ (r : Reloc). r.in_code) m in
    let offset : q.offset ≡ 2 * i = ap (λ (r : Reloc). r.offset) m in
    record {
      finds = some-found o n c i q h s in_code offset ∙ ap (λ (r : Reloc). Some r) m;
      next = some-next o n c i q h s (key-on c (2 * i) q in_code offset);
    }

past-end : (o : Object) (n : ℕ) → slice_get o.relocs n ≡ None → length o.relocs ≤ n
past-end o n s = elim (slice_get_cases o.relocs n).1 [
  | inl (x, l, t, e) ↦ absurd (grind (arith, s, t))
  | inr (l, t) ↦ l
]

pub none_left : (o : Object) (n : ℕ) (c : Bool) (i : ℕ) → IsNext o.relocs n (key_at c (2 * i)) → slice_get o.relocs n ≡ None → Found o n c i None
none_left o n c i h s =
    let end : length o.relocs ≤ n = past-end o n s in
    let other : (d : Reloc) → n < length o.relocs → key (get_or o.relocs n d) ≢ key_at c (2 * i) = λ d l e. omega arith in
    record { finds = none-found o n c i h other; next = none-next o n c i h other }

-- ---- from the code on to the initialised bytes

pub code_over : (o : Object) (n : ℕ) → IsNext o.relocs n (key_at true (2 * length o.code)) → IsNext o.relocs n (key_at false 0)
code_over o n h = record {
  within = h.within;
  before = λ k d l. (let below : key (get_or o.relocs k d) < 2 * length o.code = h.before k d l in let most : length o.code ≤ CODE_WORDS_MAX = o.form.code_most in omega arith);
  from = λ k d g l.
      let r : Reloc = get_or o.relocs k d in
      let least : 2 * length o.code ≤ key r = h.from k d g l in
      elim (cases_Bool r.in_code) [
        | inl t ↦ (let below : r.offset < 2 * length o.code = (o.form.relocs_fit k d l).in_code t in absurd (omega (arith, key-code r t, least, below)))
        | inr f ↦ omega (arith, key-init r f)
      ];
}

pub all_left : (rs : List Reloc) → IsNext rs 0 (key_at true 0)
all_left rs = record { within = omega arith; before = λ k d l. absurd (omega arith); from = λ k d g l. omega arith }
