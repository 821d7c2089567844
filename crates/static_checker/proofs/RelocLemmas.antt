-- The relocation of a code word, in a list that rises.
use Rattle.std.proofs.Common.{◌≡◌, ◌≢◌, ℕ, ◌*◌, ◌<◌, ◌≤◌, List, length, slice_index_or, slice_get, Option, Some, None, MatchOption, true, arith, subst, ap, sym, refl, inl, inr}
use Rattle.std.proofs.Math.Nat.{eq-or-lt_of_le}
use Rattle.std.proofs.lemmas.Bool.{cases_order}
use Rattle.std.proofs.lemmas.Option.{slice_get-get_or, slice_get_within, get_or_from_slice_get}
use Rattle.code_model.specs.declared.parts.Reloc.{Reloc}
use Rattle.code_model.specs.declared.parts.RelKind.{RelKind}
use Rattle.code_model.specs.Form.{InOrder, key}
use Rattle.code_model.specs.Relocs.{HasReloc, Unrelocated}
use Rattle.code_laws.proofs.GuardRelocs.{none_has}

pub all_above : (relocs : List Reloc) (target m : ℕ) → InOrder relocs → m < length relocs
    → ((d : Reloc) → target ≤ key (slice_index_or relocs m d)) → (k : ℕ) (d : Reloc) → m ≤ k → k < length relocs → target ≤ key (slice_index_or relocs k d)
all_above relocs target m rise inside here k d h within =
    let P : ℕ → Type 0 = λ n. target ≤ key (slice_index_or relocs n d) in
    elim (eq-or-lt_of_le h) [
      | inl same ↦ subst P same (here d)
      | inr less ↦ let r : key (slice_index_or relocs m d) < key (slice_index_or relocs k d) = rise m k d less within in
          let t : target ≤ key (slice_index_or relocs m d) = here d in omega arith
    ]

-- ---- the relocation of a code word

abbrev pub on_word : ℕ → RelKind → Reloc
on_word at k = record { in_code = true; kind = k; offset = 2 * at }

pub record IsIndexed (relocs : List Reloc) (at : ℕ) (j : RelKind) (i : ℕ) : Type 0 where
  pub inside : i < length relocs
  pub is : slice_index_or relocs i (on_word at j) ≡ on_word at j

pub indexed : (relocs : List Reloc) (at : ℕ) (j : RelKind) → HasReloc relocs at j → (i : ℕ) × IsIndexed relocs at j i
unfolding HasReloc
indexed relocs at j h = (h.0, record { inside = h.1; is = h.2 })

contains : (relocs : List Reloc) (at i : ℕ) (j : RelKind) → IsIndexed relocs at j i → HasReloc relocs at j
unfolding HasReloc
contains relocs at i j h = (i, h.inside, h.is)

got : (relocs : List Reloc) (at : ℕ) (j : RelKind) (i : ℕ) → IsIndexed relocs at j i → slice_get relocs i ≡ Some (on_word at j)
got relocs at j i h = let e : slice_get relocs i ≡ Some (slice_index_or relocs i (on_word at j)) = slice_get-get_or relocs i (on_word at j) h.inside in let f = h.is in cc

-- at any default
pub key_got : (relocs : List Reloc) (at : ℕ) (j : RelKind) (i : ℕ) (d : Reloc) → IsIndexed relocs at j i → key (slice_index_or relocs i d) ≡ 2 * at
key_got relocs at j i d h = ap key (get_or_from_slice_get relocs i (on_word at j) d (got relocs at j i h))

-- the relocations of a word stand at one index
one_index : (relocs : List Reloc) (at : ℕ) (j k : RelKind) (i m : ℕ) → InOrder relocs → IsIndexed relocs at j i → IsIndexed relocs at k m → i ≡ m
one_index relocs at j k i m rise hi hm =
    let d : Reloc = on_word at j in
    let ei : key (slice_index_or relocs i d) ≡ 2 * at = key_got relocs at j i d hi in
    let em : key (slice_index_or relocs m d) ≡ 2 * at = key_got relocs at k m d hm in
    elim (cases_order i m) [
      | inl same ↦ same
      | inr other ↦ elim other [
        | inl less ↦ let r : key (slice_index_or relocs i d) < key (slice_index_or relocs m d) = rise i m d less hm.inside in absurd (omega arith)
        | inr more ↦ let r : key (slice_index_or relocs m d) < key (slice_index_or relocs i d) = rise m i d more hi.inside in absurd (omega arith)
      ]
    ]

same_kind : (at : ℕ) (j k : RelKind) (x y : Option Reloc) → x ≡ Some (on_word at j) → y ≡ Some (on_word at k) → x ≡ y → j ≡ k
same_kind at j k x y ex ey e = let r : on_word at j ≡ on_word at k = cc in ap (λ (r : Reloc). r.kind) r

pub one_kind : (relocs : List Reloc) (at : ℕ) → InOrder relocs → (j k : RelKind) → HasReloc relocs at j → HasReloc relocs at k → j ≡ k
one_kind relocs at rise j k hj hk =
    let (i, ii) = indexed relocs at j hj in let (m, im) = indexed relocs at k hk in
    same_kind at j k _ _ (got relocs at j i ii) (got relocs at k m im) (ap (slice_get relocs) (one_index relocs at j k i m rise ii im))

-- the relocation of the word stands at the split
at_split : (relocs : List Reloc) (at index : ℕ) (j : RelKind) (i : ℕ) → InOrder relocs
    → ((k : ℕ) (d : Reloc) → k < index → key (slice_index_or relocs k d) < 2 * at)
    → ((k : ℕ) (d : Reloc) → index ≤ k → k < length relocs → 2 * at ≤ key (slice_index_or relocs k d))
    → IsIndexed relocs at j i → i ≡ index
at_split relocs at index j i rise below above h =
    let d : Reloc = on_word at j in
    let e : key (slice_index_or relocs i d) ≡ 2 * at = key_got relocs at j i d h in
    elim (cases_order i index) [
      | inl same ↦ same
      | inr other ↦ elim other [
        | inl less ↦ let b : key (slice_index_or relocs i d) < 2 * at = below i d less in absurd (omega arith)
        | inr more ↦
            let inside : i < length relocs = h.inside in
            let r : key (slice_index_or relocs index d) < key (slice_index_or relocs i d) = rise index i d more inside in
            let a : 2 * at ≤ key (slice_index_or relocs index d) = above index d (omega arith) (omega arith) in absurd (omega arith)
      ]
    ]

pub has_at : (relocs : List Reloc) (at index : ℕ) (k : RelKind) (r : Reloc) → slice_get relocs index ≡ Some r → r ≡ on_word at k → HasReloc relocs at k
has_at relocs at index k r is e = contains relocs at index k (record { inside = slice_get_within relocs index r is; is = get_or_from_slice_get relocs index (on_word at k) (on_word at k) (cc) })

-- what stands at the split, if it isn't the word's, leaves it without
pub none_at : (relocs : List Reloc) (at index : ℕ) → InOrder relocs
    → ((k : ℕ) (d : Reloc) → k < index → key (slice_index_or relocs k d) < 2 * at)
    → ((k : ℕ) (d : Reloc) → index ≤ k → k < length relocs → 2 * at ≤ key (slice_index_or relocs k d))
    → ((r : Reloc) → slice_get relocs index ≡ Some r → key r ≢ 2 * at) → Unrelocated relocs at
unfolding Unrelocated
none_at relocs at index rise below above other j h =
    let (i, ii) = indexed relocs at j h in
    let e : i ≡ index = at_split relocs at index j i rise below above ii in
    let P : ℕ → Type 0 = λ n. slice_get relocs n ≡ Some (on_word at j) in
    other (on_word at j) (subst P e (got relocs at j i ii)) refl

pub ruleset reloc_rules = none_has

pub is_there : (relocs : List Reloc) (at index : ℕ) (r : Reloc) (found : Option RelKind) → InOrder relocs
    → ((k : ℕ) (d : Reloc) → k < index → key (slice_index_or relocs k d) < 2 * at)
    → ((k : ℕ) (d : Reloc) → index ≤ k → k < length relocs → 2 * at ≤ key (slice_index_or relocs k d))
    → slice_get relocs index ≡ Some r → MatchOption found (key r ≢ 2 * at) (λ k. r ≡ on_word at k)
    → MatchOption found (Unrelocated relocs at) (λ k. HasReloc relocs at k)
is_there relocs at index r (Some k) rise below above is e = has_at relocs at index k r is e
is_there relocs at index r None rise below above is other = none_at relocs at index rise below above (λ x got same. other (let e : r ≡ x = cc in subst (λ (y : Reloc). key y ≡ 2 * at) (sym e) same))

pub past : (x : Option Reloc) (r : Reloc) → x ≡ None → x ≡ Some r → ⊥
past x r a b = cc
