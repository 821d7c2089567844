-- The relocations of pieces' words.
use Rattle.std.proofs.Common.{◌≡◌, ℕ, zero, suc, ◌+◌, ◌*◌, ◌<◌, if◌then◌else◌, Bool, true, false, not, List, [], ◌∷◌, ◌++◌, ◌⊎◌, inl, inr, length, slice_index_or, Option, None, Some, refl, sym, subst, ap, ◌∙◌, arith}
use Rattle.std.specs.List.{Contains}
use Rattle.code_model.specs.declared.object.Object.{Object}
use Rattle.code_model.specs.declared.parts.Reloc.{Reloc}
use Rattle.code_model.specs.declared.parts.RelKind.{RelKind}
use Rattle.code_model.specs.Fields.{Fields, fields}
use Rattle.code_model.specs.Relocs.{HasReloc, Unrelocated}
use Rattle.insert_model.specs.declared.piece.Word.{Word}
use Rattle.insert_model.specs.Words.{unit_words}
use Rattle.insert_model.specs.Inserted.{with_reloc, relocs_from, of_data, with_guards, inserted}
use Rattle.insert_model.specs.Faults.{IsInserted}
use Rattle.insert_laws.specs.Pieces.{pieces}
use Rattle.insert_laws.specs.Laws.{kind_in, RelocsArePieces}
use Rattle.insert_laws.proofs.Standing.{final_words}

-- ---- members

In : Reloc → List Reloc → Type 0
In r [] = ⊥
In r (x ∷ xs) = (x ≡ r) ⊎ In r xs

to_in : (r : Reloc) (rs : List Reloc) (i : ℕ) → i < length rs → slice_index_or rs i r ≡ r → In r rs
unfolding In
to_in r [] i h e = absurd (omega arith)
to_in r (x ∷ xs) zero h e = inl e
to_in r (x ∷ xs) (suc i) h e = inr (to_in r xs i (omega arith) e)

of_in : (r : Reloc) (rs : List Reloc) → In r rs → Contains rs r
unfolding In
of_in r [] h = absurd h
of_in r (x ∷ xs) (inl e) = (0, omega arith, e)
of_in r (x ∷ xs) (inr h) = let c : Contains xs r = of_in r xs h in (suc c.0, omega (arith, c.1), c.2)

in_append : (r : Reloc) (xs ys : List Reloc) → In r (xs ++ ys) → In r xs ⊎ In r ys
unfolding In
in_append r [] ys h = inr h
in_append r (x ∷ xs) ys (inl e) = inl (inl e)
in_append r (x ∷ xs) ys (inr h) = elim (in_append r xs ys h) [ inl a ↦ inl (inr a) | inr b ↦ inr b ]

in_front : (r : Reloc) (xs ys : List Reloc) → In r xs → In r (xs ++ ys)
unfolding In
in_front r [] ys h = absurd h
in_front r (x ∷ xs) ys (inl e) = inl e
in_front r (x ∷ xs) ys (inr h) = inr (in_front r xs ys h)

in_data : (r : Reloc) (rs : List Reloc) → In r (of_data rs) → r.in_code ≡ false
unfolding In
in_data r [] h = absurd h
in_data r (x ∷ xs) h = by x.in_code refl h (in_data r xs)
  where
    by : (b : Bool) → x.in_code ≡ b → In r (of_data (x ∷ xs)) → (In r (of_data xs) → r.in_code ≡ false) → r.in_code ≡ false
    by true e h rest = rest (subst (λ (b : Bool). In r (if not b then x ∷ of_data xs else of_data xs)) e h)
    by false e h rest = elim (let g : In r (x ∷ of_data xs) = subst (λ (b : Bool). In r (if not b then x ∷ of_data xs else of_data xs)) e h in g) [
      | inl same ↦ ap (λ (y : Reloc). y.in_code) (sym same) ∙ e
      | inr behind ↦ rest behind
    ]

-- ---- the words' own

abbrev on_word : ℕ → RelKind → Reloc
on_word at k = record { in_code = true; kind = k; offset = 2 * at }

record Behind (ws : List Word) (start at : ℕ) (k : RelKind) : Type 0 where
  more : ℕ
  is : at ≡ start + more
  kind : kind_in ws more ≡ Some k

same_place : (a b : ℕ) (j k : RelKind) → on_word a j ≡ on_word b k → a ≡ b
same_place a b j k e = let f : 2 * a ≡ 2 * b = ap (λ (r : Reloc). r.offset) e in omega arith

same_kind : (a b : ℕ) (j k : RelKind) → on_word a j ≡ on_word b k → j ≡ k
same_kind a b j k e = ap (λ (r : Reloc). r.kind) e

behind_cons : (w : Word) (ws : List Word) (start at : ℕ) (k : RelKind) → Behind ws (start + 1) at k → Behind (w ∷ ws) start at k
behind_cons w ws start at k b = record { more = suc b.more; is = omega (arith, b.is); kind = b.kind }

from_words : (ws : List Word) (start at : ℕ) (k : RelKind) → In (on_word at k) (relocs_from start ws) → Behind ws start at k
unfolding In
from_words [] start at k h = absurd h
from_words (w ∷ ws) start at k h = by w.kind refl h (from_words ws (start + 1) at k)
  where
    by : (j : Option RelKind) → w.kind ≡ j → In (on_word at k) (with_reloc start j (relocs_from (start + 1) ws)) → (In (on_word at k) (relocs_from (start + 1) ws) → Behind ws (start + 1) at k) → Behind (w ∷ ws) start at k
    by None e h rest = behind_cons w ws start at k (rest h)
    by (Some j) e (inl same) rest =
        record { more = 0; is = omega (arith, same_place start at j k same); kind = e ∙ ap (λ (x : RelKind). Some x) (same_kind start at j k same) }
    by (Some j) e (inr h) rest = behind_cons w ws start at k (rest h)

to_words : (ws : List Word) (start more : ℕ) (k : RelKind) → kind_in ws more ≡ Some k → In (on_word (start + more) k) (relocs_from start ws)
unfolding In
to_words [] start more k e = absurd (let f : None ≡ Some k = e in cc)
to_words (w ∷ ws) start zero k e =
    let f : start + 0 ≡ start = omega arith in
    subst (λ (j : Option RelKind). In (on_word (start + 0) k) (with_reloc start j (relocs_from (start + 1) ws))) (sym e) (inl (ap (λ (n : ℕ). on_word n k) (sym f)))
to_words (w ∷ ws) start (suc more) k e =
    let f : start + 1 + more ≡ start + suc more = omega arith in
    let g : In (on_word (start + suc more) k) (relocs_from (start + 1) ws) = subst (λ (n : ℕ). In (on_word n k) (relocs_from (start + 1) ws)) f (to_words ws (start + 1) more k e) in
    past w.kind g
  where
    past : (j : Option RelKind) → In (on_word (start + suc more) k) (relocs_from (start + 1) ws) → In (on_word (start + suc more) k) (with_reloc start j (relocs_from (start + 1) ws))
    past None g = g
    past (Some j) g = inr g

-- ---- the object's

relocs_of : (f : Fields) → (with_guards f).relocs ≡ relocs_from 0 (unit_words (pieces f)) ++ of_data f.relocs
unfolding with_guards
relocs_of f = ap (λ (ws : List Word). relocs_from 0 ws ++ of_data f.relocs) (final_words f)

relocs_is : (o q : Object) → IsInserted o q → q.relocs ≡ relocs_from 0 (unit_words (pieces (fields o))) ++ of_data o.relocs
unfolding inserted
relocs_is o q i = ap (λ (f : Fields). f.relocs) i.is ∙ relocs_of (fields o)

kind_of_reloc : (o q : Object) → IsInserted o q → (at : ℕ) (k : RelKind) → HasReloc q.relocs at k → kind_in (unit_words (pieces (fields o))) at ≡ Some k
unfolding HasReloc
kind_of_reloc o q i at k h =
    let ws : List Word = unit_words (pieces (fields o)) in
    let c : Contains (relocs_from 0 ws ++ of_data o.relocs) (on_word at k) = subst (λ (rs : List Reloc). Contains rs (on_word at k)) (relocs_is o q i) h in
    elim (in_append (on_word at k) (relocs_from 0 ws) (of_data o.relocs) (to_in (on_word at k) (relocs_from 0 ws ++ of_data o.relocs) c.0 c.1 c.2)) [
      | inl a ↦ let b : Behind ws 0 at k = from_words ws 0 at k a in let e : at ≡ b.more = omega (arith, b.is) in ap (kind_in ws) e ∙ b.kind
      | inr b ↦ absurd (let f : true ≡ false = in_data (on_word at k) o.relocs b in cc)
    ]

reloc_of_kind : (o q : Object) → IsInserted o q → (at : ℕ) (k : RelKind) → kind_in (unit_words (pieces (fields o))) at ≡ Some k → HasReloc q.relocs at k
unfolding HasReloc
reloc_of_kind o q i at k e =
    let ws : List Word = unit_words (pieces (fields o)) in
    let f : 0 + at ≡ at = omega arith in
    let h : In (on_word at k) (relocs_from 0 ws) = subst (λ (n : ℕ). In (on_word n k) (relocs_from 0 ws)) f (to_words ws 0 at k e) in
    subst (λ (rs : List Reloc). Contains rs (on_word at k)) (sym (relocs_is o q i)) (of_in (on_word at k) (relocs_from 0 ws ++ of_data o.relocs) (in_front (on_word at k) (relocs_from 0 ws) (of_data o.relocs) h))

none_of_kind : (o q : Object) → IsInserted o q → (at : ℕ) → kind_in (unit_words (pieces (fields o))) at ≡ None → Unrelocated q.relocs at
unfolding Unrelocated
none_of_kind o q i at e k h = let f : None ≡ Some k = sym e ∙ kind_of_reloc o q i at k h in cc

pub relocs_stand : RelocsArePieces
relocs_stand o q i = record { has = kind_of_reloc o q i; some = reloc_of_kind o q i; none = none_of_kind o q i }
