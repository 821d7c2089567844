-- Targets as marks.
use Rattle.std.proofs.Common.{◌≡◌, ℕ, ◌+◌, ◌*◌, ◌<◌, nat_eq, ◌||◌, cond, List, [], ◌∷◌, ◌⊎◌, inl, inr, length, take, get_or, Bool, true, false, IsTrue, Some, is_some, sym, subst, refl, ap, ◌∙◌, arith, eq-eqb}
use Rattle.std.specs.List.{Any, find}
use Rattle.std.proofs.lemmas.List.{get_or_default}
use Rattle.kernel_model.specs.Bitmap.{Has}
use Rattle.code_model.specs.declared.object.TheConstants.{CODE_WORDS_MAX}
use Rattle.code_model.specs.declared.object.Object.{Object}
use Rattle.code_model.specs.declared.parts.Export.{Export}
use Rattle.code_model.specs.declared.parts.Reloc.{Reloc}
use Rattle.code_model.specs.Fields.{Fields, fields}
use Rattle.insert_model.specs.declared.line.Line.{Line}
use Rattle.insert_model.specs.Source.{lines}
use Rattle.insert_model.specs.Groups.{is_target}
use Rattle.check_inserter.specs.Named.{AreAdded, JumpsTo, SomeJumpTo, Relocates, SomeRelocate, Exports, SomeExport, AreTargets}
use Rattle.source_faults.proofs.Anys.{any_cons, any_first, any_behind, any_more, any_none}

-- ---- marks that are added

-- nothing is
pub none_added : (old : List ℕ) (P : ℕ → Type 0) → ((k : ℕ) → k < CODE_WORDS_MAX → P (2 * k) → ⊥) → AreAdded old old P
none_added old P none = record { each = λ k h. ((λ m. inl m), (λ s. elim s [ inl m ↦ m | inr p ↦ absurd (none k h p) ])) }

more : {X : Type 0} (P : X → ℕ → Type 0) (old a b : List ℕ) (xs : List X) (i : ℕ) (d : X) → i < length xs → AreAdded old a (λ x. Any (λ e. P e x) (take i xs)) → AreAdded a b (P (get_or xs i d))
    → AreAdded old b (λ x. Any (λ e. P e x) (take (i + 1) xs))
more {X} P old a b xs i d inside was here = record { each = λ k h. (go k h, back k h) }
  where
    go : (k : ℕ) → k < CODE_WORDS_MAX → Has b k → Has old k ⊎ Any (λ e. P e (2 * k)) (take (i + 1) xs)
    go k h m = elim ((here.each k h).0 m) [
      | inl n ↦ elim ((was.each k h).0 n) [ inl o ↦ inl o | inr s ↦ inr ((any_more (λ e. P e (2 * k)) xs i d inside).0 (inl s)) ]
      | inr p ↦ inr ((any_more (λ e. P e (2 * k)) xs i d inside).0 (inr p))
    ]

    back : (k : ℕ) → k < CODE_WORDS_MAX → Has old k ⊎ Any (λ e. P e (2 * k)) (take (i + 1) xs) → Has b k
    back k h (inl o) = (here.each k h).1 (inl ((was.each k h).1 (inl o)))
    back k h (inr s) = elim ((any_more (λ e. P e (2 * k)) xs i d inside).1 s) [
      | inl t ↦ (here.each k h).1 (inl ((was.each k h).1 (inr t)))
      | inr p ↦ (here.each k h).1 (inr p)
    ]

pub no_jumps : (old : List ℕ) (ls : List Line) → AreAdded old old (SomeJumpTo (take 0 ls))
unfolding SomeJumpTo
no_jumps old ls = none_added old _ (λ k h s. any_none (λ (l : Line). JumpsTo l (2 * k)) s)

pub more_jumps : (old a b : List ℕ) (ls : List Line) (i : ℕ) (d : Line) → i < length ls → AreAdded old a (SomeJumpTo (take i ls)) → AreAdded a b (JumpsTo (get_or ls i d)) → AreAdded old b (SomeJumpTo (take (i + 1) ls))
unfolding SomeJumpTo
more_jumps old a b ls i d h was here = more JumpsTo old a b ls i d h was here

pub no_relocs : (f : Fields) (old : List ℕ) (rs : List Reloc) → AreAdded old old (SomeRelocate f (take 0 rs))
unfolding SomeRelocate
no_relocs f old rs = none_added old _ (λ k h s. any_none (λ (r : Reloc). Relocates f r (2 * k)) s)

pub more_relocs : (f : Fields) (old a b : List ℕ) (rs qs : List Reloc) (i : ℕ) (d : Reloc) → qs ≡ rs → i < length qs → AreAdded old a (SomeRelocate f (take i rs)) → AreAdded a b (Relocates f (get_or qs i d))
    → AreAdded old b (SomeRelocate f (take (i + 1) rs))
unfolding SomeRelocate
more_relocs f old a b rs qs i d e h was here =
    more (Relocates f) old a b rs i d (omega (arith, h, ap length e)) was (subst (λ (xs : List Reloc). AreAdded a b (Relocates f (get_or xs i d))) e here)

pub no_exports : (old : List ℕ) (es : List Export) → AreAdded old old (SomeExport (take 0 es))
unfolding SomeExport
no_exports old es = none_added old _ (λ k h s. any_none (λ (e : Export). Exports e (2 * k)) s)

pub more_exports : (old a b : List ℕ) (es : List Export) (i : ℕ) (d : Export) → i < length es → AreAdded old a (SomeExport (take i es)) → AreAdded a b (Exports (get_or es i d)) → AreAdded old b (SomeExport (take (i + 1) es))
unfolding SomeExport
more_exports old a b es i d h was here = more Exports old a b es i d h was here

-- ---- all that is named

find_any_by : {X : Type 0} (p : X → Bool) (x : X) (xs : List X) (b : Bool) → p x ≡ b → (IsTrue (is_some (find p xs)) → Any (λ y. IsTrue (p y)) xs) → IsTrue (is_some (cond b (Some x) (find p xs))) → Any (λ y. IsTrue (p y)) (x ∷ xs)
find_any_by p x xs true e go h = any_first (λ y. IsTrue (p y)) x xs e
find_any_by p x xs false e go h = any_behind (λ y. IsTrue (p y)) x xs (go h)

find_any : {X : Type 0} (p : X → Bool) (xs : List X) → IsTrue (is_some (find p xs)) → Any (λ x. IsTrue (p x)) xs
find_any p [] h = let e : false ≡ true = h in cc
find_any p (x ∷ xs) h = find_any_by p x xs (p x) refl (find_any p xs) h

any_find_by : {X : Type 0} (p : X → Bool) (x : X) (xs : List X) (b : Bool) → p x ≡ b → (Any (λ y. IsTrue (p y)) xs → IsTrue (is_some (find p xs))) → Any (λ y. IsTrue (p y)) (x ∷ xs) → IsTrue (is_some (cond b (Some x) (find p xs)))
any_find_by p x xs true e go s = refl
any_find_by p x xs false e go s = elim (any_cons (λ y. IsTrue (p y)) x xs s) [ inl h ↦ (let g : true ≡ false = sym h ∙ e in cc) | inr t ↦ go t ]

any_find : {X : Type 0} (p : X → Bool) (xs : List X) → Any (λ x. IsTrue (p x)) xs → IsTrue (is_some (find p xs))
any_find p [] s = absurd (any_none (λ x. IsTrue (p x)) s)
any_find p (x ∷ xs) s = any_find_by p x xs (p x) refl (any_find p xs) s

or_parts : (a b : Bool) → IsTrue (a || b) → IsTrue a ⊎ IsTrue b
or_parts true b h = inl refl
or_parts false b h = inr h

or_left : (a b : Bool) → IsTrue a → IsTrue (a || b)
or_left true b h = refl
or_left false b h = let e : false ≡ true = h in cc

or_right : (a b : Bool) → IsTrue b → IsTrue (a || b)
or_right true b h = refl
or_right false b h = h

pub all_targets : (o : Object) (m a b c d : List ℕ) → ((k : ℕ) → Has m k → ⊥) → AreAdded m a (SomeJumpTo (lines (fields o))) → AreAdded a b (SomeRelocate (fields o) o.relocs) → AreAdded b c (λ x. IsTrue (nat_eq o.entry x))
    → AreAdded c d (SomeExport o.exports) → AreTargets o d
unfolding SomeJumpTo SomeRelocate SomeExport is_target
all_targets o m a b c d none ja rb ec xd = record { each = λ k h. (go k h, back k h) }
  where
    go : (k : ℕ) → k < CODE_WORDS_MAX → Has d k → IsTrue (is_target (fields o) (2 * k))
    go k h s = elim ((xd.each k h).0 s) [
      | inr x ↦ or_right _ _ (or_right _ _ (or_right (nat_eq o.entry (2 * k)) _ (any_find _ o.exports x)))
      | inl t ↦ elim ((ec.each k h).0 t) [
        | inr x ↦ or_right _ _ (or_right _ _ (or_left (nat_eq o.entry (2 * k)) _ x))
        | inl u ↦ elim ((rb.each k h).0 u) [
          | inr x ↦ or_right _ _ (or_left _ _ (any_find _ o.relocs x))
          | inl v ↦ elim ((ja.each k h).0 v) [
            | inr x ↦ or_left _ _ (any_find _ (lines (fields o)) x)
            | inl w ↦ absurd (none k w)
          ]
        ]
      ]
    ]

    back : (k : ℕ) → k < CODE_WORDS_MAX → IsTrue (is_target (fields o) (2 * k)) → Has d k
    back k h t = elim (or_parts _ _ t) [
      | inl x ↦ (xd.each k h).1 (inl ((ec.each k h).1 (inl ((rb.each k h).1 (inl ((ja.each k h).1 (inr (find_any _ (lines (fields o)) x))))))))
      | inr u ↦ elim (or_parts _ _ u) [
        | inl x ↦ (xd.each k h).1 (inl ((ec.each k h).1 (inl ((rb.each k h).1 (inr (find_any _ o.relocs x))))))
        | inr v ↦ elim (or_parts (nat_eq o.entry (2 * k)) _ v) [
          | inl x ↦ (xd.each k h).1 (inl ((ec.each k h).1 (inr x)))
          | inr x ↦ (xd.each k h).1 (inr (find_any _ o.exports x))
        ]
      ]
    ]

-- ---- the entry and the exports are named

pub entry_named : (f : Fields) → is_target f f.entry ≡ true
unfolding is_target
entry_named f = or_right _ _ (or_right _ _ (or_left (nat_eq f.entry f.entry) _ (eq-eqb f.entry f.entry refl)))

pub export_named : (f : Fields) (k : ℕ) (d : Export) → k < length f.exports → is_target f (get_or f.exports k d).offset ≡ true
unfolding is_target
export_named f k d h =
    or_right _ _ (or_right _ _ (or_right (nat_eq f.entry (get_or f.exports k d).offset) _
    (any_find (λ (e : Export). nat_eq e.offset (get_or f.exports k d).offset) f.exports (k, get_or f.exports k d, h, get_or_default f.exports k (get_or f.exports k d) d h, eq-eqb (get_or f.exports k d).offset (get_or f.exports k d).offset refl))))
