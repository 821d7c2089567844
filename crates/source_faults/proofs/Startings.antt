-- Starts as marks.
use Rattle.std.proofs.Common.{◌≡◌, ◌≢◌, ◌↔◌, ℕ, ◌+◌, ◌*◌, ◌/◌, ◌%◌, ◌≤◌, ◌<◌, List, ◌⊎◌, inl, inr, length, take, get_or, Bool, true, false, IsTrue, ℤ, pos, ◌+ℤ◌, w16, to_z, of_z, SFits, sym, subst, ◌∙◌, arith}
use Rattle.std.proofs.lemmas.Bool.{cases_order}
use Rattle.std.proofs.lemmas.Int.{to_z-of_z}
use Rattle.code_model.specs.declared.object.TheConstants.{CODE_BYTES_MAX, CODE_WORDS_MAX}
use Rattle.code_model.specs.declared.object.Object.{Object}
use Rattle.kernel_model.specs.Bitmap.{Has}
use Rattle.code_model.specs.Starts.{Start, AreStarts}
use Rattle.insert_model.specs.declared.line.Line.{Line}
use Rattle.insert_model.specs.Faults.{IsStartOffset, IsJumpStart}
use Rattle.source_faults.specs.Read.{StartsIn}
use Rattle.source_faults.proofs.Anys.{any_more, any_none}

pub iff_false : (P : Type 0) → (P → ⊥) → IsTrue false ↔ P
iff_false P never = ((λ h. absurd (let e : false ≡ true = h in cc)), (λ p. absurd (never p)))

pub start_offset : (code starts : List ℕ) (x : ℕ) (b : Bool) → AreStarts code starts → x % 2 ≢ 1 → IsTrue b ↔ Has starts (x / 2) → IsTrue b ↔ IsStartOffset code x
unfolding IsStartOffset
start_offset code starts x b are even is =
    ((λ h. (x / 2, (are (x / 2)).0 (is.0 h), omega arith)), (λ (t, start, e). let same : t ≡ x / 2 = omega arith in is.1 ((are (x / 2)).1 (subst (λ (n : ℕ). Start code n) same start))))

pub odd_offset : (code : List ℕ) (x : ℕ) → x % 2 ≡ 1 → IsStartOffset code x → ⊥
unfolding IsStartOffset
odd_offset code x odd (t, start, e) = omega arith

pub far_offset : (o : Object) (x : ℕ) → CODE_BYTES_MAX ≤ x → IsStartOffset o.code x → ⊥
unfolding IsStartOffset
far_offset o x far (t, start, e) = omega (arith, start.below, o.form.code_most)

same_pos : (t u : ℕ) → pos t ≡ pos u → t ≡ u
same_pos t u e = cc

pub jump_start : (code starts : List ℕ) (at t : ℕ) (k : ℤ) (b : Bool) → SFits w16 k → AreStarts code starts → pos t ≡ (pos (at + 1) +ℤ to_z w16 (of_z w16 k))
    → IsTrue b ↔ Has starts (2 * t / 2) → IsTrue b ↔ IsJumpStart code at k
unfolding IsJumpStart
jump_start code starts at t k b fits are e half =
    let h : 2 * t / 2 ≡ t = omega arith in
    let is : IsTrue b ↔ Has starts t = subst (λ (n : ℕ). IsTrue b ↔ Has starts n) h half in
    let e' : pos t ≡ (pos (at + 1) +ℤ k) = simp (to_z-of_z) at e in
    ((λ h. (t, (are t).0 (is.0 h), e')), (λ (u, start, f). let same : u ≡ t = same_pos u t (f ∙ sym e') in is.1 ((are t).1 (subst (λ (n : ℕ). Start code n) same start))))

pub no_jump_start : (o : Object) (at : ℕ) (k : ℤ) → SFits w16 k → ((t : ℕ) → t < CODE_WORDS_MAX → pos t ≡ (pos (at + 1) +ℤ to_z w16 (of_z w16 k)) → ⊥) → IsJumpStart o.code at k → ⊥
unfolding IsJumpStart
no_jump_start o at k fits none (t, start, e) = none t (omega (arith, start.below, o.form.code_most)) (simp (to_z-of_z) e)

-- ---- marking

pub none_marked : (m : List ℕ) (ls : List Line) → ((k : ℕ) → Has m k → ⊥) → (k : ℕ) → Has m k ↔ StartsIn (take 0 ls) k
unfolding StartsIn
none_marked m ls none k = ((λ h. absurd (none k h)), (λ s. absurd (any_none (λ (l : Line). l.at ≡ k) s)))

starts_more : (ls : List Line) (i k : ℕ) (d : Line) → i < length ls → (StartsIn (take i ls) k ⊎ ((get_or ls i d).at ≡ k)) ↔ StartsIn (take (i + 1) ls) k
unfolding StartsIn
starts_more ls i k d h = any_more (λ (l : Line). l.at ≡ k) ls i d h

pub marked_more : (old new : List ℕ) (ls : List Line) (i at : ℕ) (d : Line) → i < length ls → (get_or ls i d).at ≡ at → ((k : ℕ) → Has old k ↔ StartsIn (take i ls) k)
    → Has new at → ((k : ℕ) → k ≢ at → Has new k ↔ Has old k) → (k : ℕ) → Has new k ↔ StartsIn (take (i + 1) ls) k
marked_more old new ls i at d h is was marked others k = (go, back)
  where
    go : Has new k → StartsIn (take (i + 1) ls) k
    go m = elim (cases_order k at) [
      | inl same ↦ (starts_more ls i k d h).0 (inr (is ∙ sym same))
      | inr other ↦ let differs : k ≢ at = elim other [ inl less ↦ omega arith | inr more ↦ omega arith ] in
          (starts_more ls i k d h).0 (inl ((was k).0 ((others k differs).0 m)))
    ]

    back : StartsIn (take (i + 1) ls) k → Has new k
    back s = elim (cases_order k at) [
      | inl same ↦ subst (λ (n : ℕ). Has new n) (sym same) marked
      | inr other ↦
          let differs : k ≢ at = elim other [ inl less ↦ omega arith | inr more ↦ omega arith ] in
          elim ((starts_more ls i k d h).1 s) [
            | inl before ↦ (others k differs).1 ((was k).1 before)
            | inr here ↦ absurd (differs (sym here ∙ is))
          ]
    ]
