-- Targets by their offsets.
use Rattle.std.proofs.Common.{◌≡◌, ◌≢◌, ◌↔◌, ℕ, zero, suc, [], ◌∷◌, length, ap, inl, inr, ◌+◌, ◌/◌, ◌%◌, ◌≤◌, ◌<◌, List, arith, sym, subst, ℤ, pos, ◌+ℤ◌, Bool, true, false, not, IsTrue, refl, ◌∙◌, drop, w16, to_z, of_z, SFits}
use Rattle.std.proofs.lemmas.Int.{to_z-of_z}
use Rattle.std.proofs.lemmas.List.{length-append, length-take}
use Rattle.std.proofs.lemmas.Bool.{cases_order}
use Rattle.msp_encode.specs.declared.instr.Src.{Src}
use Rattle.msp_encode.specs.declared.instr.Src.TheVariants as src
use Rattle.msp_encode.specs.declared.instr.Dst.{Dst}
use Rattle.msp_encode.specs.declared.instr.Dst.TheVariants as dst
use Rattle.msp_encode.specs.declared.instr.Instr.{Instr}
use Rattle.msp_encode.specs.declared.instr.Instr.TheVariants as instr
use Rattle.msp_encode.specs.Spelling.{src_words, dst_words, words_after}
use Rattle.code_model.specs.declared.object.TheConstants.{CODE_BYTES_MAX, CODE_WORDS_MAX}
use Rattle.code_model.specs.declared.object.Object.{Object}
use Rattle.code_model.specs.declared.parts.RelKind.{RelKind}
use Rattle.kernel_model.specs.Bitmap.{Has}
use Rattle.code_model.specs.Starts.{Begins, Stands}
use Rattle.code_model.specs.Relocs.{HasReloc, Unrelocated}
use Rattle.code_model.specs.Guards.{UnitStart, AreUnits}
use Rattle.code_model.specs.Rules.{IsUnitOffset, IsJumpTarget, SrcCarries, DstCarries, Carries, IsRightWord, HasWrongReloc}
use Rattle.code_laws.proofs.Starting.{starts_apart}
use Rattle.static_checker.proofs.Guarding.{not_true, instr_of}
use Rattle.code_laws.proofs.GuardRelocs.{none_has}
use Rattle.static_checker.specs.declared.spot.Spot.{Spot}
use Rattle.static_checker.specs.Spots.{IsStartSpot}

not_both : (b : Bool) → IsTrue (not b) → IsTrue b → ⊥
not_both true h k = absurd (not_true false refl h)
not_both false h k = absurd (not_true false refl k)

by_not : (b : Bool) → (IsTrue b → ⊥) → IsTrue (not b)
by_not true never = absurd (never refl)
by_not false never = refl

pub unit_offset : (o : Object) (units : List ℕ) (x t : ℕ) (b : Bool) → AreUnits o units → x % 2 ≢ 1 → t ≡ x / 2 → IsTrue b ↔ Has units t → IsTrue b ↔ IsUnitOffset o x
unfolding IsUnitOffset
unit_offset o units x t b are even half is =
    ((λ h. (t, (are t).0 (is.0 h), omega arith)), (λ (u, unit, e). let same : u ≡ t = omega arith in is.1 ((are t).1 (subst (λ (n : ℕ). UnitStart o n) same unit))))

pub odd_offset : (o : Object) (x : ℕ) → x % 2 ≡ 1 → IsUnitOffset o x → ⊥
unfolding IsUnitOffset
odd_offset o x odd (t, unit, e) = omega arith

pub far_offset : (o : Object) (x : ℕ) → CODE_BYTES_MAX ≤ x → IsUnitOffset o x → ⊥
unfolding IsUnitOffset
far_offset o x far (t, unit, e) = omega (arith, unit.0.below, o.form.code_most)

-- ---- jumps

same_pos : (t u : ℕ) → pos t ≡ pos u → t ≡ u
same_pos t u e = cc

-- the offset is read from its bits
pub jump_target : (o : Object) (units : List ℕ) (at t : ℕ) (k : ℤ) (b : Bool) → SFits w16 k → AreUnits o units → pos t ≡ (pos (at + 1) +ℤ to_z w16 (of_z w16 k))
    → IsTrue b ↔ Has units t → IsTrue b ↔ IsJumpTarget o at k
unfolding IsJumpTarget
jump_target o units at t k b fits are e is =
    let e' : pos t ≡ (pos (at + 1) +ℤ k) = simp (to_z-of_z) at e in
    ((λ h. (t, (are t).0 (is.0 h), e')), (λ (u, unit, f). let same : u ≡ t = same_pos u t (f ∙ sym e') in is.1 ((are t).1 (subst (λ (n : ℕ). UnitStart o n) same unit))))

pub no_jump_target : (o : Object) (at : ℕ) (k : ℤ) → SFits w16 k → ((t : ℕ) → t < CODE_WORDS_MAX → pos t ≡ (pos (at + 1) +ℤ to_z w16 (of_z w16 k)) → ⊥) → IsJumpTarget o at k → ⊥
unfolding IsJumpTarget
no_jump_target o at k fits none (t, unit, e) = none t (omega (arith, unit.0.below, o.form.code_most)) (simp (to_z-of_z) e)

-- ---- words with relocations

src_one : (s : Src) (k : RelKind) → SrcCarries s k → length (src_words s) ≡ 1
src_one (src.Immediate x) k h = refl
src_one (src.Absolute x) k h = refl
src_one (src.Indexed n x) k h = refl
src_one (src.Reg n) k h = absurd h
src_one (src.Symbolic x) k h = absurd h
src_one (src.Indirect n) k h = absurd h
src_one (src.AutoInc n) k h = absurd h
src_one (src.Const c) k h = absurd h

dst_one : (d : Dst) (k : RelKind) → DstCarries d k → length (dst_words d) ≡ 1
dst_one (dst.Absolute x) k h = refl
dst_one (dst.Indexed n x) k h = refl
dst_one (dst.Reg n) k h = absurd h
dst_one (dst.Symbolic x) k h = absurd h

carried_in : (i : Instr) (m : ℕ) (k : RelKind) → Carries i m k → m < 1 + length (words_after i)
carried_in (instr.Two op w s d) m k (inl h) = omega (arith, h.0, src_one s k h.1, length-append (src_words s) (dst_words d))
carried_in (instr.Two op w s d) m k (inr h) = omega (arith, h.0, dst_one d k h.1, length-append (src_words s) (dst_words d))
carried_in (instr.One op w s) m k h = omega (arith, h.0, src_one s k h.1)
carried_in instr.Reti m k h = absurd h
carried_in (instr.Jump c j) m k h = absurd h

-- a word that may have a relocation is one of the instruction's
carried : (i : Instr) (m n : ℕ) (k : RelKind) (ws : List ℕ) → Begins ws i n → Carries i m k → m < n
carried i m zero k ws h c = absurd h.1
carried i m (suc n) k [] h c = absurd h.1
carried i m (suc n) k (w ∷ ws) h c = omega (arith, carried_in i m k c, ap length h.1.1, length-take n ws, h.0)

-- an instruction's words have no other start
owner : (o : Object) (s : Spot) (m : ℕ) (k : RelKind) → IsStartSpot o.code s → m < s.words → IsRightWord o (s.at + m) k → Carries s.instr m k
owner o s m k is inside right =
    let f = right.from in
    let most : right.word < f.words = carried f.instr right.word f.words k (drop right.start o.code) f.stands f.carries in
    elim (cases_order right.start s.at) [
      | inl same ↦
          let word : right.word ≡ m = omega (arith, right.is) in
          let one : f.instr ≡ s.instr = instr_of o.code s f.instr f.words is (subst (λ (n : ℕ). Stands o.code n f.instr f.words) same f.stands) in
          subst (λ (n : ℕ). Carries s.instr n k) word (subst (λ (i : Instr). Carries i right.word k) one f.carries)
      | inr other ↦ elim other [
        | inl less ↦ absurd (omega (arith, right.is, starts_apart o.code right.start s.at f.instr f.words f.starts f.stands is.start less))
        | inr more ↦ absurd (omega (arith, right.is, starts_apart o.code s.at right.start s.instr s.words is.start is.is.stands f.starts more))
      ]
    ]

right_word : (o : Object) (s : Spot) (m : ℕ) (k : RelKind) → IsStartSpot o.code s → m < s.words → Carries s.instr m k → IsRightWord o (s.at + m) k
right_word o s m k is inside carries = record {
  start = s.at;
  word = m;
  is = refl;
  from = record { starts = is.start; instr = s.instr; words = s.words; stands = is.is.stands; carries = carries };
}

pub wrong_reloc : (o : Object) (s : Spot) (m : ℕ) (k : RelKind) (b : Bool) → IsStartSpot o.code s → m < s.words → HasReloc o.relocs (s.at + m) k
    → ((i j : RelKind) → HasReloc o.relocs (s.at + m) i → HasReloc o.relocs (s.at + m) j → i ≡ j)
    → IsTrue b ↔ Carries s.instr m k → IsTrue (not b) ↔ HasWrongReloc o (s.at + m)
wrong_reloc o s m k b is inside has one iff = (
  (λ h. record { kind = k; has = has; wrong = λ right. not_both b h (iff.1 (owner o s m k is inside right)) }),
  (λ w. let e : w.kind ≡ k = one w.kind k w.has has in
      by_not b (λ h. w.wrong (subst (λ (j : RelKind). IsRightWord o (s.at + m) j) (sym e) (right_word o s m k is inside (iff.0 h))))),
)

pub no_wrong_reloc : (o : Object) (at : ℕ) → Unrelocated o.relocs at → HasWrongReloc o at → ⊥
no_wrong_reloc o at none w = none_has o.relocs at w.kind none w.has
