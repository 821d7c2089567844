-- The relocations on a guard's words.
use Rattle.std.proofs.Common.{◌≡◌, ℕ, ◌+◌, ◌≤◌, ◌<◌, List, [], ◌∷◌, ◌⊎◌, inl, inr, length, refl, sym, subst, arith, pos}
use Rattle.std.proofs.Math.Nat.{eq-or-lt_of_le}
use Rattle.msp_encode.specs.declared.instr.Op2.{Op2}
use Rattle.msp_encode.specs.declared.instr.Op2.TheVariants.{Add, Cmp}
use Rattle.msp_encode.specs.declared.instr.Cond.TheVariants.{Nc}
use Rattle.msp_encode.specs.declared.instr.Width.TheVariants.{Wide}
use Rattle.msp_encode.specs.declared.instr.Src.TheVariants as src
use Rattle.msp_encode.specs.declared.instr.Dst.TheVariants as dst
use Rattle.msp_encode.specs.declared.instr.Instr.TheVariants as instr
use Rattle.code_model.specs.declared.object.Object.{Object}
use Rattle.code_model.specs.declared.guards.GuardKind.{GuardKind}
use Rattle.code_model.specs.declared.guards.GuardKind.TheVariants as guard
use Rattle.code_model.specs.declared.guards.Slot.{Slot}
use Rattle.code_model.specs.declared.guards.Slot.TheVariants as slot
use Rattle.code_model.specs.declared.parts.Reloc.{Reloc}
use Rattle.code_model.specs.declared.parts.RelKind.{RelKind}
use Rattle.code_model.specs.Relocs.{HasReloc, Unrelocated}
use Rattle.code_model.specs.Starts.{Stands, Start}
use Rattle.code_model.specs.Guards.{high_word, region_slots, guard_words, Takes, FitAll}
use Rattle.code_model.specs.Rules.{IsRightWord, HasWrongReloc}
use Rattle.code_laws.proofs.Lines.{next_line, save_line, load_line, add_stands, add_line, compare_stands, compare_line, jump_line}

pub none_has : (relocs : List Reloc) (at : ℕ) (k : RelKind) → Unrelocated relocs at → HasReloc relocs at k → ⊥
unfolding Unrelocated
none_has relocs at k none = none k

-- the word behind an immediate's instruction may have any relocation
right_after : (o : Object) (s at : ℕ) (op : Op2) (x : ℕ) (k : RelKind) → at ≡ s + 1 → Start o.code s → Stands o.code s (instr.Two op Wide (src.Immediate x) (dst.Reg 4)) 2 → IsRightWord o at k
right_after o s at op x k e start stands = record {
  start = s;
  word = 1;
  is = e;
  from = record { starts = start; instr = instr.Two op Wide (src.Immediate x) (dst.Reg 4); words = 2; stands = stands; carries = inl (refl, tt) };
}

-- ---- relocations on a guard's words

abbrev IsOpen : Slot → Type 0
IsOpen slot.Free = Unit {0}
IsOpen slot.Low = Unit {0}
IsOpen (slot.High v) = Unit {0}
IsOpen _ = ⊥

abbrev OpenAt : List Slot → (at k : ℕ) → Type 0
OpenAt [] at k = ⊥
OpenAt (s ∷ ss) at k = ((k ≡ at) × IsOpen s) ⊎ OpenAt ss (at + 1) k

open_slot : (o : Object) (at w : ℕ) (s : Slot) → Takes o at w s → HasWrongReloc o at → IsOpen s
open_slot o at w (slot.Word v) fit wrong = absurd (none_has o.relocs at wrong.kind fit.1 wrong.has)
open_slot o at w slot.Load fit wrong = absurd (none_has o.relocs at wrong.kind fit.1 wrong.has)
open_slot o at w slot.Free fit wrong = tt
open_slot o at w slot.Low fit wrong = tt
open_slot o at w (slot.High v) fit wrong = tt

wrong_open : (o : Object) (at : ℕ) (ss : List Slot) → FitAll o at ss → (k : ℕ) → at ≤ k → k < at + length ss → HasWrongReloc o k → OpenAt ss at k
wrong_open o at [] fit k low high wrong = absurd (omega arith)
wrong_open o at (s ∷ ss) fit k low high wrong =
    elim (eq-or-lt_of_le low) [
      | inl same ↦ inl (sym same, open_slot o at _ s fit.0.1 (subst (λ (n : ℕ). HasWrongReloc o n) (sym same) wrong))
      | inr less ↦ inr (wrong_open o (at + 1) ss fit.1 k (omega arith) (omega arith) wrong)
    ]

data InStore (at k : ℕ) : Type 0 where
  OnFree : k ≡ at + 3 → InStore at k
  OnLow : k ≡ at + 5 → InStore at k
  OnHigh : k ≡ at + 8 → InStore at k

store_open : (high at k : ℕ) → OpenAt (region_slots high) at k → InStore at k
store_open high at k (inl x) = absurd x.1
store_open high at k (inr (inl x)) = absurd x.1
store_open high at k (inr (inr (inl x))) = absurd x.1
store_open high at k (inr (inr (inr (inl x)))) = OnFree (omega (arith, x.0))
store_open high at k (inr (inr (inr (inr (inl x))))) = absurd x.1
store_open high at k (inr (inr (inr (inr (inr (inl x)))))) = OnLow (omega (arith, x.0))
store_open high at k (inr (inr (inr (inr (inr (inr (inl x))))))) = absurd x.1
store_open high at k (inr (inr (inr (inr (inr (inr (inr (inl x)))))))) = absurd x.1
store_open high at k (inr (inr (inr (inr (inr (inr (inr (inr (inl x))))))))) = OnHigh (omega (arith, x.0))
store_open high at k (inr (inr (inr (inr (inr (inr (inr (inr (inr (inl x)))))))))) = absurd x.1
store_open high at k (inr (inr (inr (inr (inr (inr (inr (inr (inr (inr (inl x))))))))))) = absurd x.1
store_open high at k (inr (inr (inr (inr (inr (inr (inr (inr (inr (inr (inr (inl x)))))))))))) = absurd x.1
store_open high at k (inr (inr (inr (inr (inr (inr (inr (inr (inr (inr (inr (inr (inl x))))))))))))) = absurd x.1
store_open high at k (inr (inr (inr (inr (inr (inr (inr (inr (inr (inr (inr (inr (inr x))))))))))))) = absurd x

shut_seven : (at k : ℕ) → OpenAt (guard_words guard.Growth) at k ⊎ OpenAt (guard_words guard.Pop) at k → ⊥
shut_seven at k (inl (inl x)) = x.1
shut_seven at k (inl (inr (inl x))) = x.1
shut_seven at k (inl (inr (inr (inl x)))) = x.1
shut_seven at k (inl (inr (inr (inr (inl x))))) = x.1
shut_seven at k (inl (inr (inr (inr (inr (inl x)))))) = x.1
shut_seven at k (inl (inr (inr (inr (inr (inr (inl x))))))) = x.1
shut_seven at k (inl (inr (inr (inr (inr (inr (inr (inl x)))))))) = x.1
shut_seven at k (inl (inr (inr (inr (inr (inr (inr (inr x)))))))) = x
shut_seven at k (inr (inl x)) = x.1
shut_seven at k (inr (inr (inl x))) = x.1
shut_seven at k (inr (inr (inr (inl x)))) = x.1
shut_seven at k (inr (inr (inr (inr (inl x))))) = x.1
shut_seven at k (inr (inr (inr (inr (inr (inl x)))))) = x.1
shut_seven at k (inr (inr (inr (inr (inr (inr (inl x))))))) = x.1
shut_seven at k (inr (inr (inr (inr (inr (inr (inr (inl x)))))))) = x.1
shut_seven at k (inr (inr (inr (inr (inr (inr (inr (inr x)))))))) = x

shut_ten : (at k : ℕ) → OpenAt (guard_words guard.Sp) at k → ⊥
shut_ten at k (inl x) = x.1
shut_ten at k (inr (inl x)) = x.1
shut_ten at k (inr (inr (inl x))) = x.1
shut_ten at k (inr (inr (inr (inl x)))) = x.1
shut_ten at k (inr (inr (inr (inr (inl x))))) = x.1
shut_ten at k (inr (inr (inr (inr (inr (inl x)))))) = x.1
shut_ten at k (inr (inr (inr (inr (inr (inr (inl x))))))) = x.1
shut_ten at k (inr (inr (inr (inr (inr (inr (inr (inl x)))))))) = x.1
shut_ten at k (inr (inr (inr (inr (inr (inr (inr (inr (inl x))))))))) = x.1
shut_ten at k (inr (inr (inr (inr (inr (inr (inr (inr (inr (inl x)))))))))) = x.1
shut_ten at k (inr (inr (inr (inr (inr (inr (inr (inr (inr (inr x)))))))))) = x

-- the immediates of a guard that keeps an address in the region may have their relocations
store_right : (o : Object) (high at k : ℕ) (j : RelKind) → FitAll o at (region_slots high) → Start o.code at → at + 13 < length o.code → InStore at k → IsRightWord o k j
store_right o high at k j (w0, (w1, (w2, (w3, (w4, (w5, (w6, (w7, (w8, rest))))))))) s inside on = go on
  where
    s1 : Start o.code (at + 1)
    s1 = next_line o at 1 s (save_line o at w0.0 w0.1.0) (omega arith)

    s2 : Start o.code (at + 1 + 1)
    s2 = next_line o (at + 1) 1 s1 (load_line o _ _ w1.0 refl w1.1.0) (omega arith)

    s4 : Start o.code (at + 1 + 1 + 2)
    s4 = next_line o (at + 1 + 1) 2 s2 (add_line o _ w3.0 w2.1.0) (omega arith)

    four : at + 1 + 1 + 2 ≡ at + 1 + 1 + 1 + 1
    four = omega arith

    s4' : Start o.code (at + 1 + 1 + 1 + 1)
    s4' = subst (λ (n : ℕ). Start o.code n) four s4

    s6 : Start o.code (at + 1 + 1 + 1 + 1 + 2)
    s6 = next_line o (at + 1 + 1 + 1 + 1) 2 s4' (compare_line o _ w5.0 w4.1.0) (omega arith)

    six : at + 1 + 1 + 1 + 1 + 2 ≡ at + 1 + 1 + 1 + 1 + 1 + 1
    six = omega arith

    s6' : Start o.code (at + 1 + 1 + 1 + 1 + 1 + 1)
    s6' = subst (λ (n : ℕ). Start o.code n) six s6

    s7 : Start o.code (at + 1 + 1 + 1 + 1 + 1 + 1 + 1)
    s7 = next_line o (at + 1 + 1 + 1 + 1 + 1 + 1) 1 s6' (jump_line o _ 0x2803 Nc (pos 3) w6.0 w6.1.0 (record { form = refl; code = refl; place = refl })) (omega arith)

    go : InStore at k → IsRightWord o k j
    go (OnFree e) = right_after o (at + 1 + 1) k Add _ j (omega arith) s2 (add_stands o _ w3.0 w2.1.0)
    go (OnLow e) = right_after o (at + 1 + 1 + 1 + 1) k Cmp _ j (omega arith) s4' (compare_stands o _ w5.0 w4.1.0)
    go (OnHigh e) = right_after o (at + 1 + 1 + 1 + 1 + 1 + 1 + 1) k Cmp _ j (omega arith) s7 (compare_stands o _ w8.0 w7.1.0)

region_right : (o : Object) (v at : ℕ) → FitAll o at (region_slots v) → Start o.code at → at + 13 < length o.code → (k : ℕ) → at ≤ k → k < at + 13 → HasWrongReloc o k → ⊥
region_right o v at fit s inside k low high wrong =
    wrong.wrong (store_right o v at k wrong.kind fit s inside (store_open v at k (wrong_open o at (region_slots v) fit k low high wrong)))

-- no word of a guard has a relocation that it may not have
pub right_relocs : (o : Object) (at : ℕ) (g : GuardKind) → FitAll o at (guard_words g) → Start o.code at → at + length (guard_words g) < length o.code
    → (k : ℕ) → at ≤ k → k < at + length (guard_words g) → HasWrongReloc o k → ⊥
right_relocs o at guard.Store fit s inside k low high wrong = region_right o 0 at fit s inside k low high wrong
right_relocs o at (guard.Wide r) fit s inside k low high wrong = region_right o (high_word r) at fit s inside k low high wrong
right_relocs o at guard.Load fit s inside k low high wrong = region_right o 0 at fit s inside k low high wrong
right_relocs o at guard.Growth fit s inside k low high wrong = shut_seven at k (inl (wrong_open o at (guard_words guard.Growth) fit k low high wrong))
right_relocs o at guard.Pop fit s inside k low high wrong = shut_seven at k (inr (wrong_open o at (guard_words guard.Pop) fit k low high wrong))
right_relocs o at guard.Sp fit s inside k low high wrong = shut_ten at k (wrong_open o at (guard_words guard.Sp) fit k low high wrong)
