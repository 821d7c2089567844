-- The growth, pop and SP guards, place by place.
use Rattle.std.proofs.Common.{ℕ, ◌⊎◌, not, List, refl, sym, ap, ◌∙◌, subst, inl, inr, arith}
use Rattle.std.specs.Prelude.{pos}
use Rattle.std.proofs.lemmas.Bool.{cases_Bool}
use Rattle.machine_model.specs.Context.{reg, set_reg, IsContext}
use Rattle.machine_model.specs.Status.{carry, is_zero}
use Rattle.machine_model.specs.Operands.{source_value, after_source, place_to, value_in, put_context, put_pairs}
use Rattle.machine_model.specs.Alu.{alu, added}
use Rattle.machine_model.specs.Does.{does, two}
use Rattle.msp_encode.specs.declared.instr.Width.TheVariants.{Wide}
use Rattle.msp_encode.specs.declared.instr.Op2.TheVariants.{Mov, Cmp}
use Rattle.msp_encode.specs.declared.instr.Cond.TheVariants.{Ne, Nc, C}
use Rattle.msp_encode.specs.declared.instr.Src.TheVariants as src
use Rattle.msp_encode.specs.declared.instr.Dst.TheVariants as dst
use Rattle.msp_encode.specs.declared.instr.Instr.TheVariants as instr
use Rattle.machine_laws.specs.Steady.{IsSteady, Bounds, AreBounds, Limits}
use Rattle.machine_laws.specs.Places.{ComparesLimit, JumpsIfRoom, GrowthFails, GrowthRestores, Grows, ComparesTop, JumpsIfFilled, PopFails, PopRestores, Pops, ComparesNewLow, JumpsIfNewLow, ComparesNewHigh, JumpsIfNewHigh, SpFails, SpRestores, SetsSp}
use Rattle.machine_laws.specs.Own.{GuardAt, IsGuardAt, IsAtOwn, GoesTo, Faults}
use Rattle.machine_model.proofs.Flags.{with_flags-small, carry-with_flags, is_zero-with_flags}
use Rattle.machine_laws.proofs.Flags.{status-with_flags, at_least, apart}
use Rattle.machine_model.proofs.Contexts.{words}
use Rattle.machine_laws.proofs.GuardSteps.{flags-steady, fails, restores}
use Rattle.machine_laws.proofs.Jumps.{jump-taken, jump-passed, goes}
use Rattle.kernel_model.specs.declared.entries.TheConstants.{STACK_FAULT}

pub compares_limit-on : (g : GuardAt) (b : Bounds) (kb : ℕ) (m r : List ℕ) → IsGuardAt g → AreBounds b → Limits m b.low b.top → IsSteady kb b.low b.top r → IsContext (words r) → IsAtOwn ComparesLimit g b kb r
    → GoesTo JumpsIfRoom g b kb (does m (words r) (instr.Two Cmp Wide (src.Absolute 512) (dst.Reg 1)) 2)
unfolding does two set_reg source_value after_source place_to value_in put_context put_pairs alu added
compares_limit-on g b kb m r gi bi li s k p = record {
  steady = flags-steady kb b.low b.top _ _ r s k (omega arith) (status-with_flags kb _ _ _ _ _ s.status) (with_flags-small _ _ _ _ _ (k.small 2));
  place = record {
    pc = omega (arith, p.pc, gi.even, gi.ends);
    saved = λ t. p.saved refl;
    known = λ t. omega (arith, at_least _ _ (omega (arith, li.limit, li.order, li.word)) (sym (carry-with_flags _ _ _ _ _) ∙ t), k.small 1, li.limit);
  };
  silent = refl;
}

pub jumps_if_room-on : (g : GuardAt) (b : Bounds) (kb : ℕ) (m r : List ℕ) → IsGuardAt g → AreBounds b → Limits m b.low b.top → IsSteady kb b.low b.top r → IsContext (words r) → IsAtOwn JumpsIfRoom g b kb r
    → GoesTo GrowthFails g b kb (does m (words r) (instr.Jump C (pos 2)) 1) ⊎ GoesTo GrowthRestores g b kb (does m (words r) (instr.Jump C (pos 2)) 1)
unfolding set_reg
jumps_if_room-on g b kb m r gi bi li s k p = elim (cases_Bool (carry (reg r 2))) [
  | inl t ↦ inr (subst (GoesTo GrowthRestores g b kb) (sym (jump-taken C (pos 2) m (words r) 1 (t)))
      (goes GrowthRestores g b kb r _ gi.even (omega (arith, p.pc, gi.ends)) (omega arith) s k (p.saved refl) (p.known t)))
  | inr f ↦ inl (subst (GoesTo GrowthFails g b kb) (sym (jump-passed C (pos 2) m (words r) 1 (f)))
      (goes GrowthFails g b kb r _ gi.even (omega (arith, p.pc, gi.ends)) (omega arith) s k (p.saved refl) tt))
]

pub growth_fails-on : (g : GuardAt) (b : Bounds) (kb : ℕ) (m r : List ℕ) → IsGuardAt g → AreBounds b → Limits m b.low b.top → IsSteady kb b.low b.top r → IsContext (words r) → IsAtOwn GrowthFails g b kb r
    → Faults STACK_FAULT b kb (does m (words r) (instr.Two Mov Wide (src.Immediate STACK_FAULT) (dst.Reg 0)) 2)
growth_fails-on g b kb m r gi bi li s k p = fails STACK_FAULT b kb m r refl (omega arith) s k

pub growth_restores-on : (g : GuardAt) (b : Bounds) (kb : ℕ) (m r : List ℕ) → IsGuardAt g → AreBounds b → Limits m b.low b.top → IsSteady kb b.low b.top r → IsContext (words r) → IsAtOwn GrowthRestores g b kb r
    → GoesTo Grows g b kb (does m (words r) (instr.Two Mov Wide (src.Reg 5) (dst.Reg 2)) 1)
unfolding does two set_reg source_value after_source place_to value_in put_context put_pairs alu added
growth_restores-on g b kb m r gi bi li s k p = restores GrowthRestores Grows g b kb m r refl refl refl (omega arith) gi s k p p.known

pub compares_top-on : (g : GuardAt) (b : Bounds) (kb : ℕ) (m r : List ℕ) → IsGuardAt g → AreBounds b → Limits m b.low b.top → IsSteady kb b.low b.top r → IsContext (words r) → IsAtOwn ComparesTop g b kb r
    → GoesTo JumpsIfFilled g b kb (does m (words r) (instr.Two Cmp Wide (src.Reg 1) (dst.Absolute 514)) 2)
unfolding does two set_reg source_value after_source place_to value_in put_context put_pairs alu added
compares_top-on g b kb m r gi bi li s k p = record {
  steady = flags-steady kb b.low b.top _ _ r s k (omega arith) (status-with_flags kb _ _ _ _ _ s.status) (with_flags-small _ _ _ _ _ (k.small 2));
  place = record {
    pc = omega (arith, p.pc, gi.even, gi.ends);
    saved = λ t. p.saved refl;
    known = λ t e. apart _ _ (omega (arith, li.last, li.word)) (omega arith) (sym (is_zero-with_flags _ _ _ _ _) ∙ t) (omega (arith, e, li.last, k.small 1));
  };
  silent = refl;
}

pub jumps_if_filled-on : (g : GuardAt) (b : Bounds) (kb : ℕ) (m r : List ℕ) → IsGuardAt g → AreBounds b → Limits m b.low b.top → IsSteady kb b.low b.top r → IsContext (words r) → IsAtOwn JumpsIfFilled g b kb r
    → GoesTo PopFails g b kb (does m (words r) (instr.Jump Ne (pos 2)) 1) ⊎ GoesTo PopRestores g b kb (does m (words r) (instr.Jump Ne (pos 2)) 1)
unfolding set_reg
jumps_if_filled-on g b kb m r gi bi li s k p = elim (cases_Bool (is_zero (reg r 2))) [
  | inl t ↦ inl (subst (GoesTo PopFails g b kb) (sym (jump-passed Ne (pos 2) m (words r) 1 (ap not t)))
      (goes PopFails g b kb r _ gi.even (omega (arith, p.pc, gi.ends)) (omega arith) s k (p.saved refl) tt))
  | inr f ↦ inr (subst (GoesTo PopRestores g b kb) (sym (jump-taken Ne (pos 2) m (words r) 1 (ap not f)))
      (goes PopRestores g b kb r _ gi.even (omega (arith, p.pc, gi.ends)) (omega arith) s k (p.saved refl) (p.known f)))
]

pub pop_fails-on : (g : GuardAt) (b : Bounds) (kb : ℕ) (m r : List ℕ) → IsGuardAt g → AreBounds b → Limits m b.low b.top → IsSteady kb b.low b.top r → IsContext (words r) → IsAtOwn PopFails g b kb r
    → Faults STACK_FAULT b kb (does m (words r) (instr.Two Mov Wide (src.Immediate STACK_FAULT) (dst.Reg 0)) 2)
pop_fails-on g b kb m r gi bi li s k p = fails STACK_FAULT b kb m r refl (omega arith) s k

pub pop_restores-on : (g : GuardAt) (b : Bounds) (kb : ℕ) (m r : List ℕ) → IsGuardAt g → AreBounds b → Limits m b.low b.top → IsSteady kb b.low b.top r → IsContext (words r) → IsAtOwn PopRestores g b kb r
    → GoesTo Pops g b kb (does m (words r) (instr.Two Mov Wide (src.Reg 5) (dst.Reg 2)) 1)
unfolding does two set_reg source_value after_source place_to value_in put_context put_pairs alu added
pop_restores-on g b kb m r gi bi li s k p = restores PopRestores Pops g b kb m r refl refl refl (omega arith) gi s k p p.known

pub compares_new_low-on : (g : GuardAt) (b : Bounds) (kb : ℕ) (m r : List ℕ) → IsGuardAt g → AreBounds b → Limits m b.low b.top → IsSteady kb b.low b.top r → IsContext (words r) → IsAtOwn ComparesNewLow g b kb r
    → GoesTo JumpsIfNewLow g b kb (does m (words r) (instr.Two Cmp Wide (src.Absolute 512) (dst.Reg 4)) 2)
unfolding does two set_reg source_value after_source place_to value_in put_context put_pairs alu added
compares_new_low-on g b kb m r gi bi li s k p = record {
  steady = flags-steady kb b.low b.top _ _ r s k (omega arith) (status-with_flags kb _ _ _ _ _ s.status) (with_flags-small _ _ _ _ _ (k.small 2));
  place = record {
    pc = omega (arith, p.pc, gi.even, gi.ends);
    saved = λ t. p.saved refl;
    known = λ t. omega (arith, at_least _ _ (omega (arith, li.limit, li.order, li.word)) (sym (carry-with_flags _ _ _ _ _) ∙ t), k.small 4, li.limit);
  };
  silent = refl;
}

pub jumps_if_new_low-on : (g : GuardAt) (b : Bounds) (kb : ℕ) (m r : List ℕ) → IsGuardAt g → AreBounds b → Limits m b.low b.top → IsSteady kb b.low b.top r → IsContext (words r) → IsAtOwn JumpsIfNewLow g b kb r
    → GoesTo SpFails g b kb (does m (words r) (instr.Jump Nc (pos 3)) 1) ⊎ GoesTo ComparesNewHigh g b kb (does m (words r) (instr.Jump Nc (pos 3)) 1)
unfolding set_reg
jumps_if_new_low-on g b kb m r gi bi li s k p = elim (cases_Bool (carry (reg r 2))) [
  | inl t ↦ inr (subst (GoesTo ComparesNewHigh g b kb) (sym (jump-passed Nc (pos 3) m (words r) 1 (ap not t)))
      (goes ComparesNewHigh g b kb r _ gi.even (omega (arith, p.pc, gi.ends)) (omega arith) s k (p.saved refl) (p.known t)))
  | inr f ↦ inl (subst (GoesTo SpFails g b kb) (sym (jump-taken Nc (pos 3) m (words r) 1 (ap not f)))
      (goes SpFails g b kb r _ gi.even (omega (arith, p.pc, gi.ends)) (omega arith) s k (p.saved refl) tt))
]

pub compares_new_high-on : (g : GuardAt) (b : Bounds) (kb : ℕ) (m r : List ℕ) → IsGuardAt g → AreBounds b → Limits m b.low b.top → IsSteady kb b.low b.top r → IsContext (words r) → IsAtOwn ComparesNewHigh g b kb r
    → GoesTo JumpsIfNewHigh g b kb (does m (words r) (instr.Two Cmp Wide (src.Reg 4) (dst.Absolute 514)) 2)
unfolding does two set_reg source_value after_source place_to value_in put_context put_pairs alu added
compares_new_high-on g b kb m r gi bi li s k p = record {
  steady = flags-steady kb b.low b.top _ _ r s k (omega arith) (status-with_flags kb _ _ _ _ _ s.status) (with_flags-small _ _ _ _ _ (k.small 2));
  place = record {
    pc = omega (arith, p.pc, gi.even, gi.ends);
    saved = λ t. p.saved refl;
    known = (p.known, λ t. omega (arith, at_least _ _ (omega arith) (sym (carry-with_flags _ _ _ _ _) ∙ t), k.small 4, li.last));
  };
  silent = refl;
}

pub jumps_if_new_high-on : (g : GuardAt) (b : Bounds) (kb : ℕ) (m r : List ℕ) → IsGuardAt g → AreBounds b → Limits m b.low b.top → IsSteady kb b.low b.top r → IsContext (words r) → IsAtOwn JumpsIfNewHigh g b kb r
    → GoesTo SpFails g b kb (does m (words r) (instr.Jump C (pos 2)) 1) ⊎ GoesTo SpRestores g b kb (does m (words r) (instr.Jump C (pos 2)) 1)
unfolding set_reg
jumps_if_new_high-on g b kb m r gi bi li s k p = elim (cases_Bool (carry (reg r 2))) [
  | inl t ↦ inr (subst (GoesTo SpRestores g b kb) (sym (jump-taken C (pos 2) m (words r) 1 (t)))
      (goes SpRestores g b kb r _ gi.even (omega (arith, p.pc, gi.ends)) (omega arith) s k (p.saved refl) (p.known.0, p.known.1 t)))
  | inr f ↦ inl (subst (GoesTo SpFails g b kb) (sym (jump-passed C (pos 2) m (words r) 1 (f)))
      (goes SpFails g b kb r _ gi.even (omega (arith, p.pc, gi.ends)) (omega arith) s k (p.saved refl) tt))
]

pub sp_fails-on : (g : GuardAt) (b : Bounds) (kb : ℕ) (m r : List ℕ) → IsGuardAt g → AreBounds b → Limits m b.low b.top → IsSteady kb b.low b.top r → IsContext (words r) → IsAtOwn SpFails g b kb r
    → Faults STACK_FAULT b kb (does m (words r) (instr.Two Mov Wide (src.Immediate STACK_FAULT) (dst.Reg 0)) 2)
sp_fails-on g b kb m r gi bi li s k p = fails STACK_FAULT b kb m r refl (omega arith) s k

pub sp_restores-on : (g : GuardAt) (b : Bounds) (kb : ℕ) (m r : List ℕ) → IsGuardAt g → AreBounds b → Limits m b.low b.top → IsSteady kb b.low b.top r → IsContext (words r) → IsAtOwn SpRestores g b kb r
    → GoesTo SetsSp g b kb (does m (words r) (instr.Two Mov Wide (src.Reg 5) (dst.Reg 2)) 1)
unfolding does two set_reg source_value after_source place_to value_in put_context put_pairs alu added
sp_restores-on g b kb m r gi bi li s k p = restores SpRestores SetsSp g b kb m r refl refl refl (omega arith) gi s k p p.known
