-- The store guard, place by place.
use Rattle.std.proofs.Common.{ℕ, ◌⊎◌, not, List, refl, sym, ap, ◌∙◌, subst, inl, inr, arith}
use Rattle.std.specs.Prelude.{pos}
use Rattle.std.proofs.lemmas.Bool.{cases_Bool}
use Rattle.machine_model.specs.Context.{reg, set_reg, IsContext}
use Rattle.machine_model.specs.Status.{carry}
use Rattle.machine_model.specs.Operands.{source_value, after_source, place_to, value_in, put_context, put_pairs}
use Rattle.machine_model.specs.Alu.{alu, added}
use Rattle.machine_model.specs.Does.{does, two}
use Rattle.msp_encode.specs.declared.instr.Width.TheVariants.{Wide}
use Rattle.msp_encode.specs.declared.instr.Op2.TheVariants.{Mov, Add, Cmp}
use Rattle.msp_encode.specs.declared.instr.Cond.TheVariants.{Nc}
use Rattle.msp_encode.specs.declared.instr.Cg.{Cg}
use Rattle.msp_encode.specs.declared.instr.Src.{Src}
use Rattle.msp_encode.specs.declared.instr.Src.TheVariants as src
use Rattle.msp_encode.specs.declared.instr.Dst.TheVariants as dst
use Rattle.msp_encode.specs.declared.instr.Instr.TheVariants as instr
use Rattle.machine_laws.specs.Steady.{IsSteady, Bounds, AreBounds, Limits}
use Rattle.machine_laws.specs.Places.{TakesAddress, AddsIndex, ComparesLow, JumpsIfLow, ComparesHigh, JumpsIfHigh, StoreFails, StoreRestores, Stores}
use Rattle.machine_laws.specs.Own.{GuardAt, IsLoad, IsGuardAt, IsAtOwn, GoesTo, Faults}
use Rattle.machine_model.proofs.Flags.{with_flags-small, carry-with_flags}
use Rattle.machine_laws.proofs.Flags.{status-with_flags, at_least, below}
use Rattle.machine_model.proofs.Contexts.{words, set-context}
use Rattle.machine_laws.proofs.GuardSteps.{flags-steady, fails, restores}
use Rattle.machine_laws.proofs.Jumps.{jump-taken, jump-passed, goes}
use Rattle.kernel_model.specs.declared.entries.TheConstants.{STORE_FAULT}

takes_register-on : (n : ℕ) → (g : GuardAt) (b : Bounds) (kb : ℕ) (m r : List ℕ) → IsGuardAt g → AreBounds b → Limits m b.low b.top → IsSteady kb b.low b.top r → IsContext (words r) → IsAtOwn TakesAddress g b kb r
    → GoesTo AddsIndex g b kb (does m (words r) (instr.Two Mov Wide (src.Reg n) (dst.Reg 4)) 1)
unfolding does two set_reg source_value after_source place_to value_in put_context put_pairs alu added
takes_register-on n g b kb m r gi bi li s k p = record {
  steady = record {
    context = set-context _ 4 _ (set-context _ 2 _ (set-context _ 0 _ k (omega arith)) (k.small 2)) (omega arith);
    room = s.room;
    within = s.within;
    status = s.status;
  };
  place = record { pc = omega (arith, p.pc, gi.even, gi.ends); saved = λ t. p.saved refl; known = tt };
  silent = refl;
}

takes_constant-on : (n : Cg) → (g : GuardAt) (b : Bounds) (kb : ℕ) (m r : List ℕ) → IsGuardAt g → AreBounds b → Limits m b.low b.top → IsSteady kb b.low b.top r → IsContext (words r) → IsAtOwn TakesAddress g b kb r
    → GoesTo AddsIndex g b kb (does m (words r) (instr.Two Mov Wide (src.Const n) (dst.Reg 4)) 1)
unfolding does two set_reg source_value after_source place_to value_in put_context put_pairs alu added
takes_constant-on n g b kb m r gi bi li s k p = record {
  steady = record {
    context = set-context _ 4 _ (set-context _ 2 _ (set-context _ 0 _ k (omega arith)) (k.small 2)) (omega arith);
    room = s.room;
    within = s.within;
    status = s.status;
  };
  place = record { pc = omega (arith, p.pc, gi.even, gi.ends); saved = λ t. p.saved refl; known = tt };
  silent = refl;
}

pub takes_address-on : (f : Src) → IsLoad f → (g : GuardAt) (b : Bounds) (kb : ℕ) (m r : List ℕ) → IsGuardAt g → AreBounds b → Limits m b.low b.top → IsSteady kb b.low b.top r → IsContext (words r) → IsAtOwn TakesAddress g b kb r
    → GoesTo AddsIndex g b kb (does m (words r) (instr.Two Mov Wide f (dst.Reg 4)) 1)
takes_address-on (src.Reg n) l = takes_register-on n
takes_address-on (src.Const k) l = takes_constant-on k
takes_address-on (src.Indexed n x) l = absurd l
takes_address-on (src.Symbolic x) l = absurd l
takes_address-on (src.Absolute x) l = absurd l
takes_address-on (src.Indirect n) l = absurd l
takes_address-on (src.AutoInc n) l = absurd l
takes_address-on (src.Immediate x) l = absurd l

pub adds_index-on : (g : GuardAt) (b : Bounds) (kb : ℕ) (m r : List ℕ) → IsGuardAt g → AreBounds b → Limits m b.low b.top → IsSteady kb b.low b.top r → IsContext (words r) → IsAtOwn AddsIndex g b kb r
    → GoesTo ComparesLow g b kb (does m (words r) (instr.Two Add Wide (src.Immediate g.x) (dst.Reg 4)) 2)
unfolding does two set_reg source_value after_source place_to value_in put_context put_pairs alu added
adds_index-on g b kb m r gi bi li s k p = record {
  steady = record {
    context = set-context _ 4 _ (set-context _ 2 _ (set-context _ 0 _ k (omega arith)) (with_flags-small _ _ _ _ _ (k.small 2))) (omega arith);
    room = s.room;
    within = s.within;
    status = status-with_flags kb _ _ _ _ _ s.status;
  };
  place = record {
    pc = omega (arith, p.pc, gi.even, gi.ends);
    saved = λ t. p.saved refl;
    known = tt;
  };
  silent = refl;
}

pub compares_low-on : (g : GuardAt) (b : Bounds) (kb : ℕ) (m r : List ℕ) → IsGuardAt g → AreBounds b → Limits m b.low b.top → IsSteady kb b.low b.top r → IsContext (words r) → IsAtOwn ComparesLow g b kb r
    → GoesTo JumpsIfLow g b kb (does m (words r) (instr.Two Cmp Wide (src.Immediate b.lo) (dst.Reg 4)) 2)
unfolding does two set_reg source_value after_source place_to value_in put_context put_pairs alu added
compares_low-on g b kb m r gi bi li s k p = record {
  steady = flags-steady kb b.low b.top _ _ r s k (omega arith) (status-with_flags kb _ _ _ _ _ s.status) (with_flags-small _ _ _ _ _ (k.small 2));
  place = record {
    pc = omega (arith, p.pc, gi.even, gi.ends);
    saved = λ t. p.saved refl;
    known = λ t. omega (arith, at_least _ _ (omega arith) (sym (carry-with_flags _ _ _ _ _) ∙ t), k.small 4, bi.lo_word);
  };
  silent = refl;
}

pub jumps_if_low-on : (g : GuardAt) (b : Bounds) (kb : ℕ) (m r : List ℕ) → IsGuardAt g → AreBounds b → Limits m b.low b.top → IsSteady kb b.low b.top r → IsContext (words r) → IsAtOwn JumpsIfLow g b kb r
    → GoesTo StoreFails g b kb (does m (words r) (instr.Jump Nc (pos 3)) 1) ⊎ GoesTo ComparesHigh g b kb (does m (words r) (instr.Jump Nc (pos 3)) 1)
unfolding set_reg
jumps_if_low-on g b kb m r gi bi li s k p = elim (cases_Bool (carry (reg r 2))) [
  | inl t ↦ inr (subst (GoesTo ComparesHigh g b kb) (sym (jump-passed Nc (pos 3) m (words r) 1 (ap not t)))
      (goes ComparesHigh g b kb r _ gi.even (omega (arith, p.pc, gi.ends)) (omega arith) s k (p.saved refl) (p.known t)))
  | inr f ↦ inl (subst (GoesTo StoreFails g b kb) (sym (jump-taken Nc (pos 3) m (words r) 1 (ap not f)))
      (goes StoreFails g b kb r _ gi.even (omega (arith, p.pc, gi.ends)) (omega arith) s k (p.saved refl) tt))
]

pub compares_high-on : (g : GuardAt) (b : Bounds) (kb : ℕ) (m r : List ℕ) → IsGuardAt g → AreBounds b → Limits m b.low b.top → IsSteady kb b.low b.top r → IsContext (words r) → IsAtOwn ComparesHigh g b kb r
    → GoesTo JumpsIfHigh g b kb (does m (words r) (instr.Two Cmp Wide (src.Immediate b.hi) (dst.Reg 4)) 2)
unfolding does two set_reg source_value after_source place_to value_in put_context put_pairs alu added
compares_high-on g b kb m r gi bi li s k p = record {
  steady = flags-steady kb b.low b.top _ _ r s k (omega arith) (status-with_flags kb _ _ _ _ _ s.status) (with_flags-small _ _ _ _ _ (k.small 2));
  place = record {
    pc = omega (arith, p.pc, gi.even, gi.ends);
    saved = λ t. p.saved refl;
    known = (p.known, λ t. omega (arith, below _ _ (omega arith) (sym (carry-with_flags _ _ _ _ _) ∙ t), k.small 4, bi.hi_word));
  };
  silent = refl;
}

pub jumps_if_high-on : (g : GuardAt) (b : Bounds) (kb : ℕ) (m r : List ℕ) → IsGuardAt g → AreBounds b → Limits m b.low b.top → IsSteady kb b.low b.top r → IsContext (words r) → IsAtOwn JumpsIfHigh g b kb r
    → GoesTo StoreFails g b kb (does m (words r) (instr.Jump Nc (pos 2)) 1) ⊎ GoesTo StoreRestores g b kb (does m (words r) (instr.Jump Nc (pos 2)) 1)
unfolding set_reg
jumps_if_high-on g b kb m r gi bi li s k p = elim (cases_Bool (carry (reg r 2))) [
  | inl t ↦ inl (subst (GoesTo StoreFails g b kb) (sym (jump-passed Nc (pos 2) m (words r) 1 (ap not t)))
      (goes StoreFails g b kb r _ gi.even (omega (arith, p.pc, gi.ends)) (omega arith) s k (p.saved refl) tt))
  | inr f ↦ inr (subst (GoesTo StoreRestores g b kb) (sym (jump-taken Nc (pos 2) m (words r) 1 (ap not f)))
      (goes StoreRestores g b kb r _ gi.even (omega (arith, p.pc, gi.ends)) (omega arith) s k (p.saved refl) (p.known.0, p.known.1 f)))
]

pub store_fails-on : (g : GuardAt) (b : Bounds) (kb : ℕ) (m r : List ℕ) → IsGuardAt g → AreBounds b → Limits m b.low b.top → IsSteady kb b.low b.top r → IsContext (words r) → IsAtOwn StoreFails g b kb r
    → Faults STORE_FAULT b kb (does m (words r) (instr.Two Mov Wide (src.Immediate STORE_FAULT) (dst.Reg 0)) 2)
store_fails-on g b kb m r gi bi li s k p = fails STORE_FAULT b kb m r refl (omega arith) s k

pub store_restores-on : (g : GuardAt) (b : Bounds) (kb : ℕ) (m r : List ℕ) → IsGuardAt g → AreBounds b → Limits m b.low b.top → IsSteady kb b.low b.top r → IsContext (words r) → IsAtOwn StoreRestores g b kb r
    → GoesTo Stores g b kb (does m (words r) (instr.Two Mov Wide (src.Reg 5) (dst.Reg 2)) 1)
unfolding does two set_reg source_value after_source place_to value_in put_context put_pairs alu added
store_restores-on g b kb m r gi bi li s k p = restores StoreRestores Stores g b kb m r refl refl refl (omega arith) gi s k p p.known
