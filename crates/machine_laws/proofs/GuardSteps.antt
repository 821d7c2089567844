-- Steps that several guards have: to the entry for a failed check, the status put back, and new flags.
use Rattle.std.proofs.Common.{◌≡◌, ℕ, ◌+◌, ◌%◌, ◌<◌, ◌≤◌, true, false, List, refl, sym, ◌∙◌, arith}
use Rattle.std.proofs.lemmas.Bool.{false≢true}
use Rattle.machine_model.specs.Context.{set_reg, IsContext}
use Rattle.machine_model.specs.Operands.{source_value, after_source, place_to, value_in, put_context, put_pairs}
use Rattle.machine_model.specs.Alu.{alu}
use Rattle.machine_model.specs.Does.{does, two}
use Rattle.msp_encode.specs.declared.instr.Width.TheVariants.{Wide}
use Rattle.msp_encode.specs.declared.instr.Op2.TheVariants.{Mov}
use Rattle.msp_encode.specs.declared.instr.Src.TheVariants as src
use Rattle.msp_encode.specs.declared.instr.Dst.TheVariants as dst
use Rattle.msp_encode.specs.declared.instr.Instr.TheVariants as instr
use Rattle.machine_laws.specs.Steady.{IsStatus, IsSteady, Bounds}
use Rattle.machine_laws.specs.Places.{GuardPlace, place_offset, keeps_status, place_fact}
use Rattle.machine_laws.specs.Own.{GuardAt, IsGuardAt, IsAtOwn, GoesTo, Faults}
use Rattle.machine_model.proofs.Contexts.{words, set-context}

-- PC and SR are set, and nothing else
pub flags-steady : (kb low top a sr : ℕ) (r : List ℕ) → IsSteady kb low top r → IsContext (words r) → a < 65536 → IsStatus kb sr → sr < 65536
    → IsSteady kb low top (set_reg (set_reg (words r) 0 a) 2 sr)
unfolding set_reg
flags-steady kb low top a sr r s k h status small = record {
  context = set-context _ 2 _ (set-context _ 0 _ k h) small;
  room = s.room;
  within = s.within;
  status = status;
}

-- a failed check leads to its entry
pub fails : (entry : ℕ) (b : Bounds) (kb : ℕ) (m r : List ℕ) → entry % 2 ≡ 0 → entry < 65536 → IsSteady kb b.low b.top r → IsContext (words r)
    → Faults entry b kb (does m (words r) (instr.Two Mov Wide (src.Immediate entry) (dst.Reg 0)) 2)
unfolding does two set_reg source_value after_source place_to value_in put_context put_pairs alu
fails entry b kb m r even small s k = record {
  steady = record {
    context = set-context (words r) 0 (entry % 65536) k (omega arith);
    room = s.room;
    within = s.within;
    status = s.status;
  };
  entry_is = omega arith;
  silent = refl;
}

-- the saved status is put back, where a guard's own instructions end
pub restores : (p q : GuardPlace) (g : GuardAt) (b : Bounds) (kb : ℕ) (m r : List ℕ) → keeps_status p ≡ true → keeps_status q ≡ false → place_offset q ≡ place_offset p + 1 → place_offset q ≤ 13
    → IsGuardAt g → IsSteady kb b.low b.top r → IsContext (words r) → IsAtOwn p g b kb r → place_fact q b (does m (words r) (instr.Two Mov Wide (src.Reg 5) (dst.Reg 2)) 1).context
    → GoesTo q g b kb (does m (words r) (instr.Two Mov Wide (src.Reg 5) (dst.Reg 2)) 1)
unfolding does two set_reg source_value after_source place_to value_in put_context put_pairs alu
restores p q g b kb m r keeps ends next last gi s k is known = record {
  steady = record {
    context = set-context _ 2 _ (set-context _ 2 _ (set-context _ 0 _ k (omega arith)) (k.small 2)) (omega arith);
    room = s.room;
    within = s.within;
    status = record { high = omega (arith, (is.saved keeps).high); control = omega (arith, (is.saved keeps).control, k.small 5) };
  };
  place = record {
    pc = omega (arith, is.pc, gi.even, gi.ends);
    saved = λ t. absurd (false≢true (sym ends ∙ t));
    known = known;
  };
  silent = refl;
}
