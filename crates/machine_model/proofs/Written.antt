-- An instruction writes at most two bytes.
use Rattle.std.proofs.Common.{ℕ, ◌≤◌, Bool, true, false, if◌then◌else◌, List, [], length, arith}
use Rattle.msp_encode.specs.declared.instr.Width.{Width}
use Rattle.msp_encode.specs.declared.instr.Width.TheVariants.{Wide, Byte}
use Rattle.msp_encode.specs.declared.instr.Op1.TheVariants.{Rrc, Swpb, Rra, Sxt, Push, Call}
use Rattle.msp_encode.specs.declared.instr.Instr.{Instr}
use Rattle.msp_encode.specs.declared.instr.Instr.TheVariants as instr
use Rattle.msp_encode.specs.Forms.{writes}
use Rattle.machine_model.specs.declared.place.Place.{Place}
use Rattle.machine_model.specs.declared.place.Place.TheVariants.{InReg, At}
use Rattle.machine_model.specs.Operands.{stored, put_pairs}
use Rattle.machine_model.specs.Does.{does, two, change, push, call, one, reti, jump}

stored-few : (w : Width) (a v : ℕ) → length (stored w a v) ≤ 2
stored-few Wide a v = omega arith
stored-few Byte a v = omega arith

put_pairs-few : (w : Width) (p : Place) (v : ℕ) → length (put_pairs w p v) ≤ 2
unfolding put_pairs
put_pairs-few w (InReg n) v = omega arith
put_pairs-few w (At a) v = stored-few w a v

chosen-few : (b : Bool) (ps : List (ℕ × ℕ)) → length ps ≤ 2 → length (if b then ps else []) ≤ 2
chosen-few true ps h = h
chosen-few false ps h = omega arith

pub few_written : (m r : List ℕ) (i : Instr) (n : ℕ) → length (does m r i n).written ≤ 2
unfolding does two change push call one reti jump
few_written m r (instr.Two op w s d) n = chosen-few (writes op) _ (put_pairs-few w _ _)
few_written m r (instr.One Push Wide s) n = omega arith
few_written m r (instr.One Push Byte s) n = omega arith
few_written m r (instr.One Call w s) n = omega arith
few_written m r (instr.One Rrc w s) n = put_pairs-few w _ _
few_written m r (instr.One Swpb w s) n = put_pairs-few w _ _
few_written m r (instr.One Rra w s) n = put_pairs-few w _ _
few_written m r (instr.One Sxt w s) n = put_pairs-few w _ _
few_written m r instr.Reti n = omega arith
few_written m r (instr.Jump c k) n = omega arith
