-- An operation leaves a status one.
use Rattle.std.proofs.Common.{ℕ, ◌<◌}
use Rattle.machine_model.specs.Alu.{alu, alu_one, added, logical}
use Rattle.msp_encode.specs.declared.instr.Width.{Width}
use Rattle.msp_encode.specs.declared.instr.Op2.{Op2}
use Rattle.msp_encode.specs.declared.instr.Op2.TheVariants.{Mov, Add, Addc, Subc, Sub, Cmp, Dadd, Bit, Bic, Bis, Xor, And}
use Rattle.msp_encode.specs.declared.instr.Op1.{Op1}
use Rattle.msp_encode.specs.declared.instr.Op1.TheVariants.{Rrc, Swpb, Rra, Sxt, Push, Call}
use Rattle.machine_model.proofs.Values.{status-small, one-status-small}
use Rattle.machine_laws.specs.Steady.{IsStatus}
use Rattle.machine_laws.proofs.Flags.{status-with_flags}

alu-keeps : (op : Op2) (w : Width) (s d sr kb : ℕ) → IsStatus kb sr → IsStatus kb (alu op w s d sr).status
unfolding alu added logical
alu-keeps Mov w s d sr kb h = h
alu-keeps Bic w s d sr kb h = h
alu-keeps Bis w s d sr kb h = h
alu-keeps Add w s d sr kb h = status-with_flags kb sr _ _ _ _ h
alu-keeps Addc w s d sr kb h = status-with_flags kb sr _ _ _ _ h
alu-keeps Sub w s d sr kb h = status-with_flags kb sr _ _ _ _ h
alu-keeps Cmp w s d sr kb h = status-with_flags kb sr _ _ _ _ h
alu-keeps Subc w s d sr kb h = status-with_flags kb sr _ _ _ _ h
alu-keeps Dadd w s d sr kb h = status-with_flags kb sr _ _ _ _ h
alu-keeps And w s d sr kb h = status-with_flags kb sr _ _ _ _ h
alu-keeps Bit w s d sr kb h = status-with_flags kb sr _ _ _ _ h
alu-keeps Xor w s d sr kb h = status-with_flags kb sr _ _ _ _ h

one-keeps : (op : Op1) (w : Width) (v sr kb : ℕ) → IsStatus kb sr → IsStatus kb (alu_one op w v sr).status
unfolding alu_one logical
one-keeps Rrc w v sr kb h = status-with_flags kb sr _ _ _ _ h
one-keeps Rra w v sr kb h = status-with_flags kb sr _ _ _ _ h
one-keeps Swpb w v sr kb h = h
one-keeps Sxt w v sr kb h = status-with_flags kb sr _ _ _ _ h
one-keeps Push w v sr kb h = h
one-keeps Call w v sr kb h = h

-- so the context with it stays steady
pub alu-status : (op : Op2) (w : Width) (s d sr kb : ℕ) → IsStatus kb sr → sr < 65536 → IsStatus kb (alu op w s d sr).status × ((alu op w s d sr).status < 65536)
alu-status op w s d sr kb h k = (alu-keeps op w s d sr kb h, status-small op w s d sr k)

pub one-status : (op : Op1) (w : Width) (v sr kb : ℕ) → IsStatus kb sr → sr < 65536 → IsStatus kb (alu_one op w v sr).status × ((alu_one op w v sr).status < 65536)
one-status op w v sr kb h k = (one-keeps op w v sr kb h, one-status-small op w v sr k)
