-- What one instruction does.
use Rattle.std.specs.Prelude.{ℕ, ◌+◌, ◌-◌, ◌*◌, ◌≤◌, List, [], Bool, true, not, if◌then◌else◌, ℤ, pos, negsuc, ◌≤ℤ◌}
use Rattle.machine_model.specs.Memory.{word_at, put_all}
use Rattle.machine_model.specs.Context.{reg, set_reg}
use Rattle.machine_model.specs.Status.{carry, is_zero, negative, overflow}
use Rattle.machine_model.specs.Operands.{sum_of, source_value, after_source, place_to, place_of, value_in, put_context, put_pairs, stored, NamesRegisters, NamesRegister}
use Rattle.machine_model.specs.Alu.{alu, alu_one}
use Rattle.msp_encode.specs.declared.registers.TheConstants.{PC, SP, SR}
use Rattle.msp_encode.specs.declared.instr.Width.{Width}
use Rattle.msp_encode.specs.declared.instr.Width.TheVariants.{Wide}
use Rattle.msp_encode.specs.declared.instr.Op2.{Op2}
use Rattle.msp_encode.specs.declared.instr.Op1.{Op1}
use Rattle.msp_encode.specs.declared.instr.Op1.TheVariants.{Rrc, Swpb, Rra, Sxt, Push, Call}
use Rattle.msp_encode.specs.declared.instr.Src.{Src}
use Rattle.msp_encode.specs.declared.instr.Dst.{Dst}
use Rattle.msp_encode.specs.declared.instr.Cond.{Cond}
use Rattle.msp_encode.specs.declared.instr.Cond.TheVariants.{Ne, Eq, Nc, C, N, Ge, L, Always}
use Rattle.msp_encode.specs.declared.instr.Instr.{Instr}
use Rattle.msp_encode.specs.declared.instr.Instr.TheVariants as instr
use Rattle.msp_encode.specs.Forms.{writes}

-- the context after an instruction, and the bytes that it wrote
pub record Effect : Type 0 where
  pub context : List ℕ
  pub written : List (ℕ × ℕ)

-- memory after it
abbrev pub memory_after : List ℕ → Effect → List ℕ
memory_after m e = put_all m e.written

-- PC past the n words of the instruction
abbrev pub passed : List ℕ → ℕ → List ℕ
passed r n = set_reg r PC (sum_of (reg r PC) (2 * n))

-- an operation of two operands
unfoldable pub two : Op2 → Width → Src → Dst → ℕ → List ℕ → List ℕ → Effect
two op w s d n m r =
    let pc = reg r PC in
    let r1 = passed r n in
    let v = source_value w s (sum_of pc 2) m r1 in
    let r2 = after_source w s r1 in
    let p = place_to d (sum_of pc (2 * n - 2)) r2 in
    let o = alu op w v (value_in w p m r2) (reg r2 SR) in
    let r3 = set_reg r2 SR o.status in
    record {
      context = if writes op then put_context p o.value r3 else r3;
      written = if writes op then put_pairs w p o.value else [];
    }

-- SP lowered by two
abbrev pub lowered : List ℕ → List ℕ
lowered r = set_reg r SP (sum_of (reg r SP) 65534)

abbrev pub raised : List ℕ → List ℕ
raised r = set_reg r SP (sum_of (reg r SP) 2)

-- an operation of one operand that writes it
unfoldable pub change : Op1 → Width → Src → ℕ → List ℕ → List ℕ → Effect
change op w s n m r =
    let pc = reg r PC in
    let r1 = passed r n in
    let v = source_value w s (sum_of pc 2) m r1 in
    let p = place_of s (sum_of pc 2) r1 in
    let r2 = after_source w s r1 in
    let o = alu_one op w v (reg r2 SR) in
    record {
      context = put_context p o.value (set_reg r2 SR o.status);
      written = put_pairs w p o.value;
    }

unfoldable pub push : Width → Src → ℕ → List ℕ → List ℕ → Effect
push w s n m r =
    let r1 = passed r n in
    let v = source_value w s (sum_of (reg r PC) 2) m r1 in
    let r2 = lowered (after_source w s r1) in
    record { context = r2; written = stored w (reg r2 SP) v }

unfoldable pub call : Src → ℕ → List ℕ → List ℕ → Effect
call s n m r =
    let r1 = passed r n in
    let v = source_value Wide s (sum_of (reg r PC) 2) m r1 in
    let r2 = lowered (after_source Wide s r1) in
    record { context = set_reg r2 PC v; written = stored Wide (reg r2 SP) (reg r2 PC) }

unfoldable pub one : Op1 → Width → Src → ℕ → List ℕ → List ℕ → Effect
one Push w s n m r = push w s n m r
one Call w s n m r = call s n m r
one Rrc w s n m r = change Rrc w s n m r
one Swpb w s n m r = change Swpb w s n m r
one Rra w s n m r = change Rra w s n m r
one Sxt w s n m r = change Sxt w s n m r

unfoldable pub reti : List ℕ → List ℕ → Effect
reti m r =
    let sp = reg r SP in
    let r1 = raised (set_reg r SR (word_at m sp)) in
    record { context = raised (set_reg r1 PC (word_at m (reg r1 SP))); written = [] }

abbrev pub holds : Cond → ℕ → Bool
holds Ne sr = not (is_zero sr)
holds Eq sr = is_zero sr
holds Nc sr = not (carry sr)
holds C sr = carry sr
holds N sr = negative sr
holds Ge sr = if negative sr then overflow sr else not (overflow sr)
holds L sr = if negative sr then not (overflow sr) else overflow sr
holds Always sr = true

-- the address that a jump at pc names
abbrev pub target : ℕ → ℤ → ℕ
target pc (pos k) = sum_of pc (2 + 2 * k)
target pc (negsuc k) = sum_of pc (65536 - 2 * k)

unfoldable pub jump : Cond → ℤ → List ℕ → Effect
jump c k r =
    record {
      context = set_reg r PC (if holds c (reg r SR) then target (reg r PC) k else sum_of (reg r PC) 2);
      written = [];
    }

unfoldable pub does : List ℕ → List ℕ → Instr → ℕ → Effect
does m r (instr.Two op w s d) n = two op w s d n m r
does m r (instr.One op w s) n = one op w s n m r
does m r instr.Reti n = reti m r
does m r (instr.Jump c k) n = jump c k r

-- what the instruction's form and its length give to a call
abbrev pub FormOk : Instr → Type 0
FormOk (instr.Two op w s d) = NamesRegisters s × NamesRegister d
FormOk (instr.One op w s) = NamesRegisters s
FormOk instr.Reti = Unit {0}
FormOk (instr.Jump c k) = (negsuc 511 ≤ℤ k) × (k ≤ℤ pos 511)

pub record ExecArgs (i : Instr) (n : ℕ) : Type 0 where
  pub form : FormOk i
  pub some : 1 ≤ n
  pub few : n ≤ 3
