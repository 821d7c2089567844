-- The tests of an instruction's parts tell its conditions.
use Rattle.std.proofs.Common.{◌≡◌, ◌≢◌, ◌↔◌, ℕ, ◌<◌, ◌==◌, not, nat_lt, true, ◌&&◌, arith, refl}
use Rattle.std.proofs.lemmas.Bool.Decides.{nat_tests}
use Rattle.msp_encode.specs.declared.registers.TheConstants.{CONSTANTS}
use Rattle.msp_encode.specs.declared.instr.Op1.{Op1}
use Rattle.msp_encode.specs.declared.instr.Op1.TheVariants as op1
use Rattle.msp_encode.specs.declared.instr.Width.{Width}
use Rattle.msp_encode.specs.declared.instr.Width.TheVariants.{Wide, Byte}
use Rattle.msp_encode.specs.declared.instr.Src.{Src}
use Rattle.msp_encode.specs.declared.instr.Src.TheVariants as src
use Rattle.msp_encode.specs.declared.instr.Dst.{Dst}
use Rattle.msp_encode.specs.declared.instr.Dst.TheVariants as dst
use Rattle.msp_encode.specs.Spelling.{SrcFits, DstFits, TakesWidth, Takes, TakesConst, TakesImmediate, IsBase}
use Rattle.msp_encode.specs.Legality.{is_base, src_fits, dst_fits, takes_width, takes_constant, takes_immediate, takes}
use Rattle.msp_encode.specs.Laws.{TestsTell}

base-told : (r : ℕ) → (is_base r ≡ true) ↔ ((r < 16) × IsBase r)
base-told r = (λ h. grind (arith, nat_tests), λ h. grind (arith, nat_tests))

register-told : (r : ℕ) → ((nat_lt r 16 && not (r == CONSTANTS)) ≡ true) ↔ ((r < 16) × (r ≢ 3))
register-told r = (λ h. grind (arith, nat_tests), λ h. grind (arith, nat_tests))

below-told : (r : ℕ) → (nat_lt r 16 ≡ true) ↔ (r < 16)
below-told r = (λ h. grind (arith, nat_tests), λ h. grind (arith, nat_tests))

source-told : (s : Src) → (src_fits s ≡ true) ↔ SrcFits s
source-told (src.Reg r) = register-told r
source-told (src.Indexed r x) = base-told r
source-told (src.Symbolic x) = (λ h. tt, λ h. refl)
source-told (src.Absolute x) = (λ h. tt, λ h. refl)
source-told (src.Indirect r) = base-told r
source-told (src.AutoInc r) = base-told r
source-told (src.Immediate x) = (λ h. tt, λ h. refl)
source-told (src.Const c) = (λ h. tt, λ h. refl)

destination-told : (d : Dst) → (dst_fits d ≡ true) ↔ DstFits d
destination-told (dst.Reg r) = below-told r
destination-told (dst.Indexed r x) = base-told r
destination-told (dst.Symbolic x) = (λ h. tt, λ h. refl)
destination-told (dst.Absolute x) = (λ h. tt, λ h. refl)

width-told : (op : Op1) (w : Width) → (takes_width op w ≡ true) ↔ TakesWidth op w
width-told op Wide = (λ h. tt, λ h. refl)
width-told op1.Rrc Byte = (λ h. tt, λ h. refl)
width-told op1.Swpb Byte = (λ h. absurd cc, λ h. absurd h)
width-told op1.Rra Byte = (λ h. tt, λ h. refl)
width-told op1.Sxt Byte = (λ h. absurd cc, λ h. absurd h)
width-told op1.Push Byte = (λ h. tt, λ h. refl)
width-told op1.Call Byte = (λ h. absurd cc, λ h. absurd h)

constant-told : (op : Op1) → (takes_constant op ≡ true) ↔ TakesConst op
constant-told op1.Push = (λ h. tt, λ h. refl)
constant-told op1.Rrc = (λ h. absurd cc, λ h. absurd h)
constant-told op1.Swpb = (λ h. absurd cc, λ h. absurd h)
constant-told op1.Rra = (λ h. absurd cc, λ h. absurd h)
constant-told op1.Sxt = (λ h. absurd cc, λ h. absurd h)
constant-told op1.Call = (λ h. absurd cc, λ h. absurd h)

immediate-told : (op : Op1) → (takes_immediate op ≡ true) ↔ TakesImmediate op
immediate-told op1.Push = (λ h. tt, λ h. refl)
immediate-told op1.Call = (λ h. tt, λ h. refl)
immediate-told op1.Rrc = (λ h. absurd cc, λ h. absurd h)
immediate-told op1.Swpb = (λ h. absurd cc, λ h. absurd h)
immediate-told op1.Rra = (λ h. absurd cc, λ h. absurd h)
immediate-told op1.Sxt = (λ h. absurd cc, λ h. absurd h)

mode-told : (op : Op1) (s : Src) → (takes op s ≡ true) ↔ Takes op s
mode-told op (src.Reg r) = (λ h. tt, λ h. refl)
mode-told op (src.Indexed r x) = (λ h. tt, λ h. refl)
mode-told op (src.Symbolic x) = (λ h. tt, λ h. refl)
mode-told op (src.Absolute x) = (λ h. tt, λ h. refl)
mode-told op (src.Indirect r) = (λ h. tt, λ h. refl)
mode-told op (src.AutoInc r) = (λ h. tt, λ h. refl)
mode-told op (src.Immediate x) = immediate-told op
mode-told op (src.Const c) = constant-told op

pub tests-tell : TestsTell
tests-tell = record { source = source-told; destination = destination-told; width = width-told; mode = mode-told }
