-- The guarded instruction at a unit's end.
use Rattle.std.specs.Prelude.{◌≡◌, ◌≢◌, ℕ, ◌+◌, ◌-◌, ◌*◌, ◌%◌, ◌<◌, ◌≤◌, true, List}
use Rattle.machine_model.specs.Context.{reg, set_reg, IsContext}
use Rattle.machine_model.specs.Operands.{sum_of}
use Rattle.machine_model.specs.Does.{does}
use Rattle.machine_model.specs.Fetching.{IsFetched}
use Rattle.msp_encode.specs.declared.registers.TheConstants.{PC, SR, CHECKED}
use Rattle.msp_encode.specs.declared.instr.Width.{Width}
use Rattle.msp_encode.specs.declared.instr.Op1.{Op1}
use Rattle.msp_encode.specs.declared.instr.Op2.{Op2}
use Rattle.msp_encode.specs.declared.instr.Src.{Src}
use Rattle.msp_encode.specs.declared.instr.Src.TheVariants as src
use Rattle.msp_encode.specs.declared.instr.Dst.{Dst}
use Rattle.msp_encode.specs.declared.instr.Dst.TheVariants as dst
use Rattle.msp_encode.specs.declared.instr.Instr.{Instr}
use Rattle.msp_encode.specs.declared.instr.Instr.TheVariants as instr
use Rattle.msp_encode.specs.Forms.{changes}
use Rattle.unit_laws.specs.Running.{IsInside, RunsUnit}
use Rattle.unit_laws.specs.Frame.{SrcAvoids, InstrAvoids, spread, spread_effect}
use Rattle.unit_laws.specs.Guards.{Passes}

-- where a guard passes, an instruction behind it that leads out of the unit ends it, with all but R4 and R5 as it would be without
-- the guard
abbrev pub GuardedLaw : Type 0
GuardedLaw = (m r : List ℕ) (first past steps next x : ℕ) (i : Instr) (n : ℕ) → IsContext r → next % 2 ≡ 0 → Passes m r first past steps next x → InstrAvoids i → IsFetched m next i n
    → (IsInside first past (reg (does m (set_reg r PC next) i n).context PC) → ⊥) → RunsUnit m first past r (spread_effect (does m (set_reg r PC next) i n) x (reg r SR))

-- a destination at x behind a register, or at the address x, with n 3
abbrev pub IsCell : Dst → (n x : ℕ) → Type 0
IsCell (dst.Reg j) n x = ⊥
IsCell (dst.Indexed j z) n x = (n ≡ j) × (x ≡ z)
IsCell (dst.Symbolic z) n x = ⊥
IsCell (dst.Absolute z) n x = (n ≡ 3) × (x ≡ z)

-- the source steps a register
abbrev pub Steps : Src → ℕ → Type 0
Steps (src.Reg j) n = ⊥
Steps (src.Indexed j z) n = ⊥
Steps (src.Symbolic z) n = ⊥
Steps (src.Absolute z) n = ⊥
Steps (src.Indirect j) n = ⊥
Steps (src.AutoInc j) n = j ≡ n
Steps (src.Immediate z) n = ⊥
Steps (src.Const k) n = ⊥

-- `op src,z(R4)` does what `op src,x(Rn)` does, where both name one address, but for R4 and R5
abbrev pub ThroughLaw : Type 0
ThroughLaw = (m r : List ℕ) (op : Op2) (w : Width) (s : Src) (d : Dst) (k n x z v y : ℕ) → IsContext r → SrcAvoids s → IsCell d n x → n ≢ 0 → x < 65536 → (Steps s n → ⊥)
    → sum_of z v ≡ sum_of x (reg r n) → does m (spread r v y) (instr.Two op w s (dst.Indexed CHECKED z)) k ≡ spread_effect (does m r (instr.Two op w s d) k) v y

-- an operand of one-operand operations at x behind a register, or at the address x, with n 3
abbrev pub IsCellOperand : Src → (n x : ℕ) → Type 0
IsCellOperand (src.Reg j) n x = ⊥
IsCellOperand (src.Indexed j z) n x = (n ≡ j) × (x ≡ z)
IsCellOperand (src.Symbolic z) n x = ⊥
IsCellOperand (src.Absolute z) n x = (n ≡ 3) × (x ≡ z)
IsCellOperand (src.Indirect j) n x = (n ≡ j) × (x ≡ 0)
IsCellOperand (src.AutoInc j) n x = ⊥
IsCellOperand (src.Immediate z) n x = ⊥
IsCellOperand (src.Const k) n x = ⊥

-- RRC, RRA, SWPB or SXT on @R4 does what it does on the cell whose address R4 has, but for R4 and R5, where both end at the same
-- place
abbrev pub AtR4Law : Type 0
AtR4Law = (m r : List ℕ) (op : Op1) (w : Width) (s : Src) (pc k n x y : ℕ) → IsContext r → changes op ≡ true → IsCellOperand s n x → n ≢ 0 → x < 65536 → pc % 2 ≡ 0 → 1 ≤ k → pc + 2 * k < 65536
    → does m (spread (set_reg r PC (pc + (2 * k - 2))) (sum_of x (reg r n)) y) (instr.One op w (src.Indirect CHECKED)) 1 ≡ spread_effect (does m (set_reg r PC pc) (instr.One op w s) k) (sum_of x (reg r n)) y
