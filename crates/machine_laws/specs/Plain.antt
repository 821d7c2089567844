-- One step at an instruction that needs no guard.
use Rattle.std.specs.Prelude.{◌≡◌, ℕ, ◌+◌, ◌*◌, ◌/◌, ◌%◌, ◌<◌, ◌≤◌, List, [], false, true, ℤ}
use Rattle.machine_model.specs.Memory.{IsMemory}
use Rattle.machine_model.specs.Context.{reg}
use Rattle.machine_model.specs.Does.{does, holds, target, Effect}
use Rattle.msp_encode.specs.declared.registers.TheConstants.{PC, SR, KEPT_STATUS}
use Rattle.msp_encode.specs.declared.instr.Width.{Width}
use Rattle.msp_encode.specs.declared.instr.Width.TheVariants.{Wide}
use Rattle.msp_encode.specs.declared.instr.Op2.{Op2}
use Rattle.msp_encode.specs.declared.instr.Op2.TheVariants.{Mov, Bic, Bis}
use Rattle.msp_encode.specs.declared.instr.Op1.{Op1}
use Rattle.msp_encode.specs.declared.instr.Cg.{Cg}
use Rattle.msp_encode.specs.declared.instr.Cond.{Cond}
use Rattle.msp_encode.specs.declared.instr.Src.{Src}
use Rattle.msp_encode.specs.declared.instr.Src.TheVariants as src
use Rattle.msp_encode.specs.declared.instr.Dst.TheVariants as dst
use Rattle.msp_encode.specs.declared.instr.Dst.{Dst}
use Rattle.msp_encode.specs.declared.instr.Instr.{Instr}
use Rattle.msp_encode.specs.declared.instr.Instr.TheVariants as instr
use Rattle.msp_encode.specs.Forms.{writes, changes, const_value}
use Rattle.machine_laws.specs.Steady.{IsSteady, Bounds, AreBounds}
use Rattle.machine_laws.specs.Guarded.{Passes}

-- a source that doesn't move SP
abbrev pub IsCalm : Src → Type 0
IsCalm (src.AutoInc n) = (3 < n) × (n < 16)
IsCalm _ = Unit {0}

-- no bit outside 0107
abbrev pub IsMask : ℕ → Type 0
IsMask c = (c / 512 ≡ 0) × (c / 8 % 32 ≡ 0)

-- an instruction that isn't dangerous, by what it writes: nothing, a register other than PC, SP and SR, an absolute word in [lo,
-- hi), or flags
pub data Plain (lo hi : ℕ) : Instr → Type 0 where
  Tests : (op : Op2) (w : Width) (s : Src) (d : Dst) → writes op ≡ false → IsCalm s → Plain lo hi (instr.Two op w s d)
  ToReg : (op : Op2) (w : Width) (s : Src) (n : ℕ) → writes op ≡ true → IsCalm s → 3 ≤ n → n < 16 → Plain lo hi (instr.Two op w s (dst.Reg n))
  ToData : (op : Op2) (w : Width) (s : Src) (x : ℕ) → writes op ≡ true → IsCalm s → lo ≤ x → x < hi → Plain lo hi (instr.Two op w s (dst.Absolute x))
  SetsBits : (x : ℕ) → IsMask x → Plain lo hi (instr.Two Bis Wide (src.Immediate x) (dst.Reg SR))
  ClearsBits : (x : ℕ) → IsMask x → Plain lo hi (instr.Two Bic Wide (src.Immediate x) (dst.Reg SR))
  SetsConst : (k : Cg) → IsMask (const_value k) → Plain lo hi (instr.Two Bis Wide (src.Const k) (dst.Reg SR))
  ClearsConst : (k : Cg) → IsMask (const_value k) → Plain lo hi (instr.Two Bic Wide (src.Const k) (dst.Reg SR))
  ChangesReg : (op : Op1) (w : Width) (n : ℕ) → changes op ≡ true → 3 ≤ n → n < 16 → Plain lo hi (instr.One op w (src.Reg n))
  ChangesData : (op : Op1) (w : Width) (x : ℕ) → changes op ≡ true → lo ≤ x → x < hi → Plain lo hi (instr.One op w (src.Absolute x))

abbrev pub PlainLaw : Type 0
PlainLaw = (b : Bounds) (kb : ℕ) (m r : List ℕ) (i : Instr) (n : ℕ) → AreBounds b → IsMemory m → IsSteady kb b.low b.top r → reg r PC + 2 * n < 65536
    → Plain b.lo b.hi i → Passes b.lo b.hi b kb (reg r PC + 2 * n) (does m r i n)

-- PC is at an address, and nothing was written
pub record Goes (a : ℕ) (b : Bounds) (kb : ℕ) (e : Effect) : Type 0 where
  pub steady : IsSteady kb b.low b.top e.context
  pub pc : reg e.context PC ≡ a
  pub silent : e.written ≡ []

-- `MOV #x,PC`
abbrev pub BranchLaw : Type 0
BranchLaw = (b : Bounds) (kb : ℕ) (m r : List ℕ) (x n : ℕ) → IsSteady kb b.low b.top r → x % 2 ≡ 0 → x < 65536
    → Goes x b kb (does m r (instr.Two Mov Wide (src.Immediate x) (dst.Reg PC)) n)

-- a jump passes where its condition doesn't hold, and else is taken
pub data Jumps (c : Cond) (k : ℤ) (b : Bounds) (kb : ℕ) (r : List ℕ) (e : Effect) : Type 0 where
  Passed : holds c (reg r SR) ≡ false → Goes (reg r PC + 2) b kb e → Jumps c k b kb r e
  Taken : Goes (target (reg r PC) k) b kb e → Jumps c k b kb r e

abbrev pub JumpLaw : Type 0
JumpLaw = (b : Bounds) (kb : ℕ) (m r : List ℕ) (c : Cond) (k : ℤ) (n : ℕ) → IsSteady kb b.low b.top r → reg r PC + 2 < 65536
    → Jumps c k b kb r (does m r (instr.Jump c k) n)

-- `MOV SR,R5` saves the status
pub record Saves (b : Bounds) (kb next : ℕ) (r : List ℕ) (e : Effect) : Type 0 where
  pub steady : IsSteady kb b.low b.top e.context
  pub pc : reg e.context PC ≡ next
  pub saved : reg e.context KEPT_STATUS ≡ reg r SR
  pub silent : e.written ≡ []

abbrev pub SaveLaw : Type 0
SaveLaw = (b : Bounds) (kb : ℕ) (m r : List ℕ) (n : ℕ) → IsSteady kb b.low b.top r → reg r PC + 2 * n < 65536
    → Saves b kb (reg r PC + 2 * n) r (does m r (instr.Two Mov Wide (src.Reg SR) (dst.Reg KEPT_STATUS)) n)
