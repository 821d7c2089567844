-- One step at a guarded instruction.
use Rattle.std.specs.Prelude.{◌≡◌, ◌≢◌, ℕ, ◌+◌, ◌*◌, ◌%◌, ◌<◌, ◌≤◌, List, true}
use Rattle.std.specs.List.{AllByRecursion}
use Rattle.machine_model.specs.Memory.{IsMemory}
use Rattle.machine_model.specs.Context.{reg}
use Rattle.machine_model.specs.Does.{does, Effect}
use Rattle.msp_encode.specs.declared.registers.TheConstants.{PC, SP, CHECKED}
use Rattle.msp_encode.specs.declared.instr.Width.{Width}
use Rattle.msp_encode.specs.declared.instr.Width.TheVariants.{Wide}
use Rattle.msp_encode.specs.declared.instr.Op2.TheVariants.{Mov}
use Rattle.msp_encode.specs.declared.instr.Op1.TheVariants.{Push, Call}
use Rattle.msp_encode.specs.declared.instr.Src.{Src}
use Rattle.msp_encode.specs.declared.instr.Src.TheVariants as src
use Rattle.msp_encode.specs.declared.instr.Dst.TheVariants as dst
use Rattle.msp_encode.specs.declared.instr.Instr.{Instr}
use Rattle.msp_encode.specs.declared.instr.Instr.TheVariants as instr
use Rattle.msp_encode.specs.Forms.{writes, changes}
use Rattle.machine_laws.specs.Steady.{IsSteady, Bounds, AreBounds}

-- a source that moves neither SP nor R4
abbrev pub StepsHigh : Src → Type 0
StepsHigh (src.AutoInc n) = (4 < n) × (n < 16)
StepsHigh _ = Unit {0}

-- what a guard of stores guards: a write to @R4, or to x(R4) where x is at most so many bytes
abbrev pub IsStore : ℕ → Instr → Type 0
IsStore most (instr.Two op w s (dst.Indexed n x)) = (writes op ≡ true) × (n ≡ 4) × (x ≤ most) × StepsHigh s
IsStore most (instr.One op w (src.Indirect n)) = (changes op ≡ true) × (n ≡ 4)
IsStore most _ = ⊥

-- PC is at an address, and what was written lies in [from, to)
pub record Passes (from to : ℕ) (b : Bounds) (kb next : ℕ) (e : Effect) : Type 0 where
  pub steady : IsSteady kb b.low b.top e.context
  pub pc : reg e.context PC ≡ next
  pub inside : AllByRecursion (λ w. (from ≤ w.0) × (w.0 < to)) e.written

-- a store whose address was tested writes in the region
abbrev pub StoreLaw : Type 0
StoreLaw = (b : Bounds) (kb most : ℕ) (m r : List ℕ) (i : Instr) (n : ℕ) → AreBounds b → IsSteady kb b.low b.top r → reg r PC + 2 * n < 65536
    → IsStore most i → b.lo ≤ reg r CHECKED → reg r CHECKED + most < b.hi → Passes b.lo b.hi b kb (reg r PC + 2 * n) (does m r i n)

-- and leaves the address that was tested
abbrev pub StoreLeavesLaw : Type 0
StoreLeavesLaw = (most : ℕ) (m r : List ℕ) (i : Instr) (n : ℕ) → IsStore most i → reg (does m r i n).context CHECKED ≡ reg r CHECKED

-- a push where there is room for six bytes writes in the stack
abbrev pub PushLaw : Type 0
PushLaw = (b : Bounds) (kb : ℕ) (m r : List ℕ) (w : Width) (s : Src) (n : ℕ) → IsSteady kb b.low b.top r → reg r PC + 2 * n < 65536
    → StepsHigh s → b.low + 6 ≤ reg r SP → Passes b.low b.top b kb (reg r PC + 2 * n) (does m r (instr.One Push w s) n)

-- a call leaves its return address on the stack
pub record Calls (x : ℕ) (b : Bounds) (kb : ℕ) (e : Effect) : Type 0 where
  pub done : Passes b.low b.top b kb x e
  pub pushed : reg e.context SP + 2 ≤ b.top

abbrev pub CallLaw : Type 0
CallLaw = (b : Bounds) (kb : ℕ) (m r : List ℕ) (w : Width) (x n : ℕ) → IsSteady kb b.low b.top r
    → x % 2 ≡ 0 → x < 65536 → b.low + 6 ≤ reg r SP → Calls x b kb (does m r (instr.One Call w (src.Immediate x)) n)

-- a pop where SP isn't at the stack's top
abbrev pub PopLaw : Type 0
PopLaw = (b : Bounds) (kb : ℕ) (m r : List ℕ) (d n : ℕ) → IsMemory m → b.top % 2 ≡ 0 → b.top < 65536 → IsSteady kb b.low b.top r → reg r PC + 2 * n < 65536
    → 4 ≤ d → d < 16 → reg r SP ≢ b.top → Passes b.low b.top b kb (reg r PC + 2 * n) (does m r (instr.Two Mov Wide (src.AutoInc SP) (dst.Reg d)) n)

-- SP set from a tested R4
abbrev pub SpLaw : Type 0
SpLaw = (b : Bounds) (kb : ℕ) (m r : List ℕ) (n : ℕ) → b.low % 2 ≡ 0 → IsSteady kb b.low b.top r → reg r PC + 2 * n < 65536
    → b.low + 6 ≤ reg r CHECKED → reg r CHECKED ≤ b.top → Passes b.low b.top b kb (reg r PC + 2 * n) (does m r (instr.Two Mov Wide (src.Reg CHECKED) (dst.Reg SP)) n)
