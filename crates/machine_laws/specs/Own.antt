-- One step at a guard's own instructions.
use Rattle.std.specs.Prelude.{◌≡◌, ℕ, ◌+◌, ◌*◌, ◌%◌, ◌<◌, ◌≤◌, ◌⊎◌, List, [], true, pos}
use Rattle.machine_model.specs.Context.{reg, IsContext}
use Rattle.machine_model.specs.Does.{does, Effect}
use Rattle.msp_encode.specs.declared.registers.TheConstants.{PC, SP, SR, CHECKED, KEPT_STATUS}
use Rattle.msp_encode.specs.declared.instr.Width.TheVariants.{Wide}
use Rattle.msp_encode.specs.declared.instr.Op2.TheVariants.{Mov, Add, Cmp}
use Rattle.msp_encode.specs.declared.instr.Src.{Src}
use Rattle.msp_encode.specs.declared.instr.Src.TheVariants as src
use Rattle.msp_encode.specs.declared.instr.Dst.TheVariants as dst
use Rattle.msp_encode.specs.declared.instr.Cond.TheVariants.{Ne, Nc, C}
use Rattle.msp_encode.specs.declared.instr.Instr.{Instr}
use Rattle.msp_encode.specs.declared.instr.Instr.TheVariants as instr
use Rattle.machine_laws.specs.Steady.{IsStatus, IsSteady, Bounds, AreBounds, Limits}
use Rattle.machine_laws.specs.Places.{GuardPlace, TakesAddress, AddsIndex, ComparesLow, JumpsIfLow, ComparesHigh, JumpsIfHigh, StoreFails, StoreRestores, Stores, ComparesLimit, JumpsIfRoom, GrowthFails, GrowthRestores, Grows, ComparesTop, JumpsIfFilled, PopFails, PopRestores, Pops, ComparesNewLow, JumpsIfNewLow, ComparesNewHigh, JumpsIfNewHigh, SpFails, SpRestores, SetsSp, place_offset, keeps_status, place_fact}
use Rattle.kernel_model.specs.declared.map.TheConstants.{STACK_LIMIT, STACK_TOP}
use Rattle.kernel_model.specs.declared.entries.TheConstants.{STACK_FAULT, STORE_FAULT}

-- a guard in memory: the address of its first word, and the source and the index of a store guard
pub record GuardAt : Type 0 where
  pub at : ℕ
  pub from : Src
  pub x : ℕ

-- a source that a store guard takes its address from: a register or a constant
abbrev pub IsLoad : Src → Type 0
IsLoad (src.Reg n) = n < 16
IsLoad (src.Const k) = Unit {0}
IsLoad _ = ⊥

pub record IsGuardAt (g : GuardAt) : Type 0 where
  pub even : g.at % 2 ≡ 0
  pub ends : g.at + 32 < 65536
  pub load : IsLoad g.from

-- the instruction at a place of a guard, and its number of words. The guarded instruction is none of the guard's own.
abbrev pub IsOwn : GuardPlace → GuardAt → Bounds → Instr → ℕ → Type 0
IsOwn TakesAddress g b i n = (i ≡ instr.Two Mov Wide g.from (dst.Reg CHECKED)) × (n ≡ 1)
IsOwn AddsIndex g b i n = (i ≡ instr.Two Add Wide (src.Immediate g.x) (dst.Reg CHECKED)) × (n ≡ 2)
IsOwn ComparesLow g b i n = (i ≡ instr.Two Cmp Wide (src.Immediate b.lo) (dst.Reg CHECKED)) × (n ≡ 2)
IsOwn JumpsIfLow g b i n = (i ≡ instr.Jump Nc (pos 3)) × (n ≡ 1)
IsOwn ComparesHigh g b i n = (i ≡ instr.Two Cmp Wide (src.Immediate b.hi) (dst.Reg CHECKED)) × (n ≡ 2)
IsOwn JumpsIfHigh g b i n = (i ≡ instr.Jump Nc (pos 2)) × (n ≡ 1)
IsOwn StoreFails g b i n = (i ≡ instr.Two Mov Wide (src.Immediate STORE_FAULT) (dst.Reg PC)) × (n ≡ 2)
IsOwn StoreRestores g b i n = (i ≡ instr.Two Mov Wide (src.Reg KEPT_STATUS) (dst.Reg SR)) × (n ≡ 1)
IsOwn ComparesLimit g b i n = (i ≡ instr.Two Cmp Wide (src.Absolute STACK_LIMIT) (dst.Reg SP)) × (n ≡ 2)
IsOwn JumpsIfRoom g b i n = (i ≡ instr.Jump C (pos 2)) × (n ≡ 1)
IsOwn GrowthFails g b i n = (i ≡ instr.Two Mov Wide (src.Immediate STACK_FAULT) (dst.Reg PC)) × (n ≡ 2)
IsOwn GrowthRestores g b i n = (i ≡ instr.Two Mov Wide (src.Reg KEPT_STATUS) (dst.Reg SR)) × (n ≡ 1)
IsOwn ComparesTop g b i n = (i ≡ instr.Two Cmp Wide (src.Reg SP) (dst.Absolute STACK_TOP)) × (n ≡ 2)
IsOwn JumpsIfFilled g b i n = (i ≡ instr.Jump Ne (pos 2)) × (n ≡ 1)
IsOwn PopFails g b i n = (i ≡ instr.Two Mov Wide (src.Immediate STACK_FAULT) (dst.Reg PC)) × (n ≡ 2)
IsOwn PopRestores g b i n = (i ≡ instr.Two Mov Wide (src.Reg KEPT_STATUS) (dst.Reg SR)) × (n ≡ 1)
IsOwn ComparesNewLow g b i n = (i ≡ instr.Two Cmp Wide (src.Absolute STACK_LIMIT) (dst.Reg CHECKED)) × (n ≡ 2)
IsOwn JumpsIfNewLow g b i n = (i ≡ instr.Jump Nc (pos 3)) × (n ≡ 1)
IsOwn ComparesNewHigh g b i n = (i ≡ instr.Two Cmp Wide (src.Reg CHECKED) (dst.Absolute STACK_TOP)) × (n ≡ 2)
IsOwn JumpsIfNewHigh g b i n = (i ≡ instr.Jump C (pos 2)) × (n ≡ 1)
IsOwn SpFails g b i n = (i ≡ instr.Two Mov Wide (src.Immediate STACK_FAULT) (dst.Reg PC)) × (n ≡ 2)
IsOwn SpRestores g b i n = (i ≡ instr.Two Mov Wide (src.Reg KEPT_STATUS) (dst.Reg SR)) × (n ≡ 1)
IsOwn _ g b i n = ⊥

-- the context stands at a place of the guard, and what is to be known there is so
pub record IsAtOwn (p : GuardPlace) (g : GuardAt) (b : Bounds) (kb : ℕ) (r : List ℕ) : Type 0 where
  pub pc : reg r PC ≡ g.at + 2 * place_offset p
  pub saved : keeps_status p ≡ true → IsStatus kb (reg r KEPT_STATUS)
  pub known : place_fact p b r

-- a step leads to the place q, and writes nothing
pub record GoesTo (q : GuardPlace) (g : GuardAt) (b : Bounds) (kb : ℕ) (e : Effect) : Type 0 where
  pub steady : IsSteady kb b.low b.top e.context
  pub place : IsAtOwn q g b kb e.context
  pub silent : e.written ≡ []

-- a step leads to the entry for faults, and writes nothing
pub record Faults (entry : ℕ) (b : Bounds) (kb : ℕ) (e : Effect) : Type 0 where
  pub steady : IsSteady kb b.low b.top e.context
  pub entry_is : reg e.context PC ≡ entry
  pub silent : e.written ≡ []

-- where the step at a place leads. The guarded instructions are left to laws of their own.
abbrev pub Next : GuardPlace → GuardAt → Bounds → ℕ → Effect → Type 0
Next TakesAddress g b kb e = GoesTo AddsIndex g b kb e
Next AddsIndex g b kb e = GoesTo ComparesLow g b kb e
Next ComparesLow g b kb e = GoesTo JumpsIfLow g b kb e
Next JumpsIfLow g b kb e = GoesTo StoreFails g b kb e ⊎ GoesTo ComparesHigh g b kb e
Next ComparesHigh g b kb e = GoesTo JumpsIfHigh g b kb e
Next JumpsIfHigh g b kb e = GoesTo StoreFails g b kb e ⊎ GoesTo StoreRestores g b kb e
Next StoreFails g b kb e = Faults STORE_FAULT b kb e
Next StoreRestores g b kb e = GoesTo Stores g b kb e
Next ComparesLimit g b kb e = GoesTo JumpsIfRoom g b kb e
Next JumpsIfRoom g b kb e = GoesTo GrowthFails g b kb e ⊎ GoesTo GrowthRestores g b kb e
Next GrowthFails g b kb e = Faults STACK_FAULT b kb e
Next GrowthRestores g b kb e = GoesTo Grows g b kb e
Next ComparesTop g b kb e = GoesTo JumpsIfFilled g b kb e
Next JumpsIfFilled g b kb e = GoesTo PopFails g b kb e ⊎ GoesTo PopRestores g b kb e
Next PopFails g b kb e = Faults STACK_FAULT b kb e
Next PopRestores g b kb e = GoesTo Pops g b kb e
Next ComparesNewLow g b kb e = GoesTo JumpsIfNewLow g b kb e
Next JumpsIfNewLow g b kb e = GoesTo SpFails g b kb e ⊎ GoesTo ComparesNewHigh g b kb e
Next ComparesNewHigh g b kb e = GoesTo JumpsIfNewHigh g b kb e
Next JumpsIfNewHigh g b kb e = GoesTo SpFails g b kb e ⊎ GoesTo SpRestores g b kb e
Next SpFails g b kb e = Faults STACK_FAULT b kb e
Next SpRestores g b kb e = GoesTo SetsSp g b kb e
Next _ g b kb e = Unit {0}

-- the address was taken from a register and is still that register's value, or is about to be
abbrev pub TakesFrom : GuardPlace → GuardAt → ℕ → List ℕ → Type 0
TakesFrom TakesAddress g k r = g.from ≡ src.Reg k
TakesFrom AddsIndex g k r = (g.x ≡ 0) × (reg r CHECKED ≡ reg r k)
TakesFrom ComparesLow g k r = reg r CHECKED ≡ reg r k
TakesFrom JumpsIfLow g k r = reg r CHECKED ≡ reg r k
TakesFrom ComparesHigh g k r = reg r CHECKED ≡ reg r k
TakesFrom JumpsIfHigh g k r = reg r CHECKED ≡ reg r k
TakesFrom StoreRestores g k r = reg r CHECKED ≡ reg r k
TakesFrom _ g k r = ⊥

-- a step of the guard keeps it so
abbrev pub SameLaw : Type 0
SameLaw = (p : GuardPlace) (g : GuardAt) (b : Bounds) (m r : List ℕ) (i : Instr) (n k : ℕ) → IsContext r → IsOwn p g b i n → 6 ≤ k → k < 16
    → TakesFrom p g k r → reg (does m r i n).context CHECKED ≡ reg (does m r i n).context k

-- one step from a place at which what is to be known is so
abbrev pub OwnLaw : Type 0
OwnLaw = (p : GuardPlace) (g : GuardAt) (b : Bounds) (kb : ℕ) (m r : List ℕ) (i : Instr) (n : ℕ)
    → IsGuardAt g → AreBounds b → Limits m b.low b.top → IsSteady kb b.low b.top r → IsAtOwn p g b kb r → IsOwn p g b i n → Next p g b kb (does m r i n)
