-- Contexts that are safe for a domain.
use Rattle.std.specs.Prelude.{◌≡◌, ℕ, ◌+◌, ◌-◌, ◌≤◌, List, true}
use Rattle.msp_encode.specs.declared.registers.TheConstants.{PC, SP, CHECKED, KEPT_STATUS}
use Rattle.msp_encode.specs.declared.instr.Src.TheVariants as src
use Rattle.msp_encode.specs.declared.instr.Dst.TheVariants as dst
use Rattle.msp_encode.specs.declared.instr.Instr.{Instr}
use Rattle.msp_encode.specs.declared.instr.Instr.TheVariants as instr
use Rattle.machine_model.specs.Context.{reg}
use Rattle.code_model.specs.declared.guards.GuardKind.{GuardKind}
use Rattle.code_model.specs.declared.guards.GuardKind.TheVariants as guard
use Rattle.code_model.specs.Guards.{Guarded, UnitStart, reach_bytes}
use Rattle.code_model.specs.Rules.{IsJumpEntry, IsCallEntry}
use Rattle.machine_laws.specs.Steady.{IsStatus, IsSteady, Bounds}
use Rattle.machine_laws.specs.Places.{GuardPlace, TakesAddress, AddsIndex, ComparesLow, JumpsIfLow, ComparesHigh, JumpsIfHigh, StoreFails, StoreRestores, Stores, ComparesLimit, JumpsIfRoom, GrowthFails, GrowthRestores, Grows, ComparesTop, JumpsIfFilled, PopFails, PopRestores, Pops, ComparesNewLow, JumpsIfNewLow, ComparesNewHigh, JumpsIfNewHigh, SpFails, SpRestores, SetsSp, place_offset, keeps_status, place_fact}
use Rattle.load_model.specs.Domains.{Domain}
use Rattle.node_model.specs.Placed.{bits, address}

-- the guard that a place is of, where the store guard stands for each that keeps an address in the region
abbrev pub guard_of : GuardPlace → GuardKind
guard_of TakesAddress = guard.Store
guard_of AddsIndex = guard.Store
guard_of ComparesLow = guard.Store
guard_of JumpsIfLow = guard.Store
guard_of ComparesHigh = guard.Store
guard_of JumpsIfHigh = guard.Store
guard_of StoreFails = guard.Store
guard_of StoreRestores = guard.Store
guard_of Stores = guard.Store
guard_of ComparesLimit = guard.Growth
guard_of JumpsIfRoom = guard.Growth
guard_of GrowthFails = guard.Growth
guard_of GrowthRestores = guard.Growth
guard_of Grows = guard.Growth
guard_of ComparesTop = guard.Pop
guard_of JumpsIfFilled = guard.Pop
guard_of PopFails = guard.Pop
guard_of PopRestores = guard.Pop
guard_of Pops = guard.Pop
guard_of ComparesNewLow = guard.Sp
guard_of JumpsIfNewLow = guard.Sp
guard_of ComparesNewHigh = guard.Sp
guard_of JumpsIfNewHigh = guard.Sp
guard_of SpFails = guard.Sp
guard_of SpRestores = guard.Sp
guard_of SetsSp = guard.Sp

-- the guards that keep an address in the region
abbrev pub KeepsRegion : GuardKind → Type 0
KeepsRegion guard.Store = Unit {0}
KeepsRegion (guard.Wide r) = Unit {0}
KeepsRegion guard.Load = Unit {0}
KeepsRegion _ = ⊥

-- a kind of guard, and the one that stands for it at places
abbrev pub IsOf : GuardKind → GuardKind → Type 0
IsOf k guard.Store = KeepsRegion k
IsOf k guard.Growth = k ≡ guard.Growth
IsOf k guard.Pop = k ≡ guard.Pop
IsOf k guard.Sp = k ≡ guard.Sp
IsOf k _ = ⊥

-- a place among a guard's words, or an instruction that it serves
abbrev pub place_at : GuardPlace → (first guarded : ℕ) → ℕ
place_at Stores first guarded = guarded
place_at Grows first guarded = guarded
place_at Pops first guarded = guarded
place_at SetsSp first guarded = guarded
place_at p first guarded = first + place_offset p

-- the end of the addresses that a guard lets pass: a wide one leaves room for what its stores add
abbrev pub kept_end : GuardKind → ℕ → ℕ
kept_end (guard.Wide r) hi = hi - reach_bytes r
kept_end _ hi = hi

abbrev pub kept_bounds : GuardKind → Bounds → Bounds
kept_bounds k b = record { lo = b.lo; hi = kept_end k b.hi; low = b.low; top = b.top }

-- the register that an instruction reads through and steps, where it writes a register or an absolute operand
abbrev pub Steps : Instr → ℕ → Type 0
Steps (instr.Two op w (src.AutoInc n) (dst.Reg k)) r = n ≡ r
Steps (instr.Two op w (src.AutoInc n) (dst.Absolute x)) r = n ≡ r
Steps _ r = ⊥

-- from the place on at which the address was taken, but where the guard fails
abbrev pub HasAddress : GuardPlace → Type 0
HasAddress AddsIndex = Unit {0}
HasAddress ComparesLow = Unit {0}
HasAddress JumpsIfLow = Unit {0}
HasAddress ComparesHigh = Unit {0}
HasAddress JumpsIfHigh = Unit {0}
HasAddress StoreRestores = Unit {0}
HasAddress Stores = Unit {0}
HasAddress _ = ⊥

-- the context stands at a place of a guard of the object's code, and what is to be known there is so
pub record IsAtPlace (d : Domain) (b : Bounds) (c : List ℕ) (p : GuardPlace) : Type 0 where
  pub guarded : ℕ
  pub kind : GuardKind
  pub of : IsOf kind (guard_of p)
  pub by : Guarded d.object guarded kind
  pub pc : reg c PC ≡ address d (place_at p by.first guarded)
  pub saved : keeps_status p ≡ true → IsStatus (bits d) (reg c KEPT_STATUS)
  pub known : place_fact p (kept_bounds kind b) c
  pub same : (r : ℕ) → kind ≡ guard.Load → HasAddress p → Steps by.instr r → reg c CHECKED ≡ reg c r

-- a unit start, an interior place, an entry that a branch may name, or one that a call may name, with a word pushed
pub data IsSomewhere (d : Domain) (b : Bounds) (c : List ℕ) : Type 0 where
  AtUnit : (at : ℕ) → UnitStart d.object at → reg c PC ≡ address d at → IsSomewhere d b c
  Within : (p : GuardPlace) → IsAtPlace d b c p → IsSomewhere d b c
  Jumped : IsJumpEntry d.object.kind (reg c PC) → IsSomewhere d b c
  Called : IsCallEntry d.object.kind (reg c PC) → reg c SP + 2 ≤ b.top → IsSomewhere d b c

-- the bounds of a domain with the stack [low, top)
abbrev pub bounds : Domain → (low top : ℕ) → Bounds
bounds d low top = record { lo = d.lo; hi = d.hi; low = low; top = top }

-- a context is safe for a domain that runs on the stack [low, top)
pub record IsGood (d : Domain) (low top : ℕ) (c : List ℕ) : Type 0 where
  pub steady : IsSteady (bits d) low top c
  pub somewhere : IsSomewhere d (bounds d low top) c
