-- A step of accepted code.
use Rattle.std.specs.Prelude.{◌≡◌, ℕ, ◌+◌, ◌<◌, ◌≤◌, ◌⊎◌, List}
use Rattle.std.specs.List.{AllByRecursion}
use Rattle.msp_encode.specs.declared.registers.TheConstants.{PC, SP}
use Rattle.msp_encode.specs.declared.instr.Instr.{Instr}
use Rattle.machine_model.specs.Context.{reg}
use Rattle.machine_model.specs.Does.{does, Effect}
use Rattle.machine_model.specs.Fetching.{IsFetched}
use Rattle.code_model.specs.Starts.{Stands, Start}
use Rattle.code_model.specs.Guards.{UnitStart}
use Rattle.code_model.specs.Rules.{IsPushOrCall, ReadsStack, IsJumpEntry, IsCallEntry}
use Rattle.code_model.specs.declared.guards.GuardKind.{GuardKind}
use Rattle.machine_laws.specs.Steady.{IsSteady, Limits}
use Rattle.machine_laws.specs.Places.{GuardPlace}
use Rattle.load_model.specs.Domains.{Domain}
use Rattle.node_model.specs.Placed.{bits, StandsIn, address}
use Rattle.node_model.specs.Good.{IsGood, IsAtPlace, guard_of, bounds}
use Rattle.kernel_model.specs.declared.entries.TheConstants.{FIRST_ENTRY}

-- in the region or in the stack
abbrev pub Inside : Domain → (low top : ℕ) → ℕ × ℕ → Type 0
Inside d low top w = ((d.lo ≤ w.0) × (w.0 < d.hi)) ⊎ ((low ≤ w.0) × (w.0 < top))

-- the context behind a step is safe, and all that was written lies inside
pub record Leads (d : Domain) (low top : ℕ) (e : Effect) : Type 0 where
  pub good : IsGood d low top e.context
  pub inside : AllByRecursion (Inside d low top) e.written

-- the step at a place of this guard, and for the store guard of each that keeps an address in the region
abbrev pub GuardLaw : GuardKind → Type 0
GuardLaw g = (d : Domain) (low top : ℕ) (m c : List ℕ) (p : GuardPlace) (i : Instr) (n : ℕ) → guard_of p ≡ g → StandsIn d m → Limits m low top
    → IsSteady (bits d) low top c → IsAtPlace d (bounds d low top) c p → IsFetched m (reg c PC) i n → Leads d low top (does m c i n)

-- the step at a unit start
abbrev pub UnitLaw : Type 0
UnitLaw = (d : Domain) (low top : ℕ) (m c : List ℕ) (at : ℕ) (i : Instr) (n : ℕ) → StandsIn d m
    → IsSteady (bits d) low top c → UnitStart d.object at → reg c PC ≡ address d at → IsFetched m (reg c PC) i n → Leads d low top (does m c i n)

-- a step of accepted code, from a safe context that isn't at an entry
abbrev pub InstructionLaw : Type 0
InstructionLaw = (d : Domain) (low top : ℕ) (m c : List ℕ) (i : Instr) (n : ℕ) → StandsIn d m → Limits m low top
    → IsGood d low top c → reg c PC < FIRST_ENTRY → IsFetched m (reg c PC) i n → Leads d low top (does m c i n)

-- what an instruction pushes lies in the stack, and what it pops lay there
pub record StaysInStack (low top : ℕ) (c : List ℕ) (i : Instr) (e : Effect) : Type 0 where
  pub pushed : IsPushOrCall i → AllByRecursion (λ w. (low ≤ w.0) × (w.0 < top)) e.written
  pub popped : ReadsStack i → (low ≤ reg c SP) × (reg c SP + 2 ≤ top)

abbrev pub StackLaw : Type 0
StackLaw = (d : Domain) (low top : ℕ) (m c : List ℕ) (i : Instr) (n : ℕ) → StandsIn d m → Limits m low top
    → IsGood d low top c → reg c PC < FIRST_ENTRY → IsFetched m (reg c PC) i n → StaysInStack low top c i (does m c i n)

-- a safe context at or above F000 stands at an entry, and where a call may name it a word is on the stack
abbrev pub AtEntryLaw : Type 0
AtEntryLaw = (d : Domain) (low top : ℕ) (m c : List ℕ) → StandsIn d m → IsGood d low top c → FIRST_ENTRY ≤ reg c PC
    → IsJumpEntry d.object.kind (reg c PC) ⊎ (IsCallEntry d.object.kind (reg c PC) × (reg c SP + 2 ≤ top))

-- where the stack is a part of the region, all writes lie in the region
abbrev pub RegionLaw : Type 0
RegionLaw = (d : Domain) (low top : ℕ) (ws : List (ℕ × ℕ)) → d.lo ≤ low → top ≤ d.hi
    → AllByRecursion (Inside d low top) ws → AllByRecursion (λ w. (d.lo ≤ w.0) × (w.0 < d.hi)) ws

-- the place of the step: an instruction of the object starts there, and one of as many words is fetched
pub record StepsAt (d : Domain) (m c : List ℕ) : Type 0 where
  pub at : ℕ
  pub start : Start d.object.code at
  pub pc : reg c PC ≡ address d at
  pub source : Instr
  pub words : ℕ
  pub stands : Stands d.object.code at source words
  pub instr : Instr
  pub fetched : IsFetched m (reg c PC) instr words

-- a safe context that isn't at an entry stands at a start
abbrev pub FetchLaw : Type 0
FetchLaw = (d : Domain) (low top : ℕ) (m c : List ℕ) → StandsIn d m → IsGood d low top c → reg c PC < FIRST_ENTRY → StepsAt d m c
