-- The places of the four guards, and what is known at each.
use Rattle.std.specs.Prelude.{◌≡◌, ◌≢◌, ℕ, ◌+◌, ◌<◌, ◌≤◌, Bool, true, false, List}
use Rattle.msp_encode.specs.declared.registers.TheConstants.{SP, SR, CHECKED}
use Rattle.machine_model.specs.Context.{reg}
use Rattle.machine_model.specs.Status.{carry, is_zero}
use Rattle.machine_laws.specs.Steady.{Bounds}

-- A place is named by what is done there. A guard's first word saves the status, and is no place of this table.
pub data GuardPlace : Type 0 where
  -- the store guard: 4n04, 5034, 9034 LO, 2803, 9034 HI, 2802, 4030 F000, 4502, and the guarded instruction
  TakesAddress : GuardPlace
  AddsIndex : GuardPlace
  ComparesLow : GuardPlace
  JumpsIfLow : GuardPlace
  ComparesHigh : GuardPlace
  JumpsIfHigh : GuardPlace
  StoreFails : GuardPlace
  StoreRestores : GuardPlace
  Stores : GuardPlace
  -- the growth guard: 9211, 2C02, 4030 F002, 4502, and the guarded instruction
  ComparesLimit : GuardPlace
  JumpsIfRoom : GuardPlace
  GrowthFails : GuardPlace
  GrowthRestores : GuardPlace
  Grows : GuardPlace
  -- the pop guard: 9182, 2002, 4030 F002, 4502, and the guarded instruction
  ComparesTop : GuardPlace
  JumpsIfFilled : GuardPlace
  PopFails : GuardPlace
  PopRestores : GuardPlace
  Pops : GuardPlace
  -- the SP guard: 9214, 2803, 9482, 2C02, 4030 F002, 4502, and 4401
  ComparesNewLow : GuardPlace
  JumpsIfNewLow : GuardPlace
  ComparesNewHigh : GuardPlace
  JumpsIfNewHigh : GuardPlace
  SpFails : GuardPlace
  SpRestores : GuardPlace
  SetsSp : GuardPlace

-- how many words after the guard's first
abbrev pub place_offset : GuardPlace → ℕ
place_offset TakesAddress = 1
place_offset AddsIndex = 2
place_offset ComparesLow = 4
place_offset JumpsIfLow = 6
place_offset ComparesHigh = 7
place_offset JumpsIfHigh = 9
place_offset StoreFails = 10
place_offset StoreRestores = 12
place_offset Stores = 13
place_offset ComparesLimit = 1
place_offset JumpsIfRoom = 3
place_offset GrowthFails = 4
place_offset GrowthRestores = 6
place_offset Grows = 7
place_offset ComparesTop = 1
place_offset JumpsIfFilled = 3
place_offset PopFails = 4
place_offset PopRestores = 6
place_offset Pops = 7
place_offset ComparesNewLow = 1
place_offset JumpsIfNewLow = 3
place_offset ComparesNewHigh = 4
place_offset JumpsIfNewHigh = 6
place_offset SpFails = 7
place_offset SpRestores = 9
place_offset SetsSp = 10

-- R5 has the saved status up to where it is put back
abbrev pub keeps_status : GuardPlace → Bool
keeps_status Stores = false
keeps_status Grows = false
keeps_status Pops = false
keeps_status SetsSp = false
keeps_status _ = true

abbrev pub is_carry : List ℕ → Bool
is_carry r = carry (reg r SR)

-- what is known of R4, SP and the flags
abbrev pub place_fact : GuardPlace → Bounds → List ℕ → Type 0
place_fact JumpsIfLow b r = is_carry r ≡ true → b.lo ≤ reg r CHECKED
place_fact ComparesHigh b r = b.lo ≤ reg r CHECKED
place_fact JumpsIfHigh b r = (b.lo ≤ reg r CHECKED) × (is_carry r ≡ false → reg r CHECKED < b.hi)
place_fact StoreRestores b r = (b.lo ≤ reg r CHECKED) × (reg r CHECKED < b.hi)
place_fact Stores b r = (b.lo ≤ reg r CHECKED) × (reg r CHECKED < b.hi)
place_fact JumpsIfRoom b r = is_carry r ≡ true → b.low + 6 ≤ reg r SP
place_fact GrowthRestores b r = b.low + 6 ≤ reg r SP
place_fact Grows b r = b.low + 6 ≤ reg r SP
place_fact JumpsIfFilled b r = is_zero (reg r SR) ≡ false → reg r SP ≢ b.top
place_fact PopRestores b r = reg r SP ≢ b.top
place_fact Pops b r = reg r SP ≢ b.top
place_fact JumpsIfNewLow b r = is_carry r ≡ true → b.low + 6 ≤ reg r CHECKED
place_fact ComparesNewHigh b r = b.low + 6 ≤ reg r CHECKED
place_fact JumpsIfNewHigh b r = (b.low + 6 ≤ reg r CHECKED) × (is_carry r ≡ true → reg r CHECKED ≤ b.top)
place_fact SpRestores b r = (b.low + 6 ≤ reg r CHECKED) × (reg r CHECKED ≤ b.top)
place_fact SetsSp b r = (b.low + 6 ≤ reg r CHECKED) × (reg r CHECKED ≤ b.top)
place_fact _ b r = Unit {0}
