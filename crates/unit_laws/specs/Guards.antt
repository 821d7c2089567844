-- Where a run of a guard ends.
use Rattle.std.specs.Prelude.{◌≡◌, ◌≢◌, ℕ, ◌+◌, ◌*◌, ◌<◌, ◌≤◌, ◌⊎◌, List, [], ◌∷◌, length}
use Rattle.machine_model.specs.Memory.{word_at, IsMemory}
use Rattle.machine_model.specs.Context.{reg, IsContext}
use Rattle.machine_model.specs.Operands.{sum_of}
use Rattle.machine_model.specs.Status.{Flags, with_flags}
use Rattle.unit_laws.specs.Running.{held, silent, Runs, RunsUnit}
use Rattle.unit_laws.specs.Lines.{IsIndexed}
use Rattle.kernel_model.specs.declared.map.TheConstants.{STACK_LIMIT, STACK_TOP}
use Rattle.kernel_model.specs.declared.entries.TheConstants.{FIRST_ENTRY, STACK_FAULT, STORE_FAULT}
use Rattle.msp_encode.specs.declared.registers.TheConstants.{PC, SP, SR, CHECKED}

-- ---- the guards' words

-- 4205, 4n04, 5034 x, 9034 lo, 2803, 9034 hi, 2802, 4030 F000, 4502
abbrev pub store_words : (n x lo hi : ℕ) → List ℕ
store_words n x lo hi = 0x4205 ∷ (0x4004 + 256 * n) ∷ 0x5034 ∷ x ∷ 0x9034 ∷ lo ∷ 0x2803 ∷ 0x9034 ∷ hi ∷ 0x2802 ∷ 0x4030 ∷ STORE_FAULT ∷ 0x4502 ∷ []

-- 4205, 9211 0200, 2C02, 4030 F002, 4502
abbrev pub growth_words : List ℕ
growth_words = 0x4205 ∷ 0x9211 ∷ STACK_LIMIT ∷ 0x2C02 ∷ 0x4030 ∷ STACK_FAULT ∷ 0x4502 ∷ []

-- 4205, 9182 0202, 2002, 4030 F002, 4502
abbrev pub pop_words : List ℕ
pop_words = 0x4205 ∷ 0x9182 ∷ STACK_TOP ∷ 0x2002 ∷ 0x4030 ∷ STACK_FAULT ∷ 0x4502 ∷ []

-- 4205, 9214 0200, 2803, 9482 0202, 2C02, 4030 F002, 4502
abbrev pub sp_words : List ℕ
sp_words = 0x4205 ∷ 0x9214 ∷ STACK_LIMIT ∷ 0x2803 ∷ 0x9482 ∷ STACK_TOP ∷ 0x2C02 ∷ 0x4030 ∷ STACK_FAULT ∷ 0x4502 ∷ []

-- words lie in memory from k bytes behind an address on
abbrev pub WordsAt : List ℕ → (at k : ℕ) → List ℕ → Type 0
WordsAt m at k [] = Unit {0}
WordsAt m at k (w ∷ ws) = (word_at m (at + k) ≡ w) × WordsAt m at (k + 2) ws

-- PC is at a guard of a unit, and the guarded instruction is in the unit too
pub record IsAtGuard (m r : List ℕ) (first past at : ℕ) (ws : List ℕ) : Type 0 where
  pub memory : IsMemory m
  pub context : IsContext r
  pub pc : reg r PC ≡ at
  pub words : WordsAt m at 0 ws
  pub begins : first ≤ at
  pub within : at + 2 * length ws < past
  pub below : past ≤ FIRST_ENTRY

-- ---- ends

-- The run goes on at the guarded instruction: SR is as before, and R5 has it too
abbrev pub Passes : (m r : List ℕ) → (first past steps next x : ℕ) → Type 0
Passes m r first past steps next x = Runs m first past steps r (held r next (reg r SR) x (reg r SR))

-- The run ends at an entry, and nothing was written. R4 has x and R5 the status as it was; of SR the four flags are free
pub record Stops (m r : List ℕ) (first past entry x : ℕ) : Type 0 where
  pub flags : Flags
  pub ends : RunsUnit m first past r (silent (held r entry (with_flags (reg r SR) flags.c flags.z flags.n flags.v) x (reg r SR)))

-- the address a was tested
pub record StoreEnds (m r : List ℕ) (first past at lo hi a : ℕ) : Type 0 where
  pub passes : lo ≤ a → a < hi → Passes m r first past 8 (at + 26) a
  pub stops : (a < lo) ⊎ (hi ≤ a) → Stops m r first past STORE_FAULT a

abbrev pub StoreGuardLaw : Type 0
StoreGuardLaw = (m r : List ℕ) (first past at n x lo hi : ℕ) → IsAtGuard m r first past at (store_words n x lo hi) → IsIndexed n → x < 65536 → lo < 65536 → hi < 65536
    → StoreEnds m r first past at lo hi (sum_of x (reg r n))

pub record GrowthEnds (m r : List ℕ) (first past at : ℕ) : Type 0 where
  pub passes : word_at m STACK_LIMIT ≤ reg r SP → Passes m r first past 4 (at + 14) (reg r CHECKED)
  pub stops : reg r SP < word_at m STACK_LIMIT → Stops m r first past STACK_FAULT (reg r CHECKED)

abbrev pub GrowthGuardLaw : Type 0
GrowthGuardLaw = (m r : List ℕ) (first past at : ℕ) → IsAtGuard m r first past at growth_words → GrowthEnds m r first past at

pub record PopEnds (m r : List ℕ) (first past at : ℕ) : Type 0 where
  pub passes : reg r SP ≢ word_at m STACK_TOP → Passes m r first past 4 (at + 14) (reg r CHECKED)
  pub stops : reg r SP ≡ word_at m STACK_TOP → Stops m r first past STACK_FAULT (reg r CHECKED)

abbrev pub PopGuardLaw : Type 0
PopGuardLaw = (m r : List ℕ) (first past at : ℕ) → IsAtGuard m r first past at pop_words → PopEnds m r first past at

-- the new SP is in R4
pub record SpEnds (m r : List ℕ) (first past at : ℕ) : Type 0 where
  pub passes : word_at m STACK_LIMIT ≤ reg r CHECKED → reg r CHECKED ≤ word_at m STACK_TOP → Passes m r first past 6 (at + 20) (reg r CHECKED)
  pub stops : (reg r CHECKED < word_at m STACK_LIMIT) ⊎ (word_at m STACK_TOP < reg r CHECKED) → Stops m r first past STACK_FAULT (reg r CHECKED)

abbrev pub SpGuardLaw : Type 0
SpGuardLaw = (m r : List ℕ) (first past at : ℕ) → IsAtGuard m r first past at sp_words → SpEnds m r first past at
