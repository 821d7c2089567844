-- A context as a list of sixteen words.
use Rattle.std.specs.Prelude.{◌≡◌, ℕ, ◌%◌, ◌<◌, List, length, slice_index, slice_set, nat_lt, ◌==◌, if◌then◌else◌}
use Rattle.msp_encode.specs.declared.registers.TheConstants.{PC, SP, CONSTANTS}
use Rattle.machine_model.specs.Memory.{even}

abbrev pub reg : List ℕ → ℕ → ℕ
reg r n = slice_index r n

-- bit 0 of PC and SP stays 0, and R3 takes no value
unfoldable pub set_reg : List ℕ → ℕ → ℕ → List ℕ
set_reg r n v = if nat_lt n 2 then slice_set r n (even v) else (if n == 3 then r else slice_set r n v)

pub record IsContext (r : List ℕ) : Type 0 where
  pub words : length r ≡ 16
  pub pc_even : reg r PC % 2 ≡ 0
  pub sp_even : reg r SP % 2 ≡ 0
  pub zero : reg r CONSTANTS ≡ 0
  pub small : (k : ℕ) → reg r k < 65536
