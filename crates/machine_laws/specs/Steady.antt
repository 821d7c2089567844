-- What stays true of the context of a running domain, and the two words of memory that guards read.
use Rattle.std.specs.Prelude.{◌≡◌, ℕ, ◌+◌, ◌/◌, ◌%◌, ◌<◌, ◌≤◌, List}
use Rattle.machine_model.specs.Memory.{word_at}
use Rattle.machine_model.specs.Context.{reg, IsContext}
use Rattle.kernel_model.specs.declared.map.TheConstants.{STACK_LIMIT, STACK_TOP}
use Rattle.msp_encode.specs.declared.registers.TheConstants.{SP, SR}

-- a possible SR: no bit outside 010F, and these control bits (bits 3 to 7): 1 for an application, 0 for a module
pub record IsStatus (kb sr : ℕ) : Type 0 where
  pub high : sr / 512 ≡ 0
  pub control : sr / 8 % 32 ≡ kb

-- the region [lo, hi) and the stack [low, top)
pub record Bounds : Type 0 where
  pub lo : ℕ
  pub hi : ℕ
  pub low : ℕ
  pub top : ℕ

pub record AreBounds (b : Bounds) : Type 0 where
  pub lo_even : b.lo % 2 ≡ 0
  pub hi_even : b.hi % 2 ≡ 0
  pub lo_word : b.lo < 65536
  pub hi_word : b.hi < 65536

-- SP keeps room for the four bytes of an acceptance
pub record IsSteady (kb low top : ℕ) (r : List ℕ) : Type 0 where
  pub context : IsContext r
  pub room : low + 4 ≤ reg r SP
  pub within : reg r SP ≤ top
  pub status : IsStatus kb (reg r SR)

-- the words for the current limit and the current top are those of the stack
pub record Limits (m : List ℕ) (low top : ℕ) : Type 0 where
  pub limit : word_at m STACK_LIMIT ≡ low + 6
  pub last : word_at m STACK_TOP ≡ top
  pub low_even : low % 2 ≡ 0
  pub top_even : top % 2 ≡ 0
  pub order : low + 16 ≤ top
  pub word : top < 65536
