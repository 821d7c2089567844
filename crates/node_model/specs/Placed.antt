-- A placed object, and its code in memory.
use Rattle.std.specs.Prelude.{◌≡◌, ℕ, ◌+◌, ◌*◌, ◌%◌, ◌<◌, ◌≤◌, List, length, slice_index}
use Rattle.load_model.specs.Domains.{Domain, addend}
use Rattle.kernel_model.specs.declared.map.TheConstants.{CODE_POOL, CODE_POOL_END, DATA_POOL, DATA_POOL_END}
use Rattle.kernel_model.specs.declared.kinds.Kind.{Kind}
use Rattle.kernel_model.specs.declared.kinds.Kind.TheVariants.{App, Module}
use Rattle.code_model.specs.declared.parts.RelKind.{RelKind}
use Rattle.code_model.specs.Relocs.{HasReloc, Unrelocated}
use Rattle.code_model.specs.Statics.{static_size}
use Rattle.code_model.specs.Verdicts.{IsAccepted}
use Rattle.machine_model.specs.Memory.{word_at, IsMemory}

-- what bits 3 to 7 of SR hold while a domain runs
abbrev pub control_bits : Kind → ℕ
control_bits App = 1
control_bits Module = 0

abbrev pub bits : Domain → ℕ
bits d = control_bits d.object.kind

-- even places within the pools
pub record IsWellPlaced (d : Domain) : Type 0 where
  pub code_even : d.code_lo % 2 ≡ 0
  pub code_low : CODE_POOL ≤ d.code_lo
  pub code_high : d.code_lo + 2 * length d.object.code ≤ CODE_POOL_END
  pub lo_even : d.lo % 2 ≡ 0
  pub hi_even : d.hi % 2 ≡ 0
  pub lo_low : DATA_POOL ≤ d.lo
  pub hi_high : d.hi ≤ DATA_POOL_END
  pub statics : d.lo + static_size d.object ≤ d.hi

-- the address of a code word
abbrev pub address : Domain → ℕ → ℕ
address d at = d.code_lo + 2 * at

-- the code's words stand in memory, relocated
pub record CodeStands (d : Domain) (m : List ℕ) : Type 0 where
  pub plain : (at : ℕ) → at < length d.object.code → Unrelocated d.object.relocs at → word_at m (address d at) ≡ slice_index d.object.code at
  pub moved : (at : ℕ) (k : RelKind) → at < length d.object.code → HasReloc d.object.relocs at k
      → word_at m (address d at) ≡ (slice_index d.object.code at + addend d k) % 65536

-- an accepted object stands in memory at its places
pub record StandsIn (d : Domain) (m : List ℕ) : Type 0 where
  pub memory : IsMemory m
  pub placed : IsWellPlaced d
  pub accepted : IsAccepted d.object d.units
  pub code : CodeStands d m
