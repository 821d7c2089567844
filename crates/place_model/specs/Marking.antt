-- The bitmap of marks, 1100 to 18FF: a bit for each word of the code pool.
use Rattle.std.specs.Prelude.{◌≡◌, ◌↔◌, ℕ, ◌+◌, ◌-◌, ◌/◌, ◌%◌, ◌<◌, ◌≤◌, ◌⊎◌, List, length, slice_index}
use Rattle.std.specs.Int.{bit_at}
use Rattle.kernel_model.specs.declared.map.TheConstants.{BITMAP, BITMAP_END, CODE_POOL, CODE_POOL_END}
use Rattle.kernel_model.specs.Bitmap.{Has}
use Rattle.kernel_model.specs.Layout.{kernel_of, tables}
use Rattle.kernel_model.specs.Running.{running_domain}
use Rattle.place_model.specs.declared.places.Regions.{Regions}
use Rattle.place_model.specs.Placing.{domain_at}

-- an address of a word of the code pool
pub record IsCodeWord (at : ℕ) : Type 0 where
  pub even : at % 2 ≡ 0
  pub above : CODE_POOL ≤ at
  pub below : at < CODE_POOL_END

-- the bit of the word at an address is set
abbrev pub IsMarkBit : (m : List ℕ) → (at : ℕ) → Type 0
IsMarkBit m at = bit_at (slice_index m (BITMAP + (at - CODE_POOL) / 16)) ((at - CODE_POOL) / 2 % 8) ≡ 1

-- the address is a mark of the domain with this code
pub record IsMarkOf (m : List ℕ) (code_lo code_hi at : ℕ) : Type 0 where
  pub word : IsCodeWord at
  pub from : code_lo ≤ at
  pub to : at < code_hi
  pub set : IsMarkBit m at

-- the address is a mark of the domain that runs
abbrev pub IsOwnMark : (m : List ℕ) → (at : ℕ) → Type 0
IsOwnMark m at = let code = (domain_at (kernel_of m) (running_domain (kernel_of m))).code in IsMarkOf m code.from code.to at

-- the second memory has exactly these marks in the region's code, by offset, and is the first one elsewhere
pub record Marked (before after : List ℕ) (r : Regions) (marks : List ℕ) : Type 0 where
  pub size : length after ≡ 65536
  pub inside : (at : ℕ) → IsCodeWord at → r.code_lo ≤ at → at < r.code_hi → IsMarkBit after at ↔ Has marks ((at - r.code_lo) / 2)
  pub beside : (at : ℕ) → IsCodeWord at → (at < r.code_lo) ⊎ (r.code_hi ≤ at) → IsMarkBit after at ↔ IsMarkBit before at
  pub outside : (a : ℕ) → (a < BITMAP) ⊎ (BITMAP_END ≤ a) → slice_index after a ≡ slice_index before a
  -- so the kernel and its tables are as before
  pub tables : tables after ≡ tables before
