-- A place, and the relocations before it and behind.
use Rattle.std.specs.Prelude.{ℕ, ◌*◌, ◌<◌, ◌≤◌, List, length, slice_index_or}
use Rattle.code_model.specs.declared.parts.Reloc.{Reloc}
use Rattle.code_model.specs.Form.{key}
use Rattle.static_checker.specs.declared.cursor.Cursor.{Cursor}

-- the cursor's relocation is the first that isn't before its place
pub record IsCursor (relocs : List Reloc) (c : Cursor) : Type 0 where
  pub within : c.reloc ≤ length relocs
  pub below : (k : ℕ) (d : Reloc) → k < c.reloc → key (slice_index_or relocs k d) < 2 * c.at
  pub above : (k : ℕ) (d : Reloc) → c.reloc ≤ k → k < length relocs → 2 * c.at ≤ key (slice_index_or relocs k d)
