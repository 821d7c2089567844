-- One bit of the bitmap of marks is written.
use Rattle.std.specs.Prelude.{◌≡◌, ◌≢◌, ◌↔◌, ℕ, ◌<◌, ◌≤◌, ◌⊎◌, Bool, IsTrue, List, length, slice_index}
use Rattle.kernel_model.specs.declared.map.TheConstants.{BITMAP, BITMAP_END}
use Rattle.kernel_model.specs.Layout.{tables}
use Rattle.place_model.specs.Marking.{IsCodeWord, IsMarkBit}

-- the bit of the word at an address is the value, and nothing else changed
pub record BitPut (before after : List ℕ) (at : ℕ) (value : Bool) : Type 0 where
  pub size : length after ≡ 65536
  pub here : IsMarkBit after at ↔ IsTrue value
  pub beside : (x : ℕ) → IsCodeWord x → x ≢ at → IsMarkBit after x ↔ IsMarkBit before x
  pub outside : (a : ℕ) → (a < BITMAP) ⊎ (BITMAP_END ≤ a) → slice_index after a ≡ slice_index before a
  pub tables : tables after ≡ tables before
