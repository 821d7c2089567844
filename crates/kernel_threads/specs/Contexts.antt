-- Registers as they take a list of sixteen words.
use Rattle.std.specs.Prelude.{ℕ, List, slice_index, slice_set}
use Rattle.machine_model.specs.Memory.{even}

-- bit 0 of words 0 and 1, of PC and SP, is cleared, and word 3 is zero
unfoldable pub taken : List ℕ → List ℕ
taken c = slice_set (slice_set (slice_set c 0 (even (slice_index c 0))) 1 (even (slice_index c 1))) 3 0
