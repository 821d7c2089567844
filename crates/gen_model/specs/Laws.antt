-- What holds of the definitions.
use Rattle.std.specs.Prelude.{ℕ, ◌<◌, slice_index}
use Rattle.code_model.specs.Fields.{Meets}
use Rattle.gen_model.specs.Generated.{generated}

-- a generated object meets the form of objects, where its words have 16 bits
abbrev pub GeneratedMeetsTheForm : Type 0
GeneratedMeetsTheForm = (n : ℕ) → ((k : ℕ) → slice_index (generated n).code k < 65536) → Meets (generated n)
