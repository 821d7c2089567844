-- What tests say of a source.
use Rattle.std.specs.Prelude.{◌≡◌, ℕ, List, Result, Ok, Err}
use Rattle.code_model.specs.Fields.{Fields}
use Rattle.asm_model.specs.FirstPass.{Fault}

-- these are the code words
abbrev pub HasCode : List ℕ → Result Fields Fault → Type 0
HasCode words (Ok f) = f.code ≡ words
HasCode words (Err f) = ⊥
