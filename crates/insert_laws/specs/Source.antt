-- Laws of the source of an object with guards.
use Rattle.std.specs.Prelude.{ℕ, ◌⊎◌}
use Rattle.code_model.specs.declared.object.Object.{Object}
use Rattle.code_model.specs.Starts.{Start}
use Rattle.insert_model.specs.Faults.{IsInserted}

-- whether an instruction of the source starts at a place is decided
abbrev pub StartsDecided : Type 0
StartsDecided = (o q : Object) → IsInserted o q → (t : ℕ) → Start o.code t ⊎ (Start o.code t → ⊥)
