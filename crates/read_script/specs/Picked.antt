-- The step of the last pick.
use Rattle.std.specs.Prelude.{ℕ, ◌==◌, Bool, false, Option, Some, None}

-- it is this step
abbrev pub is_step : Option ℕ → ℕ → Bool
is_step None step = false
is_step (Some picked) step = picked == step
