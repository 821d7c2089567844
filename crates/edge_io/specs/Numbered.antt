-- Lists of numbers of calls.
use Rattle.std.specs.Prelude.{ℕ, ◌==◌, Bool, List}
use Rattle.std.specs.List.{list_any}

-- a list of calls has this one
abbrev pub has_call : List ℕ → ℕ → Bool
has_call calls call = list_any (λ n. n == call) calls
