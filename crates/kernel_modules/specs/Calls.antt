-- What calls of modules leave in the registers.
use Rattle.std.specs.Prelude.{◌≡◌, ℕ, List, Option, None, Some}
use Rattle.kernel_model.specs.declared.code.Code.{Code}

-- with no code the registers are the context, and else as they were
abbrev pub BecomesBy : (before after : List ℕ) → Option Code → (context : List ℕ) → Type 0
BecomesBy r r' None context = r' ≡ context
BecomesBy r r' (Some code) context = r' ≡ r
