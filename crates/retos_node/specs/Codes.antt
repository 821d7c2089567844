-- What calls answer in R12.
use Rattle.std.specs.Prelude.{ℕ, Result, Ok, Err}
use Rattle.kernel_model.specs.declared.code.Code.{Code}
use Rattle.node_model.specs.Entries.{code_number}

-- 0, or the number of the code
abbrev pub answer_number : Result (Unit {0}) Code → ℕ
answer_number (Ok _) = 0
answer_number (Err code) = code_number code
