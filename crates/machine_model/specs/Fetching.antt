-- What is fetched at an address.
use Rattle.std.specs.Prelude.{ℕ, ◌≤◌, List, [], ◌∷◌, take}
use Rattle.msp_encode.specs.declared.instr.Instr.{Instr}
use Rattle.msp_encode.specs.Spelling.{Spells}
use Rattle.machine_model.specs.Memory.{word_at}
use Rattle.machine_model.specs.Operands.{sum_of}

-- the three words from an address on
abbrev pub words_from : List ℕ → ℕ → List ℕ
words_from m pc = word_at m pc ∷ word_at m (sum_of pc 2) ∷ word_at m (sum_of pc 4) ∷ []

-- an instruction of n words stands there
abbrev pub IsFetched : List ℕ → ℕ → Instr → ℕ → Type 0
IsFetched m pc i n = (n ≤ 3) × Spells i (take n (words_from m pc))
