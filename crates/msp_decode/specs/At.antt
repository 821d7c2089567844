-- Which instruction a list of words begins with.
use Rattle.std.specs.Prelude.{ℕ, ◌≤◌, List, length, take, Result, Ok, Err}
use Rattle.msp_encode.specs.declared.instr.Instr.{Instr}
use Rattle.msp_encode.specs.Spelling.{Spells}
use Rattle.msp_decode.specs.declared.reading.NoInstr.{NoInstr}

-- the first n words spell the instruction
abbrev pub IsAt : List ℕ → Instr → ℕ → Type 0
IsAt ws i n = (n ≤ length ws) × Spells i (take n ws)

abbrev pub NoneAt : List ℕ → Type 0
NoneAt ws = (i : Instr) (n : ℕ) → IsAt ws i n → ⊥

abbrev pub At : List ℕ → Result (Instr × ℕ) NoInstr → Type 0
At ws (Ok x) = IsAt ws x.0 x.1
At ws (Err e) = NoneAt ws
