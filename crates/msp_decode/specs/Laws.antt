-- Laws of the spelling, read from the words.
use Rattle.std.specs.Prelude.{◌≡◌, ◌↔◌, ℕ, List, [], ◌∷◌, ◌++◌, length, Result}
use Rattle.msp_encode.specs.declared.instr.Instr.{Instr}
use Rattle.msp_encode.specs.Spelling.{Spells}
use Rattle.msp_decode.specs.declared.reading.NoInstr.{NoInstr}
use Rattle.msp_decode.specs.Reading.{Reads}

-- a list of words spells at most one instruction
abbrev pub OneInstruction : Type 0
OneInstruction = (i j : Instr) (ws : List ℕ) → Spells i ws → Spells j ws → i ≡ j

-- no spelling is a proper prefix of another
abbrev pub NoProperPrefix : Type 0
NoProperPrefix = (i j : Instr) (ws xs : List ℕ) → Spells i ws → Spells j (ws ++ xs) → xs ≡ []

-- where an instruction begins with a word, exactly the lists of as many words behind it complete an instruction: so
-- whether one begins there, and how many words it has, is told by that word alone
abbrev pub FirstWordDecides : Type 0
FirstWordDecides = (i : Instr) (w : ℕ) (ws xs : List ℕ) → Spells i (w ∷ ws) → ((j : Instr) × Spells j (w ∷ xs)) ↔ (length xs ≡ length ws)

-- words are read in one way
abbrev pub OneReading : Type 0
OneReading = (w : ℕ) (after : List ℕ) (have : ℕ) (a b : Result (Instr × ℕ) NoInstr) → Reads w after have a → Reads w after have b → a ≡ b
