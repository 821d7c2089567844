-- What the words at a place are read as, and when none are.
use Rattle.std.specs.Prelude.{◌≡◌, ℕ, ◌<◌, ◌≤◌, List, ◌∷◌, ◌⊎◌, length, take, Result, Ok, Err}
use Rattle.msp_encode.specs.declared.instr.Instr.{Instr}
use Rattle.msp_encode.specs.Spelling.{Spells}
use Rattle.msp_decode.specs.declared.reading.NoInstr.{NoInstr}
use Rattle.msp_decode.specs.declared.reading.NoInstr.TheVariants.{Unknown, Short}

-- xs begins with ws
abbrev pub Leads : List ℕ → List ℕ → Type 0
Leads ws xs = ws ≡ take (length ws) xs

-- no instruction begins with w
abbrev pub NoneBegins : ℕ → Type 0
NoneBegins w = (i : Instr) (ws : List ℕ) → Spells i (w ∷ ws) → ⊥

-- an instruction begins with w and has more than so many words
abbrev pub NeedsMore : ℕ → ℕ → Type 0
NeedsMore w have = (i : Instr) × ((ws : List ℕ) × (Spells i (w ∷ ws) × (have < length (w ∷ ws))))

-- where each answer comes, for a first word and those after it, of which so many words are there in all
abbrev pub Reads : (w : ℕ) (after : List ℕ) (have : ℕ) → Result (Instr × ℕ) NoInstr → Type 0
Reads w after have (Ok x) = (x.1 ≤ have) × (x.1 ≤ length (w ∷ after)) × Spells x.0 (take x.1 (w ∷ after))
Reads w after have (Err Unknown) = (1 ≤ have) × NoneBegins w
Reads w after have (Err Short) = (have ≡ 0) ⊎ NeedsMore w have
