-- The places where an instruction starts. A place is the number of a code word, half of its offset.
use Rattle.std.specs.Prelude.{◌≡◌, ℕ, zero, suc, ◌+◌, ◌<◌, ◌≤◌, ◌↔◌, List, length, take, drop}
use Rattle.msp_encode.specs.declared.instr.Instr.{Instr}
use Rattle.msp_encode.specs.Spelling.{Spells}
use Rattle.kernel_model.specs.Bitmap.{Has}

-- the first n words spell the instruction
abbrev pub Begins : List ℕ → Instr → ℕ → Type 0
Begins words i n = (n ≤ length words) × Spells i (take n words)

-- an instruction of n words stands at a place
abbrev pub Stands : List ℕ → ℕ → Instr → ℕ → Type 0
Stands code at i n = Begins (drop at code) i n

abbrev pub NoneStands : List ℕ → ℕ → Type 0
NoneStands code at = (i : Instr) (n : ℕ) → Stands code at i n → ⊥

-- the instruction at a place ends at another
pub record Steps (code : List ℕ) (from to : ℕ) : Type 0 where
  pub instr : Instr
  pub words : ℕ
  pub stands : Stands code from instr words
  pub ends : to ≡ from + words

-- a place is reached from 0 over so many instructions
abbrev pub Reached : List ℕ → ℕ → ℕ → Type 0
Reached code zero at = at ≡ 0
Reached code (suc k) at = (from : ℕ) × Reached code k from × Steps code from at

pub record Start (code : List ℕ) (at : ℕ) : Type 0 where
  pub count : ℕ
  pub reached : Reached code count at
  pub below : at < length code

-- some instruction stands at a place
pub record IsSpelled (code : List ℕ) (at : ℕ) : Type 0 where
  pub instr : Instr
  pub words : ℕ
  pub stands : Stands code at instr words

-- the walk stops here, before the code's end
pub record Bad (code : List ℕ) (at : ℕ) : Type 0 where
  pub start : Start code at
  pub none : NoneStands code at

-- the marks are the starts
abbrev pub AreStarts : List ℕ → List ℕ → Type 0
AreStarts code marks = (at : ℕ) → Has marks at ↔ Start code at
