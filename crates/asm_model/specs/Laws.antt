-- What holds of the definitions.
use Rattle.std.specs.Prelude.{◌≡◌, ℕ, ◌<◌, true, List, slice_index, Ok}
use Rattle.msp_encode.specs.declared.instr.Instr.{Instr}
use Rattle.msp_encode.specs.Spelling.{Legal}
use Rattle.code_model.specs.Fields.{Fields, Meets}
use Rattle.asm_model.specs.Lines.{lines_of}
use Rattle.asm_model.specs.Instructions.{is_legal}
use Rattle.asm_model.specs.Drafts.{Draft, empty_draft}
use Rattle.asm_model.specs.FirstPass.{first_pass}
use Rattle.asm_model.specs.Assembled.{assembled}
use Rattle.asm_model.specs.Sound.{IsSound}

-- the test of legal instructions is right
abbrev pub TestedIsLegal : Type 0
TestedIsLegal = (i : Instr) → is_legal i ≡ true → Legal i

-- the draft of a source without fault in the first pass
abbrev pub DraftsAreSound : Type 0
DraftsAreSound = (source : List ℕ) (d : Draft) → first_pass 1 (lines_of source) empty_draft ≡ Ok d → IsSound d

-- what a source assembles to meets the form of objects, where its words have 16 bits and its bytes 8
abbrev pub ResultsMeetTheForm : Type 0
ResultsMeetTheForm = (source : List ℕ) (f : Fields) → assembled source ≡ Ok f → ((k : ℕ) → slice_index f.code k < 65536) → ((k : ℕ) → slice_index f.init k < 256) → Meets f
