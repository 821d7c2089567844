-- Laws of the spelling.
use Rattle.std.specs.Prelude.{◌≡◌, ◌↔◌, ℕ, List, true}
use Rattle.msp_encode.specs.declared.instr.Op1.{Op1}
use Rattle.msp_encode.specs.declared.instr.Width.{Width}
use Rattle.msp_encode.specs.declared.instr.Src.{Src}
use Rattle.msp_encode.specs.declared.instr.Dst.{Dst}
use Rattle.msp_encode.specs.declared.instr.Instr.{Instr}
use Rattle.msp_encode.specs.Spelling.{Spells, Legal, InstrFits, SrcFits, DstFits, TakesWidth, Takes}
use Rattle.msp_encode.specs.Legality.{src_fits, dst_fits, takes_width, takes}
use Rattle.msp_encode.specs.Spelled.{spelling}

-- some words spell an instruction where it meets the conditions on its parts, and nowhere else
abbrev pub LegalByCases : Type 0
LegalByCases = (i : Instr) → Legal i ↔ InstrFits i

-- no two lists of words spell one instruction
abbrev pub OneSpelling : Type 0
OneSpelling = (i : Instr) (ws xs : List ℕ) → Spells i ws → Spells i xs → ws ≡ xs

-- the words of a legal instruction spell it
abbrev pub SpellingLaw : Type 0
SpellingLaw = (i : Instr) → InstrFits i → Spells i (spelling i)

-- the tests of an instruction's parts tell its conditions
pub record TestsTell : Type 0 where
  pub source : (s : Src) → (src_fits s ≡ true) ↔ SrcFits s
  pub destination : (d : Dst) → (dst_fits d ≡ true) ↔ DstFits d
  pub width : (op : Op1) (w : Width) → (takes_width op w ≡ true) ↔ TakesWidth op w
  pub mode : (op : Op1) (s : Src) → (takes op s ≡ true) ↔ Takes op s
