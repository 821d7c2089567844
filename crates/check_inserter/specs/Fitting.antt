-- Pieces, lines and offsets that can be spelled.
use Rattle.std.specs.Prelude.{◌<◌, ℕ, List, [], ◌∷◌, length, slice_index_or, ℤ, pos, negsuc, ◌≤ℤ◌, ◌<ℤ◌, Option, None, Some}
use Rattle.msp_encode.specs.Spelling.{InstrFits}
use Rattle.code_model.specs.declared.object.TheConstants.{CODE_WORDS_MAX}
use Rattle.insert_model.specs.declared.aim.Aim.{Aim}
use Rattle.insert_model.specs.declared.aim.Aim.TheVariants.{ToPc, ToSp, ToMemory, Elsewhere}
use Rattle.insert_model.specs.declared.line.Line.{Line}
use Rattle.insert_model.specs.declared.piece.Piece.{Piece}

-- each piece's instruction is legal
abbrev pub AllFit : List Piece → Type 0
AllFit [] = Unit {0}
AllFit (p ∷ ps) = InstrFits p.instr × AllFit ps

-- the base is a register's number
abbrev pub AimFits : Aim → Type 0
AimFits ToPc = Unit {0}
AimFits ToSp = Unit {0}
AimFits (ToMemory n x k) = n < 16
AimFits Elsewhere = Unit {0}

-- a legal instruction at a place that code may have
pub record IsLegalLine (l : Line) : Type 0 where
  pub fits : InstrFits l.instr
  pub within : l.at < CODE_WORDS_MAX

-- each line is
pub record AreLegalLines (ls : List Line) : Type 0 where
  pub each : (k : ℕ) (d : Line) → k < length ls → IsLegalLine (slice_index_or ls k d)

-- a jump's offset, or none
abbrev pub IsOffset : Option ℤ → Type 0
IsOffset None = Unit {0}
IsOffset (Some k) = (negsuc 511 ≤ℤ k) × (k <ℤ pos 512)

pub record AreOffsets (ks : List (Option ℤ)) : Type 0 where
  pub each : (k : ℕ) → IsOffset (slice_index_or ks k None)
