-- Laws of the lines, of groups and of layouts.
use Rattle.std.specs.Prelude.{◌≡◌, ◌≢◌, ℕ, ◌+◌, ◌*◌, ◌/◌, ◌<◌, ◌≤◌, ◌⊎◌, true, nat_lt, List, [], ◌∷◌, length, map, drop, slice_index, ℤ, Some}
use Rattle.std.specs.List.{All, flat_map, filter}
use Rattle.msp_encode.specs.declared.instr.Cond.{Cond}
use Rattle.msp_encode.specs.declared.instr.Instr.{Instr}
use Rattle.msp_encode.specs.declared.instr.Instr.TheVariants as instr
use Rattle.msp_encode.specs.Spelling.{InstrFits}
use Rattle.code_model.specs.declared.parts.Reloc.{Reloc}
use Rattle.code_model.specs.Fields.{Fields}
use Rattle.code_model.specs.Starts.{Stands}
use Rattle.insert_model.specs.declared.line.Line.{Line}
use Rattle.insert_model.specs.declared.piece.Word.{Word}
use Rattle.msp_encode.specs.Spelled.{count}
use Rattle.insert_model.specs.Words.{unit_words}
use Rattle.insert_model.specs.Source.{line_at, lines_from, lines}
use Rattle.insert_model.specs.Units.{static_bytes, unit}
use Rattle.insert_model.specs.Groups.{Cell, cell, joins, greatest, Group, members, groups}
use Rattle.insert_model.specs.Layout.{difference_of, units, is_short, final_offset, sized, final, final_units, place_map}

-- an instruction that stands at a place has as many words as it is spelled in
abbrev pub SizeLaw : Type 0
SizeLaw = (code : List ℕ) (at : ℕ) (i : Instr) (n : ℕ) → Stands code at i n → n ≡ count i

-- the line of an instruction that stands at a place is followed by the lines behind it
abbrev pub LineLaw : Type 0
LineLaw = (relocs : List Reloc) (code : List ℕ) (at : ℕ) (i : Instr) (n : ℕ) → ((k : ℕ) → slice_index code k < 65536) → at < length code → Stands code at i n
    → lines_from relocs at 0 (drop at code) ≡ line_at relocs at i ∷ lines_from relocs (at + n) 0 (drop (at + n) code)

-- ---- groups

-- a line may stand in a run that begins with a cell
abbrev pub Joins : Fields → Cell → Line → Type 0
Joins f c l = (d : ℕ) × (joins f c l ≡ Some d)

-- a group of two to four lines: the first stores at a cell, and the others join it
pub record IsRun (f : Fields) (g : Group) : Type 0 where
  pub from : Cell
  pub begins : cell g.head ≡ Some from
  pub others : All (Joins f from) g.rest
  pub few : length g.rest ≤ 3
  pub reaches : greatest (map (λ (l : Line). difference_of from (cell l)) g.rest) ≢ 0
  pub version : 2 ≤ f.version

abbrev pub IsGroup : Fields → Group → Type 0
IsGroup f g = (g.rest ≡ []) ⊎ IsRun f g

-- the groups are the lines in order, each a line of its own or a run
pub record GroupsStand (f : Fields) : Type 0 where
  pub are : flat_map members (groups f) ≡ lines f
  pub each : All (IsGroup f) (groups f)

abbrev pub GroupsLaw : Type 0
GroupsLaw = (f : Fields) → GroupsStand f

-- ---- layouts

-- the offsets of short jumps don't show in how many words units have
abbrev pub SizedLaw : Type 0
SizedLaw = (f : Fields) (gs : List Group) → length (units (final f) (static_bytes f) gs) ≡ length (units (sized f) (static_bytes f) gs)

-- a short jump can be spelled
abbrev pub ShortLaw : Type 0
ShortLaw = (f : Fields) (l : Line) (c : Cond) (k : ℤ) → l.instr ≡ instr.Jump c k → is_short f l ≡ true → InstrFits (instr.Jump c (final_offset f l l.instr))

-- ---- version 1

-- the words of the units of lines that all stand alone, with jumps in their longest units
unfoldable pub line_units : Fields → List Line → List Word
line_units f ls = flat_map (λ l. unit_words (unit (static_bytes f) l)) ls

-- each line stands alone, and each jump has its longest unit
pub record StandsAlone (f : Fields) : Type 0 where
  pub are : final_units f ≡ line_units f (lines f)
  pub places : (x : ℕ) → place_map f x ≡ 2 * length (line_units f (filter (λ (l : Line). nat_lt l.at (x / 2)) (lines f)))

-- so it is in version 1
abbrev pub FirstVersionLaw : Type 0
FirstVersionLaw = (f : Fields) → f.version < 2 → StandsAlone f
