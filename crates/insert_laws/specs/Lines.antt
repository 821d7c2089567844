-- Laws of the source's lines and groups: each line is clean, and each group's unit has its words in the code of the object with
-- guards.
use Rattle.std.specs.Prelude.{◌≡◌, ℕ, ◌+◌, ◌*◌, ◌%◌, ◌≤◌, ◌⊎◌, List, ◌++◌, length, map}
use Rattle.std.specs.List.{All, Contains}
use Rattle.code_model.specs.declared.object.Object.{Object}
use Rattle.code_model.specs.Fields.{fields}
use Rattle.code_model.specs.Starts.{Stands, Start}
use Rattle.code_model.specs.Verdicts.{AllSpelled}
use Rattle.insert_model.specs.declared.line.Line.{Line}
use Rattle.insert_model.specs.declared.piece.Word.{Word}
use Rattle.msp_encode.specs.Spelled.{count}
use Rattle.insert_model.specs.Words.{unit_words}
use Rattle.insert_model.specs.Source.{lines}
use Rattle.insert_model.specs.Groups.{Group, behind, groups}
use Rattle.insert_model.specs.Layout.{place_map}
use Rattle.insert_model.specs.Inserted.{moved}
use Rattle.insert_model.specs.Faults.{IsInserted}
use Rattle.insert_laws.specs.Pieces.{unit_of_group, pieces}
use Rattle.insert_laws.specs.Shapes.{IsCleanLine}

-- an instruction starts at the line's place, and the words from there on spell the line's
pub record IsInstruction (code : List ℕ) (l : Line) : Type 0 where
  pub start : Start code l.at
  pub stands : Stands code l.at l.instr (count l.instr)

-- the lines, which are read by a function, are the instructions of the code: each line is one, and each start has a line
pub record LinesStand (o : Object) : Type 0 where
  pub are : All (IsInstruction o.code) (lines (fields o))
  pub each : (at : ℕ) → Start o.code at → (l : Line) × Contains (lines (fields o)) l × (l.at ≡ at)

-- so it is where all of the code is spelled
abbrev pub LinesAreSpelled : Type 0
LinesAreSpelled = (o : Object) → AllSpelled o → LinesStand o

-- nothing is wrong with any line
abbrev pub LinesAreClean : Type 0
LinesAreClean = (o q : Object) → IsInserted o q → (l : Line) → Contains (lines (fields o)) l → IsCleanLine o l

-- the code of an object with guards is the words of its pieces, each naming the unit of what it named
abbrev pub CodeIsPieces : Type 0
CodeIsPieces = (o q : Object) → IsInserted o q → q.code ≡ map (moved (place_map (fields o))) (unit_words (pieces (fields o)))

-- the words of a group's unit
abbrev pub group_words : Object → Group → List Word
group_words o g = unit_words (unit_of_group (fields o) g)

-- the words of a group's unit among those of all pieces
pub record UnitLies (o : Object) (g : Group) : Type 0 where
  pub front : List Word
  pub back : List Word
  pub are : unit_words (pieces (fields o)) ≡ front ++ (group_words o g ++ back)
  -- the place map sends the first line's offset to the unit, and the offset behind the last line to the words behind the unit
  pub first : place_map (fields o) (2 * g.head.at) ≡ 2 * length front
  pub behind : place_map (fields o) (2 * behind g) ≡ 2 * (length front + length (group_words o g))
  -- and it sends no word's offset within the unit
  pub apart : (t : ℕ) → (place_map (fields o) (2 * t) ≤ 2 * length front) ⊎ (2 * (length front + length (group_words o g)) ≤ place_map (fields o) (2 * t))

abbrev pub GroupsHaveUnits : Type 0
GroupsHaveUnits = (o q : Object) → IsInserted o q → (g : Group) → Contains (groups (fields o)) g → UnitLies o g

-- the place map sends no offset behind the code, and each to a word
pub record LiesWithin (o q : Object) (x : ℕ) : Type 0 where
  pub below : place_map (fields o) x ≤ 2 * length q.code
  pub even : place_map (fields o) x % 2 ≡ 0

abbrev pub PlacesWithin : Type 0
PlacesWithin = (o q : Object) → IsInserted o q → (x : ℕ) → LiesWithin o q x
