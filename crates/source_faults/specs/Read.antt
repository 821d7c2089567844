-- The source instructions as they are read.
use Rattle.std.specs.Prelude.{◌≡◌, ◌↔◌, ℕ, ◌+◌, ◌<◌, ◌≤◌, List, [], ◌∷◌, length, slice_index_or, Option, None}
use Rattle.std.specs.List.{Any}
use Rattle.msp_encode.specs.Spelling.{InstrFits}
use Rattle.code_model.specs.declared.object.Object.{Object}
use Rattle.code_model.specs.declared.parts.RelKind.{RelKind}
use Rattle.code_model.specs.Fields.{fields}
use Rattle.code_model.specs.Starts.{Start}
use Rattle.code_model.specs.Verdicts.{AllSpelled}
use Rattle.insert_model.specs.declared.fault.InsertFault.{InsertFault}
use Rattle.insert_model.specs.declared.fault.InsertFault.TheVariants.{At, Memory}
use Rattle.insert_model.specs.declared.fault.InsertKind.TheVariants.{NotDecoded}
use Rattle.insert_model.specs.declared.line.Line.{Line}
use Rattle.msp_encode.specs.Spelled.{count}
use Rattle.insert_model.specs.Source.{kind_at, lines}
use Rattle.insert_model.specs.Faults.{IsUndecoded}

-- the relocation of each code word
pub record AreKinds (o : Object) (kinds : List (Option RelKind)) : Type 0 where
  pub size : length kinds ≡ length o.code
  pub each : (k : ℕ) → k < length o.code → slice_index_or kinds k None ≡ kind_at o.relocs k

-- a line starts at a place
unfoldable pub StartsIn : List Line → ℕ → Type 0
StartsIn ls k = Any (λ (l : Line). l.at ≡ k) ls

-- a legal instruction whose words lie in the code
pub record IsWhole (o : Object) (l : Line) : Type 0 where
  pub fits : InstrFits l.instr
  pub within : l.at + count l.instr ≤ length o.code

-- each line is
pub record AreWhole (o : Object) (ls : List Line) : Type 0 where
  pub each : (k : ℕ) (d : Line) → k < length ls → IsWhole o (slice_index_or ls k d)

-- the lines follow one another from a place to another
abbrev pub IsRow : (from : ℕ) → List Line → (to : ℕ) → Type 0
IsRow from [] to = from ≡ to
IsRow from (l ∷ ls) to = (l.at ≡ from) × IsRow (from + count l.instr) ls to

-- all of the code was read
pub record IsSource (o : Object) (ls : List Line) : Type 0 where
  pub are : ls ≡ lines (fields o)
  pub spelled : AllSpelled o
  pub starts : (k : ℕ) → Start o.code k ↔ StartsIn ls k
  pub whole : AreWhole o ls
  pub row : IsRow 0 ls (length o.code)

-- the code isn't spelled, or memory ran out
abbrev pub IsUnread : Object → InsertFault → Type 0
IsUnread o (At k x) = (k ≡ NotDecoded) × IsUndecoded o x
IsUnread o Memory = Unit {0}
