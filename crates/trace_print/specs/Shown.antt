-- What a tail keeps of a run, by what the run shows.
use Rattle.std.specs.Prelude.{◌-◌, if◌then◌else◌, ◌&&◌, List, [], ◌∷◌, ◌++◌, length, drop}
use Rattle.trace_model.specs.declared.records.Record.{Record}
use Rattle.trace_model.specs.Texts.{is_instr, last_instrs, tail_length}
use Rattle.trace_print.specs.declared.show.Show.{Show}

-- with `--tail` the last instructions among these records, of all domains together; else none
abbrev pub kept_of : Show → (made : List Record) → List Record
kept_of show made = if show.tail then last_instrs made else []

-- the last eight of these
abbrev pub last_kept : List Record → List Record
last_kept rs = drop (length rs - tail_length) rs

-- what is kept after a record: with `--tail` an instruction's comes last, and no other changes it
abbrev pub kept_with : Show → (kept : List Record) → Record → List Record
kept_with show kept r = if show.tail && is_instr r then last_kept (kept ++ r ∷ []) else kept
