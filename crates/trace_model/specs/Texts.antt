-- The lines of a trace.
use Rattle.std.specs.Prelude.{ℕ, Bool, true, false, ◌==◌, ◌-◌, ◌&&◌, List, [], ◌∷◌, ◌++◌, length, drop, codes, decimal, if◌then◌else◌}
use Rattle.std.specs.List.{filter, flat_map}
use Rattle.line_text.specs.Hexadecimal.{hex_byte, hex_word}
use Rattle.trace_model.specs.declared.records.Who.{Who}
use Rattle.trace_model.specs.declared.records.Who.TheVariants as who
use Rattle.trace_model.specs.declared.records.FaultKind.{FaultKind}
use Rattle.trace_model.specs.declared.records.FaultKind.TheVariants as fault
use Rattle.trace_model.specs.declared.records.Record.{Record}
use Rattle.trace_model.specs.declared.records.Record.TheVariants as record_of
use Rattle.kernel_model.specs.declared.entries.TheConstants.{BROADCAST, CALLS, GOES, IDENTITY, LINE, LOCK, MODULE_CALL, PRIORITY, SIGNAL, SLEEP, SPAWN, TICKS, UNLOCK, WAIT, YIELD}

-- ---- parts of a line

abbrev pub end_of_line : List ℕ
end_of_line = 10 ∷ []

abbrev pub space : List ℕ
space = 32 ∷ []

abbrev pub who_text : Who → List ℕ
who_text (who.Thread a t) = codes "a" ++ decimal a ++ codes ".t" ++ decimal t
who_text (who.Module i) = codes "m" ++ decimal i
who_text who.Idle = codes "idle"

abbrev pub kind_text : FaultKind → List ℕ
kind_text fault.Store = codes "store"
kind_text fault.Stack = codes "stack"
kind_text fault.Jump = codes "jump"
kind_text fault.Return = codes "return"
kind_text fault.Budget = codes "budget"

-- the name of an entry that has no line of its own
abbrev pub entry_name : ℕ → List ℕ
entry_name e =
    if e == GOES then codes "jump"
    else (if e == CALLS then codes "call"
    else (if e == SPAWN then codes "spawn"
    else (if e == YIELD then codes "yield"
    else (if e == SLEEP then codes "sleep"
    else (if e == PRIORITY then codes "priority"
    else (if e == IDENTITY then codes "self"
    else (if e == TICKS then codes "ticks"
    else (if e == LOCK then codes "lock"
    else (if e == UNLOCK then codes "unlock"
    else (if e == WAIT then codes "wait"
    else (if e == SIGNAL then codes "signal"
    else (if e == BROADCAST then codes "broadcast"
    else (if e == LINE then codes "line"
    else (if e == MODULE_CALL then codes "module" else codes "leave"))))))))))))))

abbrev pub write_text : ℕ × ℕ → List ℕ
write_text w = space ++ hex_word w.0 ++ codes ":" ++ hex_byte w.1

abbrev pub writes_text : List (ℕ × ℕ) → List ℕ
writes_text ws = flat_map write_text ws

-- the number of the step, and whose it was
abbrev pub head : (step : ℕ) → Who → List ℕ
head n w = decimal n ++ space ++ who_text w ++ space

-- ---- a record's line

abbrev pub record_text : Record → List ℕ
record_text (record_of.Instr n w pc word ws) = head n w ++ hex_word pc ++ space ++ hex_word word ++ writes_text ws ++ end_of_line
record_text (record_of.Entry n w e) = head n w ++ codes "entry " ++ entry_name e ++ end_of_line
record_text (record_of.Emit n w v) = head n w ++ codes "emit " ++ hex_word v ++ end_of_line
record_text (record_of.Exit n w l) = head n w ++ codes "exit" ++ (if l then codes " last" else []) ++ end_of_line
record_text (record_of.Fault n w k v) = head n w ++ codes "fault " ++ kind_text k ++ space ++ hex_word v ++ end_of_line
record_text (record_of.Accept n w l pc ws) =
    head n w ++ codes "int " ++ decimal l ++ space ++ hex_word pc ++ writes_text ws ++ end_of_line
record_text (record_of.Vector n l) = decimal n ++ codes " kernel line " ++ decimal l ++ end_of_line
record_text (record_of.IdleTurn n) = decimal n ++ codes " idle" ++ end_of_line

-- without `--all` these alone are printed
abbrev pub is_always_shown : Record → Bool
is_always_shown (record_of.Emit n w v) = true
is_always_shown (record_of.Exit n w l) = true
is_always_shown (record_of.Fault n w k v) = true
is_always_shown _ = false

abbrev pub shown_text : (all : Bool) → Record → List ℕ
shown_text all r = if all then record_text r else (if is_always_shown r then record_text r else [])

-- ---- which record it is

abbrev pub is_fault : Record → Bool
is_fault (record_of.Fault n w k v) = true
is_fault _ = false

abbrev pub is_emit : Record → Bool
is_emit (record_of.Emit n w v) = true
is_emit _ = false

abbrev pub is_instr : Record → Bool
is_instr (record_of.Instr n w pc word ws) = true
is_instr _ = false

-- ---- the lines of a run

-- how many instructions are shown before a fault
abbrev pub tail_length : ℕ
tail_length = 8

-- the last of the instructions among some records, fewer than eight if there were fewer
abbrev pub last_instrs : List Record → List Record
last_instrs rs = let instrs = filter is_instr rs in drop (length instrs - tail_length) instrs

abbrev pub tail_line : Record → List ℕ
tail_line r = codes "| " ++ record_text r

-- with `--tail`, directly before a fault's line: the last instructions before it
abbrev pub tail_text : (tail : Bool) → (earlier : List Record) → Record → List ℕ
tail_text tail earlier r = if tail && is_fault r then flat_map tail_line (last_instrs earlier) else []

-- the lines of these records, after others
abbrev pub shown_after : (all tail : Bool) → (earlier : List Record) → List Record → List ℕ
shown_after all tail earlier [] = []
shown_after all tail earlier (r ∷ rs) =
    (tail_text tail earlier r ++ shown_text all r) ++ shown_after all tail (earlier ++ r ∷ []) rs

unfoldable pub shown_texts : (all tail : Bool) → List Record → List ℕ
shown_texts all tail rs = shown_after all tail [] rs
