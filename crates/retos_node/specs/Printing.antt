-- The lines that a run prints, each by a write of its own.
use Rattle.std.specs.Prelude.{◌≡◌, ℕ, Bool, if◌then◌else◌, ◌==◌, ◌&&◌, List, [], ◌∷◌, ◌++◌, map, slice_index_or, Ok, Err}
use Rattle.std.specs.List.{concat, filter, range_with_len}
use Rattle.std.specs.declared.result.Result.{Result}
use Rattle.edge_io.specs.Known.{SinkState, appended, GotPrefix}
use Rattle.edge_io.specs.Turns.{WriteTurns}
use Rattle.edge_io.specs.declared.whole.SinkFault.{SinkFault}
use Rattle.kernel_model.specs.Kernel.{Kernel}
use Rattle.trace_model.specs.declared.records.Record.{Record}
use Rattle.trace_model.specs.declared.scripts.Script.{Script}
use Rattle.trace_model.specs.Texts.{is_always_shown, is_fault, last_instrs, record_text, tail_line}
use Rattle.node_model.specs.Systems.{System}
use Rattle.node_model.specs.Runs.{Run}
use Rattle.node_model.specs.Nodes.{end_line, in_order, nobody, placement_line}
use Rattle.trace_print.specs.declared.show.Show.{Show}

-- ---- which lines

-- the numbers of the domains of an object, below a number
unfoldable pub numbers_below : (owner : List ℕ) → (object : ℕ) → (number : ℕ) → List ℕ
numbers_below owner i n = filter (λ n. slice_index_or owner n nobody == i) (range_with_len 0 n)

abbrev pub numbers_of : (owner : List ℕ) → (object : ℕ) → List ℕ
numbers_of owner i = numbers_below owner i 12

unfoldable pub placement_lines : Kernel → (owner : List ℕ) → (count : ℕ) → List (List ℕ)
placement_lines k owner count = map (placement_line k) (in_order owner count)

-- the line of a record, where it is shown
unfoldable pub shown_line : (all : Bool) → Record → List (List ℕ)
shown_line all r = if all then record_text r ∷ [] else (if is_always_shown r then record_text r ∷ [] else [])

-- the lines of these instructions, which stand before a fault's with `--tail`
unfoldable pub tail_lines : (tail : Bool) → (kept : List Record) → Record → List (List ℕ)
tail_lines tail kept r = if tail && is_fault r then map tail_line kept else []

-- the lines of a record, before which these instructions were the last
unfoldable pub told_lines : Show → (kept : List Record) → Record → List (List ℕ)
told_lines show kept r = tail_lines show.tail kept r ++ shown_line show.all r

-- the lines of these records, after others
unfoldable pub lines_after : Show → (earlier : List Record) → List Record → List (List ℕ)
lines_after show earlier [] = []
lines_after show earlier (r ∷ rs) = told_lines show (last_instrs earlier) r ++ lines_after show (earlier ++ r ∷ []) rs

unfoldable pub shown_lines : Show → List Record → List (List ℕ)
shown_lines show rs = lines_after show [] rs

-- all lines of a run
unfoldable pub trace_lines : Show → (count : ℕ) → Script → System → Run → List (List ℕ)
trace_lines show count t s r = placement_lines s.kernel s.owner count ++ (shown_lines show r.records ++ end_line t r ∷ [])

-- ---- how they are written

-- lines, one behind the other, each by a whole write of its own
pub data Writes {S E : Type 0} (called : S → List ℕ → Result ℕ E → S → Type 0) (from : S) : List (List ℕ) → S → Type 0 where
  no_line : Writes called from [] from
  next_line : {mid to : S} {lines : List (List ℕ)} {line : List ℕ} → Writes called from lines mid → WriteTurns called mid to line (Ok tt)
      → Writes called from (lines ++ line ∷ []) to

-- some of them, and then one whose write ended before its end
pub record CutWrites {S E : Type 0} (called : S → List ℕ → Result ℕ E → S → Type 0) (from to : S) (lines : List (List ℕ)) (fault : SinkFault) : Type 0 where
  pub done : List (List ℕ)
  pub line : List ℕ
  pub left : List (List ℕ)
  pub lines_are : done ++ line ∷ left ≡ lines
  pub mid : S
  pub written : Writes called from done mid
  pub last : WriteTurns called mid to line (Err fault)

-- the sink got these lines
pub record Printed {S E : Type 0} (called : S → List ℕ → Result ℕ E → S → Type 0) (state : S → SinkState) (from to : S) (lines : List (List ℕ)) : Type 0 where
  pub bytes : (state to).bytes ≡ appended (state from).bytes (concat lines)
  pub writes : Writes called from lines to

-- it got some of them, and a part of the next
pub record PrintedUpTo {S E : Type 0} (called : S → List ℕ → Result ℕ E → S → Type 0) (state : S → SinkState) (from to : S) (lines : List (List ℕ)) (fault : SinkFault) : Type 0 where
  pub bytes : GotPrefix (state from).bytes (state to).bytes (concat lines)
  pub writes : CutWrites called from to lines fault
