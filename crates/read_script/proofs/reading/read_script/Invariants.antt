use Rattle.std.proofs.Common.{◌≡◌, ◌+◌, ◌≤◌, length}
use Rattle.std.specs.Str.Lines.{lines}
use Rattle.trace_model.specs.Grammar.{empty_script, script_from}
use Rattle.read_script.proofs.reading.read_script.Given as goal

abbrev pub invariant-lines : goal.invariant-lines
invariant-lines l =
    (script_from 1 (lines l.text) empty_script ≡ script_from (l.line + 1) (lines l.rest) l.draft.script)
    × (l.line + length l.rest ≤ 1048576)

abbrev pub decreases-lines : goal.decreases-lines
decreases-lines l = length l.rest
