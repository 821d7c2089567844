use Rattle.std.proofs.Common.{◌≡◌, ◌+◌, ◌-◌, ◌*◌, ◌≤◌, ◌++◌, length, drop}
use Rattle.trace_model.specs.Texts.{writes_text}
use Rattle.trace_print.proofs.parts.push_writes.Given as goal

abbrev pub invariant-loop-address : goal.invariant-loop-address
invariant-loop-address l = record {
  text : l.line ++ writes_text (drop l.at l.writes) ≡ l.initial.line ++ writes_text l.writes;
  size : length l.line ≡ length l.initial.line + 8 * l.at;
  within : l.at ≤ length l.writes;
}

abbrev pub decreases-loop-address : goal.decreases-loop-address
decreases-loop-address l = length l.writes - l.at
