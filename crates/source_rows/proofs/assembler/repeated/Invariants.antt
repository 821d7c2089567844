use Rattle.std.proofs.Common.{◌≡◌, ◌+◌, ◌*◌, length}
use Rattle.source_rows.proofs.assembler.repeated.Given as goal

abbrev pub invariant-loop : goal.invariant-loop
invariant-loop l = length l.text ≡ length l.first + l.counter * length l.middle
