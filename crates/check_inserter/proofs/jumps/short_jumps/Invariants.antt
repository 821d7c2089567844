use Rattle.std.proofs.Common.{◌≡◌, map, take}
use Rattle.code_model.specs.Fields.{fields}
use Rattle.insert_model.specs.Layout.{sized}
use Rattle.check_inserter.proofs.jumps.short_jumps.Given as goal

abbrev pub invariant-loop-line : goal.invariant-loop-line
invariant-loop-line l = l.offsets.items ≡ map (sized (fields l.o)) (take l.line-index l.lines)
