use Rattle.std.proofs.Common.{◌≡◌, map, take}
use Rattle.code_model.specs.Fields.{fields}
use Rattle.insert_model.specs.Layout.{final}
use Rattle.check_inserter.proofs.jumps.final_jumps.Given as goal

abbrev pub invariant-loop-i : goal.invariant-loop-i
invariant-loop-i l = l.offsets.items ≡ map (final (fields l.o)) (take l.i l.lines)
