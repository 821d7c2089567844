use Rattle.std.proofs.Common.{◌≡◌, ◌++◌, take}
use Rattle.insert_model.specs.Inserted.{relocs_from}
use Rattle.check_inserter.proofs.moving.put_code_relocs.Given as goal

abbrev pub invariant-loop-at : goal.invariant-loop-at
invariant-loop-at l = l.out ≡ l.initial.out ++ relocs_from 0 (take l.at l.words)
