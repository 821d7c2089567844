use Rattle.std.proofs.Common.{◌≡◌, drop}
use Rattle.edge_io.specs.Memory.{found}
use Rattle.edge_io.proofs.mem_folder.find.Given as goal

abbrev pub invariant-loop-key : goal.invariant-loop-key
invariant-loop-key l = found l.others l.name ≡ found (drop l.key-index l.others) l.name
