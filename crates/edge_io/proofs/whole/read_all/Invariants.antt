use Rattle.std.proofs.Common.{◌≤◌, length, ◌-◌, false}
use Rattle.edge_io.specs.Causes.{ReadLeaves}
use Rattle.edge_io.specs.Steps.{BeginsOf}
use Rattle.edge_io.specs.Turns.{Reads}
use Rattle.edge_io.proofs.whole.read_all.Given as goal

abbrev pub invariant-loop-into : goal.invariant-loop-into
invariant-loop-into g l = record {
  begins : BeginsOf (g.F.Folder.state l.files).files l.fn.name l.got;
  leaves : ReadLeaves (g.F.Folder.state l.fn.files) (g.F.Folder.state l.files) l.fn.name false;
  size : length l.got ≤ 1048577;
  turns : Reads g.F.Folder.called l.fn.name l.fn.files l.files (length l.got);
}

abbrev pub decreases-loop-into : goal.decreases-loop-into
decreases-loop-into g l = 1048577 - length l.got
