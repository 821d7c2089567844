use Rattle.std.proofs.Common.{◌≤◌, length}
use Rattle.edge_io.specs.Causes.{WriteLeaves}
use Rattle.edge_io.specs.Steps.{FileBefore}
use Rattle.edge_io.specs.Turns.{Offers, appends}
use Rattle.edge_io.proofs.whole.write_file.Given as goal

abbrev pub invariant-loop-rest : goal.invariant-loop-rest
invariant-loop-rest g l = record {
  before : FileBefore (g.F.Folder.state l.fn.files) (g.F.Folder.state l.files) l.fn.name l.fn.whole l.rest;
  later : (g.F.Folder.state l.fn.files).write_faults ≤ (g.F.Folder.state l.files).write_faults;
  leaves : WriteLeaves (g.F.Folder.state l.fn.files) (g.F.Folder.state l.files);
  turns : Offers (appends g.F.Folder.called l.fn.name) l.initial.files l.fn.whole l.files l.rest;
}

abbrev pub decreases-loop-rest : goal.decreases-loop-rest
decreases-loop-rest g l = length l.rest
