use Rattle.std.proofs.Common.{◌-◌, length}
use Rattle.retos_cli.proofs.Gathering.{Gathering}
use Rattle.retos_cli.proofs.input.take_all.Given as goal

abbrev pub invariant-inputs : goal.invariant-inputs
invariant-inputs g l = Gathering l.purpose (g.F.Folder.state l.initial.files) (g.F.Folder.state l.files) l.names l.objects l.at

abbrev pub decreases-inputs : goal.decreases-inputs
decreases-inputs g l = length l.names - l.at
