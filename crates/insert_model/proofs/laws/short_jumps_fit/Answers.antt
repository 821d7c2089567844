use Rattle.insert_model.proofs.Layouts.{short_law}
use Rattle.insert_model.proofs.laws.short_jumps_fit.Goals as goal

pub returns : goal.returns
returns c = short_law
