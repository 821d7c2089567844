use Rattle.insert_laws.proofs.Targets.{entry_passes}
use Rattle.insert_laws.proofs.entry_rule_passes.Goals as goal

pub returns : goal.returns
returns c = entry_passes c.starts_are_units.ensures
