use Rattle.confinement_laws.proofs.UnitLeading.{unit-leads}
use Rattle.confinement_laws.proofs.unit_leads.Goals as goal

pub returns : goal.returns
returns c = unit-leads c.code_laws.ensures c.plain_passes.ensures c.branch_goes.ensures c.jump_goes.ensures c.save_saves.ensures
