use Rattle.confinement_laws.proofs.Steps.{instruction-leads}
use Rattle.confinement_laws.proofs.instruction_leads.Goals as goal

pub returns : goal.returns
returns c = instruction-leads record { store = c.store_guard_leads.ensures; growth = c.growth_guard_leads.ensures; pop = c.pop_guard_leads.ensures; sp = c.sp_guard_leads.ensures } c.unit_leads.ensures
