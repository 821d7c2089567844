use Rattle.confinement_laws.proofs.Steps.{growth-guard_leads}
use Rattle.confinement_laws.proofs.growth_guard_leads.Goals as goal

pub returns : goal.returns
returns c = growth-guard_leads c.code_laws.ensures c.own_leads.ensures c.same_stays.ensures c.push_stays.ensures c.call_stays.ensures
