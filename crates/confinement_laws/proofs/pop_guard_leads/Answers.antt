use Rattle.confinement_laws.proofs.Steps.{pop-guard_leads}
use Rattle.confinement_laws.proofs.pop_guard_leads.Goals as goal

pub returns : goal.returns
returns c = pop-guard_leads c.code_laws.ensures c.own_leads.ensures c.same_stays.ensures c.pop_stays.ensures
