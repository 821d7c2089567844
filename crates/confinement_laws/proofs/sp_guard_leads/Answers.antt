use Rattle.confinement_laws.proofs.Steps.{sp-guard_leads}
use Rattle.confinement_laws.proofs.sp_guard_leads.Goals as goal

pub returns : goal.returns
returns c = sp-guard_leads c.code_laws.ensures c.own_leads.ensures c.same_stays.ensures c.sp_stays.ensures
