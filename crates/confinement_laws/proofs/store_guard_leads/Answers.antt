use Rattle.confinement_laws.proofs.Steps.{store-guard_leads}
use Rattle.confinement_laws.proofs.store_guard_leads.Goals as goal

pub returns : goal.returns
returns c = store-guard_leads c.code_laws.ensures c.own_leads.ensures c.same_stays.ensures c.store_stays.ensures c.store_leaves.ensures c.plain_passes.ensures
