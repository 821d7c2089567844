use Rattle.machine_laws.proofs.Places.{own-leads}
use Rattle.machine_laws.proofs.own_leads.Goals as goal

pub returns : goal.returns
returns c = own-leads
