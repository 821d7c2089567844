use Rattle.code_laws.proofs.DangerLemmas.{accepted_guarded}
use Rattle.code_laws.proofs.accepted_guarded.Goals as goal

pub returns : goal.returns
returns c = accepted_guarded
