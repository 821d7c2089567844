use Rattle.node_laws.proofs.Modules.{module-step}
use Rattle.node_laws.proofs.module_step_is_safe.Goals as goal

pub returns : goal.returns
returns c = module-step
