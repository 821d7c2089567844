use Rattle.trace_model.proofs.ReadScripts.{script_is}
use Rattle.trace_model.proofs.script_laws.texts_give_scripts.Goals as goal

pub returns : goal.returns
returns c = script_is
