use Rattle.asm_model.proofs.Formed.{results_meet_the_form}
use Rattle.asm_model.proofs.laws.results_meet_the_form.Goals as goal

pub returns : goal.returns
returns c = results_meet_the_form
