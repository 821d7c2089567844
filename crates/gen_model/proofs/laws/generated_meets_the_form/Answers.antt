use Rattle.gen_model.proofs.Formed.{generated_formed}
use Rattle.gen_model.proofs.laws.generated_meets_the_form.Goals as goal

pub returns : goal.returns
returns c = generated_formed
