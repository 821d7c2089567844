use Rattle.code_model.proofs.SameObject.{same_object}
use Rattle.code_model.proofs.laws.same_fields_same_object.Goals as goal

pub returns : goal.returns
returns c = same_object
