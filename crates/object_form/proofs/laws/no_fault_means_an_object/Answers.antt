use Rattle.object_form.proofs.Objects.{object-of_text}
use Rattle.object_form.proofs.laws.no_fault_means_an_object.Goals as goal

pub returns : goal.returns
returns c = object-of_text
