use Rattle.object_form.proofs.Objects.{object-has_no_fault}
use Rattle.object_form.proofs.laws.objects_have_no_fault.Goals as goal

pub returns : goal.returns
returns c = object-has_no_fault
