use Rattle.object_form.proofs.Objects.{object-fields}
use Rattle.object_form.proofs.laws.fields_stand_in_the_text.Goals as goal

pub returns : goal.returns
returns c = object-fields
