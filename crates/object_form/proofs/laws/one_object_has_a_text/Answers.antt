use Rattle.object_form.proofs.Objects.{fields-same_text}
use Rattle.object_form.proofs.laws.one_object_has_a_text.Goals as goal

pub returns : goal.returns
returns c a b e = c.same_fields_same_object.ensures a b (fields-same_text a b e)
