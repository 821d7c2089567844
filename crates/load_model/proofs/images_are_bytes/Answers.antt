use Rattle.load_model.proofs.Imaging.{code-small, region-small}
use Rattle.load_model.proofs.images_are_bytes.Goals as goal

pub returns-clause-code : goal.returns-clause-code
returns-clause-code c = code-small

pub returns-clause-region : goal.returns-clause-region
returns-clause-region c = region-small
