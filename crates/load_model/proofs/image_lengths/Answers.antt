use Rattle.load_model.proofs.Imaging.{code-length, region-length}
use Rattle.load_model.proofs.image_lengths.Goals as goal

pub returns-clause-code : goal.returns-clause-code
returns-clause-code c = code-length

pub returns-clause-region : goal.returns-clause-region
returns-clause-region c = region-length
