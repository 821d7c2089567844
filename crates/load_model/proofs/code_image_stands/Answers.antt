use Rattle.load_model.proofs.Imaging.{code-stands}
use Rattle.load_model.proofs.code_image_stands.Goals as goal

pub returns : goal.returns
returns c = code-stands
