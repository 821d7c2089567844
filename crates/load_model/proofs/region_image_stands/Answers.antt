use Rattle.load_model.proofs.Imaging.{region-stands}
use Rattle.load_model.proofs.region_image_stands.Goals as goal

pub returns : goal.returns
returns c = region-stands
