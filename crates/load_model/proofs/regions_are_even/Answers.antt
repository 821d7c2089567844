use Rattle.load_model.proofs.Settling.{even_region}
use Rattle.load_model.proofs.regions_are_even.Goals as goal

pub returns : goal.returns
returns c = even_region
