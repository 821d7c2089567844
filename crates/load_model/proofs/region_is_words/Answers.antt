use Rattle.load_model.proofs.Imaging.{region-words}
use Rattle.load_model.proofs.region_is_words.Goals as goal

pub returns : goal.returns
returns c = region-words
