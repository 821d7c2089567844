use Rattle.insert_laws.proofs.PlaceBounds.{within}
use Rattle.insert_laws.proofs.places_within.Goals as goal

pub returns : goal.returns
returns c = within c.code_is_pieces.ensures c.sizes_alike.ensures
