use Rattle.placed_unit_laws.proofs.Anywhere.{source-place}
use Rattle.placed_unit_laws.proofs.source_place_hidden.Goals as goal

pub returns : goal.returns
returns c = source-place c.lines_are_clean.ensures c.place_hidden.ensures
