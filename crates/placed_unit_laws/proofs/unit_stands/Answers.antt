use Rattle.placed_unit_laws.proofs.WordsInPlace.{unit_law}
use Rattle.placed_unit_laws.proofs.unit_stands.Goals as goal

pub returns : goal.returns
returns c = unit_law c.groups_stand.ensures c.lines_are_clean.ensures c.groups_have_units.ensures c.code_is_pieces.ensures c.relocs_are_pieces.ensures c.code_image_stands.ensures
