use Rattle.node_laws.proofs.LoadedOwning.{loaded-owned}
use Rattle.node_laws.proofs.boot.loaded_is_owned.Goals as goal

pub returns : goal.returns
returns c = loaded-owned record {
  code_size = c.image_lengths.ensures.code;
  region_size = c.image_lengths.ensures.region;
  code_small = c.images_are_bytes.ensures.code;
  region_small = c.images_are_bytes.ensures.region;
  named = c.named_units.ensures;
}
