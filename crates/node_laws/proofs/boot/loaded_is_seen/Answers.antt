use Rattle.node_laws.proofs.ShowingLoaded.{seen-loaded}
use Rattle.node_laws.proofs.boot.loaded_is_seen.Goals as goal

pub returns : goal.returns
returns c = seen-loaded record {
  code_size = c.image_lengths.ensures.code;
  region_size = c.image_lengths.ensures.region;
  code_small = c.images_are_bytes.ensures.code;
  region_small = c.images_are_bytes.ensures.region;
  named = c.named_units.ensures;
}
