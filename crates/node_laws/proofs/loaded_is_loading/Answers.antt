use Rattle.node_laws.proofs.Loading.{loaded-loading}
use Rattle.node_laws.proofs.loaded_is_loading.Goals as goal

pub returns : goal.returns
returns c = loaded-loading record {
  code_size = c.image_lengths.ensures.code;
  region_size = c.image_lengths.ensures.region;
  code_small = c.images_are_bytes.ensures.code;
  region_small = c.images_are_bytes.ensures.region;
  named = c.named_units.ensures;
}
