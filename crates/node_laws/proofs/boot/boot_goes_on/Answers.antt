use Rattle.node_laws.proofs.BootParts.{boot-goes-on}
use Rattle.node_laws.proofs.boot.boot_goes_on.Goals as goal

pub returns : goal.returns
returns c = boot-goes-on record {
  code_size = c.image_lengths.ensures.code;
  region_size = c.image_lengths.ensures.region;
  code_small = c.images_are_bytes.ensures.code;
  region_small = c.images_are_bytes.ensures.region;
  named = c.named_units.ensures;
}
