use Rattle.reloc_loader.proofs.Images.{images_put}
use Rattle.reloc_loader.proofs.loading.put_images.Goals as goal

pub returns : goal.returns
returns c =
    images_put c.args.m.now c.put_section-next.new.m c.put_section-all.new.m c.args.o.now c.args.r.now c.len.result c.from.result c.requires c.is_flat.ensures.size
    c.image_lengths.ensures.code c.image_lengths.ensures.region c.region_is_words.ensures
    c.put_section-next.ensures.written c.len.ensures c.put_section-all.ensures.written c.from.ensures
