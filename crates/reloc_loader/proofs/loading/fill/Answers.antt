use Rattle.reloc_loader.proofs.Filling.{filled}
use Rattle.reloc_loader.proofs.loading.fill.Goals as goal

pub returns : goal.returns
returns c =
    filled c.args.m.now c.set_marks.new.m c.put_images.new.m (record { object = c.args.o.now; units = c.args.marks.now }) c.args.r.now c.requires
    c.set_marks.ensures.marked c.put_images.ensures
