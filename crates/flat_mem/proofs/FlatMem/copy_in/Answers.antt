use Rattle.std.proofs.Common.{◌≡◌, ◌+◌, ◌≤◌, length, sym, ◌∙◌, arith}
use Rattle.flat_mem.proofs.Patch.{patch_none, one_more}
use Rattle.flat_mem.proofs.FlatMem.copy_in.Goals as goal

pub loop-i-init : goal.loop-i-init
loop-i-init c = (sym (patch_none c.args.self.now c.args.at), c.is_flat.ensures.size)

pub loop-i-preserved : goal.loop-i-preserved
loop-i-preserved c =
    let size : length c.args.self.now ≡ 65536 = c.is_flat.ensures.size in
    let fits : c.args.at + length c.args.from.now ≤ 65536 = c.requires in
    let room : c.args.at + length c.args.from.now ≤ length c.args.self.now = omega (arith, size, fits) in
    let more =
    one_more c.args.self.now c.loop-i.self c.args.from.now c.args.at c.loop-i.i c.loop-i.invariant.0 c.loop-i-test.true room in
    (c.set_cell.ensures.written ∙ more, c.set_cell.ensures.size)
