use Rattle.std.proofs.Common.{◌≤◌, length, arith}
use Rattle.kernel_tables.proofs.TableLemmas.{leaves_line, short_of_none}
use Rattle.kernel_tables.proofs.waiting.set_line.Goals as goal

pub returns : goal.returns
returns c =
    let room : length c.args.list.now.items ≤ 32 = omega arith in
    leaves_line c.args.m.now c.put_list.new.m c.args.n c.args.list.now.items c.is_flat.ensures.size c.requires.number
    (short_of_none 32 c.args.list.now.items room c.requires.members) c.put_list.ensures
