use Rattle.std.proofs.Common.{◌≤◌, length, arith}
use Rattle.kernel_tables.proofs.TableLemmas.{leaves_condition, short_of_none}
use Rattle.kernel_tables.proofs.waiting.set_cond.Goals as goal

pub returns : goal.returns
returns c =
    let room : length c.args.list.now.items ≤ 4 = omega arith in
    leaves_condition c.args.m.now c.put_list.new.m c.args.a c.args.i c.args.list.now.items c.is_flat.ensures.size c.requires.app c.requires.number
    (short_of_none 4 c.args.list.now.items room c.requires.members) c.put_list.ensures
