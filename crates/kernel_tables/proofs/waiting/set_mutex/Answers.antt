use Rattle.kernel_tables.proofs.TableLemmas.{leaves_mutex, short_of_none}
use Rattle.kernel_tables.proofs.waiting.set_mutex.Goals as goal

pub returns : goal.returns
returns c =
    leaves_mutex c.args.m.now c.put_mutex_row.new.m c.args.a c.args.i c.args.row.now c.is_flat.ensures.size c.requires.app c.requires.number
    (record { waiters = short_of_none 4 c.args.row.now.waiters.items c.put_mutex_row.ensures.waiters c.requires.waiters }) c.put_mutex_row.ensures.put
