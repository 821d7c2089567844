use Rattle.kernel_threads.proofs.EndingLemmas.{lists_left, others_ready, others_asleep, threads_left}
use Rattle.kernel_threads.proofs.ending.end_threads.Goals as goal

pub empty_rows-requires-clause-not_ready : goal.empty_rows-requires-clause-not_ready
empty_rows-requires-clause-not_ready c =
    others_ready c.args.m.now c.leave_lines.new.m c.args.a
    (lists_left c.args.m.now c.leave_ready.new.m c.leave_sleepers.new.m c.leave_lines.new.m c.args.a c.leave_ready.ensures c.leave_sleepers.ensures c.leave_lines.ensures)

pub empty_rows-requires-clause-not_asleep : goal.empty_rows-requires-clause-not_asleep
empty_rows-requires-clause-not_asleep c =
    others_asleep c.args.m.now c.leave_lines.new.m c.args.a
    (lists_left c.args.m.now c.leave_ready.new.m c.leave_sleepers.new.m c.leave_lines.new.m c.args.a c.leave_ready.ensures c.leave_sleepers.ensures c.leave_lines.ensures)

pub returns : goal.returns
returns c =
    threads_left c.args.m.now c.leave_lines.new.m c.empty_rows.new.m c.args.a
    (lists_left c.args.m.now c.leave_ready.new.m c.leave_sleepers.new.m c.leave_lines.new.m c.args.a c.leave_ready.ensures c.leave_sleepers.ensures c.leave_lines.ensures)
    c.empty_rows.ensures
