use Rattle.std.proofs.Common.{◌<◌, ℕ, length, lit<, arith}
use Rattle.kernel_model.specs.Kernel.{Kernel}
use Rattle.kernel_model.specs.Layout.{kernel_of}
use Rattle.kernel_model.specs.Words.{running}
use Rattle.kernel_threads.proofs.TickLemmas.{line_room, line_with}
use Rattle.kernel_threads.proofs.lines.wait_line.Goals as goal

pub push-requires : goal.push-requires
push-requires c =
    let k : Kernel = kernel_of c.args.m.now in
    let n : ℕ = c.get-number.result in
    let room : length c.line-list.result.items < 32 =
    line_room k (running k) n c.line-list.result.items c.requires.settled.kernel.orderly (c.running_thread.ensures k c.requires.settled.kernel.orderly c.requires.runs)
    (c.waiters_may_wake.ensures k n c.requires.settled.kernel.orderly (omega arith)) c.line-list.ensures in
    (lit< tt, room)

pub set_line-requires-clause-members : goal.set_line-requires-clause-members
set_line-requires-clause-members c =
    let k : Kernel = kernel_of c.args.m.now in
    let n : ℕ = c.get-number.result in
    line_with c.args.m.now c.line-list.result.items c.push.new.self.items c.running-t.result n (c.waiters_may_wake.ensures k n c.requires.settled.kernel.orderly (omega arith)) c.line-list.ensures
    (omega arith) c.push.ensures.items
