use Rattle.std.proofs.Common.{arith}
use Rattle.kernel_threads.proofs.ChainLemmas.{leaves_same}
use Rattle.kernel_sync.proofs.LoopLemmas.{next_may, rest_may, more_gone, all_gone}
use Rattle.kernel_model.specs.Layout.{kernel_of}
use Rattle.kernel_sync.proofs.conditions.each_goes.Goals as goal

pub loop-n-init : goal.loop-n-init
loop-n-init c = record { queues = c.requires.queues; may = c.requires.may; left = leaves_same c.args.m.now }

pub go_for-requires-clause-may : goal.go_for-requires-clause-may
go_for-requires-clause-may c = next_may (kernel_of c.loop-n.m) c.args.a c.loop-n.n-index c.args.going.now (omega arith) c.loop-n.invariant.may

pub loop-n-preserved : goal.loop-n-preserved
loop-n-preserved c = record {
  queues = c.go_for.ensures.queues c.loop-n.invariant.queues;
  may = rest_may c.loop-n.m c.go_for.new.m c.args.a c.loop-n.n-index c.args.going.now (omega arith) c.loop-n.invariant.may c.go_for.ensures;
  left = more_gone c.args.m.now c.loop-n.m c.go_for.new.m c.args.a c.loop-n.n-index c.args.going.now (omega arith) c.loop-n.invariant.left c.go_for.ensures;
}

pub returns : goal.returns
returns c = all_gone c.args.m.now c.loop-n.m c.args.a c.loop-n.n-index c.args.going.now (omega arith) c.loop-n.invariant.left
