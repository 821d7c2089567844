use Rattle.std.proofs.Common.{arith}
use Rattle.kernel_model.specs.Layout.{kernel_of}
use Rattle.kernel_model.specs.Words.{priority_of}
use Rattle.kernel_tables.proofs.OrderLemmas.{yes, chain_down}
use Rattle.kernel_tables.proofs.order.by_priority.Goals as goal

pub returns : goal.returns
returns c = yes (chain_down (λ t. priority_of (kernel_of c.args.m.now) t) c.args.list.now (λ k l. c.loop-i.invariant k (omega arith)))
