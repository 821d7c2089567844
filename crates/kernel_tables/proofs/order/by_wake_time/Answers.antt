use Rattle.std.proofs.Common.{arith}
use Rattle.kernel_model.specs.Layout.{kernel_of}
use Rattle.kernel_model.specs.Words.{wake_time}
use Rattle.kernel_tables.proofs.OrderLemmas.{yes, chain_up}
use Rattle.kernel_tables.proofs.order.by_wake_time.Goals as goal

pub returns : goal.returns
returns c = yes (chain_up (λ t. wake_time (kernel_of c.args.m.now) t) c.args.list.now (λ k l. c.loop-i.invariant k (omega arith)))
