use Rattle.std.proofs.Common.{leb, length, get_or, sym, arith}
use Rattle.std.proofs.lemmas.Bool.{lt-leb}
use Rattle.std.proofs.lemmas.List.Sums.{prefix_len_is}
use Rattle.kernel_model.specs.Layout.{kernel_of}
use Rattle.kernel_model.specs.Words.{wake_time}
use Rattle.kernel_tables.proofs.queues.first_later.Goals as goal

pub returns-then-wake_time-tick-clause-value : goal.returns-then-wake_time-tick-clause-value
returns-then-wake_time-tick-clause-value c =
    sym (prefix_len_is (λ t. leb (wake_time (kernel_of c.args.m.now) t) c.args.tick) c.args.list.now c.loop-i.i 0 (omega arith) c.loop-i.invariant
    (λ l. lt-leb (wake_time (kernel_of c.args.m.now) (get_or c.args.list.now c.loop-i.i 0)) c.args.tick (omega arith)))

pub returns-clause-value : goal.returns-clause-value
returns-clause-value c =
    sym (prefix_len_is (λ t. leb (wake_time (kernel_of c.args.m.now) t) c.args.tick) c.args.list.now (length c.args.list.now) 0 (omega arith)
    (λ k l. c.loop-i.invariant k (omega arith)) (λ l. absurd (omega arith)))
