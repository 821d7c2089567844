use Rattle.std.proofs.Common.{arith}
use Rattle.kernel_tables.proofs.OrderLemmas.{no, yes, piece_is, piece_differs}
use Rattle.kernel_tables.proofs.order.are_at.Goals as goal

pub returns-then-byte-bytes : goal.returns-then-byte-bytes
returns-then-byte-bytes c =
    no (piece_differs c.args.m.now c.args.bytes.now c.args.at c.loop-i.i c.byte.result c.loop-i-test.true c.byte.ensures c.if-byte-bytes.true)

pub returns : goal.returns
returns c = yes (piece_is c.args.m.now c.args.bytes.now c.args.at (omega arith) (λ k l. c.loop-i.invariant k (omega arith)))
