use Rattle.std.proofs.Common.{◌+◌, List, ℕ, sym, subst, arith}
use Rattle.kernel_tables.proofs.PieceLemmas.{ReadSoFar, read_none, read_more, read_end, read_all}
use Rattle.kernel_tables.proofs.pieces.list_at.Goals as goal

pub loop-i-init : goal.loop-i-init
loop-i-init g c = subst (λ (xs : List ℕ). ReadSoFar c.args.m.now c.args.at 0 g.row.N xs) (sym c.new-list.ensures) (read_none c.args.m.now c.args.at g.row.N)

pub loop-i-preserved : goal.loop-i-preserved
loop-i-preserved g c =
    subst (λ (xs : List ℕ). ReadSoFar c.args.m.now c.args.at (c.loop-i.i + 1) g.row.N xs) (sym c.push.ensures.items)
    (read_more c.args.m.now c.args.at c.loop-i.i g.row.N c.byte-byte.result c.loop-i.list.items c.loop-i.invariant c.loop-i-test.true (omega arith) c.byte-byte.ensures c.if-byte.false)

pub returns-then-byte : goal.returns-then-byte
returns-then-byte g c =
    read_end c.args.m.now c.args.at c.loop-i.i g.row.N c.byte-byte.result c.loop-i.list.items c.loop-i.invariant c.loop-i-test.true (omega arith) c.byte-byte.ensures c.if-byte.true

pub returns : goal.returns
returns g c = read_all c.args.m.now c.args.at c.loop-i.i g.row.N c.loop-i.list.items c.loop-i.invariant (omega arith)
