use Rattle.std.proofs.Common.{◌∙◌, arith}
use Rattle.kernel_tables.proofs.MemberLemmas.{prev_found, prev_missing}
use Rattle.kernel_tables.proofs.links.prev_link.Goals as goal

pub returns-then-list-i-clause-value : goal.returns-then-list-i-clause-value
returns-then-list-i-clause-value c =
    c.last_link.ensures.value ∙ prev_found c.args.list.now c.loop-i.i c.args.t c.loop-i-test.true c.loop-i.invariant c.if-list-i.true

pub returns-clause-value : goal.returns-clause-value
returns-clause-value c = prev_missing c.args.list.now c.args.t (λ k l. c.loop-i.invariant k (omega arith))
