use Rattle.std.proofs.Common.{◌+◌, ap, ◌∙◌, arith}
use Rattle.kernel_model.specs.Links.{first}
use Rattle.kernel_tables.proofs.MemberLemmas.{from_place, next_found, next_missing}
use Rattle.kernel_tables.proofs.links.next_link.Goals as goal

pub returns-then-list-i-clause-value : goal.returns-then-list-i-clause-value
returns-then-list-i-clause-value c =
    c.first_link.ensures.value ∙ ap (λ xs. first xs) (from_place (c.loop-i.i + 1) c.args.list.now) ∙ next_found c.args.list.now c.loop-i.i c.args.t c.loop-i-test.true c.loop-i.invariant c.if-list-i.true

pub returns-clause-value : goal.returns-clause-value
returns-clause-value c = next_missing c.args.list.now c.args.t (λ k l. c.loop-i.invariant k (omega arith))
