use Rattle.std.proofs.lemmas.Bool.{iff_false}
use Rattle.kernel_tables.proofs.OrderLemmas.{no, once_from_parts, apart_from_once}
use Rattle.kernel_model.proofs.LayoutLemmas.{distinct_front, distinct_back}
use Rattle.kernel_tables.proofs.order.in_order.Goals as goal

pub returns-then-not-distinct : goal.returns-then-not-distinct
returns-then-not-distinct c = no (λ q. iff_false c.distinct.ensures c.if-not-distinct.true (distinct_front c.args.ready.now c.args.sleepers.now q.once))

pub returns-then-not-distinct-2 : goal.returns-then-not-distinct-2
returns-then-not-distinct-2 c = no (λ q. iff_false c.distinct-2.ensures c.if-not-distinct-2.true (distinct_back c.args.ready.now c.args.sleepers.now q.once))

pub returns-then-not-apart : goal.returns-then-not-apart
returns-then-not-apart c = no (λ q. iff_false c.apart.ensures c.if-not-apart.true (apart_from_once c.args.ready.now c.args.sleepers.now q.once))

pub returns : goal.returns
returns c = (
  λ e. record {
    ready_below = c.all_below.ensures.0 c.if-not-all_below.false;
    sleepers_below = c.all_below-2.ensures.0 c.if-not-all_below-2.false;
    once = once_from_parts c.args.ready.now c.args.sleepers.now (c.distinct.ensures.0 c.if-not-distinct.false)
        (c.distinct-2.ensures.0 c.if-not-distinct-2.false) (c.apart.ensures.0 c.if-not-apart.false);
    priorities = c.in_range.ensures.0 c.if-not-in_range.false;
    by_priority = c.by_priority.ensures.0 c.if-not-by_priority.false;
    by_wake_time = c.by_wake_time.ensures.0 e;
  },
  λ q. c.by_wake_time.ensures.1 q.by_wake_time,
)
