use Rattle.kernel_model.specs.Layout.{kernel_of}
use Rattle.kernel_model.specs.Dispatching.{dispatched}
use Rattle.kernel_threads.proofs.ChoiceLemmas.{dispatched_leaves}
use Rattle.kernel_threads.proofs.ChainLemmas.{settled_by}
use Rattle.kernel_threads.proofs.dispatching.dispatch.Goals as goal

pub returns-else-is_empty-clause-leaves : goal.returns-else-is_empty-clause-leaves
returns-else-is_empty-clause-leaves c =
    dispatched_leaves c.args.m.now c.run_ready.new.m c.args.pick c.ready-list.result.items c.as_slice-list.result.now c.chosen_place.result
    c.orderly_queues_hold.ensures.lists c.ready-list.ensures c.as_slice-list.ensures.value c.chosen_place.ensures.value c.chosen_place.ensures.below c.run_ready.ensures

pub returns-else-is_empty-clause-settled : goal.returns-else-is_empty-clause-settled
returns-else-is_empty-clause-settled c =
    settled_by c.args.m.now c.run_ready.new.m (dispatched (kernel_of c.args.m.now) c.args.pick) c.requires.settled (returns-else-is_empty-clause-leaves c)
    (c.dispatched_is_settled.ensures (kernel_of c.args.m.now) c.args.pick c.requires.settled.kernel c.requires.none_runs)
