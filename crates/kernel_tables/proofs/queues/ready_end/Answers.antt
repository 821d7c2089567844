use Rattle.std.proofs.Common.{◌≡◌, ◌≤◌, subst, sym, ap, ◌∙◌, arith, slice_index}
use Rattle.kernel_model.specs.Kernel.{with_ready}
use Rattle.kernel_model.specs.Layout.{kernel_of}
use Rattle.kernel_model.specs.Queues.{Leaves, at_end}
use Rattle.kernel_model.specs.Standing.{prev_in}
use Rattle.kernel_tables.proofs.Patches.{flat_small}
use Rattle.kernel_tables.proofs.QueueCalls.{ready_room, end_leaves}
use Rattle.kernel_tables.proofs.queues.ready_end.Goals as goal

pub link-requires-clause-links : goal.link-requires-clause-links
link-requires-clause-links c =
    let m = c.args.m.now in
    let is : c.byte-last.result ≡ prev_in m c.priority-q.result 0 = c.byte-last.ensures ∙ ap (λ a. slice_index m a) c.prev_place.ensures in
    let room : prev_in m c.priority-q.result 0 ≤ 32 = subst (λ q. prev_in m q 0 ≤ 32) (sym c.priority-q.ensures)
    (ready_room m c.args.t c.is_flat.ensures.size (flat_small m c.is_flat.ensures.small) c.requires.queues c.requires.priority).0 in
    (subst (λ b. b ≤ 32) (sym is) room, omega arith)

pub returns-clause-leaves : goal.returns-clause-leaves
returns-clause-leaves c =
    let m = c.args.m.now in
    end_leaves m c.args.t c.is_flat.ensures.size (flat_small m c.is_flat.ensures.small) c.requires.queues c.link.new.m c.priority-q.result c.byte-last.result
    (record { number = c.requires.number; not_ready = c.requires.not_ready; not_asleep = c.requires.not_asleep }) c.requires.priority
    c.priority-q.ensures (c.byte-last.ensures ∙ ap (λ a. slice_index m a) c.prev_place.ensures) c.link.ensures

pub returns-clause-queues : goal.returns-clause-queues
returns-clause-queues c =
    let m = c.args.m.now in
    let left : Leaves m c.link.new.m (with_ready (kernel_of m) (at_end (kernel_of m) c.args.t)) =
    end_leaves m c.args.t c.is_flat.ensures.size (flat_small m c.is_flat.ensures.small) c.requires.queues c.link.new.m c.priority-q.result c.byte-last.result
    (record { number = c.requires.number; not_ready = c.requires.not_ready; not_asleep = c.requires.not_asleep }) c.requires.priority
    c.priority-q.ensures (c.byte-last.ensures ∙ ap (λ a. slice_index m a) c.prev_place.ensures) c.link.ensures in
    left.queues c.requires.queues
