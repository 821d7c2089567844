use Rattle.std.proofs.Common.{leb, take, drop, ap, ◌∙◌}
use Rattle.std.specs.List.{prefix_len}
use Rattle.kernel_model.specs.Kernel.{Kernel, with_sleepers}
use Rattle.kernel_model.specs.Layout.{kernel_of}
use Rattle.kernel_model.specs.Links.{first, last}
use Rattle.kernel_model.specs.Words.{wake_time}
use Rattle.kernel_model.specs.Queues.{Leaves, among_sleepers}
use Rattle.kernel_tables.proofs.Patches.{flat_small}
use Rattle.kernel_tables.proofs.MemberLemmas.{from_place}
use Rattle.kernel_tables.proofs.QueueCalls.{sleep_leaves}
use Rattle.kernel_tables.proofs.queues.sleep_in.Goals as goal

pub returns-clause-leaves : goal.returns-clause-leaves
returns-clause-leaves c =
    let m = c.args.m.now in let k : Kernel = kernel_of m in let n = c.first_later-place.result in
    sleep_leaves m c.args.t c.is_flat.ensures.size (flat_small m c.is_flat.ensures.small) c.requires.queues c.link.new.m n c.last_link-before.result c.first_link-behind.result
    (record { number = c.requires.number; not_ready = c.requires.not_ready; not_asleep = c.requires.not_asleep })
    (c.first_later-place.ensures.value ∙ ap (λ xs. prefix_len (λ x. leb (wake_time k x) c.wake_time.result) xs) (c.as_slice.ensures.value ∙ c.sleepers-list.ensures)
    ∙ ap (λ w. prefix_len (λ x. leb (wake_time k x) w) k.sleepers) c.wake_time.ensures)
    (c.last_link-before.ensures.value ∙ ap (λ xs. last (take n xs)) (c.as_slice-2.ensures.value ∙ c.sleepers-list.ensures))
    (c.first_link-behind.ensures.value ∙ ap (λ xs. first xs) (from_place n c.as_slice-3.result.now) ∙ ap (λ xs. first (drop n xs)) (c.as_slice-3.ensures.value ∙ c.sleepers-list.ensures))
    c.link.ensures

pub returns-clause-queues : goal.returns-clause-queues
returns-clause-queues c =
    let m = c.args.m.now in
    let left : Leaves m c.link.new.m (with_sleepers (kernel_of m) (among_sleepers (kernel_of m) c.args.t)) = returns-clause-leaves c in
    left.queues c.requires.queues
