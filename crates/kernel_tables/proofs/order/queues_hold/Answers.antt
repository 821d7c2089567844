use Rattle.std.proofs.Common.{◌≡◌, ◌+◌, ◌≤◌, ◌++◌, length, ap, sym, subst, ◌∙◌, arith}
use Rattle.std.proofs.lemmas.Bool.{both_ways, iff_false}
use Rattle.kernel_model.specs.Layout.{kernel_of}
use Rattle.kernel_tables.specs.Linking.{walk_in}
use Rattle.kernel_tables.proofs.OrderLemmas.{no}
use Rattle.kernel_tables.proofs.Patches.{flat_small}
use Rattle.kernel_tables.proofs.ReadQueues.{ready_of, sleepers_of, ready_room, sleepers_room}
use Rattle.kernel_tables.proofs.HoldLemmas.{holds, lists_read, ends_read, links_read}
use Rattle.kernel_tables.proofs.order.queues_hold.Goals as goal

pub returns-then-not-walk_ready : goal.returns-then-not-walk_ready
returns-then-not-walk_ready c = no (λ q. both_ways c.walk_ready.result c.if-not-walk_ready.true (c.walk_ready.ensures.room (ready_room c.args.m.now q)))

pub returns-then-not-walk : goal.returns-then-not-walk
returns-then-not-walk c =
    let m = c.args.m.now in
    no (λ q. let room : length (walk_in m 8) ≤ 32 = sleepers_room m q in
    both_ways c.walk.result c.if-not-walk.true
    (c.walk.ensures.room (subst (λ xs. length xs + length (walk_in m 8) ≤ 32) (sym c.new-sleeper_list.ensures) (omega (arith, room)))))

pub returns-then-not-in_order : goal.returns-then-not-in_order
returns-then-not-in_order c =
    let m = c.args.m.now in let rs = c.as_slice-ready.result.now in let ss = c.as_slice-sleepers.result.now in
    let small = flat_small m c.is_flat.ensures.small in
    let ready_is : rs ≡ (kernel_of m).ready = c.as_slice-ready.ensures.value ∙ c.walk_ready.ensures.whole c.if-not-walk_ready.false ∙ ready_of m in
    let sleepers_are : ss ≡ (kernel_of m).sleepers = c.as_slice-sleepers.ensures.value ∙ c.walk.ensures.whole c.if-not-walk.false ∙ ap (λ xs. xs ++ walk_in m 8) c.new-sleeper_list.ensures ∙ sleepers_of m in
    no (λ q. iff_false c.in_order.ensures c.if-not-in_order.true (lists_read m rs ss ready_is sleepers_are q))

pub returns-then-not-ends_hold : goal.returns-then-not-ends_hold
returns-then-not-ends_hold c =
    let m = c.args.m.now in let rs = c.as_slice-ready.result.now in let ss = c.as_slice-sleepers.result.now in
    let small = flat_small m c.is_flat.ensures.small in
    let ready_is : rs ≡ (kernel_of m).ready = c.as_slice-ready.ensures.value ∙ c.walk_ready.ensures.whole c.if-not-walk_ready.false ∙ ready_of m in
    let sleepers_are : ss ≡ (kernel_of m).sleepers = c.as_slice-sleepers.ensures.value ∙ c.walk.ensures.whole c.if-not-walk.false ∙ ap (λ xs. xs ++ walk_in m 8) c.new-sleeper_list.ensures ∙ sleepers_of m in
    no (λ q. iff_false c.ends_hold.ensures c.if-not-ends_hold.true (ends_read m rs ss c.is_flat.ensures.size small ready_is sleepers_are q))

pub returns : goal.returns
returns c =
    let m = c.args.m.now in let rs = c.as_slice-ready.result.now in let ss = c.as_slice-sleepers.result.now in
    let small = flat_small m c.is_flat.ensures.small in
    let ready_is : rs ≡ (kernel_of m).ready = c.as_slice-ready.ensures.value ∙ c.walk_ready.ensures.whole c.if-not-walk_ready.false ∙ ready_of m in
    let sleepers_are : ss ≡ (kernel_of m).sleepers = c.as_slice-sleepers.ensures.value ∙ c.walk.ensures.whole c.if-not-walk.false ∙ ap (λ xs. xs ++ walk_in m 8) c.new-sleeper_list.ensures ∙ sleepers_of m in (
      λ e. holds m rs ss c.is_flat.ensures.size small ready_is sleepers_are (c.in_order.ensures.0 c.if-not-in_order.false) (c.ends_hold.ensures.0 c.if-not-ends_hold.false) (c.links_hold.ensures.0 e),
      λ q. c.links_hold.ensures.1 (links_read m rs ss c.is_flat.ensures.size small ready_is sleepers_are q),
    )
