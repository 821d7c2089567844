use Rattle.std.proofs.Common.{arith, ◌∙◌, ap, length, subst, ◌++◌, sym, ◌≤◌, ◌+◌}
use Rattle.kernel_tables.specs.Linking.{walk_in}
use Rattle.kernel_tables.proofs.ReadQueues.{sleepers_of, sleepers_room}
use Rattle.kernel_tables.proofs.queues.sleepers.Goals as goal

pub returns : goal.returns
returns c =
    let m = c.args.m.now in
    let room : length (walk_in m 8) ≤ 32 = sleepers_room m c.requires in
    c.walk.ensures.whole (c.walk.ensures.room (subst (λ xs. length xs + length (walk_in m 8) ≤ 32) (sym c.new-list.ensures) (omega (arith, room))))
    ∙ ap (λ xs. xs ++ walk_in m 8) c.new-list.ensures ∙ sleepers_of m
