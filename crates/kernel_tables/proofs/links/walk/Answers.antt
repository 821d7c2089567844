use Rattle.std.proofs.Common.{◌≤◌, ap, ◌∙◌, arith, slice_index}
use Rattle.kernel_tables.proofs.WalkLemmas.{walk_starts, walk_goes, walk_room, behind_place}
use Rattle.kernel_tables.proofs.links.walk.Goals as goal

pub loop-init : goal.loop-init
loop-init c = walk_starts c.args.m.now c.args.q c.byte-link.result c.args.list.now.items (c.byte-link.ensures ∙ ap (λ a. slice_index c.args.m.now a) c.next_place.ensures)

pub returns-then-len-eq32-clause-room : goal.returns-then-len-eq32-clause-room
returns-then-len-eq32-clause-room c = λ room.
    let some = c.if-link-eq0.false in let one : 1 ≤ c.loop.link = omega arith in
    let less = walk_room c.args.m.now c.args.q c.loop.counter c.loop.link c.args.list.now.items c.loop.list.items c.loop.invariant c.loop-test.true one c.if-link-gt32.false room in
    let full = c.if-len-eq32.true in let size = c.len.ensures in
    absurd (omega arith)

pub loop-preserved : goal.loop-preserved
loop-preserved c =
    let some = c.if-link-eq0.false in let one : 1 ≤ c.loop.link = omega arith in
    walk_goes c.args.m.now c.args.q c.loop.counter c.loop.link c.byte-link-in-loop.result c.args.list.now.items c.loop.list.items c.push.new.self.items c.loop.invariant c.loop-test.true one c.if-link-gt32.false
    c.push.ensures.items (c.byte-link-in-loop.ensures ∙ ap (λ a. slice_index c.args.m.now a) (c.next_place-in-loop.ensures ∙ behind_place c.args.q c.loop.link one))
