use Rattle.std.proofs.Common.{◌≤◌, sym, ◌∙◌}
use Rattle.read_script.proofs.Picking.{last_is_pushed, never_falls, pick_pushed, raise_pushed, still_low}
use Rattle.read_script.proofs.draft.Draft.put_at.Goals as goal

pub invariant_of-self-then-is_a_pick-clause-last_is : goal.invariant_of-self-then-is_a_pick-clause-last_is
invariant_of-self-then-is_a_pick-clause-last_is c = last_is_pushed c.args.self.now.script.ats c.push.new.self c.args.at c.in_ok-push.ensures.pushed

pub invariant_of-self-then-is_a_pick-clause-picked_is : goal.invariant_of-self-then-is_a_pick-clause-picked_is
invariant_of-self-then-is_a_pick-clause-picked_is c =
    let falls : c.args.self.now.last ≤ c.args.at.step = never_falls c.args.self.now.last c.args.self.now.script.ats c.args.at c.args.self.now.last_is (sym c.takes.ensures ∙ c.if-not-takes.false) in
    pick_pushed c.args.self.now.picked c.args.self.now.last c.args.self.now.script.ats c.push.new.self c.args.at c.in_ok-push.ensures.pushed c.args.self.now.picked_is_low falls (sym c.is_a_pick.ensures ∙ c.if-is_a_pick.true) c.args.self.now.picked_is

pub invariant_of-self-else-is_a_pick-clause-last_is : goal.invariant_of-self-else-is_a_pick-clause-last_is
invariant_of-self-else-is_a_pick-clause-last_is c = last_is_pushed c.args.self.now.script.ats c.push.new.self c.args.at c.in_ok-push.ensures.pushed

pub invariant_of-self-else-is_a_pick-clause-picked_is : goal.invariant_of-self-else-is_a_pick-clause-picked_is
invariant_of-self-else-is_a_pick-clause-picked_is c =
    let falls : c.args.self.now.last ≤ c.args.at.step = never_falls c.args.self.now.last c.args.self.now.script.ats c.args.at c.args.self.now.last_is (sym c.takes.ensures ∙ c.if-not-takes.false) in
    raise_pushed c.args.self.now.picked c.args.self.now.last c.args.self.now.script.ats c.push.new.self c.args.at c.in_ok-push.ensures.pushed falls (sym c.is_a_pick.ensures ∙ c.if-is_a_pick.false) c.args.self.now.picked_is

pub invariant_of-self-else-is_a_pick-clause-picked_is_low : goal.invariant_of-self-else-is_a_pick-clause-picked_is_low
invariant_of-self-else-is_a_pick-clause-picked_is_low c =
    let falls : c.args.self.now.last ≤ c.args.at.step = never_falls c.args.self.now.last c.args.self.now.script.ats c.args.at c.args.self.now.last_is (sym c.takes.ensures ∙ c.if-not-takes.false) in
    still_low c.args.self.now.picked c.args.self.now.last c.args.at.step c.args.self.now.picked_is_low falls
