use Rattle.std.proofs.Common.{sym, subst, arith}
use Rattle.retos_node.proofs.Fitting.{IsList, list_push}
use Rattle.retos_node.proofs.objects.ObjectList.push.Goals as goal

pub invariant_of-self : goal.invariant_of-self
invariant_of-self c = subst IsList (sym c.in_err-push.ensures.items) c.self.invariant

pub invariant_of-self-2 : goal.invariant_of-self-2
invariant_of-self-2 c =
    subst IsList (sym c.in_ok-push.ensures.items)
    (list_push c.self.inside.items.items c.args.self.now (record { object = c.args.o; marks = c.args.marks }) c.self.invariant
    (sym c.self.view_is) (omega (arith, c.requires.room)) c.requires.accepted)
