use Rattle.std.proofs.Common.{arith, subst, sym}
use Rattle.node_model.specs.Nodes.{IsFitting}
use Rattle.retos_node.proofs.Fitting.{found, loadable}
use Rattle.retos_node.proofs.objects.ObjectList.item.Goals as goal

pub returns-clause-accepted : goal.returns-clause-accepted
returns-clause-accepted c =
    subst IsFitting c.self.view_is c.self.invariant.1 c.args.at (loadable c.index.result.now)
    (found c.self.inside.items.items c.args.self.now c.args.at c.index.result.now (sym c.self.view_is) (omega (arith, c.requires))
    c.index.ensures)
