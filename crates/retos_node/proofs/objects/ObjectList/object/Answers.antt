use Rattle.std.proofs.Common.{arith, sym}
use Rattle.retos_node.proofs.Fitting.{found}
use Rattle.retos_node.proofs.objects.ObjectList.object.Goals as goal

pub returns : goal.returns
returns c = (
  c.index.result.now.marks,
  found c.self.inside.items.items c.args.self.now c.args.at c.index.result.now (sym c.self.view_is) (omega (arith, c.requires)) c.index.ensures,
)
