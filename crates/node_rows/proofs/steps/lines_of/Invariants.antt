use Rattle.node_model.specs.Nodes.{IsSoundNode}
use Rattle.retos_node.specs.Parts.{parts}
use Rattle.node_rows.proofs.steps.lines_of.Given as goal

abbrev pub invariant-loop : goal.invariant-loop
invariant-loop l = IsSoundNode (parts l.node) l.objects
