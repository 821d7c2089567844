use Rattle.node_model.specs.Nodes.{IsSoundNode}
use Rattle.retos_node.specs.Parts.{parts}
use Rattle.node_rows.proofs.steps.interrupted.Given as goal

abbrev pub invariant-loop-step : goal.invariant-loop-step
invariant-loop-step l = IsSoundNode (parts l.node) l.objects
