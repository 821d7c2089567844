use Rattle.std.proofs.Common.{◌≡◌, ◌≤◌, ◌-◌}
use Rattle.node_model.specs.Systems.{System}
use Rattle.node_model.specs.Sound.{IsSound}
use Rattle.node_model.specs.Runs.{is_quiet}
use Rattle.node_model.specs.Nodes.{IsSoundNode, Represents}
use Rattle.retos_node.specs.Parts.{parts}
use Rattle.script_schedule.specs.Readiness.{IsReady}
use Rattle.retos_node.specs.Tails.{AreTold}
use Rattle.retos_node.specs.Underway.{AreWithin, IsUnderWay}
use Rattle.retos_node.proofs.running.run_steps.Given as goal

abbrev pub invariant-loop-quiet : goal.invariant-loop-quiet
invariant-loop-quiet g l = record {
  runs : (s : System) → Represents (parts l.initial.node) l.objects s → IsSound s
      → IsUnderWay l.objects l.limit l.script s (parts l.node) l.counts
      (λ made. AreTold g.S.Sink.called g.S.Sink.state l.initial.out l.out l.initial.node.show l.node.tail made);
  quiet : (s : System) → Represents (parts l.node) l.objects s → l.quiet ≡ is_quiet l.script s;
  ready : IsReady l.script l.node.steps l.schedule;
  sound : IsSoundNode (parts l.node) l.objects;
  show : l.node.show ≡ l.initial.node.show;
  within : AreWithin l.node.steps l.counts;
  limit : l.node.steps ≤ l.limit;
  later : (g.S.Sink.state l.initial.out).faults ≤ (g.S.Sink.state l.out).faults;
}

abbrev pub decreases-loop-quiet : goal.decreases-loop-quiet
decreases-loop-quiet g l = l.limit - l.node.steps
