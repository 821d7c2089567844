use Rattle.std.proofs.Common.{◌+◌, ◌≤◌, arith}
use Rattle.node_model.specs.Nodes.{IsSoundRun}
use Rattle.node_model.specs.Runs.{run}
use Rattle.retos_node.proofs.SoundRuns.{sound_last}
use Rattle.retos_node.proofs.running.locks_law.Goals as goal

pub returns : goal.returns
returns c n os limit t first few s r sound made within =
    let room : s.steps + made ≤ 10000000 = omega (arith, first, few, r.steps, within) in
    let whole : IsSoundRun made t s = c.run_law.ensures t made s sound room in
    c.locks_are_held.ensures (run made t s).last (sound_last t s (run made t s).records (run made t s).last whole)
