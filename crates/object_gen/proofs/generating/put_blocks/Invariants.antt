use Rattle.std.proofs.Common.{◌≡◌, ◌+◌, ◌*◌, ◌≤◌, length}
use Rattle.gen_model.specs.Draws.{state}
use Rattle.gen_model.specs.Generated.{blocks}
use Rattle.object_gen.proofs.Going.{Left, behind}
use Rattle.object_gen.proofs.generating.put_blocks.Given as goal

abbrev pub invariant-loop-j : goal.invariant-loop-j
invariant-loop-j l = (l.draws.x ≡ state l.n (6 + 3 * l.j)) × Left (blocks l.n) (behind l.n l.j) l.source × (length l.source.code ≤ 12 + 4 * l.j)
