use Rattle.std.proofs.Common.{◌≡◌, ◌-◌, ◌*◌, length}
use Rattle.gen_model.specs.Draws.{state}
use Rattle.gen_model.specs.Generated.{settings}
use Rattle.object_gen.proofs.Going.{Left}
use Rattle.object_gen.proofs.generating.put_settings.Given as goal

abbrev pub invariant-loop-k : goal.invariant-loop-k
invariant-loop-k l =
    (l.draws.x ≡ state l.fn.draws.x l.k) × Left (settings l.fn.draws.x 0 6) (settings l.fn.draws.x l.k (6 - l.k)) l.source × (length l.source.code ≡ 2 * l.k)
