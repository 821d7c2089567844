use Rattle.std.proofs.Common.{◌≡◌, ℕ, arith, subst}
use Rattle.retos_node.specs.Boots.{StartsTo}
use Rattle.retos_node.proofs.booting.start_all.Goals as goal

pub returns-clause-starts : goal.returns-clause-starts
returns-clause-starts c =
    let end : c.loop-a.a ≡ 8 = omega (arith, c.loop-a-test.false, c.loop-a.auto.a-end) in
    subst (λ (a : ℕ). StartsTo c.args.m.now c.loop-a.m 0 a) end c.loop-a.invariant.starts
