use Rattle.std.proofs.Common.{ℕ, ◌+◌, ◌/◌, ◌∙◌, subst, arith}
use Rattle.gen_model.specs.declared.block.Block.TheVariants.{Set}
use Rattle.gen_model.specs.Draws.{stepped}
use Rattle.gen_model.specs.Generated.{settings}
use Rattle.object_gen.proofs.Going.{Puts, none_put, none_long, state_start, state_next, setting_put, setting_long, settings_done}
use Rattle.object_gen.proofs.generating.put_settings.Goals as goal

pub loop-k-init : goal.loop-k-init
loop-k-init c = (
  state_start c.args.draws.now.x,
  none_put (settings c.args.draws.now.x 0 6) c.args.source.now c.requires.no_code c.requires.no_relocs,
  none_long c.args.source.now.code c.requires.no_code,
)

pub loop-k-preserved : goal.loop-k-preserved
loop-k-preserved c =
    let put : Puts (Set (6 + c.loop-k.k) c.next-value.result) c.loop-k.source c.put.new.self = record { code = c.in_ok-put.ensures.code; relocs = c.in_ok-put.ensures.relocs } in
    let drawn : Puts (Set (6 + c.loop-k.k) (stepped c.loop-k.draws.x / 65536)) c.loop-k.source c.put.new.self =
    subst (λ (v : ℕ). Puts (Set (6 + c.loop-k.k) v) c.loop-k.source c.put.new.self) c.next-value.ensures.drawn put in (
      c.next-value.ensures.state ∙ state_next c.args.draws.now.x c.loop-k.k c.loop-k.draws.x c.loop-k.invariant.0,
      setting_put (settings c.args.draws.now.x 0 6) c.args.draws.now.x c.loop-k.k c.loop-k.draws.x c.loop-k.source c.put.new.self c.loop-k-test.true c.loop-k.invariant.0 c.loop-k.invariant.1 drawn,
      omega (arith, setting_long (6 + c.loop-k.k) c.next-value.result c.loop-k.source c.put.new.self put, c.loop-k.invariant.2),
    )

pub returns-clause-code : goal.returns-clause-code
returns-clause-code c = (settings_done c.args.draws.now.x c.loop-k.k c.loop-k.source (omega (arith, c.loop-k-test.false)) c.loop-k.invariant.1).0

pub returns-clause-relocs : goal.returns-clause-relocs
returns-clause-relocs c = (settings_done c.args.draws.now.x c.loop-k.k c.loop-k.source (omega (arith, c.loop-k-test.false)) c.loop-k.invariant.1).1
