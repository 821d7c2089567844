use Rattle.std.proofs.Common.{◌+◌, ◌*◌, ◌∙◌, arith}
use Rattle.gen_model.specs.declared.block.Block.TheVariants.{Restart}
use Rattle.gen_model.specs.Generated.{blocks}
use Rattle.object_gen.proofs.Going.{Puts, settings_put, settings_long, Drawn, three_drawn, drawn_put, put_long, restart_put, all_put}
use Rattle.object_gen.proofs.generating.put_blocks.Goals as goal

pub loop-j-init : goal.loop-j-init
loop-j-init c = (
  c.in_ok-put_settings.ensures.state,
  settings_put c.args.n c.put_settings.new.source c.in_ok-put_settings.ensures.code c.in_ok-put_settings.ensures.relocs,
  settings_long c.args.n c.put_settings.new.source.code c.in_ok-put_settings.ensures.code,
)

pub loop-j-preserved : goal.loop-j-preserved
loop-j-preserved c =
    let put : Puts c.next_block.result c.loop-j.source c.put.new.self = record { code = c.in_ok-put.ensures.code; relocs = c.in_ok-put.ensures.relocs } in
    let three : Drawn c.args.n c.loop-j.j c.loop-j.draws.x = three_drawn c.args.n c.loop-j.j c.loop-j.draws.x c.loop-j.invariant.0 in (
      c.next_block.ensures.state ∙ three.next,
      drawn_put c.args.n c.loop-j.j c.next_block.result c.loop-j.source c.put.new.self c.loop-j-test.true (c.next_block.ensures.is ∙ three.is) c.loop-j.invariant.1 put,
      omega (arith, put_long c.next_block.result c.loop-j.source c.put.new.self (12 + 4 * c.loop-j.j) c.loop-j.invariant.2 put),
    )

pub returns-clause-code : goal.returns-clause-code
returns-clause-code c =
    let put : Puts Restart c.loop-j.source c.put-2.new.self = record { code = c.in_ok-put-2.ensures.code; relocs = c.in_ok-put-2.ensures.relocs } in
    (all_put (blocks c.args.n) c.put-2.new.self (restart_put (blocks c.args.n) c.args.n c.loop-j.j c.loop-j.source c.put-2.new.self (omega (arith, c.loop-j-test.false)) c.loop-j.invariant.1 put)).0

pub returns-clause-relocs : goal.returns-clause-relocs
returns-clause-relocs c =
    let put : Puts Restart c.loop-j.source c.put-2.new.self = record { code = c.in_ok-put-2.ensures.code; relocs = c.in_ok-put-2.ensures.relocs } in
    (all_put (blocks c.args.n) c.put-2.new.self (restart_put (blocks c.args.n) c.args.n c.loop-j.j c.loop-j.source c.put-2.new.self (omega (arith, c.loop-j-test.false)) c.loop-j.invariant.1 put)).1
