use Rattle.std.proofs.Common.{◌+◌, ◌∙◌, Some, arith}
use Rattle.static_checker.proofs.PassLemmas.{IsToServe, to_serve, units_at, serves_on}
use Rattle.static_checker.proofs.pass.pass_run.Goals as goal

pub loop-next-preserved : goal.loop-next-preserved
loop-next-preserved c =
    let was : IsToServe c.args.o.now c.args.from.at c.loop-next.served c.loop-next.pass.cursor.at c.loop-next.pass.units (Some c.in-Some.unit) =
    to_serve c.args.o.now c.args.from.at c.loop-next.served c.loop-next.pass.cursor.at c.loop-next.pass.units c.loop-next.next c.in-Some.unit c.in-Some.is c.loop-next.invariant.next in
    record {
      gone = c.pass_instr.ensures.gone;
      next =
          serves_on c.args.o.now c.args.from.at (c.loop-next.served + 1) c.pass_instr.new.pass.cursor.at c.pass_instr.new.pass.units c.next_served-next.result
          (units_at c.args.o.now c.loop-next.pass.units c.pass_instr.new.pass.units (c.in-Some.unit.spot.at + c.in-Some.unit.spot.words) c.pass_instr.new.pass.cursor.at
          c.pass_instr.ensures.units c.pass_instr.ensures.at was.2)
          c.next_served-next.ensures;
      free = c.pass_instr.ensures.begun ∙ c.loop-next.invariant.free;
      further = omega (arith, c.loop-next.invariant.further, c.pass_instr.ensures.at, was.0.order, was.0.here.is.is.least);
      some = λ e. omega arith;
    }
