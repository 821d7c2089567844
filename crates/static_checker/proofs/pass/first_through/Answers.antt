use Rattle.std.proofs.Common.{arith}
use Rattle.static_checker.specs.Firsts.{IsLocal}
use Rattle.static_checker.proofs.FirstLemmas.{first_more, first_keeps, none_first, some_first}
use Rattle.static_checker.proofs.pass.first_through.Goals as goal

pub returns-in-None : goal.returns-in-None
returns-in-None c = first_more c.args.o.now IsLocal 0 c.args.unit.now.spot.at _ c.first_refusal.result (none_first c.args.o.now IsLocal 0 c.args.unit.now.spot.at c.args.first c.in-None.is c.requires.first) c.first_refusal.ensures

pub returns-in-Some : goal.returns-in-Some
returns-in-Some c =
    first_keeps c.args.o.now IsLocal 0 c.args.unit.now.spot.at _ c.in-Some.refusal (omega arith)
    (some_first c.args.o.now IsLocal 0 c.args.unit.now.spot.at c.args.first c.in-Some.refusal c.in-Some.is c.requires.first)
