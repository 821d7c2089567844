use Rattle.std.proofs.Common.{Some, arith}
use Rattle.static_checker.proofs.UnitLemmas.{guard_taken, past_code, none_there, not_served}
use Rattle.static_checker.proofs.code_units.guarded_unit.Goals as goal

pub unguarded_unit-requires-clause-none : goal.unguarded_unit-requires-clause-none
unguarded_unit-requires-clause-none c = past_code c.args.o.now c.args.cursor.at c.args.begun.words c.args.begun.kind c.requires.begun.only c.requires.whole (omega arith)

pub returns-then-len-at : goal.returns-then-len-at
returns-then-len-at c = c.unguarded_unit.ensures (Some c.args.begun)

pub unguarded_unit-requires-in-None-serving-clause-none : goal.unguarded_unit-requires-in-None-serving-clause-none
unguarded_unit-requires-in-None-serving-clause-none c =
    not_served c.args.o.now c.args.cursor.at c.args.begun.words c.args.begun.kind c.in-Some.spot c.requires.begun.only c.requires.whole c.in-Some.ensures c.in-None-serving.ensures

pub unguarded_unit-requires-in-None-clause-none : goal.unguarded_unit-requires-in-None-clause-none
unguarded_unit-requires-in-None-clause-none c = none_there c.args.o.now c.args.cursor.at c.args.begun.words c.args.begun.kind c.requires.begun.only c.requires.whole c.in-None.ensures

pub returns-in-Some-serving : goal.returns-in-Some-serving
returns-in-Some-serving c =
    guard_taken c.args.o.now c.args.cursor.at c.args.begun c.in-Some-serving.kind c.in-Some.spot c.requires.start c.requires.clear c.requires.begun c.requires.whole (omega arith)
    c.in-Some.ensures c.in-Some-serving.ensures

pub returns-in-None-serving : goal.returns-in-None-serving
returns-in-None-serving c = c.unguarded_unit-in-None-serving.ensures (Some c.args.begun)

pub returns-in-None : goal.returns-in-None
returns-in-None c = c.unguarded_unit-in-None.ensures (Some c.args.begun)
