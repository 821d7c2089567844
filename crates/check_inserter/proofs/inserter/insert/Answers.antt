use Rattle.code_model.specs.Fields.{fields}
use Rattle.insert_laws.specs.Laws.{IsAcceptable, HasNoLoads, PiecesStand}
use Rattle.placed_unit_laws.specs.Ends.{UnitsEnd, GroupsEnd, CallsPush, UnitsStand, SourcesHide}
use Rattle.check_inserter.proofs.Answering.{of_answer}
use Rattle.check_inserter.proofs.inserter.insert.Goals as goal

pub returns-clause-only : goal.returns-clause-only
returns-clause-only c answer is = c.one_answer.ensures c.args.o.now c.inserted.result answer c.inserted.ensures is

pub returns-clause-accepted : goal.returns-clause-accepted
returns-clause-accepted c = of_answer c.args.o.now IsAcceptable (c.inserted_is_accepted.ensures c.args.o.now) c.inserted.result c.inserted.ensures

pub returns-clause-units : goal.returns-clause-units
returns-clause-units c = of_answer c.args.o.now (UnitsEnd c.args.o.now) (c.unit_ends.ensures c.args.o.now) c.inserted.result c.inserted.ensures

pub returns-clause-pushes : goal.returns-clause-pushes
returns-clause-pushes c = of_answer c.args.o.now (CallsPush c.args.o.now) (c.call_pushes.ensures c.args.o.now) c.inserted.result c.inserted.ensures

pub returns-clause-stand : goal.returns-clause-stand
returns-clause-stand c = of_answer c.args.o.now (UnitsStand c.args.o.now) (c.unit_stands.ensures c.args.o.now) c.inserted.result c.inserted.ensures

pub returns-clause-anywhere : goal.returns-clause-anywhere
returns-clause-anywhere c = of_answer c.args.o.now (SourcesHide c.args.o.now) (c.source_place_hidden.ensures c.args.o.now) c.inserted.result c.inserted.ensures

pub returns-clause-lines : goal.returns-clause-lines
returns-clause-lines c = c.lines_are_spelled.ensures c.args.o.now

pub returns-clause-pieces : goal.returns-clause-pieces
returns-clause-pieces c = of_answer c.args.o.now (PiecesStand c.args.o.now) (c.starts_are_pieces.ensures c.args.o.now) c.inserted.result c.inserted.ensures

pub returns-clause-loads : goal.returns-clause-loads
returns-clause-loads c = of_answer c.args.o.now HasNoLoads (c.no_load_guards.ensures c.args.o.now) c.inserted.result c.inserted.ensures

pub returns-clause-first : goal.returns-clause-first
returns-clause-first c = c.first_version.ensures (fields c.args.o.now)

pub returns-clause-groups : goal.returns-clause-groups
returns-clause-groups c = of_answer c.args.o.now (GroupsEnd c.args.o.now) (c.group_ends.ensures c.args.o.now) c.inserted.result c.inserted.ensures
