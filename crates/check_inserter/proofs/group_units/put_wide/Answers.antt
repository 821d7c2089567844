use Rattle.insert_model.specs.Words.{unit_words}
use Rattle.insert_model.specs.Layout.{beside}
use Rattle.check_inserter.specs.Cells.{as_cell}
use Rattle.check_inserter.proofs.Growing.{unit_words_none}
use Rattle.check_inserter.proofs.Grouping.{beside_more, wide_words}
use Rattle.check_inserter.proofs.group_units.put_wide.Goals as goal
use Rattle.std.proofs.Common.{◌∙◌, ◌++◌, ap, map, List}
use Rattle.std.proofs.lemmas.List.{take_all}
use Rattle.insert_model.specs.declared.line.Line.{Line}

pub loop-other-init : goal.loop-other-init
loop-other-init c = unit_words_none _

pub loop-other-preserved : goal.loop-other-preserved
loop-other-preserved c =
    beside_more (as_cell c.args.cell.now) _ _ _ c.args.rest.now c.loop-other.other-index _ _ c.loop-other-test.true c.loop-other.invariant c.beside-in-loop-other.ensures.is c.in_ok-put_pieces-3.ensures

pub returns : goal.returns
returns c =
    wide_words (as_cell c.args.cell.now) c.args.line.now c.args.rest.now c.args.out.now.items _ _ _ _ _ _ _ c.greatest.ensures c.reach_of-reach.ensures c.wide_guard.ensures.is c.beside.ensures.is
    c.in_ok-put_pieces.ensures c.in_ok-put_pieces-2.ensures
    (c.loop-other.invariant ∙ ap (λ (ls : List Line). c.put_pieces-2.new.out.items ++ unit_words (map (beside (as_cell c.args.cell.now)) ls)) (take_all c.loop-other.other-index c.args.rest.now c.loop-other-test.false))
