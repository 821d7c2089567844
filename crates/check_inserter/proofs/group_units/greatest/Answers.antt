use Rattle.std.proofs.Common.{◌∙◌, ℕ, max, ap}
use Rattle.insert_model.specs.declared.line.Line.{Line}
use Rattle.insert_model.specs.Groups.{cell}
use Rattle.insert_model.specs.Layout.{difference_of}
use Rattle.check_inserter.specs.Cells.{as_cell}
use Rattle.check_inserter.proofs.Grouping.{greatest_one, greatest_more}
use Rattle.check_inserter.proofs.group_units.greatest.Goals as goal

pub loop-other-init : goal.loop-other-init
loop-other-init c = greatest_one (λ (m : Line). difference_of (as_cell c.args.from.now) (cell m)) c.args.line.now _ c.distance-greatest.ensures

pub loop-other-preserved : goal.loop-other-preserved
loop-other-preserved c =
    greatest_more (λ (m : Line). difference_of (as_cell c.args.from.now) (cell m)) c.args.line.now c.args.rest.now c.loop-other.other-index _ c.loop-other.greatest c.max-greatest.result c.loop-other-test.true c.loop-other.invariant
    (c.max-greatest.ensures ∙ ap (λ (n : ℕ). max c.loop-other.greatest n) c.distance.ensures)
