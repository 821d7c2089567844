use Rattle.std.proofs.Common.{List, ◌≡◌, ap, ◌∙◌, arith}
use Rattle.place_model.specs.declared.places.Range.{Range}
use Rattle.place_model.specs.Gaps.{longest, lowest}
use Rattle.region_table.proofs.PlaceLemmas.{found_inside}
use Rattle.region_table.proofs.search.place_in.Goals as goal

pub returns-clause-inside : goal.returns-clause-inside
returns-clause-inside c =
    let first : c.longest-gap.result ≡ longest c.gaps-gaps.result.items = c.longest-gap.ensures ∙ ap (λ (l : List Range). longest l) c.as_slice.ensures.value in
    let found : c.lowest.result ≡ lowest c.args.pool.now.to c.args.need c.gaps-gaps.result.items =
    c.lowest.ensures ∙ ap (λ (l : List Range). lowest c.args.pool.now.to c.args.need l) c.as_slice-2.ensures.value in
    found_inside c.places_are_lowest_gaps.ensures.placed c.args.pool.now c.args.ranges.now.items c.gaps-gaps.result.items c.args.need c.lowest.result
    c.requires c.if-need-eq0.false c.gaps-gaps.ensures.items (omega arith) found
