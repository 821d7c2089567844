use Rattle.std.proofs.Common.{◌≡◌, ◌∙◌, ◌↔◌, List, ap, sym, subst, arith}
use Rattle.std.specs.List.{Contains}
use Rattle.place_model.specs.declared.places.Range.{Range}
use Rattle.place_model.specs.Gaps.{gaps, IsGap}
use Rattle.region_table.proofs.ListLemmas.{gaps_more, gaps_all}
use Rattle.region_table.proofs.search.gaps.Goals as goal

pub loop-r-preserved : goal.loop-r-preserved
loop-r-preserved c = record {
  items = gaps_more c.args.pool.now c.as_slice-taken.result.now c.loop-r.r-index _ c.loop-r.gaps.items c.push_gap_behind.new.gaps.items c.loop-r-test.true
      c.loop-r.invariant.items c.push_gap_behind.ensures.items;
  size = omega arith;
}

pub returns : goal.returns
returns c =
    let items : c.loop-r.gaps.items ≡ gaps c.args.pool.now c.args.ranges.now.items =
    gaps_all c.args.pool.now c.as_slice-taken.result.now c.loop-r.r-index c.loop-r.gaps.items (omega arith) c.loop-r.invariant.items
    ∙ ap (λ (l : List Range). gaps c.args.pool.now l) c.as_slice-taken.ensures.value in
    record {
      items = items;
      runs = λ g. subst (λ (l : List Range). Contains l g ↔ IsGap c.args.pool.now c.args.ranges.now.items g) (sym items) (c.gaps_are_maximal_runs.ensures c.args.pool.now c.args.ranges.now.items g);
    }
