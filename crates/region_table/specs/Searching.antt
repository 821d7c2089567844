-- The gaps that begin at some addresses.
use Rattle.std.specs.Prelude.{ℕ, List, map, ◌&&◌, not}
use Rattle.std.specs.List.{filter}
use Rattle.place_model.specs.declared.places.Range.{Range}
use Rattle.place_model.specs.Gaps.{holds, taken, has_some, gap_from}

unfoldable pub gaps_at : (pool : Range) → List Range → List ℕ → List Range
gaps_at pool rs ats = map (gap_from pool rs) (filter (λ at. holds at pool && not (taken rs at)) ats)

-- the addresses directly behind the ranges that have some
abbrev pub ends : List Range → List ℕ
ends rs = map (λ (r : Range). r.to) (filter has_some rs)
