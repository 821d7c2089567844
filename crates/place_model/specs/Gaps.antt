-- The gaps that ranges of addresses leave in a pool, and the lowest one that fits.
use Rattle.std.specs.Prelude.{◌≡◌, ◌≢◌, ℕ, ◌+◌, ◌-◌, ◌<◌, ◌≤◌, ◌⊎◌, ◌==◌, Bool, nat_lt, nat_le, ◌&&◌, not, if◌then◌else◌, IsTrue, IsFalse, min, max, List, ◌∷◌, map, Result, Ok, Err}
use Rattle.std.specs.List.{list_any, filter, fold}
use Rattle.place_model.specs.declared.places.Range.{Range}

-- ---- what a gap is

-- the range has the address
abbrev pub holds : (at : ℕ) → Range → Bool
holds at r = nat_le r.from at && nat_lt at r.to

-- some range has the address
abbrev pub taken : List Range → (at : ℕ) → Bool
taken rs at = list_any (holds at) rs

abbrev pub size : Range → ℕ
size r = r.to - r.from

-- a maximal run of addresses of the pool that no range has
pub record IsGap (pool : Range) (rs : List Range) (gap : Range) : Type 0 where
  pub some : gap.from < gap.to
  pub from_inside : pool.from ≤ gap.from
  pub to_inside : gap.to ≤ pool.to
  pub free : (at : ℕ) → gap.from ≤ at → at < gap.to → IsFalse (taken rs at)
  -- it can be made longer at neither end
  pub first : pool.from < gap.from → IsTrue (taken rs (gap.from - 1))
  pub last : gap.to < pool.to → IsTrue (taken rs gap.to)

-- ---- the gaps, computed

abbrev pub has_some : Range → Bool
has_some r = nat_lt r.from r.to

-- the range has addresses, and the first of them isn't below
abbrev pub begins_from : (at : ℕ) → Range → Bool
begins_from at r = nat_le at r.from && has_some r

-- where the run of free addresses from one on ends: at the first range above, or with the pool
abbrev pub run_end : (pool : Range) → List Range → (at : ℕ) → ℕ
run_end pool rs at = fold (λ e (r : Range). min e r.from) pool.to (filter (begins_from at) rs)

-- the pool's first address and those of the pool directly behind a range, where they are free
abbrev pub gap_starts : (pool : Range) → List Range → List ℕ
gap_starts pool rs =
    filter (λ at. holds at pool && not (taken rs at)) (pool.from ∷ map (λ (r : Range). r.to) (filter has_some rs))

abbrev pub gap_from : (pool : Range) → List Range → (at : ℕ) → Range
gap_from pool rs at = record { from = at; to = run_end pool rs at }

unfoldable pub gaps : (pool : Range) → List Range → List Range
gaps pool rs = map (gap_from pool rs) (gap_starts pool rs)

-- ---- the place

-- how long the longest of some ranges is, 0 where there is none
unfoldable pub longest : List Range → ℕ
longest gs = fold (λ n g. max n (size g)) 0 gs

-- the lowest start of those that have so many addresses, or else the end
unfoldable pub lowest : (end need : ℕ) → List Range → ℕ
lowest end need gs = fold (λ at (g : Range). min at g.from) end (filter (λ g. nat_le need (size g)) gs)

-- the place of so many addresses in the pool, or the length of the longest gap. None stand at the pool's start, and always fit
abbrev pub place_in : (pool : Range) → List Range → (need : ℕ) → Result ℕ ℕ
place_in pool rs need =
    if need == 0 then Ok pool.from
    else (if nat_le need (longest (gaps pool rs)) then Ok (lowest pool.to need (gaps pool rs)) else Err (longest (gaps pool rs)))

-- ---- what a place is

-- a gap begins at the place and is long enough, and none that is long enough lies below
pub record IsLowestGap (pool : Range) (rs : List Range) (need at : ℕ) : Type 0 where
  pub end : ℕ
  pub gap : IsGap pool rs (record { from = at; to = end })
  pub fits : at + need ≤ end
  pub least : (g : Range) → IsGap pool rs g → need ≤ size g → at ≤ g.from

abbrev pub IsPlace : (pool : Range) → List Range → (need at : ℕ) → Type 0
IsPlace pool rs need at = ((need ≡ 0) × (at ≡ pool.from)) ⊎ ((need ≢ 0) × IsLowestGap pool rs need at)

-- the longest gap has so many addresses, and 0 stands for no gap
pub record IsLongestGap (pool : Range) (rs : List Range) (length : ℕ) : Type 0 where
  pub bound : (g : Range) → IsGap pool rs g → size g ≤ length
  pub reached : length ≢ 0 → (g : Range) × IsGap pool rs g × (size g ≡ length)

-- some addresses are needed, and no gap has so many
pub record HasNoPlace (pool : Range) (rs : List Range) (need longest_gap : ℕ) : Type 0 where
  pub needed : need ≢ 0
  pub longer : longest_gap < need
  pub gap : IsLongestGap pool rs longest_gap
