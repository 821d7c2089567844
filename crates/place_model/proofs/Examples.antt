-- Places computed, of which the values are known by hand.
use Rattle.std.proofs.Common.{◌≡◌, List, [], ◌∷◌, refl, Ok, Err}
use Rattle.kernel_model.specs.declared.kinds.Kind.TheVariants.{App, Module}
use Rattle.kernel_model.specs.Layout.{empty}
use Rattle.place_model.specs.declared.places.Range.{Range}
use Rattle.place_model.specs.declared.places.Pool.TheVariants.{Code, Data}
use Rattle.place_model.specs.declared.places.Regions.{Regions}
use Rattle.place_model.specs.declared.places.NoRoom.TheVariants.{Region as NoRegion}
use Rattle.place_model.specs.Gaps.{gaps, longest, lowest, place_in}
use Rattle.place_model.specs.Placing.{pool_range, free_from, placing, with_places}

-- code at 6030 and at 6000, given in that order, and a range without addresses
stands : List Range
stands = record { from = 0x6030; to = 0x6040 } ∷ record { from = 0x7000; to = 0x7000 } ∷ record { from = 0x6000; to = 0x6010 } ∷ []

between_that_fits_exactly : place_in (pool_range Code) stands 32 ≡ Ok 0x6010
unfolding stands gaps longest lowest
between_that_fits_exactly = refl

behind_where_two_bytes_lack : place_in (pool_range Code) stands 34 ≡ Ok 0x6040
unfolding stands gaps longest lowest
behind_where_two_bytes_lack = refl

longest_gap_told : place_in (pool_range Code) stands 0x7FC2 ≡ Err 0x7FC0
unfolding stands gaps longest lowest
longest_gap_told = refl

nothing_at_the_start : place_in (pool_range Data) (record { from = 0x2000; to = 0x6000 } ∷ []) 0 ≡ Ok 0x2000
nothing_at_the_start = refl

full_pool : place_in (pool_range Data) (record { from = 0x2000; to = 0x6000 } ∷ []) 2 ≡ Err 0
unfolding gaps longest
full_pool = refl

first_app : Regions
first_app = record { dom = 0; code_lo = 0x6000; code_hi = 0x608E; lo = 0x2000; hi = 0x2040 }

first_module : Regions
first_module = record { dom = 8; code_lo = 0x608E; code_hi = 0x6094; lo = 0x2000; hi = 0x2000 }

first_placing : placing empty App 142 64 ≡ Ok first_app
unfolding empty first_app free_from gaps longest lowest
first_placing = refl

second_placing : placing (with_places empty first_app) Module 6 0 ≡ Ok first_module
unfolding empty first_app first_module free_from gaps longest lowest
second_placing = refl

region_refused : placing (with_places empty first_app) App 2 16322 ≡ Err (NoRegion 16322 16320)
unfolding empty first_app free_from gaps longest lowest
region_refused = refl
