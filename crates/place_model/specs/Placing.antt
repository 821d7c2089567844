-- Placing an object: the least free number of its kind, and the lowest gaps for its code and its region.
use Rattle.std.specs.Prelude.{◌≡◌, ℕ, ◌+◌, ◌-◌, ◌<◌, ◌≤◌, Bool, ◌==◌, nat_lt, if◌then◌else◌, not, IsTrue, IsFalse, List, ◌++◌, slice_index_or, map, Option, None, Some, Result, Ok, Err}
use Rattle.std.specs.List.{find, filter, range_with_len}
use Rattle.kernel_model.specs.declared.states.TheConstants.{FREE}
use Rattle.kernel_model.specs.declared.map.TheConstants.{CODE_POOL, CODE_POOL_END, DATA_POOL, DATA_POOL_END}
use Rattle.kernel_model.specs.declared.kinds.Kind.{Kind}
use Rattle.kernel_model.specs.declared.kinds.Kind.TheVariants.{App, Module}
use Rattle.kernel_model.specs.Kernel.{Kernel, app_at, with_app, module_at, with_module}
use Rattle.kernel_model.specs.Words.{live, free}
use Rattle.kernel_model.specs.declared.rows.AppRow.{AppRow}
use Rattle.kernel_model.specs.declared.rows.ModuleRow.{ModuleRow}
use Rattle.place_model.specs.declared.places.Range.{Range}
use Rattle.place_model.specs.declared.places.Pool.{Pool}
use Rattle.place_model.specs.declared.places.Pool.TheVariants.{Code, Data}
use Rattle.place_model.specs.declared.places.DomainRow.{DomainRow}
use Rattle.place_model.specs.declared.places.Regions.{Regions}
use Rattle.place_model.specs.declared.places.NoRoom.{NoRoom}
use Rattle.place_model.specs.declared.places.NoRoom.TheVariants.{Slots, Code as NoCode, Region as NoRegion, Taken}
use Rattle.place_model.specs.Gaps.{place_in, IsPlace, HasNoPlace}

-- ---- the twelve rows

abbrev pub app_domain : AppRow → DomainRow
app_domain r = record {
  state = r.state;
  code = record { from = r.code_lo; to = r.code_hi };
  region = record { from = r.lo; to = r.hi };
}

abbrev pub module_domain : ModuleRow → DomainRow
module_domain r = record {
  state = r.state;
  code = record { from = r.code_lo; to = r.code_hi };
  region = record { from = r.lo; to = r.hi };
}

-- the rows by the domain's number, the applications' and then the modules'
abbrev pub domain_rows : Kernel → List DomainRow
domain_rows k = map app_domain k.apps ++ map module_domain k.modules

abbrev pub free_domain : DomainRow
free_domain = record { state = FREE; code = record { from = 0; to = 0 }; region = record { from = 0; to = 0 } }

abbrev pub row_of : List DomainRow → (number : ℕ) → DomainRow
row_of rows n = slice_index_or rows n free_domain

abbrev pub is_free : DomainRow → Bool
is_free r = r.state == free

-- domain n's row in a kernel
abbrev pub domain_at : Kernel → (number : ℕ) → DomainRow
domain_at k n = if nat_lt n 8 then app_domain (app_at k n) else module_domain (module_at k (n - 8))

-- ---- pools and ranges

abbrev pub pool_range : Pool → Range
pool_range Code = record { from = CODE_POOL; to = CODE_POOL_END }
pool_range Data = record { from = DATA_POOL; to = DATA_POOL_END }

abbrev pub range_in : Pool → DomainRow → Range
range_in Code r = r.code
range_in Data r = r.region

-- what the domains have of a pool
abbrev pub ranges : Pool → List DomainRow → List Range
ranges p rows = map (range_in p) (filter (λ r. not (is_free r)) rows)

abbrev pub code_ranges : Kernel → List Range
code_ranges k = ranges Code (domain_rows k)

abbrev pub region_ranges : Kernel → List Range
region_ranges k = ranges Data (domain_rows k)

-- ---- placing

abbrev pub first_number : Kind → ℕ
first_number App = 0
first_number Module = 8

abbrev pub number_count : Kind → ℕ
number_count App = 8
number_count Module = 4

-- the least of so many numbers from one on whose row is free
unfoldable pub free_from : List DomainRow → (first count : ℕ) → Option ℕ
free_from rows first count = find (λ n. is_free (row_of rows n)) (range_with_len first count)

-- the least number of the kind whose row is free
abbrev pub free_number : List DomainRow → Kind → Option ℕ
free_number rows kind = free_from rows (first_number kind) (number_count kind)

abbrev pub with_region : (number code code_length region_length : ℕ) → Result ℕ ℕ → Result Regions NoRoom
with_region n code c r (Ok at) = Ok (record { dom = n; code_lo = code; code_hi = code + c; lo = at; hi = at + r })
with_region n code c r (Err gap) = Err (NoRegion r gap)

abbrev pub with_code : List DomainRow → (number code_length region_length : ℕ) → Result ℕ ℕ → Result Regions NoRoom
with_code rows n c r (Ok code) = with_region n code c r (place_in (pool_range Data) (ranges Data rows) r)
with_code rows n c r (Err gap) = Err (NoCode c gap)

abbrev pub with_number : List DomainRow → (code_length region_length : ℕ) → Option ℕ → Result Regions NoRoom
with_number rows c r (Some n) = with_code rows n c r (place_in (pool_range Code) (ranges Code rows) c)
with_number rows c r None = Err Slots

-- the number and the places among these rows, or the first cause that there are none: slots, code, region
abbrev pub placed_among : List DomainRow → Kind → (code_length region_length : ℕ) → Result Regions NoRoom
placed_among rows kind c r = with_number rows c r (free_number rows kind)

-- the number and the places of an object with so many bytes of code and of region
abbrev pub placing : Kernel → Kind → (code_length region_length : ℕ) → Result Regions NoRoom
placing k kind c r = placed_among (domain_rows k) kind c r

-- ---- the kernel with the domain

abbrev pub placed_app : Regions → AppRow
placed_app r = record { state = live; code_lo = r.code_lo; code_hi = r.code_hi; lo = r.lo; hi = r.hi; z = 0; stack = 0; threads = 0 }

abbrev pub placed_module : Regions → ModuleRow
placed_module r = record { state = live; code_lo = r.code_lo; code_hi = r.code_hi; lo = r.lo; hi = r.hi }

-- the row of the domain's number is live and has its places, and its other fields are 0
abbrev pub with_places : Kernel → Regions → Kernel
with_places k r =
    if nat_lt r.dom 8 then with_app k r.dom (placed_app r) else with_module k (r.dom - 8) (placed_module r)

-- ---- what a placing is

-- the least of so many numbers from one on whose row is free
pub record IsLeastFree (rows : List DomainRow) (first count number : ℕ) : Type 0 where
  pub from : first ≤ number
  pub to : number < first + count
  pub free : IsTrue (is_free (row_of rows number))
  pub least : (n : ℕ) → first ≤ n → n < number → IsFalse (is_free (row_of rows n))

-- the least free number of the kind, and the lowest gaps
pub record IsPlacing (k : Kernel) (kind : Kind) (code_length region_length : ℕ) (r : Regions) : Type 0 where
  pub number : free_number (domain_rows k) kind ≡ Some r.dom
  pub code : IsPlace (pool_range Code) (code_ranges k) code_length r.code_lo
  pub code_end : r.code_hi ≡ r.code_lo + code_length
  pub region : IsPlace (pool_range Data) (region_ranges k) region_length r.lo
  pub region_end : r.hi ≡ r.lo + region_length

-- a number of the kind, and places in the pools
pub record IsInPools (kind : Kind) (r : Regions) : Type 0 where
  pub number_from : first_number kind ≤ r.dom
  pub number_to : r.dom < first_number kind + number_count kind
  pub code_from : CODE_POOL ≤ r.code_lo
  pub code_up : r.code_lo ≤ r.code_hi
  pub code_to : r.code_hi ≤ CODE_POOL_END
  pub region_from : DATA_POOL ≤ r.lo
  pub region_up : r.lo ≤ r.hi
  pub region_to : r.hi ≤ DATA_POOL_END

-- ---- what a refusal is

abbrev pub HasNumber : Kernel → Kind → Type 0
HasNumber k kind = (n : ℕ) × IsLeastFree (domain_rows k) (first_number kind) (number_count kind) n

abbrev pub HasCodePlace : Kernel → (code_length : ℕ) → Type 0
HasCodePlace k c = (at : ℕ) × IsPlace (pool_range Code) (code_ranges k) c at

-- the first of the causes that stands: no row of the kind is free, no gap is as long as the code, or none is as long as the region
abbrev pub IsRefusal : Kernel → Kind → (code_length region_length : ℕ) → NoRoom → Type 0
IsRefusal k kind c r Slots = (n : ℕ) → first_number kind ≤ n → n < first_number kind + number_count kind → IsFalse (is_free (row_of (domain_rows k) n))
IsRefusal k kind c r (NoCode need gap) = HasNumber k kind × (need ≡ c) × HasNoPlace (pool_range Code) (code_ranges k) c gap
IsRefusal k kind c r (NoRegion need gap) =
    HasNumber k kind × HasCodePlace k c × (need ≡ r) × HasNoPlace (pool_range Data) (region_ranges k) r gap
IsRefusal k kind c r (Taken number) = ⊥
