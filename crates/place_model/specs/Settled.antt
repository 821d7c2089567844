-- What holds of memory between any two calls that place objects or run them.
use Rattle.std.specs.Prelude.{◌≡◌, ◌≢◌, ℕ, ◌+◌, ◌*◌, ◌%◌, ◌<◌, ◌≤◌, IsTrue, List}
use Rattle.kernel_model.specs.Kernel.{Kernel, app_at, function_at}
use Rattle.kernel_model.specs.Words.{free}
use Rattle.kernel_model.specs.Layout.{kernel_of, IsLaidOut}
use Rattle.kernel_model.specs.Orderly.{IsOrderly}
use Rattle.kernel_model.specs.declared.rows.AppRow.{AppRow}
use Rattle.place_model.specs.declared.places.Range.{Range}
use Rattle.place_model.specs.declared.places.Pool.{Pool}
use Rattle.place_model.specs.Gaps.{holds}
use Rattle.place_model.specs.Placing.{domain_at, pool_range, range_in}

-- a range with even ends, in the pool
pub record IsInPool (pool : Range) (r : Range) : Type 0 where
  pub from_even : r.from % 2 ≡ 0
  pub to_even : r.to % 2 ≡ 0
  pub from : pool.from ≤ r.from
  pub up : r.from ≤ r.to
  pub to : r.to ≤ pool.to

-- no address lies in both
abbrev pub AreApart : Range → Range → Type 0
AreApart r s = (at : ℕ) → IsTrue (holds at r) → IsTrue (holds at s) → ⊥

-- an application's static part and its stacks, at most four, fit in its region
pub record IsAppPlace (r : AppRow) : Type 0 where
  pub threads : r.threads ≤ 4
  pub z_even : r.z % 2 ≡ 0
  pub stack_even : r.stack % 2 ≡ 0
  pub fits : r.lo + r.z + r.threads * r.stack ≤ r.hi

-- domain n's row isn't free
abbrev pub IsInUse : Kernel → ℕ → Type 0
IsInUse k n = (domain_at k n).state ≢ free

pub record IsSettledKernel (k : Kernel) : Type 0 where
  pub orderly : IsOrderly k
  pub inside : (p : Pool) (n : ℕ) → n < 12 → IsInUse k n → IsInPool (pool_range p) (range_in p (domain_at k n))
  pub apart : (p : Pool) (n i : ℕ) → n < 12 → i < 12 → n ≢ i → IsInUse k n → IsInUse k i → AreApart (range_in p (domain_at k n)) (range_in p (domain_at k i))
  pub apps : (a : ℕ) → a < 8 → (app_at k a).state ≢ free → IsAppPlace (app_at k a)
  pub functions : (f : ℕ) → f < 64 → (function_at k f).address % 2 ≡ 0

pub record IsSettled (m : List ℕ) : Type 0 where
  pub laid_out : IsLaidOut m
  pub kernel : IsSettledKernel (kernel_of m)
