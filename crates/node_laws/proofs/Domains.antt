-- What a sound kernel says of a domain that is placed: its places, its row, and the stacks of its threads.
use Rattle.std.proofs.Common.{◌≡◌, ◌≢◌, ℕ, zero, suc, ◌+◌, ◌*◌, ◌%◌, ◌<◌, ◌≤◌, List, get_or, sym, ap, ◌∙◌, subst, arith, Option, Some, nat_lt}
use Rattle.std.proofs.lemmas.Bool.{lt-ltb, cond-true}
use Rattle.std.proofs.Math.Nat.{mul-le-mul_left}
use Rattle.code_model.specs.declared.object.Object.{Object}
use Rattle.kernel_model.specs.declared.kinds.Kind.{Kind}
use Rattle.kernel_model.specs.declared.kinds.Kind.TheVariants.{App, Module}
use Rattle.kernel_model.specs.Kernel.{Kernel, app_at, free_app}
use Rattle.kernel_model.specs.Words.{free, app_of, number_of}
use Rattle.kernel_model.specs.declared.rows.AppRow.{AppRow}
use Rattle.kernel_model.specs.declared.rows.ModuleRow.{ModuleRow}
use Rattle.place_model.specs.declared.places.Pool.TheVariants.{Code, Data}
use Rattle.place_model.specs.declared.places.DomainRow.{DomainRow}
use Rattle.place_model.specs.Placing.{domain_at, app_domain, pool_range, range_in}
use Rattle.place_model.specs.Settled.{IsSettledKernel, IsInPool, IsInUse}
use Rattle.load_model.specs.Domains.{Domain, region_length}
use Rattle.node_model.specs.Placed.{IsWellPlaced}
use Rattle.node_model.specs.Systems.{domain_in, kind_of}
use Rattle.node_model.specs.Sound.{IsDomain, HasRow, IsAppRowOf, IsSoundKernel, low_in, top_in}

-- ---- places

pub of-app : (apps : List AppRow) (modules : List ModuleRow) (n : ℕ) (d : Domain) → n < 8 → IsDomain apps modules n d
    → (d.object.kind ≡ App) × IsAppRowOf d (get_or apps n free_app)
of-app apps modules n d l h =
    let e : kind_of n ≡ App = cond-true (nat_lt n 8) App Module (lt-ltb n 8 l) in
    (h.kind ∙ e, subst (λ (k : Kind). HasRow k apps modules n d) e h.row)

app-row : (k : Kernel) (n : ℕ) → n < 8 → domain_at k n ≡ app_domain (app_at k n)
app-row k n l = cond-true (nat_lt n 8) (app_domain (app_at k n)) _ (lt-ltb n 8 l)

-- the places of an application's row lie in the pools
app-well : (k : Kernel) (n : ℕ) (d : Domain) → n < 8 → IsSettledKernel k → IsDomain k.apps k.modules n d → IsAppRowOf d (app_at k n)
    → IsWellPlaced d
app-well k n d l h is row =
    let used : IsInUse k n = subst (λ (r : DomainRow). r.state ≢ free) (sym (app-row k n l)) row.used in
    let code : IsInPool (pool_range Code) (app_domain (app_at k n)).code =
    subst (λ (r : DomainRow). IsInPool (pool_range Code) (range_in Code r)) (app-row k n l)
    (h.inside Code n (omega arith) used) in
    let region : IsInPool (pool_range Data) (app_domain (app_at k n)).region =
    subst (λ (r : DomainRow). IsInPool (pool_range Data) (range_in Data r)) (app-row k n l)
    (h.inside Data n (omega arith) used) in
    record {
      code_even = omega (arith, code.from_even, row.code_lo);
      code_low = omega (arith, code.from, row.code_lo);
      code_high = omega (arith, code.to, row.code_hi);
      lo_even = omega (arith, region.from_even, row.lo);
      hi_even = omega (arith, region.to_even, row.hi);
      lo_low = omega (arith, region.from, row.lo);
      hi_high = omega (arith, region.to, row.hi);
      statics = omega (arith, is.region);
    }

pub app-placed : (k : Kernel) (ds : List (Option Domain)) (s n : ℕ) (d : Domain) → IsSoundKernel k ds s → n < 8
    → domain_in ds n ≡ Some d → IsWellPlaced d
app-placed k ds s n d h l e =
    let is : IsDomain k.apps k.modules n d = h.domains.placed n d e in
    app-well k n d l h.settled is (of-app k.apps k.modules n d l is).1

-- ---- stacks

pub even-times : (n s : ℕ) → s % 2 ≡ 0 → (n * s) % 2 ≡ 0
even-times zero s e = omega arith
even-times (suc n) s e = let h : (n * s) % 2 ≡ 0 = even-times n s e in omega (arith, h)

-- a thread's stack lies in its application's region, behind the static part
pub record IsStack (d : Domain) (low top : ℕ) : Type 0 where
  pub low_even : low % 2 ≡ 0
  pub top_even : top % 2 ≡ 0
  pub within_low : d.lo ≤ low
  pub within_top : top ≤ d.hi
  pub room : low + 16 ≤ top

pub stack-in : (apps : List AppRow) (t : ℕ) (d : Domain) → IsWellPlaced d → d.object.kind ≡ App
    → d.hi ≡ d.lo + region_length d.object → IsAppRowOf d (get_or apps (app_of t) free_app)
    → number_of t < d.object.threads → IsStack d (low_in apps t) (top_in apps t)
stack-in apps t d well app region row l =
    let o : Object = d.object in
    let a : AppRow = get_or apps (app_of t) free_app in
    let steady : (o.stack % 2 ≡ 0) × (16 ≤ o.stack) = ((o.form.app app).stack_even, (o.form.app app).stack_least) in
    let even : (number_of t * a.stack) % 2 ≡ 0 = even-times (number_of t) a.stack (omega (arith, row.stack, steady)) in
    let z_even : a.z % 2 ≡ 0 = omega (arith, row.z) in
    let more : suc (number_of t) * o.stack ≤ o.threads * o.stack = mul-le-mul (suc (number_of t)) o.threads o.stack (omega arith) in
    let same : number_of t * a.stack ≡ number_of t * o.stack = ap (λ (x : ℕ). number_of t * x) row.stack in
    record {
      low_even = omega (arith, row.lo, well.lo_even);
      top_even = omega (arith, row.lo, well.lo_even, row.stack, steady);
      within_low = omega (arith, row.lo);
      within_top = omega (arith, row.lo, row.z, row.stack, region, more, same);
      room = omega (arith, row.stack, steady);
    }
  where
    mul-le-mul : (a b s : ℕ) → a ≤ b → a * s ≤ b * s
    mul-le-mul a b s h = omega (arith, mul-le-mul_left s h)
