-- The stacks of a settled kernel's threads lie in the data pool.
use Rattle.std.proofs.Common.{◌≡◌, ◌≢◌, ℕ, ◌+◌, ◌-◌, ◌*◌, ◌<◌, ◌≤◌, Bool, cond, subst, sym, ap, ◌∙◌, arith}
use Rattle.std.proofs.lemmas.Bool.{lt-ltb}
use Rattle.std.proofs.Math.Nat.{mul-le-mul_right}
use Rattle.kernel_model.specs.declared.map.TheConstants.{DATA_POOL_END}
use Rattle.kernel_model.specs.Kernel.{Kernel, app_at, module_at}
use Rattle.kernel_model.specs.Words.{free, app_of, number_of}
use Rattle.kernel_model.specs.Orderly.{IsLiveThread}
use Rattle.kernel_model.specs.declared.rows.AppRow.{AppRow}
use Rattle.place_model.specs.declared.places.DomainRow.{DomainRow}
use Rattle.place_model.specs.declared.places.Pool.TheVariants.{Data}
use Rattle.place_model.specs.Placing.{app_domain, module_domain, domain_at, pool_range, range_in}
use Rattle.place_model.specs.Settled.{IsAppPlace, IsInPool, IsSettledKernel}
use Rattle.kernel_model.specs.Starting.{MayBegin}
use Rattle.thread_laws.specs.Facts.{IsReady}
use Rattle.kernel_threads.specs.Stacks.{HasStack}

-- below 8 a domain is an application
app_is_domain : (k : Kernel) (a : ℕ) → a < 8 → domain_at k a ≡ app_domain (app_at k a)
app_is_domain k a h = ap (λ (b : Bool). cond b (app_domain (app_at k a)) (module_domain (module_at k (a - 8)))) (lt-ltb a 8 h)

-- a live application's region ends by the pool's end
region_end : (k : Kernel) (a : ℕ) → IsSettledKernel k → a < 8 → (app_at k a).state ≢ free → (app_at k a).hi ≤ DATA_POOL_END
region_end k a s h used =
    let is : domain_at k a ≡ app_domain (app_at k a) = app_is_domain k a h in
    let in_use : (domain_at k a).state ≢ free = λ e. used (sym (ap (λ (r : DomainRow). r.state) is) ∙ e) in
    let place : IsInPool (pool_range Data) (range_in Data (app_domain (app_at k a))) =
    subst (λ (r : DomainRow). IsInPool (pool_range Data) (range_in Data r)) is (s.inside Data a (omega arith) in_use) in
    place.to

pub live_stack : (k : Kernel) (t : ℕ) → IsSettledKernel k → t < 32 → (app_at k (app_of t)).state ≢ free → number_of t < (app_at k (app_of t)).threads → HasStack k t
live_stack k t s h used below =
    let a : AppRow = app_at k (app_of t) in
    let end : a.hi ≤ DATA_POOL_END = region_end k (app_of t) s (omega arith) used in
    let place : IsAppPlace a = s.apps (app_of t) (omega arith) used in
    let more : (number_of t + 1) * a.stack ≤ a.threads * a.stack = mul-le-mul_right a.stack (omega arith) in
    omega (arith, place.fits, end, more)

pub beginning_stack : (k : Kernel) (t : ℕ) → IsSettledKernel k → MayBegin k t → HasStack k t
beginning_stack k t s b =
    live_stack k t s b.number (λ e. absurd (omega (arith, b.app, e))) (omega (arith, b.within))

pub ready_stack : (k : Kernel) (t : ℕ) → IsSettledKernel k → IsReady k t → HasStack k t
ready_stack k t s r =
    let live' : IsLiveThread (app_at k (app_of t)) t = s.orderly.threads t r.number (λ e. absurd (omega (arith, r.state, e))) in
    live_stack k t s r.number (λ e. absurd (omega (arith, live'.alive, e))) live'.number
