-- What is promised of owners and waiters, of a settled kernel.
use Rattle.std.proofs.Common.{◌≡◌, ℕ, ◌<◌, sym, ◌∙◌, subst, arith}
use Rattle.kernel_model.specs.Kernel.{Kernel, app_at}
use Rattle.kernel_model.specs.Words.{app_of, identity}
use Rattle.kernel_model.specs.Orderly.{IsLiveThread}
use Rattle.kernel_model.specs.Orderly.Spot.{OnMutex, OnCondition}
use Rattle.kernel_model.specs.Locks.{WaitsForMutex, WaitsForCondition, IsLiveOwner, LocksHeld}
use Rattle.place_model.specs.Settled.{IsSettledKernel}
use Rattle.node_model.specs.Code.{LocksLaw}
use Rattle.sync_laws.specs.Promises.{IsOnlyOwner}
use Rattle.sync_laws.proofs.KeptLocks.{only_owner}
use Rattle.sync_laws.proofs.WaiterRules.{on_mutex_listed, on_condition_listed}

live-owner : (k : Kernel) (a i n : ℕ) → IsSettledKernel k → a < 8 → IsOnlyOwner k a i n → IsLiveOwner k a n
live-owner k a i n h la o =
    let t : ℕ = identity a n in
    let few : n < 4 = o.number in
    let app : app_of t ≡ a = omega (arith, few) in
    record {
      number = few;
      alive = o.live;
      of_app = subst (λ (b : ℕ). IsLiveThread (app_at k b) t) app (h.orderly.threads t (omega (arith, few, la)) o.live);
    }

-- who waited for both would stand at two spots
both : (k : Kernel) (a c i n : ℕ) → IsSettledKernel k → c < 4 → i < 4 → WaitsForCondition k a c n → WaitsForMutex k a i n
    → OnCondition a c ≡ OnMutex a i
both k a c i n h lc li w v =
    sym (h.orderly.placed.nowhere_else (OnCondition a c) (identity a n) (on_condition_listed k a c n lc w)).1
    ∙ (h.orderly.placed.nowhere_else (OnMutex a i) (identity a n) (on_mutex_listed k a i n li v)).1

locks-held : (k : Kernel) → IsSettledKernel k → LocksHeld k
locks-held k h = record {
  one_owner = λ a i n p la li x y. sym x.0 ∙ y.0;
  live_owner = λ a i n la li x. live-owner k a i n h la (only_owner k a i n h la li x);
  owner_waits_not = λ a i n la li x w. (only_owner k a i n h la li x).not_waiting w;
  waits_once = λ a c i n la lc li w v. (let same : OnCondition a c ≡ OnMutex a i = both k a c i n h lc li w v in absurd (cc same));
}

pub locks : LocksLaw
locks s h = locks-held s.kernel h.kernel.settled
