-- The count of a module's instructions and the pending word are no part of what is settled.
use Rattle.std.proofs.Common.{◌≡◌, ◌≢◌, ℕ, List, refl, sym, subst, Contains, AllPairs}
use Rattle.kernel_model.specs.Kernel.{Kernel}
use Rattle.kernel_model.specs.Orderly.{Spot, spot_of, listed, IsPlaced}
use Rattle.kernel_model.specs.Orderly.Spot.{Nowhere, Ready, Runs, Asleep, OnMutex, OnCondition, OnLine, Calls}
use Rattle.place_model.specs.Settled.{IsSettledKernel}

listed-words : (k : Kernel) (b p : ℕ) (s : Spot) → listed (record k { budget = b; pending = p }) s ≡ listed k s
listed-words k b p Nowhere = refl
listed-words k b p Ready = refl
listed-words k b p Runs = refl
listed-words k b p Asleep = refl
listed-words k b p (OnMutex a i) = refl
listed-words k b p (OnCondition a c) = refl
listed-words k b p (OnLine n) = refl
listed-words k b p Calls = refl

placed-words : (k : Kernel) (b p : ℕ) → IsPlaced k → IsPlaced (record k { budget = b; pending = p })
placed-words k b p h = record {
  there = λ t l n. subst (λ (xs : List ℕ). Contains xs t) (sym (listed-words k b p (spot_of k t))) (h.there t l n);
  nowhere_else = λ s t c. h.nowhere_else s t (subst (λ (xs : List ℕ). Contains xs t) (listed-words k b p s) c);
  once = λ s. subst (λ (xs : List ℕ). AllPairs (λ x y. x ≢ y) xs) (sym (listed-words k b p s)) (h.once s);
}

pub settled-words : (k : Kernel) (b p : ℕ) → IsSettledKernel k → IsSettledKernel (record k { budget = b; pending = p })
settled-words k b p h = record {
  orderly = record {
    shape = record {
      app_rows = h.orderly.shape.app_rows;
      module_rows = h.orderly.shape.module_rows;
      function_rows =
          h.orderly.shape.function_rows;
      thread_rows = h.orderly.shape.thread_rows;
      mutex_rows = h.orderly.shape.mutex_rows;
      condition_lists = h.orderly.shape.condition_lists;
      line_lists = h.orderly.shape.line_lists;
    };
    limit = h.orderly.limit;
    top = h.orderly.top;
    rows = h.orderly.rows;
    threads = h.orderly.threads;
    placed = placed-words k b p h.orderly.placed;
    caller = h.orderly.caller;
    callee = h.orderly.callee;
    mutexes = h.orderly.mutexes;
    conditions = h.orderly.conditions;
    by_priority = h.orderly.by_priority;
    by_wake_time = h.orderly.by_wake_time;
    later = h.orderly.later;
    functions = h.orderly.functions;
  };
  inside = h.inside;
  apart = h.apart;
  apps = h.apps;
  functions = h.functions;
}
