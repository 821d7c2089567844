-- A settled kernel in which a saved register is another.
use Rattle.std.proofs.Common.{◌≡◌, ◌≢◌, ℕ, ◌+◌, ◌*◌, ◌<◌, ◌≤◌, List, length, get_or, set, refl, sym, ap, ◌∙◌, subst, inl, inr, arith, AllPairs, Contains}
use Rattle.std.proofs.lemmas.Bool.{cases_eq}
use Rattle.std.proofs.lemmas.List.{get_or-set_same, get_or-set_other, length-set}
use Rattle.kernel_model.specs.Kernel.{Kernel, thread_at, mutex_at, free_thread, free_mutex}
use Rattle.kernel_model.specs.Words.{free, app_of, number_of, priority_of, wake_time, tick_number, saved_register}
use Rattle.kernel_model.specs.Orderly.{spot, spot_of, listed, IsThreadRow, IsMutex, IsOnCondition, IsOrderly}
use Rattle.kernel_model.specs.Orderly.{Spot}
use Rattle.kernel_model.specs.Orderly.Spot.{Nowhere, Ready, Runs, Asleep, OnMutex, OnCondition, OnLine, Calls}
use Rattle.kernel_model.specs.declared.rows.ThreadRow.{ThreadRow}
use Rattle.place_model.specs.Settled.{IsSettledKernel}

-- the row with the register
new_row : Kernel → (t n v : ℕ) → ThreadRow
new_row k t n v = record (thread_at k t) { regs = set (thread_at k t).regs n v }

thread_other : (k : Kernel) (t n v x : ℕ) → x ≢ t → thread_at (saved_register k t n v) x ≡ thread_at k x
thread_other k t n v x other = get_or-set_other k.threads t x (record (thread_at k t) { regs = set (thread_at k t).regs n v }) free_thread other

thread_here : (k : Kernel) (t n v : ℕ) → t < length k.threads → thread_at (saved_register k t n v) t ≡ new_row k t n v
unfolding new_row
thread_here k t n v l = get_or-set_same k.threads t (record (thread_at k t) { regs = set (thread_at k t).regs n v }) free_thread l

-- a field that the registers don't change
field_same : {X : Type 0} (f : ThreadRow → X) (k : Kernel) (t n v x : ℕ) → f (new_row k t n v) ≡ f (thread_at k t) → t < length k.threads
    → f (thread_at (saved_register k t n v) x) ≡ f (thread_at k x)
field_same {X} f k t n v x e l = elim (cases_eq x t) [
  | inl same ↦ ap (λ i. f (thread_at (saved_register k t n v) i)) same ∙ ap f (thread_here k t n v l) ∙ e ∙ ap (λ i. f (thread_at k i)) (sym same)
  | inr other ↦ ap f (thread_other k t n v x other)
]

listed_register : (k : Kernel) (t n v : ℕ) (s : Spot) → listed (saved_register k t n v) s ≡ listed k s
listed_register k t n v Nowhere = refl
listed_register k t n v Ready = refl
listed_register k t n v Runs = refl
listed_register k t n v Asleep = refl
listed_register k t n v (OnMutex b i) = refl
listed_register k t n v (OnCondition b c) = refl
listed_register k t n v (OnLine m) = refl
listed_register k t n v Calls = refl

orderly_register : (k : Kernel) (t n v : ℕ) → t < 32 → IsOrderly k → IsOrderly (saved_register k t n v)
unfolding new_row
orderly_register k t n v b h =
    let k' : Kernel = saved_register k t n v in
    let l : t < length k.threads = omega (arith, b, h.shape.thread_rows) in
    let state : (x : ℕ) → (thread_at k' x).state ≡ (thread_at k x).state = λ x. field_same (λ r. r.state) k t n v x refl l in
    let object : (x : ℕ) → (thread_at k' x).object ≡ (thread_at k x).object = λ x. field_same (λ r. r.object) k t n v x refl l in
    let mutex : (x : ℕ) → (thread_at k' x).mutex ≡ (thread_at k x).mutex = λ x. field_same (λ r. r.mutex) k t n v x refl l in
    let priority : (x : ℕ) → priority_of k' x ≡ priority_of k x = λ x. field_same (λ r. r.priority) k t n v x refl l in
    let wakes : (x : ℕ) → wake_time k' x ≡ wake_time k x = λ x. field_same (λ r. r.wake_low + 65536 * r.wake_high) k t n v x refl l in
    let spots : (x : ℕ) → spot_of k' x ≡ spot_of k x =
    λ x. ap (λ s. spot (app_of x) s (thread_at k' x).object) (state x) ∙ ap (λ o. spot (app_of x) (thread_at k x).state o) (object x) in
    let was_used : (x : ℕ) → (thread_at k' x).state ≢ free → (thread_at k x).state ≢ free = λ x u e. u (state x ∙ e) in
    record {
      shape = record {
        app_rows = h.shape.app_rows;
        module_rows = h.shape.module_rows;
        function_rows = h.shape.function_rows;
        thread_rows = length-set k.threads t (record (thread_at k t) { regs = set (thread_at k t).regs n v }) ∙ h.shape.thread_rows;
        mutex_rows = h.shape.mutex_rows;
        condition_lists = h.shape.condition_lists;
        line_lists = h.shape.line_lists;
      };
      limit = h.limit;
      top = h.top;
      rows = λ x c. elim (cases_eq x t) [
        | inl same ↦
            let old : IsThreadRow (thread_at k t) = h.rows t b in
            let row : IsThreadRow (new_row k t n v) = record {
              registers = length-set (thread_at k t).regs n v ∙ old.registers;
              state = old.state;
              priority = old.priority;
              waits = old.waits;
              takes = old.takes;
              wakes = old.wakes;
            } in
            subst (λ (r : ThreadRow). IsThreadRow r) (sym (ap (λ i. thread_at k' i) same ∙ thread_here k t n v l)) row
        | inr other ↦ subst (λ (r : ThreadRow). IsThreadRow r) (sym (thread_other k t n v x other)) (h.rows x c)
      ];
      threads = λ x c u. h.threads x c (was_used x u);
      placed = record {
        there = λ x c u.
            let there' : Contains (listed k (spot_of k x)) x = h.placed.there x c (λ (e : spot_of k x ≡ Nowhere). u (spots x ∙ e)) in
            subst (λ (xs : List ℕ). Contains xs x) (sym (ap (λ s. listed k' s) (spots x) ∙ listed_register k t n v (spot_of k x))) there';
        nowhere_else = λ s x c.
            let old = h.placed.nowhere_else s x (subst (λ (xs : List ℕ). Contains xs x) (listed_register k t n v s) c) in
            (old.0, spots x ∙ old.1);
        once = λ s. subst (λ (xs : List ℕ). AllPairs (λ x y. x ≢ y) xs) (sym (listed_register k t n v s)) (h.placed.once s);
      };
      caller = h.caller;
      callee = h.callee;
      mutexes = λ a i c d.
          let old : IsMutex k.threads a (mutex_at k a i) = h.mutexes a i c d in
          record {
            owned = λ o. (
              (old.owned o).0,
              λ (e : (thread_at k' (4 * a + (mutex_at k a i).owner)).state ≡ free). (old.owned o).1 (sym (state (4 * a + (mutex_at k a i).owner)) ∙ e),
            );
            not_waiting = old.not_waiting;
            unwanted = old.unwanted;
          };
      conditions = λ x c s.
          let old : IsOnCondition k.mutexes x (thread_at k x) = h.conditions x c (sym (state x) ∙ s) in
          let new : (m : ℕ) → m ≡ (thread_at k x).mutex → (m ≤ 3) × ((get_or k.mutexes (4 * app_of x + m) free_mutex).owner ≢ number_of x) =
          λ m same. subst (λ (y : ℕ). (y ≤ 3) × ((get_or k.mutexes (4 * app_of x + y) free_mutex).owner ≢ number_of x)) (sym same) (old.number, old.not_owner) in
          record { number = (new (thread_at k' x).mutex (mutex x)).0; not_owner = (new (thread_at k' x).mutex (mutex x)).1 };
      by_priority = λ i j d c e.
          let old : priority_of k (get_or k.ready j d) ≤ priority_of k (get_or k.ready i d) = h.by_priority i j d c e in
          omega (arith, old, priority (get_or k.ready i d), priority (get_or k.ready j d));
      by_wake_time = λ i j d c e.
          let old : wake_time k (get_or k.sleepers i d) ≤ wake_time k (get_or k.sleepers j d) = h.by_wake_time i j d c e in
          omega (arith, old, wakes (get_or k.sleepers i d), wakes (get_or k.sleepers j d));
      later = λ i d c.
          let old : tick_number k < wake_time k (get_or k.sleepers i d) = h.later i d c in
          omega (arith, old, wakes (get_or k.sleepers i d));
      functions = h.functions;
    }

pub settled_register : (k : Kernel) (t n v : ℕ) → t < 32 → IsSettledKernel k → IsSettledKernel (saved_register k t n v)
settled_register k t n v b h = record {
  orderly = orderly_register k t n v b h.orderly;
  inside = h.inside;
  apart = h.apart;
  apps = h.apps;
  functions = h.functions;
}
