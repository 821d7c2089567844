-- The first sleeper leaves the sleepers, or a thread comes to its place among them.
use Rattle.std.proofs.Common.{◌≡◌, ◌≢◌, ℕ, ◌<◌, ◌≤◌, Bool, leb, inl, inr, List, ◌∷◌, length, get_or, refl, ap, sym, subst, ⊎_elim, arith, insert, take, drop, All, AllPairs}
use Rattle.std.specs.List.{prefix_len}
use Rattle.std.proofs.lemmas.Bool.{cases_eq, leb-true, leb-false}
use Rattle.std.proofs.lemmas.List.Elements.{All-tail, All-cons, All-take, All-drop, All-append}
use Rattle.std.proofs.lemmas.List.Quantifiers.{all_pairs_remove}
use Rattle.std.proofs.lemmas.List.Sums.{prefix_len-le-length, prefix_len_passes, prefix_len_stops}
use Rattle.kernel_model.specs.Kernel.{Kernel, thread_at, with_sleepers}
use Rattle.kernel_model.specs.Words.{asleep, tick_number, wake_time}
use Rattle.kernel_model.specs.Queues.{among_sleepers}
use Rattle.kernel_model.specs.Orderly.{spot, IsOrderly}
use Rattle.kernel_model.specs.Orderly.Spot.{Nowhere, Ready, Runs, Asleep, OnMutex, OnCondition, OnLine, Calls}
use Rattle.thread_laws.proofs.ListEdits.{insert_has, insert_keeps, insert_from, insert_once, all_pairs_insert, remove_keeps, remove_from}
use Rattle.thread_laws.proofs.Moving.{HasOrder, IsOrderlyBut, SameBut, order_of, orderly_from, left_spot, came_to_spot}

spot_asleep : (a s o : ℕ) → s ≡ asleep → spot a s o ≡ Asleep
spot_asleep a s o e = ap (λ x. spot a x o) e

same_but_asleep : (k : Kernel) (xs : List ℕ) → SameBut k (with_sleepers k xs) Asleep
same_but_asleep k xs Nowhere = inr refl
same_but_asleep k xs Ready = inr refl
same_but_asleep k xs Runs = inr refl
same_but_asleep k xs Asleep = inl refl
same_but_asleep k xs (OnMutex a i) = inr refl
same_but_asleep k xs (OnCondition a c) = inr refl
same_but_asleep k xs (OnLine n) = inr refl
same_but_asleep k xs Calls = inr refl

order_with_sleepers : (k : Kernel) (xs : List ℕ) → AllPairs (λ x y. wake_time k x ≤ wake_time k y) xs → All (λ t. tick_number k < wake_time k t) xs → HasOrder k → HasOrder (with_sleepers k xs)
order_with_sleepers k xs sorted later h = record {
  shape = record {
    app_rows = h.shape.app_rows;
    module_rows = h.shape.module_rows;
    function_rows = h.shape.function_rows;
    thread_rows = h.shape.thread_rows;
    mutex_rows = h.shape.mutex_rows;
    condition_lists = h.shape.condition_lists;
    line_lists = h.shape.line_lists;
  };
  limit = h.limit;
  top = h.top;
  rows = h.rows;
  threads = h.threads;
  caller = h.caller;
  callee = h.callee;
  mutexes = h.mutexes;
  conditions = h.conditions;
  by_priority = h.by_priority;
  by_wake_time = sorted;
  later = later;
  functions = h.functions;
}

-- the first sleeper leaves
pub first_sleeper_leaves : (k : Kernel) (t : ℕ) (xs : List ℕ) → IsOrderly (with_sleepers k (t ∷ xs)) → IsOrderlyBut (with_sleepers k xs) t
first_sleeper_leaves k t xs h =
    let from : Kernel = with_sleepers k (t ∷ xs) in
    let once : AllPairs (λ x y. x ≢ y) (t ∷ xs) = h.placed.once Asleep in
    record {
      order = order_with_sleepers from xs
          (all_pairs_remove (λ x y. wake_time from x ≤ wake_time from y) (t ∷ xs) 0 (omega arith) h.by_wake_time)
          (All-tail (λ u. tick_number from < wake_time from u) t xs h.later)
          (order_of from h);
      placed = left_spot from (with_sleepers k xs) Asleep t h.placed (0, omega arith, refl) (λ u. refl) (same_but_asleep from xs)
          (λ u ne c. remove_keeps (t ∷ xs) 0 u (omega arith) ne c)
          (λ u c. remove_from (t ∷ xs) 0 u (omega arith) once c)
          (all_pairs_remove (λ x y. x ≢ y) (t ∷ xs) 0 (omega arith) once);
    }

all_insert : (P : ℕ → Type 0) (xs : List ℕ) (i y : ℕ) → All P xs → P y → All P (insert xs i y)
all_insert P xs i y all here = All-append P (take i xs) (y ∷ drop i xs) (All-take P i xs all) (All-cons P y (drop i xs) here (All-drop P i xs all))

-- a thread comes directly after the last whose wake time is at most its own
pub comes_asleep : (k : Kernel) (t : ℕ) → IsOrderlyBut k t → t < 32 → (thread_at k t).state ≡ asleep → tick_number k < wake_time k t → IsOrderly (with_sleepers k (among_sleepers k t))
comes_asleep k t but l e late =
    let test : ℕ → Bool = λ x. leb (wake_time k x) (wake_time k t) in
    let i : ℕ = prefix_len test k.sleepers in
    let h : i ≤ length k.sleepers = prefix_len-le-length test k.sleepers in
    let xs : List ℕ = insert k.sleepers i t in
    let sorted : AllPairs (λ x y. wake_time k x ≤ wake_time k y) xs =
    all_pairs_insert (λ x y. wake_time k x ≤ wake_time k y) k.sleepers i t h but.order.by_wake_time
    (λ n d ln. leb-true (wake_time k (get_or k.sleepers n d)) (wake_time k t) (prefix_len_passes test k.sleepers n d ln))
    (λ n d on ln.
    let first = leb-false (wake_time k (get_or k.sleepers i d)) (wake_time k t) (prefix_len_stops test k.sleepers d (omega arith)) in
    ⊎_elim
    (λ (same : n ≡ i). subst (λ (j : ℕ). wake_time k t ≤ wake_time k (get_or k.sleepers j d)) (sym same) (omega arith))
    (λ (other : n ≢ i). let order : wake_time k (get_or k.sleepers i d) ≤ wake_time k (get_or k.sleepers n d) = but.order.by_wake_time i n d (omega arith) ln in omega arith)
    (cases_eq n i)) in
    orderly_from (with_sleepers k xs) (order_with_sleepers k xs sorted (all_insert (λ u. tick_number k < wake_time k u) k.sleepers i t but.order.later late) but.order)
    (came_to_spot k (with_sleepers k xs) Asleep t but.placed l (spot_asleep _ _ _ e) (λ u. refl) (same_but_asleep k xs)
    (insert_has k.sleepers i t h)
    (λ u c. insert_keeps k.sleepers i t u h c)
    (λ u c. insert_from k.sleepers i t u h c)
    (insert_once k.sleepers i t h (but.placed.once Asleep) (but.placed.unlisted Asleep)))
