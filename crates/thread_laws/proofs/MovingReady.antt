-- A thread leaves the ready list, or comes to a place in it that keeps its order.
use Rattle.std.proofs.Common.{◌≡◌, ◌≢◌, ℕ, ◌<◌, ◌≤◌, Bool, not, ltb, leb, inl, inr, List, length, get_or, refl, sym, subst, ⊎_elim, arith, insert, remove, AllPairs}
use Rattle.std.specs.List.{position_or_len}
use Rattle.std.proofs.lemmas.Bool.{cases_eq, leb-true, leb-false, ltb-true, ltb-false}
use Rattle.std.proofs.lemmas.List.Elements.{Contains-get_or}
use Rattle.std.proofs.lemmas.List.Quantifiers.{all_pairs_remove}
use Rattle.std.proofs.lemmas.List.Sums.{fails_before_first, passes_at_first, prefix_len-le-length}
use Rattle.kernel_model.specs.Kernel.{Kernel, thread_at, with_ready}
use Rattle.kernel_model.specs.Words.{ready, priority_of}
use Rattle.kernel_model.specs.Queues.{at_front, at_end}
use Rattle.kernel_model.specs.Orderly.{IsOrderly}
use Rattle.kernel_model.specs.Orderly.Spot.{Nowhere, Ready, Runs, Asleep, OnMutex, OnCondition, OnLine, Calls}
use Rattle.thread_laws.proofs.ListEdits.{insert_has, insert_keeps, insert_from, insert_once, all_pairs_insert, remove_keeps, remove_from}
use Rattle.thread_laws.proofs.Spots.{spot_ready}
use Rattle.thread_laws.proofs.Moving.{HasOrder, IsOrderlyBut, SameBut, order_of, orderly_from, left_spot, came_to_spot}

same_but_ready : (k : Kernel) (xs : List ℕ) → SameBut k (with_ready k xs) Ready
same_but_ready k xs Nowhere = inr refl
same_but_ready k xs Ready = inl refl
same_but_ready k xs Runs = inr refl
same_but_ready k xs Asleep = inr refl
same_but_ready k xs (OnMutex a i) = inr refl
same_but_ready k xs (OnCondition a c) = inr refl
same_but_ready k xs (OnLine n) = inr refl
same_but_ready k xs Calls = inr refl

order_with_ready : (k : Kernel) (xs : List ℕ) → AllPairs (λ x y. priority_of k y ≤ priority_of k x) xs → HasOrder k → HasOrder (with_ready k xs)
order_with_ready k xs p h = record {
  shape = record {
    app_rows = h.shape.app_rows;
    module_rows = h.shape.module_rows;
    function_rows = h.shape.function_rows;
    thread_rows = h.shape.thread_rows;
    mutex_rows = h.shape.mutex_rows;
    condition_lists = h.shape.condition_lists;
    line_lists = h.shape.line_lists;
  };
  limit = h.limit;
  top = h.top;
  rows = h.rows;
  threads = h.threads;
  caller = h.caller;
  callee = h.callee;
  mutexes = h.mutexes;
  conditions = h.conditions;
  by_priority = p;
  by_wake_time = h.by_wake_time;
  later = h.later;
  functions = h.functions;
}

-- the thread at place i leaves the list
pub leaves_ready : (k : Kernel) (i : ℕ) → IsOrderly k → i < length k.ready → IsOrderlyBut (with_ready k (remove k.ready i)) (get_or k.ready i 0)
leaves_ready k i h l =
    let xs : List ℕ = remove k.ready i in
    let once : AllPairs (λ x y. x ≢ y) k.ready = h.placed.once Ready in
    record {
      order = order_with_ready k xs (all_pairs_remove (λ x y. priority_of k y ≤ priority_of k x) k.ready i l h.by_priority) (order_of k h);
      placed = left_spot k (with_ready k xs) Ready (get_or k.ready i 0) h.placed (Contains-get_or k.ready i 0 l) (λ u. refl) (same_but_ready k xs)
          (λ u ne c. remove_keeps k.ready i u l ne c)
          (λ u c. remove_from k.ready i u l once c)
          (all_pairs_remove (λ x y. x ≢ y) k.ready i l once);
    }

-- a thread comes to place i
comes_ready : (k : Kernel) (t i : ℕ) → IsOrderlyBut k t → t < 32 → (thread_at k t).state ≡ ready → i ≤ length k.ready
    → ((n d : ℕ) → n < i → priority_of k t ≤ priority_of k (get_or k.ready n d))
    → ((n d : ℕ) → i ≤ n → n < length k.ready → priority_of k (get_or k.ready n d) ≤ priority_of k t)
    → IsOrderly (with_ready k (insert k.ready i t))
comes_ready k t i but l e h before behind =
    let xs : List ℕ = insert k.ready i t in
    orderly_from (with_ready k xs) (order_with_ready k xs (all_pairs_insert (λ x y. priority_of k y ≤ priority_of k x) k.ready i t h but.order.by_priority before behind) but.order)
    (came_to_spot k (with_ready k xs) Ready t but.placed l (spot_ready _ _ _ e) (λ u. refl) (same_but_ready k xs)
    (insert_has k.ready i t h)
    (λ u c. insert_keeps k.ready i t u h c)
    (λ u c. insert_from k.ready i t u h c)
    (insert_once k.ready i t h (but.placed.once Ready) (but.placed.unlisted Ready)))

-- a thread comes directly before the first of its own or a lower priority
pub comes_to_front : (k : Kernel) (t : ℕ) → IsOrderlyBut k t → t < 32 → (thread_at k t).state ≡ ready → IsOrderly (with_ready k (at_front k t))
comes_to_front k t but l e =
    let test : ℕ → Bool = λ x. leb (priority_of k x) (priority_of k t) in
    let i : ℕ = position_or_len test k.ready in
    comes_ready k t i but l e (prefix_len-le-length (λ x. not (test x)) k.ready)
    (λ n d ln. let above = leb-false (priority_of k (get_or k.ready n d)) (priority_of k t) (fails_before_first test k.ready n d ln) in omega arith)
    (λ n d on ln.
    let first = leb-true (priority_of k (get_or k.ready i d)) (priority_of k t) (passes_at_first test k.ready d (omega arith)) in
    ⊎_elim
    (λ (same : n ≡ i). subst (λ (j : ℕ). priority_of k (get_or k.ready j d) ≤ priority_of k t) (sym same) first)
    (λ (other : n ≢ i). let order : priority_of k (get_or k.ready n d) ≤ priority_of k (get_or k.ready i d) = but.order.by_priority i n d (omega arith) ln in omega arith)
    (cases_eq n i))

-- before the first of a lower priority all have its priority or a higher one
pub before_end : (k : Kernel) (t n d : ℕ) → n < position_or_len (λ x. ltb (priority_of k x) (priority_of k t)) k.ready → priority_of k t ≤ priority_of k (get_or k.ready n d)
before_end k t n d l =
    ltb-false (priority_of k (get_or k.ready n d)) (priority_of k t) (fails_before_first (λ x. ltb (priority_of k x) (priority_of k t)) k.ready n d l)

-- and from there on lower ones
pub behind_end : (k : Kernel) (t : ℕ) → AllPairs (λ x y. priority_of k y ≤ priority_of k x) k.ready
    → (n d : ℕ) → position_or_len (λ x. ltb (priority_of k x) (priority_of k t)) k.ready ≤ n → n < length k.ready → priority_of k (get_or k.ready n d) < priority_of k t
behind_end k t sorted n d on l =
    let test : ℕ → Bool = λ x. ltb (priority_of k x) (priority_of k t) in
    let i : ℕ = position_or_len test k.ready in
    let first = ltb-true (priority_of k (get_or k.ready i d)) (priority_of k t) (passes_at_first test k.ready d (omega arith)) in
    ⊎_elim
    (λ (same : n ≡ i). subst (λ (j : ℕ). priority_of k (get_or k.ready j d) < priority_of k t) (sym same) first)
    (λ (other : n ≢ i). let order : priority_of k (get_or k.ready n d) ≤ priority_of k (get_or k.ready i d) = sorted i n d (omega arith) l in omega arith)
    (cases_eq n i)

-- a thread comes directly before the first of a lower priority
pub comes_to_end : (k : Kernel) (t : ℕ) → IsOrderlyBut k t → t < 32 → (thread_at k t).state ≡ ready → IsOrderly (with_ready k (at_end k t))
comes_to_end k t but l e =
    let test : ℕ → Bool = λ x. ltb (priority_of k x) (priority_of k t) in
    comes_ready k t (position_or_len test k.ready) but l e (prefix_len-le-length (λ x. not (test x)) k.ready)
    (before_end k t)
    (λ n d on ln. let low = behind_end k t but.order.by_priority n d on ln in omega arith)
