-- Threads that waited for a condition go for their mutexes, one after another.
use Rattle.std.proofs.Common.{◌≡◌, ◌≢◌, ℕ, ◌+◌, ◌*◌, ◌<◌, Bool, true, false, cond, List, [], ◌∷◌, ◌++◌, length, get_or, set, take, drop, refl, ap, sym, ◌∙◌, subst, arith, All}
use Rattle.std.specs.List.{fold}
use Rattle.std.proofs.lemmas.Bool.{eqb-true, eqb-false}
use Rattle.std.proofs.lemmas.List.{get_or-set_same, set-set, set-get_or, take-append-drop}
use Rattle.kernel_model.specs.Kernel.{Kernel, thread_at, with_thread, condition_at, with_condition, with_mutex}
use Rattle.kernel_model.specs.Words.{none, ready, on_mutex, on_condition, app_of, number_of, identity, owner_of, waiters_of, ready_row}
use Rattle.kernel_model.specs.Queues.{to_ready_end}
use Rattle.kernel_model.specs.Orderly.{IsThreadRow, IsMutex, IsOnCondition, IsOrderly}
use Rattle.kernel_model.specs.declared.rows.MutexRow.{MutexRow}
use Rattle.kernel_model.specs.declared.rows.ThreadRow.{ThreadRow}
use Rattle.place_model.specs.Settled.{IsSettledKernel}
use Rattle.kernel_model.specs.Sync.{own_app, with_mutex_row, is_free_mutex, queued, gone_for, woken}
use Rattle.thread_laws.proofs.Moving.{IsOrderlyBut}
use Rattle.thread_laws.proofs.MovingRows.{moving_with_row}
use Rattle.thread_laws.proofs.MovingRules.{row_put, live_row}
use Rattle.thread_laws.proofs.MovingReady.{comes_to_end}
use Rattle.sync_laws.specs.Laws.{WokenLaw}
use Rattle.sync_laws.proofs.Mutexes.{with_owner_but, elsewhere_wants, IsFirst, on_condition_is, comes_to_mutex}
use Rattle.sync_laws.proofs.Conditions.{first_listed, first_on_condition_leaves}

-- the thread that goes, and its mutex
pub record IsGoing (k : Kernel) (a c n : ℕ) (ns : List ℕ) : Type 0 where
  pub few : n < 4
  pub first : IsFirst (with_condition k a c (n ∷ ns)) a n on_condition
  pub but : IsOrderlyBut (with_condition k a c ns) (identity a n)
  pub number : (thread_at k (identity a n)).mutex < 4
  pub not_owner : owner_of k a (thread_at k (identity a n)).mutex ≢ n

pub going : (k : Kernel) (a c n : ℕ) (ns : List ℕ) → a < 8 → c < 4 → IsOrderly (with_condition k a c (n ∷ ns)) → IsGoing k a c n ns
going k a c n ns la lc h =
    let is : IsFirst (with_condition k a c (n ∷ ns)) a n on_condition = on_condition_is (with_condition k a c (n ∷ ns)) a c n la h (first_listed k a c n ns la lc h) in
    let few : n < 4 = is.few in
    let on : IsOnCondition k.mutexes (identity a n) (thread_at k (identity a n)) = h.conditions (identity a n) (omega arith) is.state_is in
    let app : app_of (identity a n) ≡ a = omega arith in
    let number : number_of (identity a n) ≡ n = omega arith in
    record {
      few = few;
      first = is;
      but = first_on_condition_leaves k a c n ns la lc h;
      number = (let l = on.number in omega arith);
      not_owner = λ q. on.not_owner (ap (λ (b : ℕ). owner_of k b (thread_at k (identity a n)).mutex) app ∙ q ∙ sym number);
    }

-- ---- the mutex is free

now_ready : (row : ThreadRow) → IsThreadRow row → IsThreadRow (ready_row row)
now_ready row old = record { registers = old.registers; state = omega arith; priority = old.priority; waits = λ _ _ _. refl; takes = λ _. refl; wakes = λ _. (refl, refl) }

takes_it : (k : Kernel) (a c n : ℕ) (ns : List ℕ) → a < 8 → IsGoing k a c n ns → owner_of k a (thread_at k (identity a n)).mutex ≡ none
    → IsOrderly (with_condition (to_ready_end (with_mutex_row k a (thread_at k (identity a n)).mutex n (waiters_of k a (thread_at k (identity a n)).mutex)) (identity a n)) a c ns)
takes_it k a c n ns la g e =
    let t : ℕ = identity a n in
    let i : ℕ = (thread_at k t).mutex in
    let from : Kernel = with_condition k a c ns in
    let row : ThreadRow = ready_row (thread_at k t) in
    let k1 : Kernel = with_thread from t row in
    let few : n < 4 = g.few in
    let lt : t < 32 = omega arith in
    let but1 : IsOrderlyBut k1 t = moving_with_row from t row lt g.but (live_row from t row g.first.live (now_ready (thread_at k t) (g.but.order.rows t lt)) (omega arith) (omega arith)) in
    let state : (thread_at k1 t).state ≡ ready = ap (λ (w : ThreadRow). w.state) (row_put from t row lt g.but.order.shape.thread_rows) in
    let nobody : waiters_of k a i ≡ [] = (g.but.order.mutexes a i la g.number).unwanted e in
    let owner : MutexRow = record { owner = n; waiters = record { items = waiters_of k a i } } in
    let new : IsMutex k1.threads a owner = record {
      owned = λ _. (few, λ q. omega (arith, state));
      not_waiting = subst (λ (xs : List ℕ). All (λ m. m ≢ n) xs) (sym nobody) (λ j d l. absurd (omega arith));
      unwanted = λ _. nobody;
    } in
    comes_to_end (with_mutex k1 a i owner) t (with_owner_but k1 t a i owner la g.number but1 refl new (elsewhere_wants k1 a i n (λ q. omega (arith, state)))) lt state

-- ---- it isn't

now_waits : (row : ThreadRow) (i : ℕ) → IsThreadRow row → row.state ≡ on_condition → IsThreadRow (record row { state = on_mutex; object = i; mutex = 0 })
now_waits row i old e = record { registers = old.registers; state = omega arith; priority = old.priority; waits = λ other _ _. absurd (other refl); takes = λ _. refl; wakes = λ _. old.wakes (omega arith) }

waits_for_it : (k : Kernel) (a c n : ℕ) (ns : List ℕ) → a < 8 → IsGoing k a c n ns → owner_of k a (thread_at k (identity a n)).mutex ≢ none
    → IsOrderly (with_condition (queued k a (thread_at k (identity a n)).mutex n) a c ns)
waits_for_it k a c n ns la g some =
    let t : ℕ = identity a n in
    let i : ℕ = (thread_at k t).mutex in
    let from : Kernel = with_condition k a c ns in
    let row : ThreadRow = record (thread_at k t) { state = on_mutex; object = i; mutex = 0 } in
    let few : n < 4 = g.few in
    let lt : t < 32 = omega arith in
    let but1 : IsOrderlyBut (with_thread from t row) t = moving_with_row from t row lt g.but (live_row from t row g.first.live (now_waits (thread_at k t) i (g.but.order.rows t lt) g.first.state_is) (omega arith) (omega arith)) in
    let put : thread_at (with_thread from t row) t ≡ row = row_put from t row lt g.but.order.shape.thread_rows in
    comes_to_mutex (with_thread from t row) a i n la g.number few but1 (ap (λ (w : ThreadRow). w.state) put) (ap (λ (w : ThreadRow). w.object) put) some g.not_owner

-- ---- one goes, and each of them

gone_by : (k : Kernel) (a c n : ℕ) (ns : List ℕ) → a < 8 → IsGoing k a c n ns → IsSettledKernel (with_condition k a c (n ∷ ns)) → (b : Bool) → is_free_mutex k a (thread_at k (identity a n)).mutex ≡ b
    → IsSettledKernel (with_condition (cond b (to_ready_end (with_mutex_row k a (thread_at k (identity a n)).mutex n (waiters_of k a (thread_at k (identity a n)).mutex)) (identity a n)) (queued k a (thread_at k (identity a n)).mutex n)) a c ns)
gone_by k a c n ns la g h true e = record {
  orderly = takes_it k a c n ns la g (eqb-true (owner_of k a (thread_at k (identity a n)).mutex) none e);
  inside = h.inside;
  apart = h.apart;
  apps = h.apps;
  functions = h.functions;
}
gone_by k a c n ns la g h false e = record {
  orderly = waits_for_it k a c n ns la g (eqb-false (owner_of k a (thread_at k (identity a n)).mutex) none e);
  inside = h.inside;
  apart = h.apart;
  apps = h.apps;
  functions = h.functions;
}

pub gone_stays_settled : (k : Kernel) (a c n : ℕ) (ns : List ℕ) → a < 8 → c < 4 → IsSettledKernel (with_condition k a c (n ∷ ns)) → IsSettledKernel (with_condition (gone_for k a n) a c ns)
gone_stays_settled k a c n ns la lc h = gone_by k a c n ns la (going k a c n ns la lc h.orderly) h (is_free_mutex k a (thread_at k (identity a n)).mutex) refl

conditions_by : (k : Kernel) (a n i : ℕ) (b : Bool) → (cond b (to_ready_end (with_mutex_row k a i n (waiters_of k a i)) (identity a n)) (queued k a i n)).conditions ≡ k.conditions
conditions_by k a n i true = refl
conditions_by k a n i false = refl

-- going changes no condition's list
pub conditions_stay : (k : Kernel) (a n : ℕ) → (gone_for k a n).conditions ≡ k.conditions
conditions_stay k a n = conditions_by k a n (thread_at k (identity a n)).mutex (is_free_mutex k a (thread_at k (identity a n)).mutex)

pub all_go : (ts rest : List ℕ) (k : Kernel) (a c : ℕ) → a < 8 → c < 4 → IsSettledKernel (with_condition k a c (ts ++ rest)) → condition_at k a c ≡ rest → IsSettledKernel (fold (λ k n. gone_for k a n) k ts)
all_go [] rest k a c la lc h e = subst (λ (ls : List (List ℕ)). IsSettledKernel (record k { conditions = ls })) (ap (set k.conditions (4 * a + c)) (sym e) ∙ set-get_or k.conditions (4 * a + c) []) h
all_go (n ∷ ts) rest k a c la lc h e =
    all_go ts rest (gone_for k a n) a c la lc (gone_stays_settled k a c n (ts ++ rest) la lc h) (ap (λ (ls : List (List ℕ)). get_or ls (4 * a + c) []) (conditions_stay k a n) ∙ e)

-- the kernel in which so many left the list, and would be put before it again
pub put_again : (k : Kernel) (a c count : ℕ) → with_condition (with_condition k a c (drop count (condition_at k a c))) a c (take count (condition_at k a c) ++ drop count (condition_at k a c)) ≡ k
put_again k a c count =
    ap (λ (xs : List ℕ). with_condition (with_condition k a c (drop count (condition_at k a c))) a c xs) (take-append-drop count (condition_at k a c))
    ∙ ap (λ (ls : List (List ℕ)). record k { conditions = ls }) (set-set k.conditions (4 * a + c) (drop count (condition_at k a c)) (condition_at k a c) ∙ set-get_or k.conditions (4 * a + c) [])

pub woken_stays_settled : WokenLaw
unfolding woken
woken_stays_settled k c count h r lc =
    let a : ℕ = own_app k in
    let la : a < 8 = (let l = r.thread in omega arith) in
    let ns : List ℕ = condition_at k a c in
    let size : length k.conditions ≡ 32 = h.orderly.shape.condition_lists in
    all_go (take count ns) (drop count ns) (with_condition k a c (drop count ns)) a c la lc
    (subst (λ (j : Kernel). IsSettledKernel j) (sym (put_again k a c count)) h)
    (get_or-set_same k.conditions (4 * a + c) (drop count ns) [] (omega arith))
