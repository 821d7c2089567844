-- Locking, unlocking and waiting keep a kernel settled.
use Rattle.std.proofs.Common.{◌≡◌, ◌≢◌, ℕ, ◌+◌, ◌*◌, ◌<◌, Bool, true, false, cond, List, [], ◌∷◌, ◌++◌, length, refl, ap, sym, ◌∙◌, subst, ⊎_elim, arith, All}
use Rattle.std.proofs.lemmas.Bool.{cases_eq, eqb-true, eqb-false}
use Rattle.std.proofs.lemmas.List.{get_or-set_same, get_or-set_other}
use Rattle.kernel_model.specs.declared.states.TheConstants.{ASLEEP}
use Rattle.kernel_model.specs.Kernel.{Kernel, thread_at, with_thread, app_at, condition_at, with_condition, free_mutex}
use Rattle.kernel_model.specs.Words.{none, free, running_state, on_mutex, on_condition, running, running_module, app_of, number_of, identity, none_running, owner_of, waiters_of}
use Rattle.kernel_model.specs.Orderly.{IsThreadRow, IsLiveThread, IsMutex, IsOnCondition, IsOrderly}
use Rattle.kernel_model.specs.declared.rows.MutexRow.{MutexRow}
use Rattle.kernel_model.specs.declared.rows.ThreadRow.{ThreadRow}
use Rattle.place_model.specs.Settled.{IsSettledKernel}
use Rattle.kernel_model.specs.Running.{ThreadRuns}
use Rattle.kernel_model.specs.Sync.{own_app, own_number, with_mutex_row, is_free_mutex, owns, queued, handed_to, unlocked, given_up, all_handed_over}
use Rattle.thread_laws.specs.Facts.{IsRunning}
use Rattle.thread_laws.proofs.Spots.{running_is}
use Rattle.thread_laws.proofs.Moving.{IsOrderlyBut}
use Rattle.thread_laws.proofs.MovingRows.{moving_with_row}
use Rattle.thread_laws.proofs.MovingRules.{row_put}
use Rattle.thread_laws.proofs.MovingRuns.{stops_running}
use Rattle.thread_laws.proofs.ReadyRules.{joins_end}
use Rattle.sync_laws.specs.Laws.{HandedLaw, LockedLaw, UnlockedLaw, WaitedLaw, IsHandedOver, AllHandedLaw}
use Rattle.sync_laws.proofs.Mutexes.{with_owner, nobody_wants, elsewhere_wants, IsFirst, first_owner_leaves, comes_to_mutex}
use Rattle.sync_laws.proofs.Conditions.{comes_to_condition}

-- ---- handing over

no_waiters : (k : Kernel) (a : ℕ) → IsMutex k.threads a (record { owner = none; waiters = record { items = [] } })
no_waiters k a = record { owned = λ n. absurd (n refl); not_waiting = λ j d l. absurd (omega arith); unwanted = λ _. refl }

pub handed_stays_settled : HandedLaw
handed_stays_settled k a i ws h la li e = by ws e
  where
    by : (ws : List ℕ) → waiters_of k a i ≡ ws → IsSettledKernel (handed_to k a i ws)
    by [] e = record {
      orderly = with_owner k a i (record { owner = none; waiters = record { items = [] } }) la li h.orderly (sym e) (no_waiters k a) (nobody_wants k a i);
      inside = h.inside;
      apart = h.apart;
      apps = h.apps;
      functions = h.functions;
    }
    by (n ∷ ns) e =
        let p : IsOrderlyBut (with_mutex_row k a i n ns) (identity a n) × IsFirst k a n on_mutex = first_owner_leaves k a i n ns la li h.orderly e in
        record {
          orderly = joins_end (with_mutex_row k a i n ns) (identity a n) p.0 (let few = p.1.few in omega arith) p.1.live;
          inside = h.inside;
          apart = h.apart;
          apps = h.apps;
          functions = h.functions;
        }

pub unlocked_stays_settled : UnlockedLaw
unlocked_stays_settled k i h r li = handed_stays_settled k (own_app k) i (waiters_of k (own_app k) i) h (let l = r.thread in omega arith) li refl

-- who runs then, and who owns the mutex
pub handed_runs : (k : Kernel) (a i : ℕ) (ws : List ℕ) → (running (handed_to k a i ws) ≡ running k) × (running_module (handed_to k a i ws) ≡ running_module k)
handed_runs k a i [] = (refl, refl)
handed_runs k a i (n ∷ ns) = (refl, refl)

pub handed_owner : (k : Kernel) (a i : ℕ) (ws : List ℕ) → IsOrderly k → a < 8 → i < 4 → waiters_of k a i ≡ ws → owner_of k a i < 4 → owner_of (handed_to k a i ws) a i ≢ owner_of k a i
handed_owner k a i ws h la li e few = by ws e
  where
    size : 4 * a + i < length k.mutexes
    size = let x = h.shape.mutex_rows in omega arith

    by : (ws : List ℕ) → waiters_of k a i ≡ ws → owner_of (handed_to k a i ws) a i ≢ owner_of k a i
    by [] e q = (let here : none ≡ owner_of k a i = sym (ap (λ (r : MutexRow). r.owner) (get_or-set_same k.mutexes (4 * a + i) (record { owner = none; waiters = record { items = [] } }) free_mutex size)) ∙ q in omega arith)
    by (n ∷ ns) e q =
        let here : n ≡ owner_of k a i = sym (ap (λ (r : MutexRow). r.owner) (get_or-set_same k.mutexes (4 * a + i) (record { owner = n; waiters = record { items = ns } }) free_mutex size)) ∙ q in
        subst (λ (xs : List ℕ). All (λ m. m ≢ owner_of k a i) xs) e (h.mutexes a i la li).not_waiting 0 0 (omega arith) here

pub handed_others : (k : Kernel) (a i j : ℕ) (ws : List ℕ) → i ≢ j → owner_of (handed_to k a i ws) a j ≡ owner_of k a j
handed_others k a i j [] ne = ap (λ (r : MutexRow). r.owner) (get_or-set_other k.mutexes (4 * a + i) (4 * a + j) _ free_mutex (λ q. ne (omega arith)))
handed_others k a i j (n ∷ ns) ne = ap (λ (r : MutexRow). r.owner) (get_or-set_other k.mutexes (4 * a + i) (4 * a + j) _ free_mutex (λ q. ne (omega arith)))

-- ---- each that the running thread owns

pub hands_more : (k j : Kernel) (n : ℕ) → ThreadRuns k → n < 4 → IsHandedOver k j n → (b : Bool) → owns j n ≡ b → IsHandedOver k (cond b (unlocked j n) j) (n + 1)
hands_more k j n r ln h true e =
    let a : ℕ = own_app j in
    let ws : List ℕ = waiters_of j a n in
    let app : a ≡ own_app k = ap (λ (t : ℕ). app_of t) h.running in
    let number : own_number j ≡ own_number k = ap (λ (t : ℕ). number_of t) h.running in
    let la : a < 8 = (let l = r.thread in omega arith) in
    let mine : owner_of j a n ≡ own_number j = eqb-true (owner_of j a n) (own_number j) e in
    let runs : (running (handed_to j a n ws) ≡ running j) × (running_module (handed_to j a n ws) ≡ running_module j) = handed_runs j a n ws in
    record {
      settled = handed_stays_settled j a n ws h.settled la ln refl;
      running = runs.0 ∙ h.running;
      in_module = runs.1 ∙ h.in_module;
      given = λ i l q. ⊎_elim
          (λ (s : i ≡ n). handed_owner j a n ws h.settled.orderly la ln refl (omega (arith, mine)) (ap (owner_of (handed_to j a n ws) a) (sym s) ∙ ap (λ (b : ℕ). owner_of (handed_to j a n ws) b i) app ∙ q ∙ sym number ∙ sym mine))
          (λ (ne : i ≢ n). h.given i (omega arith) (ap (λ (b : ℕ). owner_of j b i) (sym app) ∙ sym (handed_others j a n i ws (λ q. ne (sym q))) ∙ ap (λ (b : ℕ). owner_of (handed_to j a n ws) b i) app ∙ q))
          (cases_eq i n);
    }
hands_more k j n r ln h false e = record {
  settled = h.settled;
  running = h.running;
  in_module = h.in_module;
  given = λ i l q. ⊎_elim
      (λ (s : i ≡ n). eqb-false (owner_of j (own_app j) n) (own_number j) e (ap (λ (t : ℕ). owner_of j (app_of t) n) h.running ∙ ap (owner_of j (own_app k)) (sym s) ∙ q ∙ sym (ap (λ (t : ℕ). number_of t) h.running)))
      (λ (ne : i ≢ n). h.given i (omega arith) q)
      (cases_eq i n);
}

pub all_handed_stay_settled : AllHandedLaw
unfolding all_handed_over
all_handed_stay_settled k h r =
    let h0 : IsHandedOver k k 0 = record { settled = h; running = refl; in_module = refl; given = λ i l. absurd (omega arith) } in
    let h1 : IsHandedOver k (given_up k 0) 1 = hands_more k k 0 r (omega arith) h0 (owns k 0) refl in
    let h2 : IsHandedOver k (given_up (given_up k 0) 1) 2 = hands_more k (given_up k 0) 1 r (omega arith) h1 (owns (given_up k 0) 1) refl in
    let k2 : Kernel = given_up (given_up k 0) 1 in
    let h3 : IsHandedOver k (given_up k2 2) 3 = hands_more k k2 2 r (omega arith) h2 (owns k2 2) refl in
    hands_more k (given_up k2 2) 3 r (omega arith) h3 (owns (given_up k2 2) 3) refl

-- ---- the running thread rests with another row

-- it, by its application and its number there
pub own_is : (k : Kernel) → identity (own_app k) (own_number k) ≡ running k
own_is k = omega arith

-- it waits for nothing yet
running_rests : (k : Kernel) (a n : ℕ) (row : ThreadRow) → IsOrderly k → ThreadRuns k → identity a n ≡ running k → IsThreadRow row → row.state ≢ free
    → (row.state ≡ on_condition → IsOnCondition k.mutexes (identity a n) row) → IsOrderlyBut (with_thread (none_running k) (identity a n) row) (identity a n)
running_rests k a n row h r e fields on waits =
    let is : IsRunning k (running k) = running_is k h r in
    let live : IsLiveThread (app_at k (app_of (identity a n))) (identity a n) = subst (λ (t : ℕ). IsLiveThread (app_at k (app_of t)) t) (sym e) (record { alive = is.app; number = is.within }) in
    moving_with_row (none_running k) (identity a n) row (let l = is.number in omega arith) (subst (λ (t : ℕ). IsOrderlyBut (none_running k) t) (sym e) (stops_running k h r))
    (record { fields = fields; live = λ _. live; stays = λ _. on; waits = waits })

-- ---- locking

-- a free mutex becomes the running thread's
abbrev taken : Kernel → (i : ℕ) → Kernel
taken k i = with_mutex_row k (own_app k) i (own_number k) (waiters_of k (own_app k) i)

mutex_fields : (row : ThreadRow) (i : ℕ) → IsThreadRow row → row.state ≢ ASLEEP → IsThreadRow (record row { state = on_mutex; object = i; mutex = 0 })
mutex_fields row i old e = record {
  registers = old.registers;
  state = omega arith;
  priority = old.priority;
  waits = λ other _ _. absurd (other refl);
  takes = λ _. refl;
  wakes = λ _. old.wakes e;
}

taken_settled : (k : Kernel) (i : ℕ) → IsSettledKernel k → ThreadRuns k → i < 4 → owner_of k (own_app k) i ≡ none → IsSettledKernel (taken k i)
taken_settled k i h r li e =
    let a : ℕ = own_app k in
    let n : ℕ = own_number k in
    let la : a < 8 = (let l = r.thread in omega arith) in
    let is : IsRunning k (running k) = running_is k h.orderly r in
    let state : (thread_at k (identity a n)).state ≡ running_state = ap (λ (t : ℕ). (thread_at k t).state) (own_is k) ∙ is.state in
    let nobody : waiters_of k a i ≡ [] = (h.orderly.mutexes a i la li).unwanted e in
    let new : IsMutex k.threads a (record { owner = n; waiters = record { items = waiters_of k a i } }) = record {
      owned = λ _. (omega arith, λ q. omega (arith, state));
      not_waiting = subst (λ (xs : List ℕ). All (λ m. m ≢ n) xs) (sym nobody) (λ j d l. absurd (omega arith));
      unwanted = λ q. nobody;
    } in
    record {
      orderly = with_owner k a i (record { owner = n; waiters = record { items = waiters_of k a i } }) la li h.orderly refl new (elsewhere_wants k a i n (λ q. omega (arith, state)));
      inside = h.inside;
      apart = h.apart;
      apps = h.apps;
      functions = h.functions;
    }

pub queued_settled : (k : Kernel) (i : ℕ) → IsSettledKernel k → ThreadRuns k → i < 4 → owner_of k (own_app k) i ≢ none → owner_of k (own_app k) i ≢ own_number k → IsSettledKernel (none_running (queued k (own_app k) i (own_number k)))
queued_settled k i h r li some other =
    let a : ℕ = own_app k in
    let n : ℕ = own_number k in
    let t : ℕ = identity a n in
    let lt : t < 32 = (let l = r.thread in omega arith) in
    let state : (thread_at k t).state ≡ running_state = ap (λ (u : ℕ). (thread_at k u).state) (own_is k) ∙ (running_is k h.orderly r).state in
    let row : ThreadRow = record (thread_at k t) { state = on_mutex; object = i; mutex = 0 } in
    let rests : Kernel = with_thread (none_running k) t row in
    let put : thread_at rests t ≡ row = row_put (none_running k) t row lt h.orderly.shape.thread_rows in
    let but : IsOrderlyBut rests t = running_rests k a n row h.orderly r (own_is k) (mutex_fields (thread_at k t) i (h.orderly.rows t lt) (λ q. omega (arith, state))) (omega arith) (λ q. absurd (omega arith)) in
    record {
      orderly = comes_to_mutex rests a i n (omega arith) li (omega arith) but (ap (λ (w : ThreadRow). w.state) put) (ap (λ (w : ThreadRow). w.object) put) some other;
      inside = h.inside;
      apart = h.apart;
      apps = h.apps;
      functions = h.functions;
    }

locked_by : (k : Kernel) (i : ℕ) → IsSettledKernel k → ThreadRuns k → i < 4 → owner_of k (own_app k) i ≢ own_number k → (b : Bool) → is_free_mutex k (own_app k) i ≡ b
    → IsSettledKernel (cond b (taken k i) (none_running (queued k (own_app k) i (own_number k))))
locked_by k i h r li other true e = taken_settled k i h r li (eqb-true (owner_of k (own_app k) i) none e)
locked_by k i h r li other false e = queued_settled k i h r li (eqb-false (owner_of k (own_app k) i) none e) other

pub locked_stays_settled : LockedLaw
locked_stays_settled k i h r li other = locked_by k i h r li other (is_free_mutex k (own_app k) i) refl

-- ---- waiting for a condition

condition_fields : (row : ThreadRow) (c i : ℕ) → IsThreadRow row → row.state ≡ running_state → IsThreadRow (record row { state = on_condition; object = c; mutex = i })
condition_fields row c i old e = record {
  registers = old.registers;
  state = omega arith;
  priority = old.priority;
  waits = λ _ other _. absurd (other refl);
  takes = λ other. absurd (other refl);
  wakes = λ _. old.wakes (omega arith);
}

-- where the running thread doesn't own the mutex that it is to take again
pub waited : Kernel → (t a n c i : ℕ) → Kernel
waited k t a n c i = none_running (with_thread (with_condition k a c (condition_at k a c ++ n ∷ [])) t (record (thread_at k t) { state = on_condition; object = c; mutex = i }))

pub waited_settled : (k : Kernel) (a n c i : ℕ) → IsSettledKernel k → ThreadRuns k → identity a n ≡ running k → n < 4 → c < 4 → i < 4 → owner_of k a i ≢ n → IsSettledKernel (waited k (identity a n) a n c i)
unfolding waited
waited_settled k a n c i h r e ln lc li other =
    let t : ℕ = identity a n in
    let lt : t < 32 = (let l = r.thread in omega arith) in
    let app : app_of t ≡ a = omega arith in
    let number : number_of t ≡ n = omega arith in
    let state : (thread_at k t).state ≡ running_state = ap (λ (u : ℕ). (thread_at k u).state) e ∙ (running_is k h.orderly r).state in
    let row : ThreadRow = record (thread_at k t) { state = on_condition; object = c; mutex = i } in
    let rests : Kernel = with_thread (none_running k) t row in
    let put : thread_at rests t ≡ row = row_put (none_running k) t row lt h.orderly.shape.thread_rows in
    let but : IsOrderlyBut rests t = running_rests k a n row h.orderly r e (condition_fields (thread_at k t) c i (h.orderly.rows t lt) state) (omega arith)
    (λ _. record { number = omega arith; not_owner = λ q. other (ap (λ (b : ℕ). owner_of k b i) (sym app) ∙ q ∙ number) }) in
    record {
      orderly = comes_to_condition rests a c n (omega arith) lc ln but (ap (λ (w : ThreadRow). w.state) put) (ap (λ (w : ThreadRow). w.object) put);
      inside = h.inside;
      apart = h.apart;
      apps = h.apps;
      functions = h.functions;
    }

pub waited_stays_settled : WaitedLaw
unfolding waited
waited_stays_settled k c i h r lc li mine =
    let a : ℕ = own_app k in
    let n : ℕ = own_number k in
    let la : a < 8 = (let l = r.thread in omega arith) in
    let ws : List ℕ = waiters_of k a i in
    let j : Kernel = unlocked k i in
    let runs : (running j ≡ running k) × (running_module j ≡ running_module k) = handed_runs k a i ws in
    let rj : ThreadRuns j = record { thread = subst (λ (t : ℕ). t < 32) (sym runs.0) r.thread; no_module = runs.1 ∙ r.no_module } in
    subst (λ (t : ℕ). IsSettledKernel (waited j t a n c i)) (own_is k)
    (waited_settled j a n c i (unlocked_stays_settled k i h r li) rj (own_is k ∙ sym runs.0) (omega arith) lc li (λ q. handed_owner k a i ws h.orderly la li refl (omega (arith, mine)) (q ∙ sym mine)))
