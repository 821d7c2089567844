-- The kernel's rules on threads keep it sound, and a dispatch lets a safe context run.
use Rattle.std.proofs.Common.{◌≡◌, ◌≢◌, ℕ, ◌<◌, Bool, true, false, cond, List, length, remove, refl, arith, Option, None, Some}
use Rattle.std.proofs.lemmas.Bool.{eqb-false}
use Rattle.std.proofs.lemmas.List.Elements.{Contains-get_or}
use Rattle.kernel_model.specs.Kernel.{Kernel, thread_at, with_thread, with_ready}
use Rattle.kernel_model.specs.Words.{running_state, running, ready_row, with_running, none_running, with_state}
use Rattle.place_model.specs.Settled.{IsSettledKernel}
use Rattle.kernel_model.specs.Running.{ThreadRuns, NoneRuns, idle_context}
use Rattle.kernel_model.specs.Dispatching.{saved, moved_to_front, moved_to_end, chosen_place, chosen_thread, nothing_ready, dispatched, dispatched_context}
use Rattle.thread_laws.specs.Facts.{IsRunning as IsRunningRow, IsReady}
use Rattle.thread_laws.proofs.Spots.{running_is, ready_is}
use Rattle.thread_laws.proofs.MovingRules.{row_put, saved_stays_settled}
use Rattle.thread_laws.proofs.ReadyRules.{front_stays_settled, end_stays_settled, dispatched_stays_settled}
use Rattle.load_model.specs.Domains.{Domain}
use Rattle.node_model.specs.Sound.{IsSavedWell, IsSoundKernel, IsRunning, AThread, Nothing, IsGoodFor}
use Rattle.node_model.specs.Laws.{DispatchLaw}
use Rattle.node_laws.proofs.Rows.{saved-put, populated-put}

-- ---- saving

pub sound-saved : (k : Kernel) (ds : List (Option Domain)) (n : ℕ) (c : List ℕ) → IsSoundKernel k ds n → ThreadRuns k
    → length c ≡ 16 → IsSoundKernel (saved k c) ds n
sound-saved k ds n c h r e =
    let is : IsRunningRow k (running k) = running_is k h.settled.orderly r in
    let size : length k.threads ≡ 32 = h.settled.orderly.shape.thread_rows in
    record {
      settled = saved_stays_settled k c h.settled r e;
      domains = h.domains;
      saved = saved-put k.apps ds k.threads (running k) (record (thread_at k (running k)) { regs = c }) (omega arith)
          (λ _ other. absurd (other is.state)) h.saved;
      populated = populated-put k.apps k.threads (running k) (record (thread_at k (running k)) { regs = c }) (omega arith)
          (λ off. omega (arith, is.state)) h.populated;
      functions = h.functions;
      bounded = h.bounded;
    }

-- the saved row of the running thread
pub saved-row : (k : Kernel) (c : List ℕ) → ThreadRuns k → length k.threads ≡ 32
    → thread_at (saved k c) (running k) ≡ record (thread_at k (running k)) { regs = c }
saved-row k c r size = row_put k (running k) (record (thread_at k (running k)) { regs = c }) r.thread size

-- ---- to the front, and to the end

sound-ready : (k : Kernel) (ds : List (Option Domain)) (n : ℕ) (xs : List ℕ) → IsSoundKernel k ds n → ThreadRuns k
    → IsGoodFor k.apps ds (running k) (thread_at k (running k)).regs
    → IsSettledKernel (none_running (with_ready (with_thread k (running k) (ready_row (thread_at k (running k)))) xs))
    → IsSoundKernel (none_running (with_ready (with_thread k (running k) (ready_row (thread_at k (running k)))) xs)) ds n
sound-ready k ds n xs h r good settled =
    let size : length k.threads ≡ 32 = h.settled.orderly.shape.thread_rows in
    let l : running k < length k.threads = (let x = r.thread in omega arith) in
    record {
      settled = settled;
      domains = h.domains;
      saved = saved-put k.apps ds k.threads (running k) (ready_row (thread_at k (running k))) l
          (λ _ _. record { good = good; mark = λ other. absurd (other refl) }) h.saved;
      populated = populated-put k.apps k.threads (running k) (ready_row (thread_at k (running k))) l (λ off. omega arith)
          h.populated;
      functions = h.functions;
      bounded = h.bounded;
    }

pub sound-front : (k : Kernel) (ds : List (Option Domain)) (n : ℕ) → IsSoundKernel k ds n → ThreadRuns k
    → IsGoodFor k.apps ds (running k) (thread_at k (running k)).regs
    → IsSoundKernel (moved_to_front k) ds n
sound-front k ds n h r good = sound-ready k ds n _ h r good (front_stays_settled k h.settled r)

pub sound-end : (k : Kernel) (ds : List (Option Domain)) (n : ℕ) → IsSoundKernel k ds n → ThreadRuns k
    → IsGoodFor k.apps ds (running k) (thread_at k (running k)).regs
    → IsSoundKernel (moved_to_end k) ds n
sound-end k ds n h r good = sound-ready k ds n _ h r good (end_stays_settled k h.settled r)

-- ---- a dispatch

pub chosen-within : (pick : Option ℕ) (xs : List ℕ) → length xs ≢ 0 → chosen_place pick xs < length xs
chosen-within None xs n = omega arith
chosen-within (Some p) xs n = omega arith

-- what the choice of a ready thread leaves
abbrev pub begun : Kernel → Option ℕ → Kernel
begun k pick = with_running (with_state (with_ready k (remove k.ready (chosen_place pick k.ready))) (chosen_thread k pick)
    running_state) (chosen_thread k pick)

record Dispatches (m : List ℕ) (k : Kernel) (c : List ℕ) (ds : List (Option Domain)) (n : ℕ) : Type 0 where
  kernel : IsSettledKernel k → IsSoundKernel k ds n
  running : IsRunning m c k ds

by-ready : (m : List ℕ) (k : Kernel) (ds : List (Option Domain)) (n : ℕ) (pick : Option ℕ) → IsSoundKernel k ds n → NoneRuns k
    → (b : Bool) → nothing_ready k ≡ b
    → Dispatches m (cond b k (begun k pick)) (cond b idle_context (thread_at k (chosen_thread k pick)).regs) ds n
by-ready m k ds n pick h r true e = record { kernel = λ _. h; running = Nothing r refl }
by-ready m k ds n pick h r false e =
    let t : ℕ = chosen_thread k pick in
    let i : ℕ = chosen_place pick k.ready in
    let within : i < length k.ready = chosen-within pick k.ready (eqb-false (length k.ready) 0 e) in
    let is : IsReady k t = ready_is k h.settled.orderly t (Contains-get_or k.ready i 0 within) in
    let size : length k.threads ≡ 32 = h.settled.orderly.shape.thread_rows in
    let l : t < length k.threads = (let x = is.number in omega arith) in
    let well : IsSavedWell k.apps ds t (thread_at k t) =
    h.saved t is.number (λ off. omega (arith, is.state)) (λ on. omega (arith, is.state)) in
    record {
      kernel = λ settled. record {
        settled = settled;
        domains = h.domains;
        saved = saved-put k.apps ds k.threads t (record (thread_at k t) { state = running_state }) l
            (λ _ other. absurd (other refl)) h.saved;
        populated = populated-put k.apps k.threads t (record (thread_at k t) { state = running_state }) l (λ off. omega arith)
            h.populated;
        functions = h.functions;
        bounded = h.bounded;
      };
      running = AThread record { thread = is.number; no_module = r.no_module } well.good;
    }

pub dispatch : DispatchLaw
unfolding by-ready
dispatch m k ds n pick h r =
    let x : Dispatches m (dispatched k pick) (dispatched_context k pick) ds n = by-ready m k ds n pick h r (nothing_ready k) refl in
    (x.kernel (dispatched_stays_settled k pick h.settled r), x.running)
