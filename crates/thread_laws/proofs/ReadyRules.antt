-- Threads that go to the ready list, leave it to run, or begin.
use Rattle.std.proofs.Common.{◌≡◌, ◌≢◌, ℕ, ◌<◌, List, length, get_or, refl, ap, sym, ◌∙◌, subst, arith, Option, None, Some, remove, Contains}
use Rattle.std.proofs.lemmas.Bool.{eqb-false, cond_both}
use Rattle.std.proofs.lemmas.List.Elements.{Contains-get_or}
use Rattle.kernel_model.specs.Kernel.{Kernel, thread_at, with_thread, app_at, with_ready}
use Rattle.kernel_model.specs.Words.{free, ready, running_state, running, app_of, none_running, with_running, with_state, ready_row, stack_high}
use Rattle.kernel_model.specs.Queues.{to_ready_front, to_ready_end}
use Rattle.kernel_model.specs.Orderly.{Spot, spot_of, listed, IsThreadRow, IsLiveThread, IsOrderly}
use Rattle.kernel_model.specs.Orderly.Spot.{Nowhere}
use Rattle.kernel_model.specs.declared.rows.ThreadRow.{ThreadRow}
use Rattle.place_model.specs.Settled.{IsSettledKernel}
use Rattle.kernel_model.specs.Running.{NoneRuns, new_context}
use Rattle.kernel_model.specs.Dispatching.{chosen_place, nothing_ready}
use Rattle.thread_laws.specs.Facts.{IsRunning, IsReady}
use Rattle.thread_laws.specs.Laws.{FrontLaw, EndLaw, DispatchedLaw, BegunLaw}
use Rattle.thread_laws.proofs.ListEdits.{none_in}
use Rattle.thread_laws.proofs.Spots.{running_is, ready_is, spot_nowhere}
use Rattle.thread_laws.proofs.Moving.{IsOrderlyBut, order_of}
use Rattle.thread_laws.proofs.MovingRows.{MayHave, moving_with_row}
use Rattle.thread_laws.proofs.MovingRules.{row_put, live_row}
use Rattle.thread_laws.proofs.MovingRuns.{stops_running, begins_running}
use Rattle.thread_laws.proofs.MovingReady.{leaves_ready, comes_to_front, comes_to_end}

-- ---- to the front, or to the end

ready_fields : (row : ThreadRow) → IsThreadRow row → IsThreadRow (ready_row row)
ready_fields row old = record {
  registers = old.registers;
  state = omega arith;
  priority = old.priority;
  waits = λ _ _ _. refl;
  takes = λ _. refl;
  wakes = λ _. (refl, refl);
}

-- a moving thread made ready
made_ready : (k : Kernel) (t : ℕ) → IsOrderlyBut k t → t < 32 → IsLiveThread (app_at k (app_of t)) t → IsOrderlyBut (with_thread k t (ready_row (thread_at k t))) t
made_ready k t but l live =
    moving_with_row k t (ready_row (thread_at k t)) l but (live_row k t (ready_row (thread_at k t)) live (ready_fields (thread_at k t) (but.order.rows t l)) (omega arith) (omega arith))

is_ready : (k : Kernel) (t : ℕ) → IsOrderlyBut k t → t < 32 → (thread_at (with_thread k t (ready_row (thread_at k t))) t).state ≡ ready
is_ready k t but l = ap (λ (row : ThreadRow). row.state) (row_put k t (ready_row (thread_at k t)) l but.order.shape.thread_rows)

joins_front : (k : Kernel) (t : ℕ) → IsOrderlyBut k t → t < 32 → IsLiveThread (app_at k (app_of t)) t → IsOrderly (to_ready_front k t)
joins_front k t but l live = comes_to_front _ t (made_ready k t but l live) l (is_ready k t but l)

pub joins_end : (k : Kernel) (t : ℕ) → IsOrderlyBut k t → t < 32 → IsLiveThread (app_at k (app_of t)) t → IsOrderly (to_ready_end k t)
joins_end k t but l live = comes_to_end _ t (made_ready k t but l live) l (is_ready k t but l)

pub front_stays_settled : FrontLaw
front_stays_settled k h r =
    let is : IsRunning k (running k) = running_is k h.orderly r in
    record {
      orderly = joins_front (none_running k) (running k) (stops_running k h.orderly r) is.number (record { alive = is.app; number = is.within });
      inside = h.inside;
      apart = h.apart;
      apps = h.apps;
      functions = h.functions;
    }

pub end_stays_settled : EndLaw
end_stays_settled k h r =
    let is : IsRunning k (running k) = running_is k h.orderly r in
    record {
      orderly = joins_end (none_running k) (running k) (stops_running k h.orderly r) is.number (record { alive = is.app; number = is.within });
      inside = h.inside;
      apart = h.apart;
      apps = h.apps;
      functions = h.functions;
    }

-- ---- a dispatch

chosen_within : (pick : Option ℕ) (xs : List ℕ) → length xs ≢ 0 → chosen_place pick xs < length xs
chosen_within None xs n = omega arith
chosen_within (Some p) xs n = omega arith

-- a ready thread's row, with the state of one that runs
running_fields : (row : ThreadRow) → IsThreadRow row → row.state ≡ ready → IsThreadRow (record row { state = running_state })
running_fields row old e = record {
  registers = old.registers;
  state = omega arith;
  priority = old.priority;
  waits = λ _ _ _. old.waits (omega arith) (omega arith) (omega arith);
  takes = λ _. old.takes (omega arith);
  wakes = λ _. old.wakes (omega arith);
}

-- the thread at place i leaves the ready list and runs
leaves_to_run : (k : Kernel) (i : ℕ) → IsOrderly k → NoneRuns k → i < length k.ready
    → IsOrderly (with_running (with_state (with_ready k (remove k.ready i)) (get_or k.ready i 0) running_state) (get_or k.ready i 0))
leaves_to_run k i h r l =
    let t : ℕ = get_or k.ready i 0 in
    let is : IsReady k t = ready_is k h t (Contains-get_or k.ready i 0 l) in
    let row : ThreadRow = record (thread_at k t) { state = running_state } in
    let left : Kernel = with_ready k (remove k.ready i) in
    let live : IsLiveThread (app_at k (app_of t)) t = h.threads t is.number (omega arith) in
    let may : MayHave left t row = live_row left t row live (running_fields (thread_at k t) (h.rows t is.number) is.state) (omega arith) (omega arith) in
    begins_running (with_thread left t row) t (moving_with_row left t row is.number (leaves_ready k i h l) may) is.number
    (record { no_thread = r.no_thread; no_module = r.no_module })
    (ap (λ (w : ThreadRow). w.state) (row_put left t row is.number h.shape.thread_rows))

pub dispatched_stays_settled : DispatchedLaw
dispatched_stays_settled k pick h r =
    cond_both (nothing_ready k) k _ (λ (j : Kernel). IsSettledKernel j)
    (λ _. h)
    (λ e. record {
      orderly = leaves_to_run k (chosen_place pick k.ready) h.orderly r (chosen_within pick k.ready (eqb-false (length k.ready) 0 e));
      inside = h.inside;
      apart = h.apart;
      apps = h.apps;
      functions = h.functions;
    })

-- ---- a thread that begins

free_moves : (k : Kernel) (t : ℕ) → IsOrderly k → (thread_at k t).state ≡ free → IsOrderlyBut k t
free_moves k t h e =
    let stands : spot_of k t ≡ Nowhere = spot_nowhere _ _ _ e in
    record {
      order = order_of k h;
      placed = record {
        there = λ u l _ n. h.placed.there u l n;
        nowhere_else = h.placed.nowhere_else;
        unlisted = λ s c.
            let here : s ≡ Nowhere = sym (h.placed.nowhere_else s t c).1 ∙ stands in
            none_in t (subst (λ (r : Spot). Contains (listed k r) t) here c);
        once = h.placed.once;
      };
    }

pub begun_stays_settled : BegunLaw
begun_stays_settled k t pc p r12 h may lp =
    let l : t < 32 = may.number in
    let old : IsThreadRow (thread_at k t) = h.orderly.rows t l in
    let row : ThreadRow = record (thread_at k t) { regs = new_context pc (stack_high k t) r12; priority = p } in
    let free_still : row.state ≡ free = may.free in
    let fields : IsThreadRow row = record { registers = refl; state = old.state; priority = lp; waits = old.waits; takes = old.takes; wakes = old.wakes } in
    let new : MayHave k t row = record { fields = fields; live = λ n. absurd (n free_still); stays = λ n. n; waits = λ e. absurd (omega arith) } in
    let live : IsLiveThread (app_at k (app_of t)) t = record { alive = may.app; number = (let within = may.within in omega arith) } in
    record {
      orderly = joins_end (with_thread k t row) t (moving_with_row k t row l (free_moves k t h.orderly may.free) new) l live;
      inside = h.inside;
      apart = h.apart;
      apps = h.apps;
      functions = h.functions;
    }
