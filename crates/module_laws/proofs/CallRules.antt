-- A thread calls a module, and runs again after the call.
use Rattle.std.proofs.Common.{◌≡◌, ◌≢◌, ℕ, ◌<◌, inl, inr, eqb, List, [], ◌∷◌, length, get_or, set, refl, ap, sym, ◌∙◌, subst, arith, length-set, AllPairs, Contains}
use Rattle.std.proofs.lemmas.Bool.{cond-true, cond-false, ne_eqb, eq-eqb}
use Rattle.kernel_model.specs.Kernel.{Kernel, with_word, thread_at, with_thread, app_at, module_at, function_at}
use Rattle.kernel_model.specs.Words.{none, live, calling, running_state, running, running_module, app_of, with_running, with_running_module, with_state, saved_register}
use Rattle.kernel_model.specs.declared.rows.SysWord.TheVariants.{Running}
use Rattle.kernel_model.specs.declared.rows.ThreadRow.{ThreadRow}
use Rattle.kernel_model.specs.Orderly.{only, listed, runner, caller_of, IsThreadRow, IsLiveThread, IsOrderly}
use Rattle.kernel_model.specs.Orderly.Spot.{Nowhere, Ready, Runs, Asleep, OnMutex, OnCondition, OnLine, Calls}
use Rattle.kernel_model.specs.Orderly.{spot}
use Rattle.place_model.specs.Settled.{IsSettledKernel}
use Rattle.kernel_model.specs.Running.{ThreadRuns, NoneRuns}
use Rattle.kernel_model.specs.Dispatching.{saved}
use Rattle.kernel_model.specs.Modules.{entered, left}
use Rattle.thread_laws.specs.Facts.{IsRunning}
use Rattle.thread_laws.proofs.ListEdits.{single_is, single_has, single_once, none_in}
use Rattle.thread_laws.proofs.Spots.{only_itself, running_is, state_at}
use Rattle.thread_laws.proofs.Moving.{HasOrder, IsOrderlyBut, SameBut, order_of, orderly_from, left_spot, came_to_spot}
use Rattle.thread_laws.proofs.MovingRows.{moving_with_row}
use Rattle.thread_laws.proofs.MovingRules.{row_put, live_row, saved_stays_settled}
use Rattle.thread_laws.proofs.MovingRuns.{stops_running, begins_running}

-- ---- who is listed while a module runs

no_runner : (i t : ℕ) → i ≢ none → runner i t ≡ []
no_runner i t n = cond-false (eqb i none) (only t) [] (ne_eqb i none n)

the_caller : (i t : ℕ) → i ≢ none → t < 32 → caller_of i t ≡ t ∷ []
the_caller i t n l = cond-false (eqb i none) [] (only t) (ne_eqb i none n) ∙ only_itself t l

no_caller : (i t : ℕ) → i ≡ none → caller_of i t ≡ []
no_caller i t e = cond-true (eqb i none) [] (only t) (eq-eqb i none e)

nobody_runs : (i t : ℕ) → i ≡ none → t ≡ none → runner i t ≡ []
nobody_runs i t e f = cond-true (eqb i none) (only t) [] (eq-eqb i none e) ∙ cond-true (eqb t none) [] (t ∷ []) (eq-eqb t none f)

-- ---- a thread begins to call

-- the module runs, in a call of t
abbrev pub in_call : Kernel → (t i : ℕ) → Kernel
in_call k t i = with_running_module (with_word k Running t) i

same_but_calls : (k : Kernel) (t i : ℕ) → runner i t ≡ runner (running_module k) (running k) → SameBut k (in_call k t i) Calls
same_but_calls k t i e Nowhere = inr refl
same_but_calls k t i e Ready = inr refl
same_but_calls k t i e Runs = inr e
same_but_calls k t i e Asleep = inr refl
same_but_calls k t i e (OnMutex a j) = inr refl
same_but_calls k t i e (OnCondition a c) = inr refl
same_but_calls k t i e (OnLine n) = inr refl
same_but_calls k t i e Calls = inl refl

order_in_call : (k : Kernel) (t i : ℕ) → (i ≢ none → (i < 4) × (t ≢ none)) → (i ≢ none → (module_at k i).state ≡ live) → HasOrder k
    → HasOrder (in_call k t i)
order_in_call k t i caller callee h = record {
  shape = record {
    app_rows = h.shape.app_rows;
    module_rows = h.shape.module_rows;
    function_rows = h.shape.function_rows;
    thread_rows = h.shape.thread_rows;
    mutex_rows = h.shape.mutex_rows;
    condition_lists = h.shape.condition_lists;
    line_lists = h.shape.line_lists;
  };
  limit = refl;
  top = refl;
  rows = h.rows;
  threads = h.threads;
  caller = caller;
  callee = callee;
  mutexes = h.mutexes;
  conditions = h.conditions;
  by_priority = h.by_priority;
  by_wake_time = h.by_wake_time;
  later = h.later;
  functions = h.functions;
}

spot_calls : (a s o : ℕ) → s ≡ calling → spot a s o ≡ Calls
spot_calls a s o e = ap (λ x. spot a x o) e

begins_calling : (k : Kernel) (t i : ℕ) → IsOrderlyBut k t → t < 32 → NoneRuns k → (thread_at k t).state ≡ calling → i < 4
    → (module_at k i).state ≡ live → IsOrderly (in_call k t i)
begins_calling k t i but l r e li alive =
    let k' : Kernel = in_call k t i in
    let some : i ≢ none = (λ q. omega arith) in
    let before : listed k Calls ≡ [] = no_caller (running_module k) (running k) r.no_module in
    let after : listed k' Calls ≡ t ∷ [] = the_caller i t some l in
    orderly_from k' (order_in_call k t i (λ _. (li, λ q. omega arith)) (λ _. alive) but.order)
    (came_to_spot k k' Calls t but.placed l (spot_calls _ _ _ e) (λ u. refl)
    (same_but_calls k t i (no_runner i t some ∙ sym (nobody_runs (running_module k) (running k) r.no_module r.no_thread)))
    (subst (λ (xs : List ℕ). Contains xs t) (sym after) (single_has t))
    (λ u c. absurd (none_in u (subst (λ (xs : List ℕ). Contains xs u) before c)))
    (λ u c. inl (single_is t u (subst (λ (xs : List ℕ). Contains xs u) after c)))
    (subst (λ (xs : List ℕ). AllPairs (λ x y. x ≢ y) xs) (sym after) (single_once t)))

calling_fields : (row : ThreadRow) (s : ℕ) → IsThreadRow row → row.state ≡ running_state → s ≡ calling
    → IsThreadRow (record row { state = s })
calling_fields row s old e f = record {
  registers = old.registers;
  state = omega arith;
  priority = old.priority;
  waits = λ _ _ _. old.waits (omega arith) (omega arith) (omega arith);
  takes = λ _. old.takes (omega arith);
  wakes = λ _. old.wakes (omega arith);
}

calls_settled : (k : Kernel) (i : ℕ) → IsSettledKernel k → ThreadRuns k → i < 4 → (module_at k i).state ≡ live
    → IsSettledKernel (with_running_module (with_state k (running k) calling) i)
calls_settled k i h r li alive =
    let t : ℕ = running k in
    let is : IsRunning k t = running_is k h.orderly r in
    let row : ThreadRow = record (thread_at k t) { state = calling } in
    let rests : Kernel = with_running k none in
    let lives : IsLiveThread (app_at k (app_of t)) t = record { alive = is.app; number = is.within } in
    let but : IsOrderlyBut (with_thread rests t row) t =
    moving_with_row rests t row r.thread (stops_running k h.orderly r)
    (live_row rests t row lives (calling_fields (thread_at k t) calling (h.orderly.rows t r.thread) is.state refl) (omega arith)
    (omega arith)) in
    record {
      orderly = begins_calling (with_thread rests t row) t i but r.thread record { no_thread = refl; no_module = r.no_module }
          (ap (λ (w : ThreadRow). w.state) (row_put rests t row r.thread h.orderly.shape.thread_rows)) li alive;
      inside = h.inside;
      apart = h.apart;
      apps = h.apps;
      functions = h.functions;
    }

pub entered_stays_settled : (k : Kernel) (r : List ℕ) → IsSettledKernel k → ThreadRuns k → length r ≡ 16
    → (function_at k (get_or r 12 0)).module < 4 → (module_at k (function_at k (get_or r 12 0)).module).state ≡ live
    → IsSettledKernel (entered k r)
entered_stays_settled k r h run size li alive =
    calls_settled (saved k r) (function_at k (get_or r 12 0)).module (saved_stays_settled k r h run size)
    record { thread = run.thread; no_module = run.no_module } li alive

-- ---- the call ends

-- nobody runs, and the caller is on the move
abbrev pub call_left : Kernel → Kernel
call_left k = in_call k none none

caller_listed : (k : Kernel) → IsOrderly k → running_module k ≢ none → Contains (listed k Calls) (running k)
caller_listed k h n =
    let one : listed k Calls ≡ running k ∷ [] =
    cond-false (eqb (running_module k) none) [] (only (running k)) (ne_eqb (running_module k) none n)
    ∙ cond-false (eqb (running k) none) [] (running k ∷ []) (ne_eqb (running k) none (h.caller n).1) in
    subst (λ (xs : List ℕ). Contains xs (running k)) (sym one) (0, omega arith, refl)

-- the caller of the running module
pub record IsCaller (k : Kernel) : Type 0 where
  pub below : running k < 32
  pub state : (thread_at k (running k)).state ≡ calling
  pub live : IsLiveThread (app_at k (app_of (running k))) (running k)

pub caller_is : (k : Kernel) → IsOrderly k → running_module k ≢ none → IsCaller k
caller_is k h n =
    let there = h.placed.nowhere_else Calls (running k) (caller_listed k h n) in
    let state : (thread_at k (running k)).state ≡ calling = state_at k h (running k) Calls there.0 there.1 in
    record { below = there.0; state = state; live = h.threads (running k) there.0 (λ e. omega (arith, state)) }

pub stops_calling : (k : Kernel) → IsOrderly k → running_module k ≢ none → IsOrderlyBut (call_left k) (running k)
stops_calling k h n =
    let t : ℕ = running k in
    let is : IsCaller k = caller_is k h n in
    let before : listed k Calls ≡ t ∷ [] = the_caller (running_module k) t n is.below in
    let after : listed (call_left k) Calls ≡ [] = no_caller none none refl in
    record {
      order = order_in_call k none none (λ m. absurd (m refl)) (λ m. absurd (m refl)) (order_of k h);
      placed = left_spot k (call_left k) Calls t h.placed (caller_listed k h n) (λ u. refl)
          (same_but_calls k none none (nobody_runs none none refl refl ∙ sym (no_runner (running_module k) t n)))
          (λ u ne c. absurd (ne (single_is t u (subst (λ (xs : List ℕ). Contains xs u) before c))))
          (λ u c. absurd (none_in u (subst (λ (xs : List ℕ). Contains xs u) after c)))
          (subst (λ (xs : List ℕ). AllPairs (λ x y. x ≢ y) xs) (sym after) (λ i j d lt l. absurd (omega arith)));
    }

-- a moving thread's saved register
pub record IsMovingCaller (k : Kernel) (t : ℕ) : Type 0 where
  pub but : IsOrderlyBut k t
  pub below : t < 32
  pub state : (thread_at k t).state ≡ calling

pub register_moves : (k : Kernel) (t n v : ℕ) → IsMovingCaller k t → IsMovingCaller (saved_register k t n v) t
register_moves k t n v m =
    let row : ThreadRow = record (thread_at k t) { regs = set (thread_at k t).regs n v } in
    let old : IsThreadRow (thread_at k t) = m.but.order.rows t m.below in
    let fields : IsThreadRow row =
    record {
      registers = length-set (thread_at k t).regs n v ∙ old.registers;
      state = old.state;
      priority = old.priority;
      waits = old.waits;
      takes = old.takes;
      wakes = old.wakes;
    } in
    let state : (thread_at k t).state ≡ calling = m.state in
    let live : IsLiveThread (app_at k (app_of t)) t = m.but.order.threads t m.below (λ e. omega arith) in
    record {
      but = moving_with_row k t row m.below m.but (live_row k t row live fields (λ e. omega arith) (λ e. omega arith));
      below = m.below;
      state = ap (λ (w : ThreadRow). w.state) (row_put k t row m.below m.but.order.shape.thread_rows) ∙ state;
    }

running_fields : (row : ThreadRow) → IsThreadRow row → row.state ≡ calling → IsThreadRow (record row { state = running_state })
running_fields row old e = record {
  registers = old.registers;
  state = omega arith;
  priority = old.priority;
  waits = λ _ _ _. old.waits (omega arith) (omega arith) (omega arith);
  takes = λ _. old.takes (omega arith);
  wakes = λ _. old.wakes (omega arith);
}

pub runs_again : (k : Kernel) (t : ℕ) → NoneRuns k → IsMovingCaller k t → IsOrderly (with_running (with_state k t running_state) t)
runs_again k t r m =
    let row : ThreadRow = record (thread_at k t) { state = running_state } in
    let state : (thread_at k t).state ≡ calling = m.state in
    let live : IsLiveThread (app_at k (app_of t)) t = m.but.order.threads t m.below (λ e. omega arith) in
    begins_running (with_thread k t row) t
    (moving_with_row k t row m.below m.but
    (live_row k t row live (running_fields (thread_at k t) (m.but.order.rows t m.below) state) (omega arith) (omega arith)))
    m.below
    record { no_thread = r.no_thread; no_module = r.no_module }
    (ap (λ (w : ThreadRow). w.state) (row_put k t row m.below m.but.order.shape.thread_rows))

pub left_stays_settled : (k : Kernel) (r : List ℕ) → IsSettledKernel k → running_module k ≢ none → IsSettledKernel (left k r)
left_stays_settled k r h n =
    let t : ℕ = running k in
    let is : IsCaller k = caller_is k h.orderly n in
    let k0 : Kernel = call_left k in
    let m0 : IsMovingCaller k0 t = record { but = stops_calling k h.orderly n; below = is.below; state = is.state } in
    let k1 : Kernel = saved_register k0 t 12 0 in
    let k2 : Kernel = saved_register k1 t 13 (get_or r 12 0) in
    record {
      orderly = runs_again k2 t record { no_thread = refl; no_module = refl }
          (register_moves k1 t 13 (get_or r 12 0) (register_moves k0 t 12 0 m0));
      inside = h.inside;
      apart = h.apart;
      apps = h.apps;
      functions = h.functions;
    }
