-- A thread stops running, or begins to.
use Rattle.std.proofs.Common.{◌≡◌, ◌≢◌, ℕ, ◌<◌, inl, inr, List, [], ◌∷◌, refl, ap, sym, ◌∙◌, subst, arith, AllPairs, Contains}
use Rattle.kernel_model.specs.Kernel.{Kernel, thread_at}
use Rattle.kernel_model.specs.Words.{none, running_state, running, running_module, with_running, none_running}
use Rattle.kernel_model.specs.Orderly.{listed, runner, caller_of, IsOrderly}
use Rattle.kernel_model.specs.Orderly.Spot.{Nowhere, Ready, Runs, Asleep, OnMutex, OnCondition, OnLine, Calls}
use Rattle.kernel_model.specs.Running.{ThreadRuns, NoneRuns}
use Rattle.thread_laws.proofs.ListEdits.{single_is, single_has, single_once, none_in}
use Rattle.thread_laws.proofs.Spots.{spot_runs, running_listed}
use Rattle.thread_laws.proofs.Moving.{HasOrder, IsOrderlyBut, SameBut, order_of, orderly_from, left_spot, came_to_spot}

-- who runs is listed nowhere but there while no module runs
same_but_runs : (k : Kernel) (t : ℕ) → running_module k ≡ none → SameBut k (with_running k t) Runs
same_but_runs k t e Nowhere = inr refl
same_but_runs k t e Ready = inr refl
same_but_runs k t e Runs = inl refl
same_but_runs k t e Asleep = inr refl
same_but_runs k t e (OnMutex a i) = inr refl
same_but_runs k t e (OnCondition a c) = inr refl
same_but_runs k t e (OnLine n) = inr refl
same_but_runs k t e Calls = inr (ap (λ i. caller_of i t) e ∙ sym (ap (λ i. caller_of i (running k)) e))

order_with_running : (k : Kernel) (t : ℕ) → running_module k ≡ none → HasOrder k → HasOrder (with_running k t)
order_with_running k t e h = record {
  shape = record {
    app_rows = h.shape.app_rows;
    module_rows = h.shape.module_rows;
    function_rows = h.shape.function_rows;
    thread_rows = h.shape.thread_rows;
    mutex_rows = h.shape.mutex_rows;
    condition_lists = h.shape.condition_lists;
    line_lists = h.shape.line_lists;
  };
  limit = refl;
  top = refl;
  rows = h.rows;
  threads = h.threads;
  caller = λ n. absurd (n e);
  callee = h.callee;
  mutexes = h.mutexes;
  conditions = h.conditions;
  by_priority = h.by_priority;
  by_wake_time = h.by_wake_time;
  later = h.later;
  functions = h.functions;
}

nobody_listed : (k : Kernel) → NoneRuns k → listed k Runs ≡ []
nobody_listed k r = ap (λ i. runner i (running k)) r.no_module ∙ ap (λ t. runner none t) r.no_thread

pub stops_running : (k : Kernel) → IsOrderly k → ThreadRuns k → IsOrderlyBut (none_running k) (running k)
stops_running k h r =
    let t : ℕ = running k in
    let before : listed k Runs ≡ t ∷ [] = running_listed k r in
    let after : listed (none_running k) Runs ≡ [] = nobody_listed (none_running k) (record { no_thread = refl; no_module = r.no_module }) in
    let nobody : (u : ℕ) → Contains (listed (none_running k) Runs) u → ⊥ = λ u c. none_in u (subst (λ (xs : List ℕ). Contains xs u) after c) in
    record {
      order = order_with_running k none r.no_module (order_of k h);
      placed = left_spot k (none_running k) Runs t h.placed (subst (λ (xs : List ℕ). Contains xs t) (sym before) (single_has t)) (λ u. refl) (same_but_runs k none r.no_module)
          (λ u ne c. absurd (ne (single_is t u (subst (λ (xs : List ℕ). Contains xs u) before c))))
          (λ u c. absurd (nobody u c))
          (subst (λ (xs : List ℕ). AllPairs (λ x y. x ≢ y) xs) (sym after) (λ i j d lt l. absurd (omega arith)));
    }

pub begins_running : (k : Kernel) (t : ℕ) → IsOrderlyBut k t → t < 32 → NoneRuns k → (thread_at k t).state ≡ running_state → IsOrderly (with_running k t)
begins_running k t but l r e =
    let k' : Kernel = with_running k t in
    let before : listed k Runs ≡ [] = nobody_listed k r in
    let after : listed k' Runs ≡ t ∷ [] = running_listed k' (record { thread = l; no_module = r.no_module }) in
    orderly_from k' (order_with_running k t r.no_module but.order)
    (came_to_spot k k' Runs t but.placed l (spot_runs _ _ _ e) (λ u. refl) (same_but_runs k t r.no_module)
    (subst (λ (xs : List ℕ). Contains xs t) (sym after) (single_has t))
    (λ u c. absurd (none_in u (subst (λ (xs : List ℕ). Contains xs u) before c)))
    (λ u c. inl (single_is t u (subst (λ (xs : List ℕ). Contains xs u) after c)))
    (subst (λ (xs : List ℕ). AllPairs (λ x y. x ≢ y) xs) (sym after) (single_once t)))
