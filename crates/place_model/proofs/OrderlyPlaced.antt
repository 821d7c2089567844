-- The kernel stays orderly when a free row of a domain is filled.
use Rattle.std.proofs.Common.{◌≡◌, ◌≢◌, ℕ, ◌+◌, ◌*◌, ◌<◌, true, false, cond, eqb, not, List, [], ◌∷◌, refl, ap, sym, ◌∙◌, subst, ⊎_elim, arith, Contains, length-set}
use Rattle.std.proofs.lemmas.Bool.{cases_eq, cases_Bool, and_parts, not-true, cond-true, cond-false}
use Rattle.std.proofs.lemmas.List.{get_or-set_same, get_or-set_other}
use Rattle.kernel_model.specs.declared.map.TheConstants.{KERNEL_LIMIT, KERNEL_TOP}
use Rattle.kernel_model.specs.Kernel.{Kernel, thread_at, app_at, with_app, module_at, with_module, function_at, free_app, free_module}
use Rattle.kernel_model.specs.Words.{none, live, free, running, running_module, app_of, number_of, thread_runs}
use Rattle.kernel_model.specs.Orderly.{Spot, spot, spot_of, only, listed, IsOrderly, IsLiveThread}
use Rattle.kernel_model.specs.Orderly.Spot.{Nowhere, Ready, Runs, Asleep, OnMutex, OnCondition, OnLine, Calls}
use Rattle.kernel_model.specs.declared.rows.AppRow.{AppRow}
use Rattle.kernel_model.specs.declared.rows.ModuleRow.{ModuleRow}

-- ---- the running thread's application is live

is_runs : Spot → Type 0
is_runs Nowhere = ⊥
is_runs Ready = ⊥
is_runs Runs = Unit
is_runs Asleep = ⊥
is_runs (OnMutex a i) = ⊥
is_runs (OnCondition a c) = ⊥
is_runs (OnLine n) = ⊥
is_runs Calls = ⊥

runs_there : (k : Kernel) → thread_runs k ≡ true → Contains (listed k Runs) (running k)
runs_there k h =
    let p : (eqb (running_module k) none ≡ true) × (not (eqb (running k) none) ≡ true) =
    and_parts (eqb (running_module k) none) (not (eqb (running k) none)) h in
    let one : listed k Runs ≡ running k ∷ [] =
    cond-true (eqb (running_module k) none) (only (running k)) [] p.0
    ∙ cond-false (eqb (running k) none) [] (running k ∷ []) (not-true (eqb (running k) none) p.1) in
    subst (λ (xs : List ℕ). Contains xs (running k)) (sym one) (0, omega arith, refl)

pub runner_live : (k : Kernel) → IsOrderly k → thread_runs k ≡ true → (app_at k (app_of (running k))).state ≡ live
unfolding is_runs
runner_live k o h =
    let t : ℕ = running k in
    let p : (t < 32) × (spot_of k t ≡ Runs) = o.placed.nowhere_else Runs t (runs_there k h) in
    let alive : (thread_at k t).state ≢ free = λ e.
    (let nowhere : spot_of k t ≡ Nowhere = ap (λ (s : ℕ). spot (app_of t) s (thread_at k t).object) e in
    subst is_runs (sym p.1 ∙ nowhere) tt) in
    (o.threads t p.0 alive).alive

-- ---- an application's row

module _ (k : Kernel) (o : IsOrderly k) (a : ℕ) (row : AppRow) (was : (app_at k a).state ≡ free) where
  app_kept : (b : ℕ) → (app_at k b).state ≡ live → app_at (with_app k a row) b ≡ app_at k b
  app_kept b h = get_or-set_other k.apps a b row free_app (λ e.
      (let same : (app_at k b).state ≡ (app_at k a).state = ap (λ (i : ℕ). (app_at k i).state) e in
      let clash : live ≡ free = sym h ∙ same ∙ was in omega arith))

  bounds_kept : (f : AppRow → ℕ) (idle : ℕ) → cond (thread_runs k) (f (app_at (with_app k a row) (app_of (running k)))) idle ≡ cond (thread_runs k) (f (app_at k (app_of (running k)))) idle
  bounds_kept f idle = ⊎_elim
      (λ (h : thread_runs k ≡ true). ap (λ (r : AppRow). cond (thread_runs k) (f r) idle) (app_kept (app_of (running k)) (runner_live k o h)))
      (λ (h : thread_runs k ≡ false). cond-false (thread_runs k) _ idle h ∙ sym (cond-false (thread_runs k) _ idle h))
      (cases_Bool (thread_runs k))

  pub orderly_app : IsOrderly (with_app k a row)
  orderly_app = record {
    shape = record {
      app_rows = length-set k.apps a row ∙ o.shape.app_rows;
      module_rows = o.shape.module_rows;
      function_rows = o.shape.function_rows;
      thread_rows = o.shape.thread_rows;
      mutex_rows = o.shape.mutex_rows;
      condition_lists = o.shape.condition_lists;
      line_lists = o.shape.line_lists;
    };
    limit = o.limit ∙ sym (bounds_kept (λ r. r.lo + r.z + number_of (running k) * r.stack + 6) KERNEL_LIMIT);
    top = o.top ∙ sym (bounds_kept (λ r. r.lo + r.z + number_of (running k) * r.stack + r.stack) KERNEL_TOP);
    rows = o.rows;
    threads = λ t h alive.
        (let l : IsLiveThread (app_at k (app_of t)) t = o.threads t h alive in
        subst (λ (r : AppRow). IsLiveThread r t) (sym (app_kept (app_of t) l.alive)) l);
    placed = record { there = o.placed.there; nowhere_else = λ s. o.placed.nowhere_else s; once = λ s. o.placed.once s };
    caller = o.caller;
    callee = o.callee;
    mutexes = o.mutexes;
    conditions = o.conditions;
    by_priority = o.by_priority;
    by_wake_time = o.by_wake_time;
    later = o.later;
    functions = o.functions;
  }

-- ---- a module's row

module _ (k : Kernel) (o : IsOrderly k) (i : ℕ) (row : ModuleRow) (within : i < 4) (new : row.state ≡ live) where
  state_kept : (j : ℕ) → (module_at k j).state ≡ live → (module_at (with_module k i row) j).state ≡ live
  state_kept j h = ⊎_elim
      (λ (e : j ≡ i).
      ap (λ (x : ℕ). (module_at (with_module k i row) x).state) e
      ∙ ap (λ (r : ModuleRow). r.state) (get_or-set_same k.modules i row free_module (omega (arith, o.shape.module_rows)))
      ∙ new)
      (λ (ne : j ≡ i → ⊥). ap (λ (r : ModuleRow). r.state) (get_or-set_other k.modules i j row free_module ne) ∙ h)
      (cases_eq j i)

  used_kept : (j : ℕ) → (module_at k j).state ≢ free → (module_at (with_module k i row) j).state ≢ free
  used_kept j h = ⊎_elim
      (λ (e : j ≡ i). λ q.
      (let now : (module_at (with_module k i row) j).state ≡ live =
      ap (λ (x : ℕ). (module_at (with_module k i row) x).state) e
      ∙ ap (λ (r : ModuleRow). r.state) (get_or-set_same k.modules i row free_module (omega (arith, o.shape.module_rows)))
      ∙ new in
      let clash : live ≡ free = sym now ∙ q in omega arith))
      (λ (ne : j ≡ i → ⊥). λ q. h (sym (ap (λ (r : ModuleRow). r.state) (get_or-set_other k.modules i j row free_module ne)) ∙ q))
      (cases_eq j i)

  pub orderly_module : IsOrderly (with_module k i row)
  orderly_module = record {
    shape = record {
      app_rows = o.shape.app_rows;
      module_rows = length-set k.modules i row ∙ o.shape.module_rows;
      function_rows = o.shape.function_rows;
      thread_rows = o.shape.thread_rows;
      mutex_rows = o.shape.mutex_rows;
      condition_lists = o.shape.condition_lists;
      line_lists = o.shape.line_lists;
    };
    limit = o.limit;
    top = o.top;
    rows = o.rows;
    threads = o.threads;
    placed = record { there = o.placed.there; nowhere_else = λ s. o.placed.nowhere_else s; once = λ s. o.placed.once s };
    caller = o.caller;
    callee = λ h. state_kept (running_module k) (o.callee h);
    mutexes = o.mutexes;
    conditions = o.conditions;
    by_priority = o.by_priority;
    by_wake_time = o.by_wake_time;
    later = o.later;
    functions = λ f h exported. used_kept (function_at k f).module (o.functions f h exported);
  }
