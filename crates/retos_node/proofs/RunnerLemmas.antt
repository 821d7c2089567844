-- Who runs in a settled kernel, and that nothing does behind a rule.
use Rattle.std.proofs.Common.{◌≡◌, ◌≢◌, ℕ, ◌<◌, ◌+◌, Bool, true, false, not, eqb, List, [], ◌∷◌, refl, ap, sym, ◌∙◌, subst, arith, Contains, inl, inr}
use Rattle.std.proofs.lemmas.Bool.{cases_eq, ne_eqb, eq-eqb, cond-true, cond-false, cond_both}
use Rattle.kernel_model.specs.Kernel.{Kernel, with_thread, empty_row}
use Rattle.kernel_model.specs.Words.{none, running, running_module, app_of, none_running, waiters_of}
use Rattle.kernel_model.specs.Running.{ThreadRuns, NoneRuns, DomainRuns, running_domain}
use Rattle.kernel_model.specs.Layout.{kernel_of}
use Rattle.kernel_model.specs.Locks.{RunsOn}
use Rattle.kernel_model.specs.Queues.{Leaves}
use Rattle.kernel_model.specs.Dispatching.{moved_to_front}
use Rattle.kernel_model.specs.Ending.{ended, exited, is_last, is_of}
use Rattle.kernel_model.specs.Modules.{module_ended}
use Rattle.kernel_model.specs.Sync.{handed_to, own_app, waiting_condition}
use Rattle.kernel_model.specs.declared.ends.AppEnd.{AppEnd}
use Rattle.kernel_model.specs.declared.ends.AppEnd.TheVariants.{Done, Faulted}
use Rattle.kernel_model.specs.Orderly.{only, listed, IsOrderly}
use Rattle.kernel_model.specs.Orderly.Spot.{Runs, Calls}
use Rattle.kernel_threads.proofs.ChainLemmas.{leaves_as, leaves_then}
use Rattle.thread_laws.proofs.ListEdits.{single_has}
use Rattle.thread_laws.proofs.EndedKernel.{stopped, ended_is, is_of_same}
use Rattle.node_model.specs.Entries.{module_runs, fault_kernel}

only_has : (t : ℕ) → t ≢ none → Contains (only t) t
only_has t h = subst (λ (xs : List ℕ). Contains xs t) (sym (cond-false (eqb t none) [] (t ∷ []) (ne_eqb t none h))) (single_has t)

-- the running thread, or the caller of the running module
pub thread_below : (k : Kernel) → IsOrderly k → running k ≢ none → running k < 32
thread_below k h some =
    elim (cases_eq (running_module k) none) [
      | inl e ↦
          let at : listed k Runs ≡ only (running k) = cond-true (eqb (running_module k) none) (only (running k)) [] (eq-eqb (running_module k) none e) in
          (h.placed.nowhere_else Runs (running k) (subst (λ (xs : List ℕ). Contains xs (running k)) (sym at) (only_has (running k) some))).0
      | inr ne ↦
          let at : listed k Calls ≡ only (running k) = cond-false (eqb (running_module k) none) [] (only (running k)) (ne_eqb (running_module k) none ne) in
          (h.placed.nowhere_else Calls (running k) (subst (λ (xs : List ℕ). Contains xs (running k)) (sym at) (only_has (running k) some))).0
    ]

module_none : (k : Kernel) → module_runs k ≡ false → running_module k ≡ none
module_none k e =
    elim (cases_eq (running_module k) none) [
      | inl is ↦ is
      | inr ne ↦ absurd (let on : module_runs k ≡ true = ap (λ (b : Bool). not b) (ne_eqb (running_module k) none ne) in let both : true ≡ false = sym on ∙ e in cc)
    ]

-- where a domain runs and no module does, a thread does
pub thread_runs_by : (k : Kernel) → IsOrderly k → DomainRuns k → module_runs k ≡ false → ThreadRuns k
thread_runs_by k h d e =
    let no : running_module k ≡ none = module_none k e in
    let at : running_domain k ≡ app_of (running k) = cond-true (eqb (running_module k) none) (app_of (running k)) (8 + running_module k) (eq-eqb (running_module k) none no) in
    let below : app_of (running k) < 12 = subst (λ (n : ℕ). n < 12) at d in
    record { thread = thread_below k h (λ q. omega arith); no_module = no }

-- ---- nothing runs

none_after_ended : (k : Kernel) (how : AppEnd) → running_module k ≡ none → NoneRuns (ended k (app_of (running k)) how)
none_after_ended k how e =
    let a : ℕ = app_of (running k) in
    subst (λ (j : Kernel). NoneRuns j)
    (sym (ended_is k a how ∙ cond-true (is_of a (running k)) (none_running (stopped k a how)) (stopped k a how) (is_of_same a (running k) refl)))
    record { no_thread = refl; no_module = e }

none_after_exited : (k : Kernel) → running_module k ≡ none → NoneRuns (exited k)
unfolding exited
none_after_exited k e =
    cond_both (is_last k) (ended k (app_of (running k)) Done) (none_running (with_thread k (running k) empty_row)) NoneRuns
    (λ _. none_after_ended k Done e) (λ _. record { no_thread = refl; no_module = e })

handed_module : (k : Kernel) (a i : ℕ) (ws : List ℕ) → running_module (handed_to k a i ws) ≡ running_module k
handed_module k a i [] = refl
handed_module k a i (n ∷ ns) = refl

pub none_after_waiting : (k : Kernel) (c i : ℕ) → running_module k ≡ none → NoneRuns (waiting_condition k c i)
none_after_waiting k c i e = record { no_thread = refl; no_module = handed_module k (own_app k) i (waiters_of k (own_app k) i) ∙ e }

-- behind an exit
pub none_left_by_exit : (m m1 m2 : List ℕ) → ThreadRuns (kernel_of m) → RunsOn (kernel_of m) (kernel_of m1) → Leaves m1 m2 (exited (kernel_of m1))
    → NoneRuns (kernel_of m2)
none_left_by_exit m m1 m2 runs on left =
    subst (λ (j : Kernel). NoneRuns j) (sym left.kernel) (none_after_exited (kernel_of m1) (on.in_module ∙ runs.no_module))

-- ---- a fault

-- of a module
pub module_fault_left : (m m1 m2 : List ℕ) → module_runs (kernel_of m) ≡ true → Leaves m m1 (module_ended (kernel_of m))
    → Leaves m1 m2 (moved_to_front (kernel_of m1)) → Leaves m m2 (fault_kernel (kernel_of m))
module_fault_left m m1 m2 e x y =
    let k : Kernel = kernel_of m in
    leaves_as m m2 (moved_to_front (module_ended k)) (fault_kernel k)
    (sym (cond-true (module_runs k) (moved_to_front (module_ended k)) (ended k (app_of (running k)) Faulted) e))
    (leaves_then moved_to_front m m1 m2 (module_ended k) x y)

-- of an application
pub none_left_by_end : (m m' : List ℕ) (t : ℕ) (how : AppEnd) → ThreadRuns (kernel_of m) → t ≡ running (kernel_of m)
    → Leaves m m' (ended (kernel_of m) (app_of t) how) → NoneRuns (kernel_of m')
none_left_by_end m m' t how runs is left =
    subst (λ (j : Kernel). NoneRuns j) (sym left.kernel)
    (subst (λ (u : ℕ). NoneRuns (ended (kernel_of m) (app_of u) how)) (sym is) (none_after_ended (kernel_of m) how runs.no_module))
