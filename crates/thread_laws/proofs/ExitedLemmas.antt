-- The end of the running thread leaves the kernel settled.
use Rattle.std.proofs.Common.{◌≡◌, ◌≢◌, ℕ, ◌<◌, Bool, false, eqb, not, List, [], ◌∷◌, refl, ap, sym, ◌∙◌, subst, inr, arith, Contains, length-set}
use Rattle.std.proofs.lemmas.Bool.{cond-true, cond-false, cond_both, eqb-true, eqb-false, eq-eqb, ne_eqb, not_from_true, not_from_false}
use Rattle.std.proofs.lemmas.List.{get_or-set_same, get_or-set_other}
use Rattle.std.specs.List.{filter}
use Rattle.kernel_model.specs.Kernel.{Kernel, thread_at, with_thread, app_at, free_thread, empty_row}
use Rattle.kernel_model.specs.Words.{none, live, free, running, running_module, app_of, number_of, identity, none_running, owner_of}
use Rattle.kernel_model.specs.Orderly.{Spot, spot, spot_of, only, listed, IsOrderly}
use Rattle.kernel_model.specs.Orderly.Spot.{Nowhere, Ready, Runs, Asleep, OnMutex, OnCondition, OnLine, Calls}
use Rattle.place_model.specs.Settled.{IsSettledKernel}
use Rattle.kernel_model.specs.declared.ends.AppEnd.TheVariants.{Done}
use Rattle.kernel_model.specs.Running.{ThreadRuns}
use Rattle.kernel_model.specs.Ending.{ended, is_last, exited, OwnsNone}
use Rattle.thread_laws.specs.Laws.{ExitedLaw}
use Rattle.thread_laws.proofs.Filtered.{filter_whole}
use Rattle.thread_laws.proofs.LostThreads.{HasLost, orderly_lost}
use Rattle.thread_laws.proofs.EndedLemmas.{ended_settled}

-- ---- the running thread

runs_listed : (k : Kernel) → ThreadRuns k → Contains (listed k Runs) (running k)
runs_listed k r =
    let one : listed k Runs ≡ running k ∷ [] =
    cond-true (eqb (running_module k) none) (only (running k)) [] (eq-eqb (running_module k) none r.no_module)
    ∙ cond-false (eqb (running k) none) [] (running k ∷ []) (ne_eqb (running k) none (λ e. let below : running k < 32 = r.thread in omega arith)) in
    subst (λ (xs : List ℕ). Contains xs (running k)) (sym one) (0, omega arith, refl)

runs_there : (k : Kernel) → IsOrderly k → ThreadRuns k → spot_of k (running k) ≡ Runs
runs_there k o r = (o.placed.nowhere_else Runs (running k) (runs_listed k r)).1

runner_alive : (k : Kernel) → IsOrderly k → ThreadRuns k → (app_at k (app_of (running k))).state ≡ live
runner_alive k o r =
    let used : (thread_at k (running k)).state ≢ free = λ e.
    (let nowhere : spot_of k (running k) ≡ Nowhere = ap (λ (s : ℕ). spot (app_of (running k)) s (thread_at k (running k)).object) e in
    let clash : Runs ≡ Nowhere = sym (runs_there k o r) ∙ nowhere in cc) in
    (o.threads (running k) r.thread used).alive

-- ---- the kernel without it

abbrev is_runner : Kernel → ℕ → Bool
is_runner k t = eqb t (running k)

abbrev left : Kernel → Kernel
left k = none_running (with_thread k (running k) empty_row)

-- it stands in no list of another spot
elsewhere : (k : Kernel) → IsOrderly k → ThreadRuns k → (s : Spot) → (Runs ≡ s → ⊥) → listed k s ≡ filter (λ t. not (is_runner k t)) (listed k s)
elsewhere k o r s n =
    sym (filter_whole (λ t. not (is_runner k t)) (listed k s) (λ t c. not_from_false (is_runner k t)
    (ne_eqb t (running k) (λ e. n (sym (runs_there k o r) ∙ ap (spot_of k) (sym e) ∙ (o.placed.nowhere_else s t c).1)))))

runner_left : (k : Kernel) → running_module k ≡ none → listed (left k) Runs ≡ filter (λ t. not (is_runner k t)) (listed k Runs)
runner_left k m =
    let f : List ℕ → List ℕ = filter (λ t. not (is_runner k t)) in
    let nobody : [] ≡ f (only (running k)) =
    cond_both (eqb (running k) none) [] (running k ∷ []) (λ (xs : List ℕ). [] ≡ f xs) (λ q. refl)
    (λ q. sym (cond-false (not (is_runner k (running k))) (running k ∷ []) []
    (not_from_true (is_runner k (running k)) (eq-eqb (running k) (running k) refl)))) in
    cond-true (eqb (running_module k) none) [] [] (eq-eqb (running_module k) none m)
    ∙ nobody
    ∙ sym (ap f (cond-true (eqb (running_module k) none) (only (running k)) [] (eq-eqb (running_module k) none m)))

caller_left : (k : Kernel) → running_module k ≡ none → listed (left k) Calls ≡ filter (λ t. not (is_runner k t)) (listed k Calls)
caller_left k m =
    cond-true (eqb (running_module k) none) [] [] (eq-eqb (running_module k) none m)
    ∙ sym (ap (filter (λ t. not (is_runner k t)))
    (cond-true (eqb (running_module k) none) [] (only (running k)) (eq-eqb (running_module k) none m)))

lists_left : (k : Kernel) → IsOrderly k → ThreadRuns k → (s : Spot) → listed (left k) s ≡ filter (λ t. not (is_runner k t)) (listed k s)
lists_left k o r Nowhere = refl
lists_left k o r Ready = elsewhere k o r Ready (λ e. cc)
lists_left k o r Runs = runner_left k r.no_module
lists_left k o r Asleep = elsewhere k o r Asleep (λ e. cc)
lists_left k o r (OnMutex a i) = elsewhere k o r (OnMutex a i) (λ e. cc)
lists_left k o r (OnCondition a c) = elsewhere k o r (OnCondition a c) (λ e. cc)
lists_left k o r (OnLine n) = elsewhere k o r (OnLine n) (λ e. cc)
lists_left k o r Calls = caller_left k r.no_module

-- it owns no mutex
owner_left : (k : Kernel) → OwnsNone k → (a i : ℕ) → i < 4 → owner_of k a i < 4 → is_runner k (identity a (owner_of k a i)) ≡ false
owner_left k owns a i h below = ne_eqb (identity a (owner_of k a i)) (running k) (λ e.
    (let app : app_of (running k) ≡ a = omega arith in
    let number : owner_of k a i ≡ number_of (running k) = omega arith in
    owns i h (ap (λ (b : ℕ). owner_of k b i) app ∙ number)))

lost_by_exit : (k : Kernel) → IsOrderly k → ThreadRuns k → OwnsNone k → HasLost k (left k) (is_runner k)
lost_by_exit k o r owns = record {
  shape = record {
    app_rows = o.shape.app_rows;
    module_rows = o.shape.module_rows;
    function_rows = o.shape.function_rows;
    thread_rows = length-set k.threads (running k) empty_row ∙ o.shape.thread_rows;
    mutex_rows = o.shape.mutex_rows;
    condition_lists = o.shape.condition_lists;
    line_lists = o.shape.line_lists;
  };
  limit = refl;
  top = refl;
  no_module = r.no_module;
  modules = refl;
  functions = refl;
  tick = refl;
  lost = λ t h e.
      ap (thread_at (left k)) (eqb-true t (running k) e)
      ∙ get_or-set_same k.threads (running k) empty_row free_thread (omega (arith, r.thread, o.shape.thread_rows));
  kept = λ t e. get_or-set_other k.threads (running k) t empty_row free_thread (eqb-false t (running k) e);
  lists = lists_left k o r;
  apps = λ t e. refl;
  mutexes = λ a i ha hi. inr (record { row = refl; owner = owner_left k owns a i hi });
  conditions = λ t i e f. refl;
}

-- ---- both ends

left_settled : (k : Kernel) → IsSettledKernel k → ThreadRuns k → OwnsNone k → IsSettledKernel (left k)
left_settled k s r owns = record {
  orderly = orderly_lost k (left k) (is_runner k) s.orderly (lost_by_exit k s.orderly r owns);
  inside = s.inside;
  apart = s.apart;
  apps = s.apps;
  functions = s.functions;
}

last_settled : (k : Kernel) → IsSettledKernel k → ThreadRuns k → IsSettledKernel (ended k (app_of (running k)) Done)
last_settled k s r =
    let below : running k < 32 = r.thread in
    ended_settled k (app_of (running k)) Done s (omega arith) (runner_alive k s.orderly r) r.no_module

pub exited_settled : ExitedLaw
unfolding exited
exited_settled k s r owns =
    cond_both (is_last k) (ended k (app_of (running k)) Done) (left k) (λ (x : Kernel). IsSettledKernel x)
    (λ e. last_settled k s r) (λ e. left_settled k s r owns)
