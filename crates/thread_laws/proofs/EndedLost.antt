-- The end of an application loses its threads and no others.
use Rattle.std.proofs.Common.{◌≡◌, ◌≢◌, ℕ, ◌<◌, ◌≤◌, ◌⊎◌, eqb, List, [], length, get_or, map, refl, ap, sym, ◌∙◌, inl, inr, ⊎_elim, arith, length-set}
use Rattle.std.proofs.lemmas.Bool.{cases_eq, cases_lt, cond-true, eqb-true, eqb-false, eq-eqb}
use Rattle.std.proofs.lemmas.List.{length-map, get_or-map, get_or_past, get_or-set_other}
use Rattle.kernel_model.specs.Kernel.{Kernel, app_at, mutex_at, condition_at, free_app, free_mutex, free_thread, empty_row}
use Rattle.kernel_model.specs.Words.{none, running, running_module, app_of, identity, owner_of, waiters_of, limit_of, top_of}
use Rattle.kernel_model.specs.Orderly.{Spot, only, runner, caller_of, listed, HasShape, IsOrderly}
use Rattle.kernel_model.specs.Orderly.Spot.{Nowhere, Ready, Runs, Asleep, OnMutex, OnCondition, OnLine, Calls}
use Rattle.kernel_model.specs.declared.rows.MutexRow.{MutexRow}
use Rattle.kernel_model.specs.declared.ends.AppEnd.{AppEnd}
use Rattle.kernel_model.specs.Ending.{is_of, others, end_state}
use Rattle.thread_laws.proofs.FourRows.{four_length, four_in, four_out}
use Rattle.thread_laws.proofs.LostThreads.{HasLost, MutexStays}
use Rattle.thread_laws.proofs.EndedKernel.{stopped, is_of_other, on_mutex_of, on_condition_of, waiters_kept}

-- the kernel after the end, with any running thread and any limits
abbrev pub stopped_with : Kernel → (a : ℕ) → AppEnd → (thread limit top : ℕ) → Kernel
stopped_with k a how r l t = record (stopped k a how) { running = r; cur_lim = l; cur_top = t }

app_of_identity : (b i : ℕ) → i < 4 → app_of (identity b i) ≡ b
app_of_identity b i h = omega arith

-- ---- its lists

line_lost : (a : ℕ) (lines : List (List ℕ)) (n : ℕ) → get_or (map (others a) lines) n [] ≡ others a (get_or lines n [])
line_lost a lines n = ⊎_elim
    (λ (h : n < length lines). get_or-map (others a) lines n [] [] h)
    (λ (h : length lines ≤ n).
    get_or_past (map (others a) lines) n [] (omega (arith, length-map lines (others a)))
    ∙ ap (others a) (sym (get_or_past lines n [] h)))
    (cases_lt n (length lines))

runner_lost : (a m r t : ℕ) → m ≡ none → only r ≡ others a (only t) → runner m r ≡ others a (runner m t)
runner_lost a m r t e h =
    cond-true (eqb m none) (only r) [] (eq-eqb m none e)
    ∙ h
    ∙ sym (ap (others a) (cond-true (eqb m none) (only t) [] (eq-eqb m none e)))

caller_lost : (a m r t : ℕ) → m ≡ none → caller_of m r ≡ others a (caller_of m t)
caller_lost a m r t e =
    cond-true (eqb m none) [] (only r) (eq-eqb m none e)
    ∙ sym (ap (others a) (cond-true (eqb m none) [] (only t) (eq-eqb m none e)))

lists_lost : (k : Kernel) (a : ℕ) (how : AppEnd) (r l t : ℕ) → IsOrderly k → a < 8 → running_module k ≡ none → only r ≡ others a (only (running k))
    → (s : Spot) → listed (stopped_with k a how r l t) s ≡ others a (listed k s)
lists_lost k a how r l t o h m run Nowhere = refl
lists_lost k a how r l t o h m run Ready = refl
lists_lost k a how r l t o h m run Runs = runner_lost a (running_module k) r (running k) m run
lists_lost k a how r l t o h m run Asleep = refl
lists_lost k a how r l t o h m run (OnMutex b i) =
    waiters_kept a b i (map (identity b) (waiters_of (stopped k a how) b i)) (map (identity b) (waiters_of k b i)) (on_mutex_of k o b i)
    (λ e f. ap (λ (x : MutexRow). map (identity b) x.waiters.items)
    (four_in k.mutexes a (identity b i) free_mutex free_mutex (omega (arith, o.shape.mutex_rows)) (app_of_identity b i f ∙ e)))
    (λ n f. ap (λ (x : MutexRow). map (identity b) x.waiters.items)
    (four_out k.mutexes a (identity b i) free_mutex free_mutex (λ q. n (sym (app_of_identity b i f) ∙ q))))
lists_lost k a how r l t o h m run (OnCondition b i) =
    waiters_kept a b i (map (identity b) (condition_at (stopped k a how) b i)) (map (identity b) (condition_at k b i)) (on_condition_of k o b i)
    (λ e f. ap (map (identity b))
    (four_in k.conditions a (identity b i) [] [] (omega (arith, o.shape.condition_lists)) (app_of_identity b i f ∙ e)))
    (λ n f. ap (map (identity b))
    (four_out k.conditions a (identity b i) [] [] (λ q. n (sym (app_of_identity b i f) ∙ q))))
lists_lost k a how r l t o h m run (OnLine n) = line_lost a k.lines n
lists_lost k a how r l t o h m run Calls = caller_lost a (running_module k) r (running k) m

-- ---- its rows

shape_lost : (k : Kernel) (a : ℕ) (how : AppEnd) (r l t : ℕ) → HasShape k → HasShape (stopped_with k a how r l t)
shape_lost k a how r l t s = record {
  app_rows = length-set k.apps a (record (app_at k a) { state = end_state how }) ∙ s.app_rows;
  module_rows = s.module_rows;
  function_rows = s.function_rows;
  thread_rows = four_length k.threads a empty_row ∙ s.thread_rows;
  mutex_rows = four_length k.mutexes a free_mutex ∙ s.mutex_rows;
  condition_lists = four_length k.conditions a [] ∙ s.condition_lists;
  line_lists = length-map k.lines (others a) ∙ s.line_lists;
}

pub other_app : (k : Kernel) (a : ℕ) (how : AppEnd) (b : ℕ) → b ≢ a → app_at (stopped k a how) b ≡ app_at k b
other_app k a how b n = get_or-set_other k.apps a b (record (app_at k a) { state = end_state how }) free_app n

mutex_lost : (k : Kernel) (a : ℕ) (how : AppEnd) (r l t : ℕ) → length k.mutexes ≡ 32 → a < 8 → (b i : ℕ) → b < 8 → i < 4
    → (mutex_at (stopped_with k a how r l t) b i ≡ free_mutex) ⊎ MutexStays k (stopped_with k a how r l t) (is_of a) b i
mutex_lost k a how r l t size h b i hb hi = ⊎_elim
    (λ (e : b ≡ a). inl (four_in k.mutexes a (identity b i) free_mutex free_mutex (omega arith) (app_of_identity b i hi ∙ e)))
    (λ (n : b ≡ a → ⊥).
    inr (record {
      row = four_out k.mutexes a (identity b i) free_mutex free_mutex (λ q. n (sym (app_of_identity b i hi) ∙ q));
      owner = λ f. is_of_other a (identity b (owner_of k b i)) (λ q. n (sym (app_of_identity b (owner_of k b i) f) ∙ q));
    }))
    (cases_eq b a)

pub lost_by_end : (k : Kernel) (a : ℕ) (how : AppEnd) (r l t : ℕ) → IsOrderly k → a < 8 → running_module k ≡ none → only r ≡ others a (only (running k))
    → l ≡ limit_of (stopped_with k a how r l t) → t ≡ top_of (stopped_with k a how r l t) → HasLost k (stopped_with k a how r l t) (is_of a)
lost_by_end k a how r l t o h m run limit top = record {
  shape = shape_lost k a how r l t o.shape;
  limit = limit;
  top = top;
  no_module = m;
  modules = refl;
  functions = refl;
  tick = refl;
  lost = λ t f e. four_in k.threads a t empty_row free_thread (omega (arith, o.shape.thread_rows)) (eqb-true (app_of t) a e);
  kept = λ t e. four_out k.threads a t empty_row free_thread (eqb-false (app_of t) a e);
  lists = lists_lost k a how r l t o h m run;
  apps = λ t e. other_app k a how (app_of t) (eqb-false (app_of t) a e);
  mutexes = mutex_lost k a how r l t o.shape.mutex_rows h;
  conditions = λ t i e f.
      four_out k.mutexes a (identity (app_of t) i) free_mutex free_mutex
      (λ q. eqb-false (app_of t) a e (sym (app_of_identity (app_of t) i (omega arith)) ∙ q));
}
