-- The kernel after the end of an application, place by place.
use Rattle.std.proofs.Common.{◌≡◌, ◌≢◌, ℕ, ◌<◌, ◌≤◌, true, false, cond, eqb, ltb, not, List, [], map, refl, ap, sym, ◌∙◌, ⊎_elim, slice_set, Contains}
use Rattle.std.proofs.lemmas.Bool.{cases_eq, cases_lt, cond-false, cond_both, eq-eqb, ne_eqb, le-ltb, not_from_true, not_from_false}
use Rattle.std.specs.List.{filter}
use Rattle.kernel_model.specs.Kernel.{Kernel, thread_at, app_at, free_mutex, empty_row}
use Rattle.kernel_model.specs.Words.{running, app_of, none_running}
use Rattle.kernel_model.specs.Orderly.{Spot, spot, of_four, listed, IsOrderly}
use Rattle.kernel_model.specs.Orderly.Spot.{Nowhere, Ready, Runs, Asleep, OnMutex, OnCondition, OnLine, Calls}
use Rattle.kernel_model.specs.declared.ends.AppEnd.{AppEnd}
use Rattle.kernel_model.specs.Ending.{is_of, others, end_state, threads_ended, waits_ended, ended}
use Rattle.thread_laws.proofs.Filtered.{filter_whole, filter_nothing}
use Rattle.thread_laws.proofs.FourRows.{four}

-- the kernel after the end, but for who runs
abbrev pub stopped : Kernel → (a : ℕ) → AppEnd → Kernel
stopped k a how = record k {
  threads = four k.threads a empty_row;
  ready = others a k.ready;
  sleepers = others a k.sleepers;
  lines = map (others a) k.lines;
  mutexes = four k.mutexes a free_mutex;
  conditions = four k.conditions a [];
  apps = slice_set k.apps a (record (app_at k a) { state = end_state how });
}

pub ended_is : (k : Kernel) (a : ℕ) (how : AppEnd) → ended k a how ≡ cond (is_of a (running k)) (none_running (stopped k a how)) (stopped k a how)
unfolding ended waits_ended threads_ended
ended_is k a how = refl

-- ---- an application's threads by their identities

pub is_of_same : (a t : ℕ) → app_of t ≡ a → is_of a t ≡ true
is_of_same a t e = eq-eqb (app_of t) a e

pub is_of_other : (a t : ℕ) → app_of t ≢ a → is_of a t ≡ false
is_of_other a t e = ne_eqb (app_of t) a e

-- ---- a thread that waits on a mutex or a condition is one of that application's

waits_in : ℕ → Spot → ℕ
waits_in d Nowhere = d
waits_in d Ready = d
waits_in d Runs = d
waits_in d Asleep = d
waits_in d (OnMutex a i) = a
waits_in d (OnCondition a c) = a
waits_in d (OnLine n) = d
waits_in d Calls = d

waits_in_own : (a s o : ℕ) → waits_in a (spot a s o) ≡ a
unfolding waits_in
waits_in_own a s o =
    let P : Spot → Type 0 = λ p. waits_in a p ≡ a in
    let c6 : P (cond (eqb s 7) Calls Nowhere) = cond_both (eqb s 7) Calls Nowhere P (λ e. refl) (λ e. refl) in
    let c5 : P (cond (eqb s 6) (OnLine o) (cond (eqb s 7) Calls Nowhere)) = cond_both (eqb s 6) (OnLine o) (cond (eqb s 7) Calls Nowhere) P (λ e. refl) (λ e. c6) in
    let r5 : Spot = cond (eqb s 6) (OnLine o) (cond (eqb s 7) Calls Nowhere) in
    let c4 : P (cond (eqb s 5) (OnCondition a o) r5) = cond_both (eqb s 5) (OnCondition a o) r5 P (λ e. refl) (λ e. c5) in
    let r4 : Spot = cond (eqb s 5) (OnCondition a o) r5 in
    let c3 : P (cond (eqb s 4) (OnMutex a o) r4) = cond_both (eqb s 4) (OnMutex a o) r4 P (λ e. refl) (λ e. c4) in
    let r3 : Spot = cond (eqb s 4) (OnMutex a o) r4 in
    let c2 : P (cond (eqb s 3) Asleep r3) = cond_both (eqb s 3) Asleep r3 P (λ e. refl) (λ e. c3) in
    let r2 : Spot = cond (eqb s 3) Asleep r3 in
    let c1 : P (cond (eqb s 2) Runs r2) = cond_both (eqb s 2) Runs r2 P (λ e. refl) (λ e. c2) in
    cond_both (eqb s 1) Ready (cond (eqb s 2) Runs r2) P (λ e. refl) (λ e. c1)

pub on_mutex_of : (k : Kernel) → IsOrderly k → (a i t : ℕ) → Contains (listed k (OnMutex a i)) t → app_of t ≡ a
unfolding waits_in
on_mutex_of k o a i t h =
    sym (waits_in_own (app_of t) (thread_at k t).state (thread_at k t).object)
    ∙ ap (waits_in (app_of t)) (o.placed.nowhere_else (OnMutex a i) t h).1

pub on_condition_of : (k : Kernel) → IsOrderly k → (a c t : ℕ) → Contains (listed k (OnCondition a c)) t → app_of t ≡ a
unfolding waits_in
on_condition_of k o a c t h =
    sym (waits_in_own (app_of t) (thread_at k t).state (thread_at k t).object)
    ∙ ap (waits_in (app_of t)) (o.placed.nowhere_else (OnCondition a c) t h).1

-- ---- lists at spots

no_four : (i : ℕ) (xs : List ℕ) → 4 ≤ i → of_four i xs ≡ []
no_four i xs h = cond-false (ltb i 4) xs [] (le-ltb i 4 h)

four_nothing : (i : ℕ) → of_four i [] ≡ []
four_nothing i = cond_both (ltb i 4) [] [] (λ (xs : List ℕ). xs ≡ []) (λ e. refl) (λ e. refl)

-- a list at a number of an application's four, where all members are of that application, and the row is as new for application a
-- and as before for the others
pub waiters_kept : (a b i : ℕ) (now before : List ℕ) → ((t : ℕ) → Contains (of_four i before) t → app_of t ≡ b) → (b ≡ a → i < 4 → now ≡ [])
    → (b ≢ a → i < 4 → now ≡ before) → of_four i now ≡ filter (λ t. not (is_of a t)) (of_four i before)
waiters_kept a b i now before all new old = ⊎_elim
    (λ (h : i < 4). ⊎_elim
    (λ (e : b ≡ a).
    ap (of_four i) (new e h) ∙ four_nothing i
    ∙ sym (filter_nothing (λ t. not (is_of a t)) (of_four i before) (λ t c. not_from_true (is_of a t) (is_of_same a t (all t c ∙ e)))))
    (λ (n : b ≡ a → ⊥).
    ap (of_four i) (old n h)
    ∙ sym (filter_whole (λ t. not (is_of a t)) (of_four i before)
    (λ t c. not_from_false (is_of a t) (is_of_other a t (λ q. n (sym (all t c) ∙ q))))))
    (cases_eq b a))
    (λ (h : 4 ≤ i).
    no_four i now h ∙ sym (ap (filter (λ t. not (is_of a t))) (no_four i before h)))
    (cases_lt i 4)
