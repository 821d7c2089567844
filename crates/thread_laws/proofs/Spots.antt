-- Where a thread stands says its state, and what that says of the running thread, of ready ones and of free ones.
use Rattle.std.proofs.Common.{◌≡◌, ℕ, ◌<◌, ◌≤◌, zero, suc, List, [], ◌∷◌, eqb, refl, ap, sym, ◌∙◌, subst, arith, Contains}
use Rattle.std.proofs.lemmas.Bool.{ne_eqb, cond-false}
use Rattle.kernel_model.specs.declared.states.TheConstants.{FREE}
use Rattle.kernel_model.specs.Kernel.{Kernel, thread_at}
use Rattle.kernel_model.specs.Words.{none, ready, running_state, asleep, on_mutex, on_condition, on_line, calling, running}
use Rattle.kernel_model.specs.Orderly.{Spot, spot, spot_of, only, listed, runner, IsOrderly, IsLiveThread}
use Rattle.kernel_model.specs.Orderly.Spot.{Nowhere, Ready, Runs, Asleep, OnMutex, OnCondition, OnLine, Calls}
use Rattle.kernel_model.specs.Running.{ThreadRuns}
use Rattle.thread_laws.specs.Facts.{IsRunning, IsReady, IsUnlisted}

-- the state of a thread that stands at a spot
abbrev pub state_in : Spot → ℕ
state_in Nowhere = 0
state_in Ready = ready
state_in Runs = running_state
state_in Asleep = asleep
state_in (OnMutex a i) = on_mutex
state_in (OnCondition a c) = on_condition
state_in (OnLine n) = on_line
state_in Calls = calling

state_in-spot : (a s o : ℕ) → s ≤ 7 → state_in (spot a s o) ≡ s
state_in-spot a zero o h = refl
state_in-spot a (suc zero) o h = refl
state_in-spot a (suc (suc zero)) o h = refl
state_in-spot a (suc (suc (suc zero))) o h = refl
state_in-spot a (suc (suc (suc (suc zero)))) o h = refl
state_in-spot a (suc (suc (suc (suc (suc zero))))) o h = refl
state_in-spot a (suc (suc (suc (suc (suc (suc zero)))))) o h = refl
state_in-spot a (suc (suc (suc (suc (suc (suc (suc zero))))))) o h = refl
state_in-spot a (suc (suc (suc (suc (suc (suc (suc (suc s)))))))) o h = absurd (omega arith)

-- and so the state of an orderly kernel's thread, by its spot
pub state_at : (k : Kernel) → IsOrderly k → (t : ℕ) (s : Spot) → t < 32 → spot_of k t ≡ s → (thread_at k t).state ≡ state_in s
state_at k h t s l e = sym (state_in-spot _ _ _ (h.rows t l).state) ∙ ap state_in e

pub spot_ready : (a s o : ℕ) → s ≡ ready → spot a s o ≡ Ready
spot_ready a s o e = ap (λ x. spot a x o) e

pub spot_runs : (a s o : ℕ) → s ≡ running_state → spot a s o ≡ Runs
spot_runs a s o e = ap (λ x. spot a x o) e

pub spot_nowhere : (a s o : ℕ) → s ≡ 0 → spot a s o ≡ Nowhere
spot_nowhere a s o e = ap (λ x. spot a x o) e

-- ---- who is listed

pub only_itself : (t : ℕ) → t < 32 → only t ≡ t ∷ []
only_itself t h = cond-false (eqb t none) [] (t ∷ []) (ne_eqb t none (λ e. omega arith))

pub running_listed : (k : Kernel) → ThreadRuns k → listed k Runs ≡ running k ∷ []
running_listed k h = ap (λ i. runner i (running k)) h.no_module ∙ only_itself (running k) h.thread

-- ---- the facts

pub running_is : (k : Kernel) → IsOrderly k → ThreadRuns k → IsRunning k (running k)
running_is k h r =
    let t : ℕ = running k in
    let there : Contains (listed k Runs) t = subst (λ (xs : List ℕ). Contains xs t) (sym (running_listed k r)) (0, omega arith, refl) in
    let stands : spot_of k t ≡ Runs = (h.placed.nowhere_else Runs t there).1 in
    let state : (thread_at k t).state ≡ running_state = state_at k h t Runs r.thread stands in
    let live : IsLiveThread _ t = h.threads t r.thread (omega arith) in
    record {
      number = r.thread;
      state = state;
      registers = (h.rows t r.thread).registers;
      priority = (h.rows t r.thread).priority;
      not_ready = λ c. let same : Ready ≡ Runs = sym (h.placed.nowhere_else Ready t c).1 ∙ stands in cc;
      not_asleep = λ c. let same : Asleep ≡ Runs = sym (h.placed.nowhere_else Asleep t c).1 ∙ stands in cc;
      app = live.alive;
      within = live.number;
    }

pub ready_is : (k : Kernel) → IsOrderly k → (t : ℕ) → Contains k.ready t → IsReady k t
ready_is k h t c =
    let stands = h.placed.nowhere_else Ready t c in
    record {
      number = stands.0;
      state = state_at k h t Ready stands.0 stands.1;
      registers = (h.rows t stands.0).registers;
      priority = (h.rows t stands.0).priority;
      not_asleep = λ d. let same : Asleep ≡ Ready = sym (h.placed.nowhere_else Asleep t d).1 ∙ stands.1 in cc;
    }

pub free_is : (k : Kernel) → IsOrderly k → (t : ℕ) → (thread_at k t).state ≡ FREE → IsUnlisted k t
free_is k h t e =
    let stands : spot_of k t ≡ Nowhere = spot_nowhere _ _ _ e in
    record {
      not_ready = λ c. let same : Ready ≡ Nowhere = sym (h.placed.nowhere_else Ready t c).1 ∙ stands in cc;
      not_asleep = λ c. let same : Asleep ≡ Nowhere = sym (h.placed.nowhere_else Asleep t c).1 ∙ stands in cc;
    }
