-- Who runs where an entry has a row, where a mark decides, and which entry is at an address.
use Rattle.std.proofs.Common.{◌≡◌, ◌≢◌, ℕ, ◌<◌, ◌+◌, Bool, true, false, not, eqb, cond, ◌&&◌, List, Some, refl, ap, sym, ◌∙◌, subst, arith, inl, inr}
use Rattle.std.proofs.lemmas.Bool.{cases_eq, ne_eqb, eq-eqb, cond-true, cond-false}
use Rattle.kernel_model.specs.Kernel.{Kernel}
use Rattle.kernel_model.specs.Words.{none, running, running_module, app_of}
use Rattle.kernel_model.specs.Running.{ThreadRuns, DomainRuns, running_domain}
use Rattle.kernel_model.specs.Orderly.{IsOrderly}
use Rattle.trace_model.specs.declared.records.Record.{Record}
use Rattle.node_model.specs.Entries.{Call, Turn, Work, by_call, module_runs, has_row, is_for_app, is_for_module, turn_at}
use Rattle.retos_node.specs.declared.entries.KernelCall.{KernelCall}
use Rattle.retos_node.specs.declared.entries.KernelCall.TheVariants as call
use Rattle.retos_node.specs.EntryPoints.{kernel_call}
use Rattle.retos_node.specs.Turns.{Turned}
use Rattle.retos_node.proofs.RunnerLemmas.{thread_below}

-- ---- who runs

and_false : (x : Bool) → (x && false) ≡ false
and_false true = refl
and_false false = refl

-- the row's test where no module runs
thread_row : (k : Kernel) (e : Call) → running_module k ≡ none → has_row k e ≡ true → (not (eqb (running k) none) && is_for_app e) ≡ true
thread_row k e idle h =
    sym (cond-false (module_runs k) (is_for_module e) (not (eqb (running k) none) && is_for_app e) (ap (λ (b : Bool). not b) (eq-eqb (running_module k) none idle))) ∙ h

some_thread : (k : Kernel) (e : Call) → running_module k ≡ none → has_row k e ≡ true → running k ≢ none
some_thread k e idle h is =
    let off : (not (eqb (running k) none) && is_for_app e) ≡ false = ap (λ (b : Bool). not b && is_for_app e) (eq-eqb (running k) none is) in
    let both : true ≡ false = sym (thread_row k e idle h) ∙ off in cc

-- the row's test where one does
module_row : (k : Kernel) (e : Call) → running_module k ≢ none → has_row k e ≡ true → is_for_module e ≡ true
module_row k e some h =
    sym (cond-true (module_runs k) (is_for_module e) (not (eqb (running k) none) && is_for_app e) (ap (λ (b : Bool). not b) (ne_eqb (running_module k) none some))) ∙ h

pub row_domain : (k : Kernel) (e : Call) → IsOrderly k → has_row k e ≡ true → DomainRuns k
row_domain k e o h =
    elim (cases_eq (running_module k) none) [
      | inl idle ↦
          let below : running k < 32 = thread_below k o (some_thread k e idle h) in
          let at : running_domain k ≡ app_of (running k) = cond-true (eqb (running_module k) none) (app_of (running k)) (8 + running_module k) (eq-eqb (running_module k) none idle) in
          subst (λ (n : ℕ). n < 12) (sym at) (let low : app_of (running k) < 12 = omega arith in low)
      | inr some ↦
          let below : running_module k < 4 = (o.caller some).0 in
          let at : running_domain k ≡ 8 + running_module k = cond-false (eqb (running_module k) none) (app_of (running k)) (8 + running_module k) (ne_eqb (running_module k) none some) in
          subst (λ (n : ℕ). n < 12) (sym at) (let low : 8 + running_module k < 12 = omega arith in low)
    ]

pub row_thread : (k : Kernel) (e : Call) → IsOrderly k → has_row k e ≡ true → is_for_module e ≡ false → ThreadRuns k
row_thread k e o h for_apps =
    elim (cases_eq (running_module k) none) [
      | inl idle ↦ record { thread = thread_below k o (some_thread k e idle h); no_module = idle }
      | inr some ↦ absurd (let both : true ≡ false = sym (module_row k e some h) ∙ for_apps in cc)
    ]

pub row_module : (k : Kernel) (e : Call) → has_row k e ≡ true → is_for_app e ≡ false → running_module k ≢ none
row_module k e h for_modules idle =
    let off : (not (eqb (running k) none) && is_for_app e) ≡ false =
    ap (λ (b : Bool). not (eqb (running k) none) && b) for_modules ∙ and_false (not (eqb (running k) none)) in
    let both : true ≡ false = sym (thread_row k e idle h) ∙ off in cc

-- ---- where a mark decides

false_by : (b : Bool) → (b ≡ true → ⊥) → b ≡ false
false_by true h = absurd (h refl)
false_by false h = refl

pub marked_turn : (m m' r' : List ℕ) (told : Record) (b : Bool) (t u : Turn) → b ≡ true → Turned m m' r' told t → Turned m m' r' told (cond b t u)
marked_turn m m' r' told b t u e h = subst (λ (x : Bool). Turned m m' r' told (cond x t u)) (sym e) h

pub false_turn : (m m' r' : List ℕ) (told : Record) (b : Bool) (t u : Turn) → b ≡ false → Turned m m' r' told u → Turned m m' r' told (cond b t u)
false_turn m m' r' told b t u e h = subst (λ (x : Bool). Turned m m' r' told (cond x t u)) (sym e) h

pub unmarked_turn : (m m' r' : List ℕ) (told : Record) (b : Bool) (t u : Turn) → (b ≡ true → ⊥) → Turned m m' r' told u → Turned m m' r' told (cond b t u)
unmarked_turn m m' r' told b t u e h = false_turn m m' r' told b t u (false_by b e) h

-- ---- calls

pub same_call : (e f : Call) → Some e ≡ Some f → e ≡ f
same_call e f h = cc

pub call_turn : (c : KernelCall) (w : Work) → turn_at (kernel_call c) w ≡ by_call (kernel_call c) w
call_turn call.Spawn w = refl
call_turn call.Yield w = refl
call_turn call.Sleep w = refl
call_turn call.Priority w = refl
call_turn call.Identity w = refl
call_turn call.Ticks w = refl
call_turn call.Lock w = refl
call_turn call.Unlock w = refl
call_turn call.Wait w = refl
call_turn call.Signal w = refl
call_turn call.Broadcast w = refl
call_turn call.Line w = refl
call_turn call.ModuleCall w = refl
call_turn call.Emits w = refl
