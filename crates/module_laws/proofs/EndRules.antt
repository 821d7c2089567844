-- A module that ends in a call.
use Rattle.std.proofs.Common.{◌≡◌, ◌≢◌, ℕ, ◌-◌, ◌<◌, Bool, true, false, cond, ltb, length, refl, ap, sym, ◌∙◌, subst, ⊎_elim, arith, length-set}
use Rattle.std.proofs.lemmas.Bool.{cases_eq}
use Rattle.std.proofs.lemmas.List.{get_or-set_same, get_or-set_other}
use Rattle.kernel_model.specs.Kernel.{Kernel, app_at, module_at, with_module, function_at, free_module}
use Rattle.kernel_model.specs.Words.{none, free, live, running, running_module, saved_register}
use Rattle.kernel_model.specs.declared.rows.ModuleRow.{ModuleRow}
use Rattle.place_model.specs.declared.places.Range.{Range}
use Rattle.place_model.specs.declared.places.Pool.{Pool}
use Rattle.place_model.specs.declared.places.Pool.TheVariants.{Code, Data}
use Rattle.place_model.specs.declared.places.DomainRow.{DomainRow}
use Rattle.place_model.specs.Placing.{app_domain, module_domain, domain_at, pool_range, range_in}
use Rattle.place_model.specs.Settled.{IsInPool, AreApart, IsInUse, IsSettledKernel}
use Rattle.kernel_model.specs.Modules.{ended_module, module_ended}
use Rattle.thread_laws.proofs.Moving.{HasOrder}
use Rattle.module_laws.proofs.CallRules.{call_left, IsCaller, caller_is, stops_calling, IsMovingCaller, register_moves, runs_again}

abbrev pub ended_row : Kernel → (i : ℕ) → ModuleRow
ended_row k i = record (module_at k i) { state = ended_module }

abbrev pub without_module : Kernel → (i : ℕ) → Kernel
without_module k i = with_module k i (ended_row k i)

-- ---- its places stay

range_of_state : (p : Pool) (b : Bool) (d : DomainRow) (r : ModuleRow) (s : ℕ)
    → range_in p (cond b d (module_domain (record r { state = s }))) ≡ range_in p (cond b d (module_domain r))
range_of_state Code true d r s = refl
range_of_state Code false d r s = refl
range_of_state Data true d r s = refl
range_of_state Data false d r s = refl

range_kept : (k : Kernel) (i : ℕ) → i < length k.modules → (p : Pool) (n : ℕ)
    → range_in p (domain_at (without_module k i) n) ≡ range_in p (domain_at k n)
range_kept k i l p n = ⊎_elim
    (λ (e : n - 8 ≡ i).
    let f : ModuleRow → Range = λ r. range_in p (cond (ltb n 8) (app_domain (app_at k n)) (module_domain r)) in
    ap f (ap (module_at (without_module k i)) e ∙ get_or-set_same k.modules i (ended_row k i) free_module l)
    ∙ range_of_state p (ltb n 8) (app_domain (app_at k n)) (module_at k i) ended_module
    ∙ ap f (ap (module_at k) (sym e)))
    (λ (ne : n - 8 ≢ i). ap (λ (r : ModuleRow). range_in p (cond (ltb n 8) (app_domain (app_at k n)) (module_domain r)))
    (get_or-set_other k.modules i (n - 8) (ended_row k i) free_module ne))
    (cases_eq (n - 8) i)

used_by : (b : Bool) (d : DomainRow) (r : ModuleRow) → r.state ≢ free
    → (cond b d (module_domain (record r { state = ended_module }))).state ≢ free → (cond b d (module_domain r)).state ≢ free
used_by true d r n h = h
used_by false d r n h = n

was_used : (k : Kernel) (i : ℕ) → i < length k.modules → (module_at k i).state ≢ free → (n : ℕ) → IsInUse (without_module k i) n
    → IsInUse k n
was_used k i l on n used = ⊎_elim
    (λ (e : n - 8 ≡ i).
    let here : module_at (without_module k i) (n - 8) ≡ ended_row k i = ap (module_at (without_module k i)) e
    ∙ get_or-set_same k.modules i (ended_row k i) free_module l in
    subst (λ (j : ℕ). (cond (ltb n 8) (app_domain (app_at k n)) (module_domain (module_at k j))).state ≢ free) (sym e)
    (used_by (ltb n 8) (app_domain (app_at k n)) (module_at k i) on
    (subst (λ (r : ModuleRow). (cond (ltb n 8) (app_domain (app_at k n)) (module_domain r)).state ≢ free) here used)))
    (λ (ne : n - 8 ≢ i). subst (λ (r : ModuleRow). (cond (ltb n 8) (app_domain (app_at k n)) (module_domain r)).state ≢ free)
    (get_or-set_other k.modules i (n - 8) (ended_row k i) free_module ne) used)
    (cases_eq (n - 8) i)

-- ---- it ends while nobody runs

order_without : (k : Kernel) (i : ℕ) → running_module k ≡ none → i < length k.modules → HasOrder k → HasOrder (without_module k i)
order_without k i e l h = record {
  shape = record {
    app_rows = h.shape.app_rows;
    module_rows = length-set k.modules i (ended_row k i) ∙ h.shape.module_rows;
    function_rows = h.shape.function_rows;
    thread_rows = h.shape.thread_rows;
    mutex_rows = h.shape.mutex_rows;
    condition_lists = h.shape.condition_lists;
    line_lists = h.shape.line_lists;
  };
  limit = h.limit;
  top = h.top;
  rows = h.rows;
  threads = h.threads;
  caller = h.caller;
  callee = λ n. absurd (n e);
  mutexes = h.mutexes;
  conditions = h.conditions;
  by_priority = h.by_priority;
  by_wake_time = h.by_wake_time;
  later = h.later;
  functions = λ f lf n. ⊎_elim
      (λ (q : (function_at k f).module ≡ i). λ z. let state : ended_module ≡ free =
      ap (λ (r : ModuleRow). r.state)
      (sym (ap (module_at (without_module k i)) q ∙ get_or-set_same k.modules i (ended_row k i) free_module l)) ∙ z in
      omega arith)
      (λ (ne : (function_at k f).module ≢ i). subst (λ (r : ModuleRow). r.state ≢ free)
      (sym (get_or-set_other k.modules i (function_at k f).module (ended_row k i) free_module ne)) (h.functions f lf n))
      (cases_eq (function_at k f).module i);
}

moves_without : (k : Kernel) (t i : ℕ) → running_module k ≡ none → i < length k.modules → IsMovingCaller k t
    → IsMovingCaller (without_module k i) t
moves_without k t i e l m = record {
  but = record {
    order = order_without k i e l m.but.order;
    placed = record {
      there = m.but.placed.there;
      nowhere_else = m.but.placed.nowhere_else;
      unlisted = m.but.placed.unlisted;
      once =
          m.but.placed.once;
    };
  };
  below = m.below;
  state = m.state;
}

pub module_ended_stays_settled : (k : Kernel) → IsSettledKernel k → running_module k ≢ none → IsSettledKernel (module_ended k)
module_ended_stays_settled k h n =
    let t : ℕ = running k in
    let i : ℕ = running_module k in
    let below : i < 4 = (h.orderly.caller n).0 in
    let l : i < length k.modules = (let size = h.orderly.shape.module_rows in omega arith) in
    let alive : (module_at k i).state ≡ live = h.orderly.callee n in
    let on : (module_at k i).state ≢ free = (λ e. omega (arith, alive)) in
    let is : IsCaller k = caller_is k h.orderly n in
    let k0 : Kernel = call_left k in
    let m0 : IsMovingCaller k0 t = record { but = stops_calling k h.orderly n; below = is.below; state = is.state } in
    let k1 : Kernel = without_module k0 i in
    record {
      orderly = runs_again (saved_register k1 t 12 6) t record { no_thread = refl; no_module = refl }
          (register_moves k1 t 12 6 (moves_without k0 t i refl l m0));
      inside = λ p m hm used. subst (λ (x : Range). IsInPool (pool_range p) x) (sym (range_kept k i l p m))
          (h.inside p m hm (was_used k i l on m used));
      apart = λ p m j hm hj ne um uj.
          subst (λ (x : Range). AreApart x (range_in p (domain_at (without_module k i) j))) (sym (range_kept k i l p m))
          (subst (λ (x : Range). AreApart (range_in p (domain_at k m)) x) (sym (range_kept k i l p j))
          (h.apart p m j hm hj ne (was_used k i l on m um) (was_used k i l on j uj)));
      apps = h.apps;
      functions = h.functions;
    }
