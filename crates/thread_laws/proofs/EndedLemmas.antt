-- The end of an application leaves the kernel settled.
use Rattle.std.proofs.Common.{◌≡◌, ◌≢◌, ℕ, ◌+◌, ◌-◌, ◌*◌, ◌<◌, Bool, true, false, cond, eqb, ltb, not, List, [], ◌∷◌, refl, ap, sym, ◌∙◌, subst, ⊎_elim, arith}
use Rattle.std.proofs.lemmas.Bool.{cases_eq, cond-true, cond-false, cond_both, eqb-false, lt-ltb, not_from_true, not_from_false}
use Rattle.std.proofs.lemmas.List.{get_or-set_same}
use Rattle.kernel_model.specs.declared.map.TheConstants.{KERNEL_LIMIT, KERNEL_TOP}
use Rattle.kernel_model.specs.Kernel.{Kernel, app_at, module_at, free_app}
use Rattle.kernel_model.specs.Words.{none, live, free, running, running_module, app_of, number_of, none_running, limit_of, top_of, thread_runs}
use Rattle.kernel_model.specs.Orderly.{only, IsOrderly}
use Rattle.kernel_model.specs.declared.rows.AppRow.{AppRow}
use Rattle.place_model.specs.declared.places.Range.{Range}
use Rattle.place_model.specs.declared.places.Pool.{Pool}
use Rattle.place_model.specs.declared.places.Pool.TheVariants.{Code, Data}
use Rattle.place_model.specs.declared.places.DomainRow.{DomainRow}
use Rattle.place_model.specs.Placing.{app_domain, module_domain, domain_at, pool_range, range_in}
use Rattle.place_model.specs.Settled.{IsInPool, AreApart, IsAppPlace, IsInUse, IsSettledKernel}
use Rattle.kernel_model.specs.declared.ends.AppEnd.{AppEnd}
use Rattle.kernel_model.specs.Ending.{is_of, others, end_state}
use Rattle.thread_laws.specs.Laws.{EndedLaw}
use Rattle.thread_laws.proofs.LostThreads.{orderly_lost}
use Rattle.thread_laws.proofs.EndedKernel.{stopped, ended_is}
use Rattle.thread_laws.proofs.EndedLost.{stopped_with, other_app, lost_by_end}

-- ---- domains

-- a row's state is no part of its ranges
range_of_state : (p : Pool) (b : Bool) (r : AppRow) (s : ℕ) (d : DomainRow) → range_in p (cond b (app_domain (record r { state = s })) d) ≡ range_in p (cond b (app_domain r) d)
range_of_state Code true r s d = refl
range_of_state Code false r s d = refl
range_of_state Data true r s d = refl
range_of_state Data false r s d = refl

own_app : (k : Kernel) (a : ℕ) (how : AppEnd) → IsOrderly k → a < 8 → app_at (stopped k a how) a ≡ record (app_at k a) { state = end_state how }
own_app k a how o h = get_or-set_same k.apps a (record (app_at k a) { state = end_state how }) free_app (omega (arith, o.shape.app_rows))

range_kept : (k : Kernel) (a : ℕ) (how : AppEnd) → IsOrderly k → a < 8 → (p : Pool) (n : ℕ) → range_in p (domain_at (stopped k a how) n) ≡ range_in p (domain_at k n)
range_kept k a how o h p n = ⊎_elim
    (λ (e : n ≡ a).
    let f : AppRow → Range = λ r. range_in p (cond (ltb n 8) (app_domain r) (module_domain (module_at k (n - 8)))) in
    ap f (ap (app_at (stopped k a how)) e ∙ own_app k a how o h)
    ∙ range_of_state p (ltb n 8) (app_at k a) (end_state how) (module_domain (module_at k (n - 8)))
    ∙ ap f (ap (app_at k) (sym e)))
    (λ (ne : n ≡ a → ⊥).
    ap (λ (r : AppRow). range_in p (cond (ltb n 8) (app_domain r) (module_domain (module_at k (n - 8))))) (other_app k a how n ne))
    (cases_eq n a)

live_domain : (k : Kernel) (a n : ℕ) → a < 8 → (app_at k a).state ≡ live → n ≡ a → (domain_at k n).state ≢ free
live_domain k a n h alive e q =
    let own : (domain_at k a).state ≡ (app_at k a).state =
    ap (λ (d : DomainRow). d.state) (cond-true (ltb a 8) (app_domain (app_at k a)) (module_domain (module_at k (a - 8))) (lt-ltb a 8 h)) in
    let clash : live ≡ free = sym alive ∙ sym own ∙ ap (λ (i : ℕ). (domain_at k i).state) (sym e) ∙ q in
    omega arith

was_used : (k : Kernel) (a : ℕ) (how : AppEnd) → a < 8 → (app_at k a).state ≡ live → (n : ℕ) → IsInUse (stopped k a how) n → IsInUse k n
was_used k a how h alive n used = ⊎_elim
    (λ (e : n ≡ a). live_domain k a n h alive e)
    (λ (ne : n ≡ a → ⊥). λ q. used
    (ap (λ (r : AppRow). (cond (ltb n 8) (app_domain r) (module_domain (module_at k (n - 8)))).state) (other_app k a how n ne) ∙ q))
    (cases_eq n a)

app_place : (k : Kernel) (a : ℕ) (how : AppEnd) → IsSettledKernel k → a < 8 → (app_at k a).state ≡ live → (b : ℕ) → b < 8
    → (app_at (stopped k a how) b).state ≢ free → IsAppPlace (app_at (stopped k a how) b)
app_place k a how s h alive b hb used = ⊎_elim
    (λ (e : b ≡ a).
    let was : IsAppPlace (app_at k a) = s.apps a h (λ q. let clash : live ≡ free = sym alive ∙ q in omega arith) in
    let now : IsAppPlace (record (app_at k a) { state = end_state how }) =
    record { threads = was.threads; z_even = was.z_even; stack_even = was.stack_even; fits = was.fits } in
    subst (λ (r : AppRow). IsAppPlace r) (sym (ap (app_at (stopped k a how)) e ∙ own_app k a how s.orderly h)) now)
    (λ (ne : b ≡ a → ⊥).
    let same : app_at (stopped k a how) b ≡ app_at k b = other_app k a how b ne in
    subst (λ (r : AppRow). IsAppPlace r) (sym same) (s.apps b hb (λ q. used (ap (λ (r : AppRow). r.state) same ∙ q))))
    (cases_eq b a)

settled_stopped : (k : Kernel) (a : ℕ) (how : AppEnd) (r l t : ℕ) → IsSettledKernel k → a < 8 → (app_at k a).state ≡ live
    → IsOrderly (stopped_with k a how r l t) → IsSettledKernel (stopped_with k a how r l t)
settled_stopped k a how r l t s h alive o = record {
  orderly = o;
  inside = λ p n hn used.
      subst (λ (x : Range). IsInPool (pool_range p) x) (sym (range_kept k a how s.orderly h p n))
      (s.inside p n hn (was_used k a how h alive n used));
  apart = λ p n i hn hi ne un ui.
      subst (λ (x : Range). AreApart x (range_in p (domain_at (stopped k a how) i))) (sym (range_kept k a how s.orderly h p n))
      (subst (λ (x : Range). AreApart (range_in p (domain_at k n)) x) (sym (range_kept k a how s.orderly h p i))
      (s.apart p n i hn hi ne (was_used k a how h alive n un) (was_used k a how h alive i ui)));
  apps = app_place k a how s h alive;
  functions = s.functions;
}

-- ---- who runs

only_gone : (a t : ℕ) → is_of a t ≡ true → [] ≡ others a (only t)
only_gone a t e =
    cond_both (eqb t none) [] (t ∷ []) (λ (xs : List ℕ). [] ≡ others a xs) (λ q. refl)
    (λ q. sym (cond-false (not (is_of a t)) (t ∷ []) [] (not_from_true (is_of a t) e)))

only_stays : (a t : ℕ) → is_of a t ≡ false → only t ≡ others a (only t)
only_stays a t e =
    cond_both (eqb t none) [] (t ∷ []) (λ (xs : List ℕ). xs ≡ others a xs) (λ q. refl)
    (λ q. sym (cond-true (not (is_of a t)) (t ∷ []) [] (not_from_false (is_of a t) e)))

runner_app : (k : Kernel) (a : ℕ) (how : AppEnd) → is_of a (running k) ≡ false → app_at (stopped k a how) (app_of (running k)) ≡ app_at k (app_of (running k))
runner_app k a how e = other_app k a how (app_of (running k)) (eqb-false (app_of (running k)) a e)

settled_idle : (k : Kernel) (a : ℕ) (how : AppEnd) → IsSettledKernel k → a < 8 → (app_at k a).state ≡ live → running_module k ≡ none
    → is_of a (running k) ≡ true → IsSettledKernel (none_running (stopped k a how))
settled_idle k a how s h alive m e =
    let next : Kernel = none_running (stopped k a how) in
    settled_stopped k a how none (limit_of next) (top_of next) s h alive
    (orderly_lost k next (is_of a) s.orderly
    (lost_by_end k a how none (limit_of next) (top_of next) s.orderly h m (only_gone a (running k) e) refl refl))

settled_running : (k : Kernel) (a : ℕ) (how : AppEnd) → IsSettledKernel k → a < 8 → (app_at k a).state ≡ live → running_module k ≡ none
    → is_of a (running k) ≡ false → IsSettledKernel (stopped k a how)
settled_running k a how s h alive m e =
    let limit : k.cur_lim ≡ limit_of (stopped k a how) =
    s.orderly.limit
    ∙ sym (ap (λ (r : AppRow). cond (thread_runs k) (r.lo + r.z + number_of (running k) * r.stack + 6) KERNEL_LIMIT) (runner_app k a how e)) in
    let top : k.cur_top ≡ top_of (stopped k a how) =
    s.orderly.top
    ∙ sym (ap (λ (r : AppRow). cond (thread_runs k) (r.lo + r.z + number_of (running k) * r.stack + r.stack) KERNEL_TOP) (runner_app k a how e)) in
    settled_stopped k a how (running k) k.cur_lim k.cur_top s h alive
    (orderly_lost k (stopped k a how) (is_of a) s.orderly
    (lost_by_end k a how (running k) k.cur_lim k.cur_top s.orderly h m (only_stays a (running k) e) limit top))

pub ended_settled : EndedLaw
ended_settled k a how s h alive m =
    subst (λ (x : Kernel). IsSettledKernel x) (sym (ended_is k a how))
    (cond_both (is_of a (running k)) (none_running (stopped k a how)) (stopped k a how) (λ (x : Kernel). IsSettledKernel x)
    (settled_idle k a how s h alive m) (settled_running k a how s h alive m))
