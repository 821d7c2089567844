-- A running thread that exits, and owns no mutex.
use Rattle.std.proofs.Common.{◌≡◌, ◌≢◌, ℕ, suc, ◌+◌, ◌<◌, ◌≤◌, Bool, true, false, eqb, List, [], ◌∷◌, length, get_or, set, refl, sym, ap, ◌∙◌, subst, inl, inr, arith, Option}
use Rattle.std.specs.Prelude.{◌||◌, ◌&&◌}
use Rattle.std.specs.List.{list_all}
use Rattle.std.proofs.lemmas.Bool.{cases_eq, eqb-false}
use Rattle.std.proofs.lemmas.List.{get_or-set_other}
use Rattle.std.proofs.lemmas.List.FromFn.{get_or-map-range_with_len, length-map-range_with_len}
use Rattle.kernel_model.specs.declared.entries.TheConstants.{EXITS}
use Rattle.kernel_model.specs.Kernel.{Kernel, thread_at, with_thread, app_at, free_thread, empty_row}
use Rattle.kernel_model.specs.Words.{none, free, live, running, app_of, identity, none_running}
use Rattle.kernel_model.specs.declared.rows.ThreadRow.{ThreadRow}
use Rattle.place_model.specs.Settled.{IsSettledKernel}
use Rattle.kernel_model.specs.Running.{ThreadRuns, NoneRuns}
use Rattle.kernel_model.specs.Dispatching.{dispatched, dispatched_context}
use Rattle.kernel_model.specs.Starting.{is_free_thread, threads_of}
use Rattle.kernel_model.specs.Ending.{is_last}
use Rattle.thread_laws.proofs.Spots.{running_is}
use Rattle.load_model.specs.Domains.{Domain}
use Rattle.trace_model.specs.declared.records.Record.TheVariants.{Exit}
use Rattle.node_model.specs.Systems.{System}
use Rattle.node_model.specs.Entries.{who_runs}
use Rattle.node_model.specs.Steps.{by_turn}
use Rattle.node_model.specs.Sound.{HasThread, ArePopulated, IsSoundKernel}
use Rattle.node_model.specs.Laws.{IsSafe}
use Rattle.node_laws.specs.Facts.{Given}
use Rattle.node_laws.proofs.Rows.{saved-put}
use Rattle.node_laws.proofs.Stepping.{step-keeps}
use Rattle.node_laws.proofs.Untouched.{IsUntouched}
use Rattle.node_laws.proofs.Calls.{IsCalling, own_of, comes-from, Leaves, leaves}

-- ---- one of several threads

-- a test that fails somewhere
record Fails (p : ℕ → Bool) (xs : List ℕ) : Type 0 where
  at : ℕ
  within : at < length xs
  fails : p (get_or xs at 0) ≡ false

fails-in : (p : ℕ → Bool) (xs : List ℕ) → list_all p xs ≡ false → Fails p xs
fails-in p [] e = absurd (cc)
fails-in p (x ∷ xs) e = fails-by p x xs (p x) refl e (λ f. fails-in p xs f)
  where
    fails-by : (p : ℕ → Bool) (x : ℕ) (xs : List ℕ) (b : Bool) → p x ≡ b → list_all p (x ∷ xs) ≡ false
        → (list_all p xs ≡ false → Fails p xs) → Fails p (x ∷ xs)
    fails-by p x xs true f e next = let h : Fails p xs = next (sym (ap (λ (b : Bool). b && list_all p xs) f) ∙ e) in
        record { at = suc h.at; within = omega (arith, h.within); fails = h.fails }
    fails-by p x xs false f e next = record { at = 0; within = omega arith; fails = f }

-- another live thread of the application
record HasOther (k : Kernel) : Type 0 where
  number : ℕ
  few : number < 4
  other : identity (app_of (running k)) number ≢ running k
  alive : (thread_at k (identity (app_of (running k)) number)).state ≢ free

or-false : (a b : Bool) → (a || b) ≡ false → (a ≡ false) × (b ≡ false)
or-false true b e = absurd (cc)
or-false false b e = (refl, e)

has-other : (k : Kernel) → IsSettledKernel k → ThreadRuns k → is_last k ≡ false → HasOther k
has-other k h r e =
    let a : ℕ = app_of (running k) in
    let f : Fails (λ t. eqb t (running k) || is_free_thread k t) (threads_of k a) =
    fails-in (λ t. eqb t (running k) || is_free_thread k t) (threads_of k a) e in
    let alive : (app_at k a).state ≡ live = (running_is k h.orderly r).app in
    let few : (app_at k a).threads ≤ 4 = (h.apps a (let x = r.thread in omega arith) (λ q. omega (arith, alive))).threads in
    let l : f.at < (app_at k a).threads = omega (arith, f.within, length-map-range_with_len (identity a) 0 (app_at k a).threads) in
    let here : get_or (threads_of k a) f.at 0 ≡ identity a f.at =
    get_or-map-range_with_len (identity a) 0 (app_at k a).threads f.at f.at 0 l (omega arith) in
    let both : (eqb (identity a f.at) (running k) ≡ false) × (is_free_thread k (identity a f.at) ≡ false) =
    or-false _ _ (ap (λ (t : ℕ). eqb t (running k) || is_free_thread k t) (sym here) ∙ f.fails) in
    record { number = f.at; few = omega (arith, few); other = eqb-false _ _ both.0; alive = eqb-false _ _ both.1 }

-- ---- the kernel without the thread

abbrev pub left : Kernel → Kernel
left k = none_running (with_thread k (running k) empty_row)

populated-left : (k : Kernel) → length k.threads ≡ 32 → ThreadRuns k → HasOther k → ArePopulated k.apps k.threads
    → ArePopulated k.apps (set k.threads (running k) empty_row)
populated-left k size r o h b lb alive = elim (cases_eq b (app_of (running k))) [ inl e ↦ same e | inr x ↦ other x (h b lb alive) ]
  where
    same : b ≡ app_of (running k) → HasThread (set k.threads (running k) empty_row) b
    same e = subst (λ (a : ℕ). HasThread (set k.threads (running k) empty_row) a) (sym e) (
      o.number,
      o.few,
      subst (λ (w : ThreadRow). w.state ≢ free)
          (sym (get_or-set_other k.threads (running k) (identity (app_of (running k)) o.number) empty_row free_thread o.other))
          o.alive,
    )

    other : b ≢ app_of (running k) → HasThread k.threads b → HasThread (set k.threads (running k) empty_row) b
    other x has = (
      has.0,
      has.1,
      subst (λ (w : ThreadRow). w.state ≢ free)
          (sym (get_or-set_other k.threads (running k) (identity b has.0) empty_row free_thread (apart has.0 has.1))) has.2,
    )
      where
        apart : (n : ℕ) → n < 4 → identity b n ≢ running k
        apart n l q = x (omega arith)

pub sound-left : (k : Kernel) (ds : List (Option Domain)) (n : ℕ) → IsSoundKernel k ds n → ThreadRuns k → IsSettledKernel (left k)
    → is_last k ≡ false → IsSoundKernel (left k) ds n
sound-left k ds n h r settled e = record {
  settled = settled;
  domains = h.domains;
  saved = saved-put k.apps ds k.threads (running k) empty_row
      (let x = r.thread in let y = h.settled.orderly.shape.thread_rows in omega arith) (λ on. absurd (on refl)) h.saved;
  populated = populated-left k h.settled.orderly.shape.thread_rows r (has-other k h.settled r e) h.populated;
  functions = h.functions;
  bounded = h.bounded;
}

-- ---- the exit

pub told-exit : Given → (s : System) (d : Domain) (pick : Option ℕ) (k : Kernel) (b : Bool) → IsCalling s d EXITS
    → IsSoundKernel k s.placed s.steps → NoneRuns k → IsUntouched (own_of s) s.kernel k
    → IsSafe s (by_turn s (record {
      kernel = dispatched k pick;
      context = dispatched_context k pick;
      shown =
          Exit (s.steps + 1) (who_runs s.kernel) b;
    }))
told-exit laws s d pick k b x sound none untouched =
    let l : Leaves s k pick (Exit (s.steps + 1) (who_runs s.kernel) b) =
    leaves s k pick (Exit (s.steps + 1) (who_runs s.kernel) b) x.sound sound none untouched in
    record {
      sound = l.sound;
      confined = comes-from laws s d x;
      keeps = step-keeps s (record s { kernel = dispatched k pick; context = dispatched_context k pick; steps = s.steps + 1 })
          x.runs l.others;
      spelled = tt;
    }
