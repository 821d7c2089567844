-- A running thread that exits, and hands over the mutexes that it owns.
use Rattle.std.proofs.Common.{◌≡◌, ◌≢◌, ℕ, ◌+◌, ◌<◌, Bool, true, false, cond, refl, sym, ap, ◌∙◌, subst, arith, Option}
use Rattle.std.proofs.lemmas.Bool.{cond-false}
use Rattle.kernel_model.specs.declared.entries.TheConstants.{EXITS}
use Rattle.kernel_model.specs.Kernel.{Kernel, with_thread, empty_row}
use Rattle.kernel_model.specs.Words.{none, running, app_of, number_of, owner_of, waiters_of}
use Rattle.place_model.specs.Settled.{IsSettledKernel}
use Rattle.kernel_model.specs.Running.{ThreadRuns}
use Rattle.kernel_model.specs.Dispatching.{dispatched, dispatched_context}
use Rattle.kernel_model.specs.Ending.{ended, is_last, exited, OwnsNone}
use Rattle.kernel_model.specs.declared.ends.AppEnd.TheVariants.{Done}
use Rattle.thread_laws.proofs.ExitedLemmas.{exited_settled}
use Rattle.kernel_model.specs.Sync.{own_app, owns, unlocked, given_up, all_handed_over}
use Rattle.sync_laws.specs.Laws.{IsHandedOver}
use Rattle.sync_laws.proofs.SyncRules.{hands_more, all_handed_stay_settled}
use Rattle.load_model.specs.Domains.{Domain}
use Rattle.trace_model.specs.declared.records.Record.TheVariants.{Exit}
use Rattle.node_model.specs.Systems.{System}
use Rattle.node_model.specs.Entries.{Exits, work, who_runs, exits}
use Rattle.node_model.specs.Steps.{by_turn}
use Rattle.node_model.specs.Sound.{IsSoundKernel}
use Rattle.node_model.specs.Kept.{Own, of_app}
use Rattle.node_model.specs.Laws.{IsSafe}
use Rattle.node_laws.specs.Facts.{Given}
use Rattle.node_laws.specs.Steps.{TurnLaw}
use Rattle.node_laws.proofs.Untouched.{IsUntouched, untouched-twice, untouched-row}
use Rattle.node_laws.proofs.Calls.{IsCalling, calling, own_of, own-thread, untouched-runs}
use Rattle.node_laws.proofs.Ended.{stopped_app, ended-running, sound-ended, untouched-ended}
use Rattle.node_laws.proofs.Exiting.{left, sound-left, told-exit}
use Rattle.node_laws.proofs.Sharing.{IsShifted, IsOwnApp, own-app, shifted-all, shifted-twice, shifted-handed, sound-shifted}

-- ---- each that it owns

shifts-more : (own : Own) (k j : Kernel) (n : ℕ) → IsOwnApp own (own_app k) → ThreadRuns k → n < 4 → IsHandedOver k j n → (b : Bool)
    → IsShifted own j (cond b (unlocked j n) j)
shifts-more own k j n o r ln h true =
    shifted-handed own j (own_app j) n (waiters_of j (own_app j) n) (subst (λ (t : ℕ). IsOwnApp own (app_of t)) (sym h.running) o)
    h.settled (let l = r.thread in let e = h.running in omega arith) ln refl
shifts-more own k j n o r ln h false = shifted-all own j

shifted-all-handed : (own : Own) (k : Kernel) → IsOwnApp own (own_app k) → IsSettledKernel k → ThreadRuns k
    → IsShifted own k (all_handed_over k)
unfolding all_handed_over
shifted-all-handed own k o h r =
    let h0 : IsHandedOver k k 0 = record { settled = h; running = refl; in_module = refl; given = λ i l. absurd (omega arith) } in
    let k1 : Kernel = given_up k 0 in
    let h1 : IsHandedOver k k1 1 = hands_more k k 0 r (omega arith) h0 (owns k 0) refl in
    let k2 : Kernel = given_up k1 1 in
    let h2 : IsHandedOver k k2 2 = hands_more k k1 1 r (omega arith) h1 (owns k1 1) refl in
    let k3 : Kernel = given_up k2 2 in
    let h3 : IsHandedOver k k3 3 = hands_more k k2 2 r (omega arith) h2 (owns k2 2) refl in
    shifted-twice own k k1 _ (shifts-more own k k 0 o r (omega arith) h0 (owns k 0))
    (shifted-twice own k1 k2 _ (shifts-more own k k1 1 o r (omega arith) h1 (owns k1 1))
    (shifted-twice own k2 k3 _ (shifts-more own k k2 2 o r (omega arith) h2 (owns k2 2))
    (shifts-more own k k3 3 o r (omega arith) h3 (owns k3 3))))

-- ---- the exit

exit-by : Given → (s : System) (d : Domain) (pick : Option ℕ) (j : Kernel) → IsCalling s d EXITS → IsShifted (own_of s) s.kernel j
    → IsSoundKernel j s.placed s.steps → ThreadRuns j → IsSettledKernel (exited j) → (b : Bool) → is_last j ≡ b
    → IsSafe s (by_turn s (record {
      kernel = dispatched (cond b (ended j (app_of (running j)) Done) (left j)) pick;
      context =
          dispatched_context (cond b (ended j (app_of (running j)) Done) (left j)) pick;
      shown =
          Exit (s.steps + 1) (who_runs s.kernel) (is_last j);
    }))
unfolding exited
exit-by laws s d pick j x shift sound r settled true e =
    subst (λ (k : Kernel). IsSafe s
    (by_turn s (record {
      kernel = dispatched k pick;
      context = dispatched_context k pick;
      shown =
          Exit (s.steps + 1) (who_runs s.kernel) (is_last j);
    })))
    (sym (ended-running j Done))
    (told-exit laws s d pick (stopped_app j Done) (is_last j) x (sound-ended j s.placed s.steps Done sound r)
    record { no_thread = refl; no_module = r.no_module }
    (untouched-twice (own_of s) s.kernel j (stopped_app j Done) shift.untouched
    (subst (λ (t : ℕ). IsUntouched (of_app (app_of t)) j (stopped_app j Done)) shift.words.running (untouched-ended j Done))))
exit-by laws s d pick j x shift sound r settled false e =
    told-exit laws s d pick (left j) (is_last j) x
    (sound-left j s.placed s.steps sound r (subst (λ (k : Kernel). IsSettledKernel k) (cond-false (is_last j) _ _ e) settled) e)
    record { no_thread = refl; no_module = r.no_module }
    (untouched-twice (own_of s) s.kernel j (left j) shift.untouched
    (untouched-twice (own_of s) j (with_thread j (running j) empty_row) (left j)
    (untouched-row (own_of s) j (running j) empty_row (ap (own_of s).threads shift.words.running ∙ own-thread s))
    (untouched-runs (own_of s) (with_thread j (running j) empty_row) none)))

pub exit-owning : Given → (s : System) (d : Domain) (pick : Option ℕ) → IsCalling s d EXITS
    → IsSafe s (by_turn s (exits (work s pick)))
unfolding exited
exit-owning laws s d pick x =
    let k : Kernel = s.kernel in
    let j : Kernel = all_handed_over k in
    let h : IsHandedOver k j 4 = all_handed_stay_settled k x.sound.kernel.settled x.runs in
    let shift : IsShifted (own_of s) k j = shifted-all-handed (own_of s) k (own-app (own_app k)) x.sound.kernel.settled x.runs in
    let r : ThreadRuns j = record {
      thread = subst (λ (t : ℕ). t < 32) (sym h.running) x.runs.thread;
      no_module = h.in_module
          ∙ x.runs.no_module;
    } in
    let none : OwnsNone j = subst (λ (t : ℕ). (i : ℕ) → i < 4 → owner_of j (app_of t) i ≢ number_of t) (sym h.running) h.given in
    exit-by laws s d pick j x shift (sound-shifted (own_of s) k j s.placed s.steps x.sound.kernel shift h.settled) r
    (exited_settled j h.settled r none) (is_last j) refl

pub exit-turn : Given → TurnLaw Exits
exit-turn laws s pick see h few r good at =
    exit-owning laws s good.domain pick (calling laws s see h r good (omega arith, omega arith))
