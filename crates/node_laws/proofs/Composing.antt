-- Each step, with its interrupts, from the laws of its cases.
use Rattle.std.proofs.Common.{◌≡◌, ℕ, zero, suc, ◌+◌, ◌*◌, ◌<◌, ◌≤◌, Bool, true, false, eqb, cond, List, [], ◌∷◌, refl, sym, ap, ◌∙◌, subst, inl, inr, arith, Option, None, Some}
use Rattle.std.specs.List.{find, AllByRecursion}
use Rattle.std.specs.Int.{bit_at}
use Rattle.std.proofs.lemmas.Bool.{cases_lt, cond-false, ne_eqb}
use Rattle.msp_encode.specs.declared.instr.Instr.{Instr}
use Rattle.machine_model.specs.Context.{reg}
use Rattle.kernel_model.specs.declared.map.TheConstants.{FIRST_ROUTINE, IDLE}
use Rattle.kernel_model.specs.declared.entries.TheConstants.{FIRST_ENTRY}
use Rattle.kernel_model.specs.Kernel.{Kernel}
use Rattle.kernel_model.specs.Words.{running}
use Rattle.kernel_model.specs.Running.{ThreadRuns, NoneRuns, idle_context}
use Rattle.trace_model.specs.declared.scripts.Script.{Script}
use Rattle.machine_model.specs.Accepting.{allows_interrupts}
use Rattle.node_model.specs.Systems.{System, seen}
use Rattle.node_model.specs.Entries.{Call, calls, entry_address}
use Rattle.node_model.specs.Steps.{Case, Accepts, IsIdle, Enters, Serves, OverBudget, Runs, case_of, case_by_line, case_at, highest_line, lines_down, pending, entry_at, routine_at, by_case, step_of, instruction, fetched, with_raised, step}
use Rattle.trace_model.specs.Draws.{raised_at, pick_at}
use Rattle.node_model.specs.Runs.{next}
use Rattle.node_model.specs.Sound.{IsSound, IsRunning, IsServing, IsGoodFor, AThread, Nothing, Interrupted, IdleInterrupted, AModule}
use Rattle.node_model.specs.Laws.{IsSeen, IsSafe, StepLaw}
use Rattle.node_model.specs.Nodes.{most_steps, NextLaw}
use Rattle.node_laws.specs.Facts.{Given}
use Rattle.node_laws.specs.Steps.{TurnLaws}
use Rattle.node_laws.proofs.Seeing.{sees}
use Rattle.node_laws.proofs.Stepping.{thread-steps, thread-facts, IsThread}
use Rattle.node_laws.proofs.Contexts.{at-entry}
use Rattle.node_laws.proofs.Casing.{idle-safe, enters-safe, enters-at, runs-below, named, StandsAt, find-none, entry-least}
use Rattle.node_laws.proofs.Interrupting.{accept-safe}
use Rattle.node_laws.proofs.Routines.{serve-safe}
use Rattle.node_model.specs.Laws.{ModuleStepLaw}
use Rattle.node_laws.proofs.Idling.{accept-idle, serve-idle}
use Rattle.node_laws.proofs.Raising.{raised-sound}

-- ---- the line that is accepted

find-below : (p : ℕ → Bool) (xs : List ℕ) (n : ℕ) → AllByRecursion (λ x. x < 14) xs → find p xs ≡ Some n → n < 14
find-below p [] n h e = absurd (cc)
find-below p (x ∷ xs) n h e = by (p x) e (λ f. find-below p xs n h.1 f)
  where
    by : (b : Bool) → cond b (Some x) (find p xs) ≡ Some n → (find p xs ≡ Some n → n < 14) → n < 14
    by true e next = subst (λ (o : Option ℕ). is-below o) e h.0
      where
        is-below : Option ℕ → Type 0
        is-below None = Unit {0}
        is-below (Some x) = x < 14
    by false e next = next e

all-below : AllByRecursion (λ (x : ℕ). x < 14) lines_down
all-below = (
  omega arith,
  (
    omega arith,
    (
      omega arith,
      (
        omega arith,
        (
          omega arith,
          (
            omega arith,
            (
              omega arith,
              (
                omega arith,
                (omega arith, (omega arith, (omega arith, (omega arith, (omega arith, (omega arith, tt)))))),
              ),
            ),
          ),
        ),
      ),
    ),
  ),
)

accepted-below : (k : Kernel) (b : Bool) (n : ℕ) → cond b (highest_line k) None ≡ Some n → n < 14
accepted-below k true n e = find-below (λ x. eqb (bit_at (pending k) x) 1) lines_down n all-below e
accepted-below k false n e = absurd (cc)

-- ---- the routine that PC is at

pub routine-found : (l : ℕ) → l < 14 → routine_at (FIRST_ROUTINE + 2 * l) ≡ Some l
routine-found zero h = refl
routine-found (suc zero) h = refl
routine-found (suc (suc zero)) h = refl
routine-found (suc (suc (suc zero))) h = refl
routine-found (suc (suc (suc (suc zero)))) h = refl
routine-found (suc (suc (suc (suc (suc zero))))) h = refl
routine-found (suc (suc (suc (suc (suc (suc zero)))))) h = refl
routine-found (suc (suc (suc (suc (suc (suc (suc zero))))))) h = refl
routine-found (suc (suc (suc (suc (suc (suc (suc (suc zero)))))))) h = refl
routine-found (suc (suc (suc (suc (suc (suc (suc (suc (suc zero))))))))) h = refl
routine-found (suc (suc (suc (suc (suc (suc (suc (suc (suc (suc zero)))))))))) h = refl
routine-found (suc (suc (suc (suc (suc (suc (suc (suc (suc (suc (suc zero))))))))))) h = refl
routine-found (suc (suc (suc (suc (suc (suc (suc (suc (suc (suc (suc (suc zero)))))))))))) h = refl
routine-found (suc (suc (suc (suc (suc (suc (suc (suc (suc (suc (suc (suc (suc zero))))))))))))) h = refl
routine-found (suc (suc (suc (suc (suc (suc (suc (suc (suc (suc (suc (suc (suc (suc l)))))))))))))) h = absurd (omega arith)

no-entry : (l : ℕ) → entry_at (FIRST_ROUTINE + 2 * l) ≡ None
no-entry l = find-none (λ c. eqb (entry_address c) (FIRST_ROUTINE + 2 * l)) calls
    (λ c. ne_eqb (entry_address c) (FIRST_ROUTINE + 2 * l) (λ e. omega (arith, (entry-least c).1)))

serves-at : (k : Kernel) (c : List ℕ) (s : IsServing c) → case_of k c ≡ Serves s.line
unfolding case_of
serves-at k c s =
    ap (λ (r : ℕ). case_by_line k (reg c 0) (cond (allows_interrupts r) (highest_line k) None)) s.cleared
    ∙ ap (λ (pc : ℕ). case_by_line k pc None) s.at
    ∙ cond-false (eqb (FIRST_ROUTINE + 2 * s.line) IDLE) IsIdle _ (ne_eqb (FIRST_ROUTINE + 2 * s.line) IDLE (λ e. omega arith))
    ∙ ap (λ (o : Option Call). case_at k o (routine_at (FIRST_ROUTINE + 2 * s.line))) (no-entry s.line)
    ∙ ap (λ (o : Option ℕ). case_at k None o) (routine-found s.line s.number)

by-line : (k : Kernel) (c : List ℕ)
    → case_of k c ≡ case_by_line k (reg c 0) (cond (allows_interrupts (reg c 2)) (highest_line k) None)
unfolding case_of
by-line k c = refl

-- ---- the step

-- a thread runs, and a line is accepted or none is
thread-by : Given → TurnLaws → (s : System) (pick : Option ℕ) → IsSeen s → IsSound s → s.steps < most_steps → ThreadRuns s.kernel
    → IsGoodFor s.kernel.apps s.placed (running s.kernel) s.context
    → (o : Option ℕ) → ((n : ℕ) → o ≡ Some n → n < 14) → case_of s.kernel s.context ≡ case_by_line s.kernel (reg s.context 0) o
    → IsSafe s (step_of s pick)
thread-by laws turns s pick see h few r good (Some n) below e =
    subst (λ (c : Case). IsSafe s (by_case s pick c)) (sym e) (accept-safe laws s n see h r good (below n refl))
thread-by laws turns s pick see h few r good None below e = elim (cases_lt (reg s.context 0) FIRST_ENTRY) [
  | inl l ↦ subst (λ (c : Case). IsSafe s (by_case s pick c)) (sym (e ∙ runs-below s.kernel (reg s.context 0) r l))
      (thread-steps laws s see h r good l)
  | inr u ↦ entry u
]
  where
    entry : FIRST_ENTRY ≤ reg s.context 0 → IsSafe s (step_of s pick)
    entry u =
        let f : IsThread s good.domain = thread-facts laws s good.domain see h r good.placed in
        let at : StandsAt (reg s.context 0) =
        named good.domain.object.kind (reg s.context 0) f.kind
        (at-entry laws good.domain _ _ (seen s) s.context f.stands good.good u) in
        subst (λ (c : Case). IsSafe s (by_case s pick c)) (sym (e ∙ enters-at s.kernel (reg s.context 0) at.entry at.at))
        (enters-safe turns s pick at.entry see h few r good at.at at.for_app)

-- nothing runs
idle-by : (s : System) (pick : Option ℕ) → IsSeen s → IsSound s → NoneRuns s.kernel → s.context ≡ idle_context → (o : Option ℕ)
    → ((n : ℕ) → o ≡ Some n → n < 14)
    → case_of s.kernel s.context ≡ case_by_line s.kernel (reg s.context 0) o → IsSafe s (step_of s pick)
idle-by s pick see h r c (Some n) below e =
    subst (λ (x : Case). IsSafe s (by_case s pick x)) (sym e) (accept-idle s n see h r c (below n refl))
idle-by s pick see h r c None below e =
    subst (λ (x : Case). IsSafe s (by_case s pick x)) (sym (e ∙ ap (λ (x : List ℕ). case_by_line s.kernel (reg x 0) None) c))
    (idle-safe s pick h r c)

by-who : Given → TurnLaws → ModuleStepLaw → (s : System) (pick : Option ℕ) → IsSeen s → IsSound s → s.steps < most_steps
    → IsRunning s.memory s.context s.kernel s.placed → IsSafe s (step_of s pick)
by-who laws turns modules s pick see h few (AThread r good) =
    thread-by laws turns s pick see h few r good _ (accepted-below s.kernel (allows_interrupts (reg s.context 2)))
    (by-line s.kernel s.context)
by-who laws turns modules s pick see h few (Nothing r e) =
    idle-by s pick see h r e _ (accepted-below s.kernel (allows_interrupts (reg s.context 2))) (by-line s.kernel s.context)
by-who laws turns modules s pick see h few (Interrupted r serving i) =
    subst (λ (c : Case). IsSafe s (by_case s pick c)) (sym (serves-at s.kernel s.context serving))
    (serve-safe laws s pick serving.line see h r serving i serving.number serving.at)
by-who laws turns modules s pick see h few (IdleInterrupted r serving e) =
    subst (λ (c : Case). IsSafe s (by_case s pick c)) (sym (serves-at s.kernel s.context serving))
    (serve-idle s pick serving.line h r serving e serving.number serving.at)
by-who laws turns modules s pick see h few (AModule l good) = modules s pick see h few l good

pub step-safe : Given → TurnLaws → ModuleStepLaw → StepLaw
step-safe laws turns modules s pick h few = by-who laws turns modules s pick (sees s h) h few h.running

-- ---- the next step of a run

made-by : (s : System) (o : Option (Instr × ℕ)) → (instruction s o).system.steps ≡ s.steps + 1
made-by s None = refl
made-by s (Some x) = refl

pub made : (s : System) (pick : Option ℕ) (c : Case) → (by_case s pick c).system.steps ≡ s.steps + 1
made s pick (Accepts n) = refl
made s pick IsIdle = refl
made s pick (Enters c) = refl
made s pick (Serves n) = refl
made s pick OverBudget = refl
made s pick Runs = made-by s (fetched (seen s) (reg s.context 0))

pub next-sound : StepLaw → (t : Script) → NextLaw t
unfolding step
next-sound law t s h few =
    let raised : ℕ = raised_at t (s.steps + 1) in
    let s1 : System = with_raised s raised in
    let pick : Option ℕ = pick_at t (s.steps + 1) in
    let x : IsSafe s1 (step_of s1 pick) = law s1 pick (raised-sound s raised h) few in
    record {
      sound = x.sound;
      confined = x.confined;
      keeps = x.keeps;
      spelled = x.spelled;
      made = made s1 pick (case_of s1.kernel s1.context);
    }
