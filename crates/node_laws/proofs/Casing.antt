-- Which case a step is, and the step by its cases.
use Rattle.std.proofs.Common.{◌≡◌, ℕ, ◌+◌, ◌*◌, ◌%◌, ◌<◌, ◌≤◌, ◌⊎◌, Bool, true, false, not, eqb, List, [], ◌∷◌, refl, ap, ◌∙◌, inl, inr, arith, Option, None, Some}
use Rattle.std.specs.Prelude.{◌&&◌}
use Rattle.std.specs.List.{find}
use Rattle.std.proofs.lemmas.Bool.{cases_eq, cond-false, cond_both, ne_eqb, and_left}
use Rattle.kernel_model.specs.declared.map.TheConstants.{FIRST_ROUTINE, IDLE}
use Rattle.kernel_model.specs.declared.entries.TheConstants.{BROADCAST, CALLS, EMITS, EXITS, FIRST_ENTRY, IDENTITY, LAST_ENTRY, LINE, LOCK, MODULE_CALL, PRIORITY, SIGNAL, SLEEP, SPAWN, TICKS, UNLOCK, WAIT, YIELD}
use Rattle.kernel_model.specs.declared.kinds.Kind.{Kind}
use Rattle.kernel_model.specs.declared.kinds.Kind.TheVariants.{App, Module}
use Rattle.code_model.specs.Rules.{IsJumpEntry, IsCallEntry}
use Rattle.machine_model.specs.Context.{reg}
use Rattle.kernel_model.specs.Kernel.{Kernel}
use Rattle.kernel_model.specs.Words.{none, running}
use Rattle.kernel_model.specs.Running.{ThreadRuns, NoneRuns, idle_context}
use Rattle.node_model.specs.Systems.{System}
use Rattle.node_model.specs.Entries.{Call, StoreFault, StackFault, Goes, Calls, Exits, Spawn, Yield, Sleep, Priority, Self, Ticks, Lock, Unlock, Wait, Signal, Broadcast, Line, ModuleCall, Emits, Leave, calls, entry_address, is_for_app, is_for_module, has_row, module_runs, turn_at, nothing_happens, work}
use Rattle.trace_model.specs.declared.records.FaultKind.TheVariants.{Store, Stack}
use Rattle.node_model.specs.Steps.{IsIdle, Enters, Runs, OverBudget, case_by_line, case_at, case_in_code, is_over_budget, lines_down, entry_at, routine_at, by_case, by_turn}
use Rattle.node_model.specs.Sound.{IsSound, IsGoodFor, Nothing as NothingRuns}
use Rattle.node_model.specs.Laws.{IsSeen, IsSafe}
use Rattle.node_model.specs.Nodes.{most_steps}
use Rattle.node_laws.specs.Facts.{Given}
use Rattle.node_laws.specs.Steps.{TurnLaw, TurnLaws}
use Rattle.node_laws.proofs.Stepping.{later, no-module}
use Rattle.node_laws.proofs.Calls.{calling, yields-safe}
use Rattle.node_laws.proofs.Faulting.{faults-safe, jump-safe, call-safe, emits-safe, self-safe, priority-safe}
use Rattle.node_laws.proofs.Spawning.{spawn-safe}

-- ---- what is at an address

pub find-none : {X : Type 0} (p : X → Bool) (xs : List X) → ((x : X) → p x ≡ false) → find p xs ≡ None
find-none p [] h = refl
find-none p (x ∷ xs) h = cond-false (p x) (Some x) (find p xs) (h x) ∙ find-none p xs h

pub entry-least : (e : Call) → (FIRST_ENTRY ≤ entry_address e) × (entry_address e ≤ LAST_ENTRY)
entry-least StoreFault = (omega arith, omega arith)
entry-least StackFault = (omega arith, omega arith)
entry-least Goes = (omega arith, omega arith)
entry-least Calls = (omega arith, omega arith)
entry-least Exits = (omega arith, omega arith)
entry-least Spawn = (omega arith, omega arith)
entry-least Yield = (omega arith, omega arith)
entry-least Sleep = (omega arith, omega arith)
entry-least Priority = (omega arith, omega arith)
entry-least Self = (omega arith, omega arith)
entry-least Ticks = (omega arith, omega arith)
entry-least Lock = (omega arith, omega arith)
entry-least Unlock = (omega arith, omega arith)
entry-least Wait = (omega arith, omega arith)
entry-least Signal = (omega arith, omega arith)
entry-least Broadcast = (omega arith, omega arith)
entry-least Line = (omega arith, omega arith)
entry-least ModuleCall = (omega arith, omega arith)
entry-least Emits = (omega arith, omega arith)
entry-least Leave = (omega arith, omega arith)

pub entry-found : (e : Call) → entry_at (entry_address e) ≡ Some e
entry-found StoreFault = refl
entry-found StackFault = refl
entry-found Goes = refl
entry-found Calls = refl
entry-found Exits = refl
entry-found Spawn = refl
entry-found Yield = refl
entry-found Sleep = refl
entry-found Priority = refl
entry-found Self = refl
entry-found Ticks = refl
entry-found Lock = refl
entry-found Unlock = refl
entry-found Wait = refl
entry-found Signal = refl
entry-found Broadcast = refl
entry-found Line = refl
entry-found ModuleCall = refl
entry-found Emits = refl
entry-found Leave = refl

entry-row : (e : Call) → routine_at (entry_address e) ≡ None
entry-row StoreFault = refl
entry-row StackFault = refl
entry-row Goes = refl
entry-row Calls = refl
entry-row Exits = refl
entry-row Spawn = refl
entry-row Yield = refl
entry-row Sleep = refl
entry-row Priority = refl
entry-row Self = refl
entry-row Ticks = refl
entry-row Lock = refl
entry-row Unlock = refl
entry-row Wait = refl
entry-row Signal = refl
entry-row Broadcast = refl
entry-row Line = refl
entry-row ModuleCall = refl
entry-row Emits = refl
entry-row Leave = refl

not-idle : (e : Call) → eqb (entry_address e) IDLE ≡ false
not-idle StoreFault = refl
not-idle StackFault = refl
not-idle Goes = refl
not-idle Calls = refl
not-idle Exits = refl
not-idle Spawn = refl
not-idle Yield = refl
not-idle Sleep = refl
not-idle Priority = refl
not-idle Self = refl
not-idle Ticks = refl
not-idle Lock = refl
not-idle Unlock = refl
not-idle Wait = refl
not-idle Signal = refl
not-idle Broadcast = refl
not-idle Line = refl
not-idle ModuleCall = refl
not-idle Emits = refl
not-idle Leave = refl

-- the entry that an application's context stands at
pub record StandsAt (pc : ℕ) : Type 0 where
  pub entry : Call
  pub at : pc ≡ entry_address entry
  pub for_app : is_for_app entry ≡ true

call-named : (x : ℕ) → CALLS ≤ x → x ≤ EMITS → x % 2 ≡ 0 → StandsAt x
call-named x l u e =
    elim (cases_eq x CALLS) [
      | inl h ↦ record { entry = Calls; at = h; for_app = refl }
      | inr nf006 ↦
          elim (cases_eq x EXITS) [
            | inl h ↦ record { entry = Exits; at = h; for_app = refl }
            | inr nf008 ↦
                elim (cases_eq x SPAWN) [
                  | inl h ↦ record { entry = Spawn; at = h; for_app = refl }
                  | inr nf00a ↦
                      elim (cases_eq x YIELD) [
                        | inl h ↦ record { entry = Yield; at = h; for_app = refl }
                        | inr nf00c ↦
                            elim (cases_eq x SLEEP) [
                              | inl h ↦ record { entry = Sleep; at = h; for_app = refl }
                              | inr nf00e ↦
                                  elim (cases_eq x PRIORITY) [
                                    | inl h ↦ record { entry = Priority; at = h; for_app = refl }
                                    | inr nf010 ↦
                                        elim (cases_eq x IDENTITY) [
                                          | inl h ↦ record { entry = Self; at = h; for_app = refl }
                                          | inr nf012 ↦
                                              elim (cases_eq x TICKS) [
                                                | inl h ↦ record { entry = Ticks; at = h; for_app = refl }
                                                | inr nf014 ↦
                                                    elim (cases_eq x LOCK) [
                                                      | inl h ↦ record { entry = Lock; at = h; for_app = refl }
                                                      | inr nf016 ↦
                                                          elim (cases_eq x UNLOCK) [
                                                            | inl h ↦ record { entry = Unlock; at = h; for_app = refl }
                                                            | inr nf018 ↦
                                                                elim (cases_eq x WAIT) [
                                                                  | inl h ↦ record { entry = Wait; at = h; for_app = refl }
                                                                  | inr nf01a ↦
                                                                      elim (cases_eq x SIGNAL) [
                                                                        | inl h ↦ record { entry = Signal; at = h; for_app = refl }
                                                                        | inr nf01c ↦
                                                                            elim (cases_eq x BROADCAST) [
                                                                              | inl h ↦ record {
                                                                                entry = Broadcast;
                                                                                at = h;
                                                                                for_app = refl;
                                                                              }
                                                                              | inr nf01e ↦
                                                                                  elim (cases_eq x LINE) [
                                                                                    | inl h ↦ record {
                                                                                      entry = Line;
                                                                                      at = h;
                                                                                      for_app = refl;
                                                                                    }
                                                                                    | inr nf020 ↦
                                                                                        elim (cases_eq x MODULE_CALL) [
                                                                                          | inl h ↦ record {
                                                                                            entry = ModuleCall;
                                                                                            at = h;
                                                                                            for_app = refl;
                                                                                          }
                                                                                          | inr nf022 ↦
                                                                                              record {
                                                                                                entry = Emits;
                                                                                                at = omega
                                                                                                    arith;
                                                                                                for_app = refl;
                                                                                              }
                                                                                        ]
                                                                                  ]
                                                                            ]
                                                                      ]
                                                                ]
                                                          ]
                                                    ]
                                              ]
                                        ]
                                  ]
                            ]
                      ]
                ]
          ]
    ]

pub named : (k : Kind) (x : ℕ) → k ≡ App → IsJumpEntry k x ⊎ IsCallEntry k x → StandsAt x
named App x e (inl (inl h)) = record { entry = StoreFault; at = h; for_app = refl }
named App x e (inl (inr (inl h))) = record { entry = StackFault; at = h; for_app = refl }
named App x e (inl (inr (inr h))) = record { entry = Goes; at = h; for_app = refl }
named App x e (inr h) = call-named x h.0 h.1 h.2
named Module x e h = absurd (cc)

-- ---- which case it is

pub in-code : (k : Kernel) → ThreadRuns k → case_in_code k ≡ Runs
in-code k r = cond-false (is_over_budget k) OverBudget Runs (and_left (module_runs k) _ (no-module k r))

pub runs-below : (k : Kernel) (pc : ℕ) → ThreadRuns k → pc < FIRST_ENTRY → case_by_line k pc None ≡ Runs
runs-below k pc r l =
    cond-false (eqb pc IDLE) IsIdle _ (ne_eqb pc IDLE (λ e. omega arith))
    ∙ ap (λ (o : Option Call). case_at k o (routine_at pc))
    (find-none (λ c. eqb (entry_address c) pc) calls (λ c. ne_eqb (entry_address c) pc (λ e. omega (arith, (entry-least c).0))))
    ∙ ap (λ (o : Option ℕ). case_at k None o)
    (find-none (λ n. eqb (FIRST_ROUTINE + 2 * n) pc) lines_down (λ n. ne_eqb (FIRST_ROUTINE + 2 * n) pc (λ e. omega arith)))
    ∙ in-code k r

pub enters-at : (k : Kernel) (pc : ℕ) (e : Call) → pc ≡ entry_address e → case_by_line k pc None ≡ Enters e
enters-at k pc e h =
    ap (λ (x : ℕ). case_by_line k x None) h
    ∙ cond-false (eqb (entry_address e) IDLE) IsIdle _ (not-idle e)
    ∙ ap (λ (o : Option Call). case_at k o (routine_at (entry_address e))) (entry-found e)

-- ---- the step

has-a-row : (k : Kernel) (e : Call) → ThreadRuns k → is_for_app e ≡ true → has_row k e ≡ true
has-a-row k e r h =
    cond-false (module_runs k) (is_for_module e) _ (no-module k r)
    ∙ ap (λ (b : Bool). not b && is_for_app e) (ne_eqb (running k) none (λ q. let l = r.thread in omega arith))
    ∙ h

pub enters-safe : TurnLaws → (s : System) (pick : Option ℕ) (e : Call) → IsSeen s → IsSound s → s.steps < most_steps
    → (r : ThreadRuns s.kernel) → IsGoodFor s.kernel.apps s.placed (running s.kernel) s.context
    → reg s.context 0 ≡ entry_address e → is_for_app e ≡ true → IsSafe s (by_case s pick (Enters e))
enters-safe turns s pick e see h few r good at app =
    cond_both (has_row s.kernel e) (turn_at e (work s pick)) (nothing_happens (work s pick)) (λ t. IsSafe s (by_turn s t))
    (λ _. turns e app s pick see h few r good at) (λ f. absurd (cc (has-a-row s.kernel e r app, f)))

pub idle-safe : (s : System) (pick : Option ℕ) → IsSound s → NoneRuns s.kernel → s.context ≡ idle_context
    → IsSafe s (by_case s pick IsIdle)
idle-safe s pick h r e = record {
  sound = record { code = h.code; kernel = later s.kernel s.placed s.steps h.kernel; running = NothingRuns r e };
  confined = record { at = ap (λ (c : List ℕ). reg c 0) e; none = r };
  keeps = tt;
  spelled = tt;
}

-- ---- the turns

-- what the turns of the later calls are proved to be
pub turns : Given → TurnLaw Exits → TurnLaw Sleep → TurnLaw Ticks → TurnLaw Lock → TurnLaw Unlock → TurnLaw Wait → TurnLaw Signal
    → TurnLaw Broadcast → TurnLaw Line → TurnLaw ModuleCall → TurnLaws
turns laws exit sleep ticks lock unlock wait signal broadcast line modules StoreFault app s pick see h few r good at =
    faults-safe laws s good.domain pick Store (reg s.context 4) (calling laws s see h r good (omega arith, omega arith))
    (λ a. (a, refl))
turns laws exit sleep ticks lock unlock wait signal broadcast line modules StackFault app s pick see h few r good at =
    faults-safe laws s good.domain pick Stack (reg s.context 1) (calling laws s see h r good (omega arith, omega arith))
    (λ a. (a, refl))
turns laws exit sleep ticks lock unlock wait signal broadcast line modules Goes app s pick see h few r good at =
    jump-safe laws s good.domain pick Goes (calling laws s see h r good (omega arith, omega arith)) (λ a. inl a)
turns laws exit sleep ticks lock unlock wait signal broadcast line modules Calls app s pick see h few r good at =
    jump-safe laws s good.domain pick Calls (calling laws s see h r good (omega arith, omega arith)) (λ a. inr a)
turns laws exit sleep ticks lock unlock wait signal broadcast line modules Exits app s pick see h few r good at =
    exit s pick see h few r good at
turns laws exit sleep ticks lock unlock wait signal broadcast line modules Spawn app s pick see h few r good at =
    call-safe laws s good.domain pick Spawn (calling laws s see h r good (omega arith, omega arith)) (omega arith)
    (spawn-safe laws s good.domain pick (calling laws s see h r good (omega arith, omega arith)) (omega arith))
turns laws exit sleep ticks lock unlock wait signal broadcast line modules Yield app s pick see h few r good at =
    call-safe laws s good.domain pick Yield (calling laws s see h r good (omega arith, omega arith)) (omega arith)
    (yields-safe laws s good.domain pick (calling laws s see h r good (omega arith, omega arith)) (omega arith))
turns laws exit sleep ticks lock unlock wait signal broadcast line modules Priority app s pick see h few r good at =
    call-safe laws s good.domain pick Priority (calling laws s see h r good (omega arith, omega arith)) (omega arith)
    (priority-safe laws s good.domain pick (calling laws s see h r good (omega arith, omega arith)) (omega arith))
turns laws exit sleep ticks lock unlock wait signal broadcast line modules Self app s pick see h few r good at =
    call-safe laws s good.domain pick Self (calling laws s see h r good (omega arith, omega arith)) (omega arith)
    (self-safe laws s good.domain pick (calling laws s see h r good (omega arith, omega arith)) (omega arith))
turns laws exit sleep ticks lock unlock wait signal broadcast line modules Emits app s pick see h few r good at =
    call-safe laws s good.domain pick Emits (calling laws s see h r good (omega arith, omega arith)) (omega arith)
    (emits-safe laws s good.domain pick (calling laws s see h r good (omega arith, omega arith)) (omega arith))
turns laws exit sleep ticks lock unlock wait signal broadcast line modules Sleep app s pick see h few r good at =
    sleep s pick see h few r good at
turns laws exit sleep ticks lock unlock wait signal broadcast line modules Ticks app s pick see h few r good at =
    ticks s pick see h few r good at
turns laws exit sleep ticks lock unlock wait signal broadcast line modules Lock app s pick see h few r good at =
    lock s pick see h few r good at
turns laws exit sleep ticks lock unlock wait signal broadcast line modules Unlock app s pick see h few r good at =
    unlock s pick see h few r good at
turns laws exit sleep ticks lock unlock wait signal broadcast line modules Wait app s pick see h few r good at =
    wait s pick see h few r good at
turns laws exit sleep ticks lock unlock wait signal broadcast line modules Signal app s pick see h few r good at =
    signal s pick see h few r good at
turns laws exit sleep ticks lock unlock wait signal broadcast line modules Broadcast app s pick see h few r good at =
    broadcast s pick see h few r good at
turns laws exit sleep ticks lock unlock wait signal broadcast line modules Line app s pick see h few r good at =
    line s pick see h few r good at
turns laws exit sleep ticks lock unlock wait signal broadcast line modules ModuleCall app s pick see h few r good at =
    modules s pick see h few r good at
turns laws exit sleep ticks lock unlock wait signal broadcast line modules Leave app s pick see h few r good at = absurd (cc)
