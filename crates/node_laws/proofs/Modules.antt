-- Each step of a module.
use Rattle.std.proofs.Common.{◌≡◌, ◌≢◌, ℕ, ◌+◌, ◌*◌, ◌/◌, ◌%◌, ◌<◌, ◌≤◌, ◌⊎◌, Bool, true, false, eqb, cond, List, refl, sym, ap, ◌∙◌, subst, inl, inr, arith, Option, None}
use Rattle.std.specs.Prelude.{◌&&◌, nat_le}
use Rattle.std.proofs.lemmas.Bool.{cases_lt, cond-true, cond-false, cond_both, ne_eqb, leb-true, leb-false}
use Rattle.kernel_model.specs.declared.map.TheConstants.{FIRST_ROUTINE, IDLE, KERNEL_STACK, KERNEL_TOP}
use Rattle.kernel_model.specs.declared.entries.TheConstants.{FIRST_ENTRY, TICKS}
use Rattle.kernel_model.specs.declared.kinds.Kind.{Kind}
use Rattle.kernel_model.specs.declared.kinds.Kind.TheVariants.{App, Module}
use Rattle.code_model.specs.Rules.{IsJumpEntry, IsCallEntry}
use Rattle.machine_model.specs.Memory.{word_at, even}
use Rattle.machine_model.specs.Context.{reg, set_reg}
use Rattle.machine_laws.specs.Steady.{IsSteady}
use Rattle.machine_laws.proofs.Registers.{steady-reg, pc_same, reg_other}
use Rattle.kernel_model.specs.Kernel.{Kernel, word_of}
use Rattle.kernel_model.specs.Words.{running_module, tick_number}
use Rattle.kernel_model.specs.declared.rows.SysWord.TheVariants.{Budget}
use Rattle.kernel_model.specs.Running.{running_domain}
use Rattle.load_model.specs.Domains.{Domain}
use Rattle.trace_model.specs.declared.records.Who.{Who}
use Rattle.trace_model.specs.declared.records.FaultKind.TheVariants.{Store, Stack, Jump, Return}
use Rattle.trace_model.specs.declared.records.FaultKind.TheVariants as fault
use Rattle.trace_model.specs.declared.records.Record.TheVariants.{Entry}
use Rattle.machine_model.specs.Accepting.{allows_interrupts}
use Rattle.node_model.specs.Placed.{bits, control_bits}
use Rattle.node_model.specs.Systems.{System, seen, is_mark}
use Rattle.node_model.specs.Entries.{Call, StoreFault, StackFault, Goes, Calls, Ticks, Leave, calls, entry_address, is_for_module, has_row, module_runs, turn_at, nothing_happens, work, Work, who_runs, returning, row, goes_straight, called, faults, with_ticks}
use Rattle.node_model.specs.Steps.{Case, Runs, OverBudget, IsIdle, case_of, case_by_line, case_at, highest_line, by_case, by_turn, step_of, is_over_budget, most_instructions, routine_at, lines_down}
use Rattle.node_model.specs.Sound.{AModule}
use Rattle.node_model.specs.Confined.{IsAtEntry}
use Rattle.node_model.specs.Kept.{StepKeeps}
use Rattle.node_model.specs.Laws.{IsSafe}
use Rattle.node_model.specs.Nodes.{most_steps}
use Rattle.node_laws.specs.Facts.{Given}
use Rattle.node_laws.proofs.Stepping.{later, word-small}
use Rattle.node_laws.proofs.Faulting.{IsJump}
use Rattle.node_laws.proofs.Contexts.{IsMark, mark-of, good-mark, at-entry, returned, steady-returned, pc-returned}
use Rattle.node_laws.proofs.Casing.{enters-at, find-none, entry-least}
use Rattle.node_model.specs.Laws.{ModuleStepLaw}
use Rattle.node_laws.proofs.Within.{IsInModule, in-module, runs-module, who-module, domain-module, module-steps}
use Rattle.node_laws.proofs.Ending.{comes-from-module, leave-safe, module-faults}

-- ---- it goes on at a mark

mark-here : (s : System) (d : Domain) (at : ℕ) → IsInModule s d → is_mark s.placed (running_domain s.kernel) at ≡ true → IsMark d at
mark-here s d at m e = mark-of s.placed (8 + running_module s.kernel) at d m.placed m.is.accepted
    (subst (λ (n : ℕ). is_mark s.placed n at ≡ true) (domain-module s.kernel m.below) e)

straight-on : (s : System) (d : Domain) (c : List ℕ) (e : ℕ) → IsInModule s d → IsAtEntry s (who_runs s.kernel) e
    → IsSteady (bits d) KERNEL_STACK KERNEL_TOP c → IsMark d (reg c 0)
    → IsSafe s (by_turn s (goes_straight s.kernel c (Entry (s.steps + 1) (who_runs s.kernel) e)))
straight-on s d c e m at steady mark = record {
  sound = record {
    code = m.sound.code;
    kernel = later s.kernel s.placed s.steps m.sound.kernel;
    running =
        AModule m.below record { domain = d; placed = m.placed; good = good-mark d KERNEL_STACK KERNEL_TOP c steady m.well mark };
  };
  confined = at;
  keeps = subst (λ (w : Who). StepKeeps w s (record s { context = c; steps = s.steps + 1 })) (sym (who-module s.kernel m.below)) tt;
  spelled = tt;
}

-- ---- jumps

jump-by : (s : System) (d : Domain) (pick : Option ℕ) (e : Call) → IsInModule s d
    → IsAtEntry s (who_runs s.kernel) (entry_address e) → IsJump s (entry_address e) → (b : Bool)
    → is_mark s.placed (running_domain s.kernel) (reg s.context 4) ≡ b
    → IsSafe s (by_turn s (cond b (goes_straight s.kernel (set_reg s.context 0 (reg s.context 4))
    (called (work s pick) (entry_address e))) (faults (work s pick) Jump (reg s.context 4))))
jump-by s d pick e m at jumps true is =
    let to : ℕ = reg s.context 4 in
    let mark : IsMark d to = mark-here s d to m is in
    let there : even to ≡ reg (set_reg s.context 0 to) 0 = sym (pc_same s.context to m.good.steady.context) in
    let here : to ≡ even to = omega (arith, mark.even_at) in
    straight-on s d (set_reg s.context 0 to) (entry_address e) m at
    (steady-reg (bits d) _ _ s.context 0 to m.good.steady (omega arith) (omega arith) (m.good.steady.context.small 4))
    (subst (IsMark d) (here ∙ there) mark)
jump-by s d pick e m at jumps false is =
    module-faults s d pick Jump (reg s.context 4) m record { entry = jumps at; value_is = refl; no_mark = is }

-- ---- the tick number

ticks-by : (s : System) (d : Domain) (pick : Option ℕ) → IsInModule s d → s.steps < most_steps
    → IsAtEntry s (who_runs s.kernel) TICKS → reg s.context 1 + 2 ≤ KERNEL_TOP → (b : Bool)
    → is_mark s.placed (running_domain s.kernel) (word_at (seen s) (reg s.context 1)) ≡ b
    → IsSafe s (by_turn s (cond b (row Ticks (returning (work s pick)))
    (faults (work s pick) Return (word_at (seen s) (reg s.context 1)))))
ticks-by s d pick m few at room true is =
    let to : ℕ = word_at (seen s) (reg s.context 1) in
    let w : Work = returning (work s pick) in
    let c : List ℕ = returned s.context to in
    let ticks : tick_number s.kernel ≤ s.steps = m.sound.kernel.bounded.ticks in
    let mark : IsMark d to = mark-here s d to m is in
    let pc : reg c 0 ≡ to =
    pc-returned (bits d) KERNEL_STACK KERNEL_TOP s.context to m.good.steady room (omega arith) mark.even_at in
    let s0 : IsSteady (bits d) KERNEL_STACK KERNEL_TOP c =
    steady-returned (bits d) KERNEL_STACK KERNEL_TOP s.context to m.good.steady room (omega arith)
    (word-small (seen s) (reg s.context 1) m.see.memory) in
    let v : ℕ = tick_number s.kernel % 65536 in
    let u : ℕ = tick_number s.kernel / 65536 in
    let s1 : IsSteady (bits d) KERNEL_STACK KERNEL_TOP (set_reg c 13 v) =
    steady-reg (bits d) _ _ c 13 v s0 (omega arith) (omega arith) (omega arith) in
    let s2 : IsSteady (bits d) KERNEL_STACK KERNEL_TOP (with_ticks w) =
    steady-reg (bits d) _ _ (set_reg c 13 v) 14 u s1 (omega arith) (omega arith) (omega arith) in
    let s3 : IsSteady (bits d) KERNEL_STACK KERNEL_TOP (set_reg (with_ticks w) 12 0) =
    steady-reg (bits d) _ _ (with_ticks w) 12 0 s2 (omega arith) (omega arith) (omega arith) in
    let there : reg (set_reg (with_ticks w) 12 0) 0 ≡ to = reg_other (with_ticks w) 12 0 0 (omega arith)
    ∙ reg_other (set_reg c 13 v) 14 u 0 (omega arith) ∙ reg_other c 13 v 0 (omega arith) ∙ pc in
    cond_both (module_runs s.kernel) (goes_straight s.kernel (set_reg (with_ticks w) 12 0) (called w TICKS)) _
    (λ t. IsSafe s (by_turn s t))
    (λ _. straight-on s d (set_reg (with_ticks w) 12 0) TICKS m at s3 (subst (IsMark d) (sym there) mark))
    (λ f. absurd (cc (runs-module s.kernel m.below, f)))
ticks-by s d pick m few at room false is =
    module-faults s d pick Return (word_at (seen s) (reg s.context 1)) m
    record { entry = (TICKS, omega arith, at); value_is = refl; no_mark = is }

-- ---- its entries

entry-by : (s : System) (pick : Option ℕ) (e : Call) → running_module s.kernel < 4 → is_for_module e ≡ true
    → case_of s.kernel s.context ≡ case_by_line s.kernel (reg s.context 0) None → reg s.context 0 ≡ entry_address e
    → IsSafe s (by_turn s (turn_at e (work s pick))) → IsSafe s (step_of s pick)
entry-by s pick e l own case at safe =
    let has : has_row s.kernel e ≡ true = cond-true (module_runs s.kernel) (is_for_module e) _ (runs-module s.kernel l) ∙ own in
    subst (λ (c : Case). IsSafe s (by_case s pick c)) (sym (case ∙ enters-at s.kernel (reg s.context 0) e at))
    (cond_both (has_row s.kernel e) (turn_at e (work s pick)) (nothing_happens (work s pick)) (λ t. IsSafe s (by_turn s t))
    (λ _. safe)
    (λ f. absurd (cc (has, f))))

module-entries : (k : Kind) → k ≡ Module → (s : System) (d : Domain) (pick : Option ℕ) → IsInModule s d → s.steps < most_steps
    → IsAtEntry s (who_runs s.kernel) (reg s.context 0) → case_of s.kernel s.context ≡ case_by_line s.kernel (reg s.context 0) None
    → (IsJumpEntry k (reg s.context 0) ⊎ (IsCallEntry k (reg s.context 0) × (reg s.context 1 + 2 ≤ KERNEL_TOP)))
    → (IsJumpEntry d.object.kind (reg s.context 0) ⊎ IsCallEntry d.object.kind (reg s.context 0)) → IsSafe s (step_of s pick)
module-entries App e s d pick m few at case st al = absurd (cc)
module-entries Module e s d pick m few at case (inl (inl h)) al =
    entry-by s pick StoreFault m.below refl case h
    (module-faults s d pick Store (reg s.context 4) m (subst (IsAtEntry s (who_runs s.kernel)) h at, refl))
module-entries Module e s d pick m few at case (inl (inr (inl h))) al =
    entry-by s pick StackFault m.below refl case h
    (module-faults s d pick Stack (reg s.context 1) m (subst (IsAtEntry s (who_runs s.kernel)) h at, refl))
module-entries Module e s d pick m few at case (inl (inr (inr (inl h)))) al =
    entry-by s pick Goes m.below refl case h
    (jump-by s d pick Goes m (subst (IsAtEntry s (who_runs s.kernel)) h at) (λ a. inl a)
    (is_mark s.placed (running_domain s.kernel) (reg s.context 4)) refl)
module-entries Module e s d pick m few at case (inl (inr (inr (inr h)))) al =
    entry-by s pick Leave m.below refl case h (leave-safe s d pick m al h)
module-entries Module e s d pick m few at case (inr ((inl h), room)) al =
    entry-by s pick Calls m.below refl case h
    (jump-by s d pick Calls m (subst (IsAtEntry s (who_runs s.kernel)) h at) (λ a. inr a)
    (is_mark s.placed (running_domain s.kernel) (reg s.context 4)) refl)
module-entries Module e s d pick m few at case (inr ((inr h), room)) al =
    entry-by s pick Ticks m.below refl case h
    (ticks-by s d pick m few (subst (IsAtEntry s (who_runs s.kernel)) h at) room
    (is_mark s.placed (running_domain s.kernel) (word_at (seen s) (reg s.context 1))) refl)

-- ---- which case it is

no-interrupt : (s : System) (d : Domain) → IsInModule s d
    → case_of s.kernel s.context ≡ case_by_line s.kernel (reg s.context 0) None
unfolding case_of
no-interrupt s d m = ap (case_by_line s.kernel (reg s.context 0))
    (cond-false (allows_interrupts (reg s.context 2)) (highest_line s.kernel) None
    (ne_eqb (reg s.context 2 / 8 % 2) 1 (none-so d.object.kind m.kind m.good.steady.status.control)))
  where
    none-so : (k : Kind) → k ≡ Module → reg s.context 2 / 8 % 32 ≡ control_bits k → reg s.context 2 / 8 % 2 ≢ 1
    none-so Module e b q = omega arith
    none-so App e b q = absurd (cc)

in-code-below : (k : Kernel) (pc : ℕ) → pc < FIRST_ENTRY → case_by_line k pc None ≡ cond (is_over_budget k) OverBudget Runs
in-code-below k pc l =
    cond-false (eqb pc IDLE) IsIdle _ (ne_eqb pc IDLE (λ e. omega arith))
    ∙ ap (λ (o : Option Call). case_at k o (routine_at pc))
    (find-none (λ c. eqb (entry_address c) pc) calls (λ c. ne_eqb (entry_address c) pc (λ e. omega (arith, (entry-least c).0))))
    ∙ ap (λ (o : Option ℕ). case_at k None o)
    (find-none (λ n. eqb (FIRST_ROUTINE + 2 * n) pc) lines_down (λ n. ne_eqb (FIRST_ROUTINE + 2 * n) pc (λ e. omega arith)))

code-by : Given → (s : System) (d : Domain) (pick : Option ℕ) → IsInModule s d → reg s.context 0 < FIRST_ENTRY → (b : Bool)
    → nat_le most_instructions (word_of s.kernel Budget) ≡ b → IsSafe s (by_case s pick (cond b OverBudget Runs))
code-by laws s d pick m l true e =
    module-faults s d pick fault.Budget (reg s.context 0) m
    record {
      module_runs = λ q. let b = m.below in omega arith;
      who = refl;
      value_is = refl;
      spent =
          leb-true most_instructions (word_of s.kernel Budget) e;
    }
code-by laws s d pick m l false e = module-steps laws s d m l (leb-false most_instructions (word_of s.kernel Budget) e)

pub module-step : Given → ModuleStepLaw
module-step laws s pick see h few l good =
    let d : Domain = good.domain in
    let m : IsInModule s d = in-module laws s see h l good in
    let case : case_of s.kernel s.context ≡ case_by_line s.kernel (reg s.context 0) None = no-interrupt s d m in
    elim (cases_lt (reg s.context 0) FIRST_ENTRY) [
      | inl below ↦
          subst (λ (c : Case). IsSafe s (by_case s pick c))
          (sym (case ∙ in-code-below s.kernel (reg s.context 0) below
          ∙ ap (λ (b : Bool). cond (b && nat_le most_instructions (word_of s.kernel Budget)) OverBudget Runs)
          (runs-module s.kernel l)))
          (code-by laws s d pick m below (nat_le most_instructions (word_of s.kernel Budget)) refl)
      | inr above ↦
          let al : IsJumpEntry d.object.kind (reg s.context 0) ⊎ IsCallEntry d.object.kind (reg s.context 0) =
          at-entry laws d KERNEL_STACK KERNEL_TOP (seen s) s.context m.stands m.good above in
          module-entries d.object.kind m.kind s d pick m few (comes-from-module s d m al) case
          (laws.entries d KERNEL_STACK KERNEL_TOP (seen s) s.context m.stands m.good above) al
    ]
