-- A module's call ends: it leaves, or it faults.
use Rattle.std.proofs.Common.{◌≡◌, ◌≢◌, ℕ, ◌+◌, ◌<◌, ◌≤◌, ◌⊎◌, Bool, true, false, cond, List, length, get_or, set, refl, sym, ap, ◌∙◌, subst, inl, inr, arith, Option, Some, length-set}
use Rattle.std.proofs.lemmas.Bool.{cases_eq, cond-true, eq-eqb, eqb-false}
use Rattle.std.proofs.lemmas.List.{get_or-set_same, get_or-set_other}
use Rattle.kernel_model.specs.declared.entries.TheConstants.{LEAVE}
use Rattle.kernel_model.specs.declared.kinds.Kind.{Kind}
use Rattle.kernel_model.specs.declared.kinds.Kind.TheVariants.{App, Module}
use Rattle.code_model.specs.Rules.{IsJumpEntry, IsCallEntry}
use Rattle.machine_model.specs.Context.{reg, set_reg}
use Rattle.machine_laws.specs.Steady.{IsSteady}
use Rattle.machine_laws.proofs.Registers.{steady-reg, reg_other}
use Rattle.kernel_model.specs.Kernel.{Kernel, thread_at, free_thread, free_module}
use Rattle.kernel_model.specs.Words.{none, free, running_state, running, running_module, app_of, identity, saved_register}
use Rattle.kernel_model.specs.declared.rows.AppRow.{AppRow}
use Rattle.kernel_model.specs.declared.rows.ModuleRow.{ModuleRow}
use Rattle.kernel_model.specs.declared.rows.ThreadRow.{ThreadRow}
use Rattle.kernel_model.specs.Dispatching.{moved_to_front, dispatched, dispatched_context, nothing_ready}
use Rattle.kernel_model.specs.Modules.{left, module_ended, ended_module}
use Rattle.module_laws.proofs.CallRules.{IsCaller, caller_is, left_stays_settled}
use Rattle.module_laws.proofs.EndRules.{ended_row, module_ended_stays_settled}
use Rattle.load_model.specs.Domains.{Domain}
use Rattle.trace_model.specs.declared.records.Who.{Who}
use Rattle.trace_model.specs.declared.records.FaultKind.{FaultKind}
use Rattle.trace_model.specs.declared.records.Record.TheVariants.{Fault}
use Rattle.node_model.specs.Placed.{IsWellPlaced, bits}
use Rattle.node_model.specs.Systems.{System, domain_in, kind_of}
use Rattle.node_model.specs.Entries.{Leave, work, who_runs, module_runs, faults, after_leaving}
use Rattle.node_model.specs.Steps.{by_turn}
use Rattle.node_model.specs.Sound.{IsDomain, HasRow, IsModuleRowOf, AreDomains, AreSaved, HasThread, IsSavedWell, IsSoundKernel, IsRunning, IsGoodFor, low_in, top_in}
use Rattle.node_model.specs.Confined.{IsAtEntry, IsConfinedFault}
use Rattle.node_model.specs.Kept.{of_call, StepKeeps, FaultKeeps, ModuleFaulted}
use Rattle.node_model.specs.Laws.{IsSafe}
use Rattle.node_laws.proofs.Resting.{sound-front, dispatch}
use Rattle.node_laws.proofs.Stepping.{later}
use Rattle.node_laws.proofs.Contexts.{IsMark, mark-of, good-mark}
use Rattle.node_laws.proofs.Untouched.{IsUntouched, untouched-twice, kept-dispatch}
use Rattle.node_laws.proofs.Calls.{memory-untouched, untouched-front}
use Rattle.node_laws.proofs.Stepping.{well-placed}
use Rattle.node_laws.proofs.Within.{IsInModule, runs-module, who-module, domain-module}

-- ---- the caller's saved registers

-- they go on at a mark, whatever others of them change
record IsCallerGood (k : Kernel) (ds : List (Option Domain)) (t : ℕ) (c : List ℕ) : Type 0 where
  domain : Domain
  placed : domain_in ds (app_of t) ≡ Some domain
  well : IsWellPlaced domain
  steady : IsSteady (bits domain) (low_in k.apps t) (top_in k.apps t) c
  mark : IsMark domain (reg c 0)

caller-good : (k : Kernel) (ds : List (Option Domain)) (n : ℕ) → IsSoundKernel k ds n → IsCaller k
    → IsCallerGood k ds (running k) (thread_at k (running k)).regs
caller-good k ds n h is =
    let t : ℕ = running k in
    let saved : IsSavedWell k.apps ds t (thread_at k t) =
    h.saved t is.below (λ e. omega (arith, is.state)) (λ e. omega (arith, is.state)) in
    let d : Domain = saved.good.domain in
    let dom : IsDomain k.apps k.modules (app_of t) d = h.domains.placed (app_of t) d saved.good.placed in
    record {
      domain = d;
      placed = saved.good.placed;
      well = well-placed k (app_of t) d h.settled dom;
      steady = saved.good.good.steady;
      mark = mark-of ds (app_of t) (reg (thread_at k t).regs 0) d saved.good.placed dom.accepted
          (saved.mark (λ e. omega (arith, is.state)));
    }

caller-reg : (k : Kernel) (ds : List (Option Domain)) (t : ℕ) (c : List ℕ) (n v : ℕ) → 12 ≤ n → n < 16 → v < 65536
    → IsCallerGood k ds t c → IsCallerGood k ds t (set_reg c n v)
caller-reg k ds t c n v l u small h = record {
  domain = h.domain;
  placed = h.placed;
  well = h.well;
  steady = steady-reg (bits h.domain) _ _ c n v h.steady (omega arith) (omega arith) small;
  mark = subst (IsMark h.domain) (sym (reg_other c n v 0 (omega arith))) h.mark;
}

goes-good : (k : Kernel) (ds : List (Option Domain)) (t : ℕ) (c : List ℕ) → IsCallerGood k ds t c → IsGoodFor k.apps ds t c
goes-good k ds t c h = record { domain = h.domain; placed = h.placed; good = good-mark h.domain _ _ c h.steady h.well h.mark }

-- ---- threads of which one runs again

record IsAgain (before after : List ThreadRow) (t : ℕ) (regs : List ℕ) : Type 0 where
  others : (u : ℕ) → u ≢ t → get_or after u free_thread ≡ get_or before u free_thread
  state : (get_or after t free_thread).state ≡ running_state
  saved : (get_or after t free_thread).regs ≡ regs

saved-again : (apps : List AppRow) (ds : List (Option Domain)) (before after : List ThreadRow) (t : ℕ) (regs : List ℕ)
    → IsAgain before after t regs → AreSaved apps ds before → AreSaved apps ds after
saved-again apps ds before after t regs a h u lu = elim (cases_eq u t) [
  | inl e ↦ λ _ other. absurd (other (ap (λ (v : ℕ). (get_or after v free_thread).state) e ∙ a.state))
  | inr n ↦ λ on other. subst (λ (r : ThreadRow). IsSavedWell apps ds u r) (sym (a.others u n))
      (h u lu (subst (λ (r : ThreadRow). r.state ≢ free) (a.others u n) on)
      (subst (λ (r : ThreadRow). r.state ≢ running_state) (a.others u n) other))
]

has-again : (before after : List ThreadRow) (t : ℕ) (regs : List ℕ) → IsAgain before after t regs → (b : ℕ) → HasThread before b
    → HasThread after b
has-again before after t regs a b x = (
  x.0,
  x.1,
  elim (cases_eq (identity b x.0) t) [
    | inl e ↦ λ q. omega (arith, a.state, ap (λ (v : ℕ). (get_or after v free_thread).state) e, q)
    | inr n ↦ subst (λ (r : ThreadRow). r.state ≢ free) (sym (a.others (identity b x.0) n)) x.2
  ],
)

twice-again : (threads : List ThreadRow) (t : ℕ) (r1 : ThreadRow) (f : ThreadRow → ThreadRow) → t < length threads
    → get_or (set (set threads t r1) t (f (get_or (set threads t r1) t free_thread))) t free_thread ≡ f r1
twice-again threads t r1 f l = get_or-set_same (set threads t r1) t _ free_thread (omega (arith, length-set threads t r1))
    ∙ ap f (get_or-set_same threads t r1 free_thread l)

-- one register, or two, and it runs
one-again : (k : Kernel) (t n v : ℕ) → t < length k.threads
    → IsAgain k.threads (set (saved_register k t n v).threads t
    (record (thread_at (saved_register k t n v) t) { state = running_state })) t (set (thread_at k t).regs n v)
one-again k t n v l =
    let r1 : ThreadRow = record (thread_at k t) { regs = set (thread_at k t).regs n v } in
    let own = twice-again k.threads t r1 (λ r. record r { state = running_state }) l in
    record {
      others = λ u ne. get_or-set_other (set k.threads t r1) t u _ free_thread ne
          ∙ get_or-set_other k.threads t u r1 free_thread ne;
      state = ap (λ (r : ThreadRow). r.state) own;
      saved = ap (λ (r : ThreadRow). r.regs) own;
    }

two-again : (k : Kernel) (t n v m w : ℕ) → t < length k.threads
    → IsAgain k.threads (set (saved_register (saved_register k t n v) t m w).threads t
    (record (thread_at (saved_register (saved_register k t n v) t m w) t) { state = running_state })) t
    (set (set (thread_at k t).regs n v) m w)
two-again k t n v m w l =
    let r1 : ThreadRow = record (thread_at k t) { regs = set (thread_at k t).regs n v } in
    let k1 : Kernel = saved_register k t n v in
    let a : IsAgain k1.threads _ t (set (thread_at k1 t).regs m w) =
    one-again k1 t m w (omega (arith, length-set k.threads t r1)) in
    record {
      others = λ u ne. a.others u ne ∙ get_or-set_other k.threads t u r1 free_thread ne;
      state = a.state;
      saved = a.saved ∙ ap (λ (r : ThreadRow). set r.regs m w) (get_or-set_same k.threads t r1 free_thread l);
    }

-- ---- it leaves

sound-left : (k : Kernel) (ds : List (Option Domain)) (n : ℕ) (r : List ℕ) → IsSoundKernel k ds n → running_module k ≢ none
    → reg r 12 < 65536 → IsSoundKernel (left k r) ds n × IsGoodFor k.apps ds (running k) (thread_at (left k r) (running k)).regs
unfolding set_reg
sound-left k ds n r h some small =
    let t : ℕ = running k in
    let is : IsCaller k = caller_is k h.settled.orderly some in
    let a : IsAgain k.threads (left k r).threads t (set (set (thread_at k t).regs 12 0) 13 (reg r 12)) =
    two-again k t 12 0 13 (reg r 12) (let x = is.below in let size = h.settled.orderly.shape.thread_rows in omega arith) in
    let good : IsGoodFor k.apps ds t (set (set (thread_at k t).regs 12 0) 13 (reg r 12)) =
    goes-good k ds t _ (caller-reg k ds t (set (thread_at k t).regs 12 0) 13 (reg r 12) (omega arith) (omega arith) small
    (caller-reg k ds t (thread_at k t).regs 12 0 (omega arith) (omega arith) (omega arith) (caller-good k ds n h is))) in (
      record {
        settled = left_stays_settled k r h.settled some;
        domains = h.domains;
        saved = saved-again k.apps ds k.threads (left k r).threads t _ a h.saved;
        populated = λ b lb alive. has-again k.threads (left k r).threads t _ a b (h.populated b lb alive);
        functions = h.functions;
        bounded = record { ticks = h.bounded.ticks; count = omega arith; no_count = λ _. refl; lines = h.bounded.lines };
      },
      subst (IsGoodFor k.apps ds t) (sym a.saved) good,
    )

-- the record of a module's turn comes from an entry
pub comes-from-module : (s : System) (d : Domain) → IsInModule s d → IsJumpEntry d.object.kind (reg s.context 0)
    ⊎ IsCallEntry d.object.kind (reg s.context 0) → IsAtEntry s (who_runs s.kernel) (reg s.context 0)
comes-from-module s d m at = record {
  domain = d;
  runs =
      record { placed = ap (domain_in s.placed) (domain-module s.kernel m.below) ∙ m.placed; who = refl };
  at = refl;
  allowed = at;
}

some-module : (k : Kernel) → running_module k < 4 → running_module k ≢ none
some-module k l e = omega arith

pub leave-safe : (s : System) (d : Domain) (pick : Option ℕ) → IsInModule s d → IsJumpEntry d.object.kind (reg s.context 0)
    ⊎ IsCallEntry d.object.kind (reg s.context 0) → reg s.context 0 ≡ LEAVE
    → IsSafe s (by_turn s (after_leaving Leave (work s pick) (moved_to_front (left s.kernel s.context))))
leave-safe s d pick m at here =
    let k : Kernel = s.kernel in
    let some : running_module k ≢ none = some-module k m.below in
    let is : IsCaller k = caller_is k m.sound.kernel.settled.orderly some in
    let j : Kernel = left k s.context in
    let x : IsSoundKernel j s.placed s.steps × IsGoodFor k.apps s.placed (running k) (thread_at j (running k)).regs =
    sound-left k s.placed s.steps s.context m.sound.kernel some (m.good.steady.context.small 12) in
    let front : IsSoundKernel (moved_to_front j) s.placed s.steps =
    sound-front j s.placed s.steps x.0 record { thread = is.below; no_module = refl } x.1 in
    let next : IsSoundKernel (dispatched (moved_to_front j) pick) s.placed s.steps
    × IsRunning s.memory (dispatched_context (moved_to_front j) pick) (dispatched (moved_to_front j) pick) s.placed =
    dispatch s.memory (moved_to_front j) s.placed s.steps pick front record { no_thread = refl; no_module = refl } in
    record {
      sound = record { code = m.sound.code; kernel = later _ s.placed s.steps next.0; running = next.1 };
      confined = subst (IsAtEntry s (who_runs s.kernel)) here (comes-from-module s d m at);
      keeps = subst (λ (w : Who). StepKeeps w s (by_turn s (after_leaving Leave (work s pick) (moved_to_front j))).system)
          (sym (who-module k m.below)) tt;
      spelled = tt;
    }

-- ---- it faults

row-without : (apps : List AppRow) (modules : List ModuleRow) (n i : ℕ) (d : Domain) → i < length modules → (q : Kind)
    → HasRow q apps modules n d → HasRow q apps (set modules i (record (get_or modules i free_module) { state = ended_module })) n d
row-without apps modules n i d l App h = h
row-without apps modules n i d l Module h = (
  h.0,
  h.1,
  elim (cases_eq h.0 i) [
    | inl e ↦
        let old : IsModuleRowOf d (get_or modules i free_module) =
        subst (λ (m : ℕ). IsModuleRowOf d (get_or modules m free_module)) e h.2 in
        subst (λ (m : ℕ). IsModuleRowOf d
        (get_or (set modules i (record (get_or modules i free_module) { state = ended_module })) m free_module)) (sym e)
        (subst (IsModuleRowOf d) (sym (get_or-set_same modules i (record (get_or modules i free_module) { state = ended_module })
        free_module l))
        record {
          used = λ z. omega arith;
          known = omega arith;
          code_lo = old.code_lo;
          code_hi = old.code_hi;
          lo = old.lo;
          hi =
              old.hi;
        })
    | inr ne ↦ subst (IsModuleRowOf d) (sym (get_or-set_other modules i h.0 _ free_module ne)) h.2
  ],
)

domains-without : (apps : List AppRow) (modules : List ModuleRow) (ds : List (Option Domain)) (i : ℕ) → i < length modules
    → (get_or modules i free_module).state ≢ free → AreDomains apps modules ds
    → AreDomains apps (set modules i (record (get_or modules i free_module) { state = ended_module })) ds
domains-without apps modules ds i l used h = record {
  twelve = h.twelve;
  placed = λ n d e. let is : IsDomain apps modules n d = h.placed n d e in
      record {
        below = is.below;
        accepted = is.accepted;
        kind = is.kind;
        region = is.region;
        row =
            row-without apps modules n i d l (kind_of n) is.row;
      };
  apps_used = h.apps_used;
  modules_used = λ m lm on. elim (cases_eq m i) [
    | inl e ↦ h.modules_used m lm (subst (λ (j : ℕ). (get_or modules j free_module).state ≢ free) (sym e) used)
    | inr ne ↦ h.modules_used m lm (subst (λ (r : ModuleRow). r.state ≢ free) (get_or-set_other modules i m _ free_module ne) on)
  ];
}

sound-faulted : (k : Kernel) (ds : List (Option Domain)) (n : ℕ) → IsSoundKernel k ds n → running_module k < 4
    → IsSoundKernel (module_ended k) ds n × IsGoodFor k.apps ds (running k) (thread_at (module_ended k) (running k)).regs
unfolding set_reg
sound-faulted k ds n h below =
    let t : ℕ = running k in
    let i : ℕ = running_module k in
    let some : i ≢ none = some-module k below in
    let is : IsCaller k = caller_is k h.settled.orderly some in
    let a : IsAgain k.threads (module_ended k).threads t (set (thread_at k t).regs 12 6) =
    one-again k t 12 6 (let x = is.below in let size = h.settled.orderly.shape.thread_rows in omega arith) in
    let good : IsGoodFor k.apps ds t (set (thread_at k t).regs 12 6) =
    goes-good k ds t _ (caller-reg k ds t (thread_at k t).regs 12 6 (omega arith) (omega arith) (omega arith)
    (caller-good k ds n h is)) in (
      record {
        settled = module_ended_stays_settled k h.settled some;
        domains = domains-without k.apps k.modules ds i (let size = h.settled.orderly.shape.module_rows in omega arith)
            (λ e. omega (arith, e, h.settled.orderly.callee some)) h.domains;
        saved = saved-again k.apps ds k.threads (module_ended k).threads t _ a h.saved;
        populated = λ b lb alive. has-again k.threads (module_ended k).threads t _ a b (h.populated b lb alive);
        functions = h.functions;
        bounded = record { ticks = h.bounded.ticks; count = omega arith; no_count = λ _. refl; lines = h.bounded.lines };
      },
      subst (IsGoodFor k.apps ds t) (sym a.saved) good,
    )

untouched-faulted : (k : Kernel) → running k < length k.threads
    → IsUntouched (of_call (running_module k) (running k)) k (module_ended k)
untouched-faulted k l = record {
  rows = λ b lb e. refl;
  threads = λ u lu e. (one-again k (running k) 12 6 l).others u (eqb-false u (running k) e);
  mutexes = λ b i lb li e. refl;
  conditions = λ b i lb li e. refl;
  ready = refl;
  sleepers = refl;
  lines = λ n ln. refl;
  functions = refl;
  modules = λ j lj e. get_or-set_other k.modules (running_module k) j _ free_module (eqb-false j (running_module k) e);
  ticks = refl;
  lines_pending = refl;
}

modules-by : (j : Kernel) (pick : Option ℕ) (b : Bool) (i : Kernel) → i.modules ≡ j.modules → (cond b j i).modules ≡ j.modules
modules-by j pick true i e = refl
modules-by j pick false i e = e

pub module-faults : (s : System) (d : Domain) (pick : Option ℕ) (f : FaultKind) (v : ℕ) → IsInModule s d
    → IsConfinedFault s (who_runs s.kernel) f v → IsSafe s (by_turn s (faults (work s pick) f v))
module-faults s d pick f v m confined =
    subst (λ (j : Kernel). IsSafe s
    (by_turn s (record {
      kernel = dispatched j pick;
      context = dispatched_context j pick;
      shown =
          Fault (s.steps + 1) (who_runs s.kernel) f v;
    })))
    (sym (cond-true (module_runs s.kernel) (moved_to_front (module_ended s.kernel)) _ (runs-module s.kernel m.below))) here
  where
    k : Kernel
    k = s.kernel

    i : ℕ
    i = running_module k

    t : ℕ
    t = running k

    is : IsCaller k
    is = caller_is k m.sound.kernel.settled.orderly (some-module k m.below)

    l : t < length k.threads
    l = let x = is.below in let size = m.sound.kernel.settled.orderly.shape.thread_rows in omega arith

    j : Kernel
    j = module_ended k

    x : IsSoundKernel j s.placed s.steps × IsGoodFor k.apps s.placed t (thread_at j t).regs
    x = sound-faulted k s.placed s.steps m.sound.kernel m.below

    front : IsSoundKernel (moved_to_front j) s.placed s.steps
    front = sound-front j s.placed s.steps x.0 record { thread = is.below; no_module = refl } x.1

    next : IsSoundKernel (dispatched (moved_to_front j) pick) s.placed s.steps
        × IsRunning s.memory (dispatched_context (moved_to_front j) pick) (dispatched (moved_to_front j) pick) s.placed
    next = dispatch s.memory (moved_to_front j) s.placed s.steps pick front record { no_thread = refl; no_module = refl }

    untouched : IsUntouched (of_call i t) k (moved_to_front j)
    untouched = untouched-twice (of_call i t) k j (moved_to_front j) (untouched-faulted k l)
        (untouched-front (of_call i t) j (eq-eqb t t refl))

    after : System
    after = record s {
      kernel = dispatched (moved_to_front j) pick;
      context = dispatched_context (moved_to_front j) pick;
      steps =
          s.steps + 1;
    }

    faulted : ModuleFaulted i s after
    faulted = record {
      others = record {
        memory = memory-untouched (of_call i t) s;
        kernel =
            kept-dispatch (of_call i t) k (moved_to_front j) pick untouched front.settled.orderly;
        placed = refl;
      };
      ended = ap (λ (ms : List ModuleRow). (get_or ms i free_module).state)
          (modules-by (moved_to_front j) pick (nothing_ready (moved_to_front j)) _ refl)
          ∙ ap (λ (r : ModuleRow). r.state)
          (get_or-set_same k.modules i (ended_row k i) free_module
          (let size = m.sound.kernel.settled.orderly.shape.module_rows in let b = m.below in omega arith));
    }

    here : IsSafe s (by_turn s (record {
      kernel = dispatched (moved_to_front j) pick;
      context = dispatched_context (moved_to_front j) pick;
      shown =
          Fault (s.steps + 1) (who_runs s.kernel) f v;
    }))
    here = record {
      sound = record { code = m.sound.code; kernel = later _ s.placed s.steps next.0; running = next.1 };
      confined = confined;
      keeps = subst (λ (w : Who). FaultKeeps w s after) (sym (who-module k m.below)) faulted;
      spelled = tt;
    }
