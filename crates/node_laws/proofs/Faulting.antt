-- A running thread's fault, its jumps, and its calls that go on.
use Rattle.std.proofs.Common.{◌≡◌, ℕ, ◌+◌, ◌*◌, ◌<◌, ◌≤◌, ◌⊎◌, Bool, true, false, cond, List, length, get_or, refl, sym, ◌∙◌, subst, arith, Option, None, Some}
use Rattle.std.specs.Prelude.{nat_lt}
use Rattle.std.proofs.lemmas.Bool.{cond-false, ltb-false}
use Rattle.machine_model.specs.Memory.{word_at, even}
use Rattle.machine_model.specs.Context.{reg, set_reg}
use Rattle.machine_laws.specs.Steady.{IsSteady}
use Rattle.machine_model.specs.Operands.{sum_of}
use Rattle.machine_model.specs.Does.{raised}
use Rattle.machine_laws.proofs.Registers.{reg_other, steady-reg, pc_same}
use Rattle.kernel_model.specs.declared.entries.TheConstants.{CALLS, EMITS, GOES, IDENTITY, PRIORITY, SPAWN}
use Rattle.kernel_model.specs.Kernel.{Kernel, thread_at}
use Rattle.kernel_model.specs.Words.{running, app_of, number_of}
use Rattle.kernel_model.specs.Running.{ThreadRuns, running_domain}
use Rattle.kernel_model.specs.Dispatching.{saved, moved_to_front, dispatched, dispatched_context}
use Rattle.kernel_model.specs.Entries.{with_priority}
use Rattle.kernel_model.specs.declared.ends.AppEnd.TheVariants.{Faulted}
use Rattle.kernel_model.specs.declared.code.Code.{Code}
use Rattle.kernel_model.specs.declared.code.Code.TheVariants.{Full, BadArgument, NotOwner, OwnLock, NoFunction, ModuleEnded}
use Rattle.thread_laws.specs.Facts.{IsRunning as IsRunningRow}
use Rattle.thread_laws.proofs.Spots.{running_is}
use Rattle.thread_laws.proofs.MovingRules.{priority_stays_settled}
use Rattle.load_model.specs.Domains.{Domain}
use Rattle.trace_model.specs.declared.records.Who.{Who}
use Rattle.trace_model.specs.declared.records.FaultKind.{FaultKind}
use Rattle.trace_model.specs.declared.records.FaultKind.TheVariants.{Jump, Return}
use Rattle.trace_model.specs.declared.records.Record.{Record}
use Rattle.trace_model.specs.declared.records.Record.TheVariants.{Entry, Fault}
use Rattle.node_model.specs.Placed.{bits}
use Rattle.node_model.specs.Systems.{System, seen, is_mark}
use Rattle.node_model.specs.Entries.{Call, Emits, Self, Priority, work, who_runs, module_runs, by_jump, by_call, returning, row, unless, after, entry_address, called, goes_on, goes_straight, faults, fault_kernel, code_number}
use Rattle.node_model.specs.Steps.{by_turn}
use Rattle.node_model.specs.Sound.{IsSound, IsSoundKernel, AThread, IsGoodFor, low_in, top_in}
use Rattle.node_model.specs.Confined.{IsConfined, IsConfinedFault, IsAtEntry}
use Rattle.node_model.specs.Spelled.{IsSpelled}
use Rattle.node_model.specs.Kept.{Keeps, StepKeeps, FaultKeeps, AppFaulted}
use Rattle.node_model.specs.Laws.{IsSafe}
use Rattle.node_laws.specs.Facts.{Given}
use Rattle.node_laws.proofs.Rows.{saved-put, populated-put}
use Rattle.node_laws.proofs.Stepping.{domain-runs, step-keeps, later, no-module, kernel-same, word-small, who-runs}
use Rattle.node_laws.proofs.Contexts.{IsMark, mark-of, good-mark, returned}
use Rattle.node_laws.proofs.Untouched.{IsUntouched, untouched-all, untouched-row}
use Rattle.node_laws.proofs.Calls.{IsCalling, own_of, own-thread, comes-from, memory-untouched, Leaves, leaves, IsResting, rests-front, IsReturned, returns-to, with-register, good-returned}
use Rattle.node_laws.proofs.Ended.{stopped_app, ended-running, sound-ended, untouched-ended, faulted-then}

-- ---- faults

fault-kernel : (k : Kernel) → ThreadRuns k → fault_kernel k ≡ stopped_app k Faulted
fault-kernel k r = cond-false (module_runs k) _ _ (no-module k r) ∙ ended-running k Faulted

-- the system behind a turn that ends in a dispatch
abbrev behind : System → Kernel → Option ℕ → System
behind s k pick = record s { kernel = dispatched k pick; context = dispatched_context k pick; steps = s.steps + 1 }

fault-keeps : (s t : System) → ThreadRuns s.kernel → AppFaulted (app_of (running s.kernel)) s t → FaultKeeps (who_runs s.kernel) s t
fault-keeps s t r h = subst (λ (w : Who). FaultKeeps w s t) (sym (who-runs s.kernel r)) h

faults-by : {entry : ℕ} → Given → (s : System) (d : Domain) (pick : Option ℕ) (f : FaultKind) (v : ℕ) → IsCalling s d entry
    → (IsAtEntry s (who_runs s.kernel) entry → IsConfinedFault s (who_runs s.kernel) f v)
    → IsSafe s (by_turn s (record {
      kernel = dispatched (stopped_app s.kernel Faulted) pick;
      context =
          dispatched_context (stopped_app s.kernel Faulted) pick;
      shown = Fault (s.steps + 1) (who_runs s.kernel) f v;
    }))
faults-by laws s d pick f v x confined =
    let k : Kernel = stopped_app s.kernel Faulted in
    let sound : IsSoundKernel k s.placed s.steps = sound-ended s.kernel s.placed s.steps Faulted x.sound.kernel x.runs in
    let l : Leaves s k pick (Fault (s.steps + 1) (who_runs s.kernel) f v) =
    leaves s k pick (Fault (s.steps + 1) (who_runs s.kernel) f v) x.sound sound
    record { no_thread = refl; no_module = x.runs.no_module } (untouched-ended s.kernel Faulted) in
    record {
      sound = l.sound;
      confined = confined (comes-from laws s d x);
      keeps = fault-keeps s (behind s k pick) x.runs
          record {
            others = l.others;
            ended =
                faulted-then s.kernel pick x.sound.kernel.settled.orderly x.runs sound.settled.orderly;
          };
      spelled = tt;
    }

-- the running application's fault
pub faults-safe : {entry : ℕ} → Given → (s : System) (d : Domain) (pick : Option ℕ) (f : FaultKind) (v : ℕ) → IsCalling s d entry
    → (IsAtEntry s (who_runs s.kernel) entry → IsConfinedFault s (who_runs s.kernel) f v)
    → IsSafe s (by_turn s (faults (work s pick) f v))
faults-safe laws s d pick f v x confined =
    subst (λ (k : Kernel). IsSafe s
    (by_turn s (record {
      kernel = dispatched k pick;
      context = dispatched_context k pick;
      shown =
          Fault (s.steps + 1) (who_runs s.kernel) f v;
    })))
    (sym (fault-kernel s.kernel x.runs)) (faults-by laws s d pick f v x confined)

-- ---- jumps

jumps-on : Given → (s : System) (d : Domain) (to e : ℕ) → IsCalling s d e → to < 65536
    → is_mark s.placed (running_domain s.kernel) to ≡ true
    → IsSafe s (by_turn s (goes_straight s.kernel (set_reg s.context 0 to) (Entry (s.steps + 1) (who_runs s.kernel) e)))
jumps-on laws s d to e x small is =
    let mark : IsMark d to = mark-of s.placed (app_of (running s.kernel)) to d x.placed x.facts.is.accepted
    (subst (λ (n : ℕ). is_mark s.placed n to ≡ true) (domain-runs s.kernel x.runs) is) in
    let steady : IsSteady (bits d) (low_in s.kernel.apps (running s.kernel)) (top_in s.kernel.apps (running s.kernel))
    (set_reg s.context 0 to) = steady-reg (bits d) _ _ s.context 0 to x.good.steady (omega arith) (omega arith) small in
    let there : even to ≡ reg (set_reg s.context 0 to) 0 = sym (pc_same s.context to x.good.steady.context) in
    let here : to ≡ even to = omega (arith, mark.even_at) in
    record {
      sound = record {
        code = x.sound.code;
        kernel = later s.kernel s.placed s.steps x.sound.kernel;
        running = AThread x.runs record {
          domain = d;
          placed = x.placed;
          good =
              good-mark d _ _ (set_reg s.context 0 to) steady x.facts.well (subst (IsMark d) (here ∙ there) mark);
        };
      };
      confined = comes-from laws s d x;
      keeps = step-keeps s (record s { context = set_reg s.context 0 to; steps = s.steps + 1 }) x.runs
          record {
            memory = memory-untouched (own_of s) s;
            kernel = kernel-same (own_of s) s.kernel (set_reg s.context 0 to);
            placed = refl;
          };
      spelled = tt;
    }

-- an entry of jumps or one of calls
abbrev pub IsJump : System → (entry : ℕ) → Type 0
IsJump s e = IsAtEntry s (who_runs s.kernel) e → IsAtEntry s (who_runs s.kernel) GOES ⊎ IsAtEntry s (who_runs s.kernel) CALLS

jump-by : Given → (s : System) (d : Domain) (pick : Option ℕ) (e : Call) → IsCalling s d (entry_address e)
    → IsJump s (entry_address e) → (b : Bool) → is_mark s.placed (running_domain s.kernel) (reg s.context 4) ≡ b
    → IsSafe s (by_turn s (cond b (goes_straight s.kernel (set_reg s.context 0 (reg s.context 4))
    (called (work s pick) (entry_address e))) (faults (work s pick) Jump (reg s.context 4))))
jump-by laws s d pick e x here true is = jumps-on laws s d (reg s.context 4) (entry_address e) x (x.good.steady.context.small 4) is
jump-by laws s d pick e x here false is =
    faults-safe laws s d pick Jump (reg s.context 4) x (λ a. record { entry = here a; value_is = refl; no_mark = is })

pub jump-safe : Given → (s : System) (d : Domain) (pick : Option ℕ) (e : Call) → IsCalling s d (entry_address e)
    → IsJump s (entry_address e) → IsSafe s (by_turn s (by_jump e (work s pick)))
jump-safe laws s d pick e x here =
    jump-by laws s d pick e x here (is_mark s.placed (running_domain s.kernel) (reg s.context 4)) refl

-- ---- calls

-- the registers behind the return, or the fault
call-by : Given → (s : System) (d : Domain) (pick : Option ℕ) (e : Call) → IsCalling s d (entry_address e)
    → SPAWN ≤ entry_address e → (is_mark s.placed (running_domain s.kernel) (word_at (seen s) (reg s.context 1)) ≡ true
    → IsSafe s (by_turn s (row e (returning (work s pick)))))
    → (b : Bool) → is_mark s.placed (running_domain s.kernel) (word_at (seen s) (reg s.context 1)) ≡ b
    → IsSafe s (by_turn s (cond b (row e (returning (work s pick)))
    (faults (work s pick) Return (word_at (seen s) (reg s.context 1)))))
call-by laws s d pick e x high goes true is = goes is
call-by laws s d pick e x high goes false is =
    faults-safe laws s d pick Return (word_at (seen s) (reg s.context 1)) x
    (λ a. record { entry = (entry_address e, high, a); value_is = refl; no_mark = is })

pub call-safe : Given → (s : System) (d : Domain) (pick : Option ℕ) (e : Call) → IsCalling s d (entry_address e)
    → SPAWN ≤ entry_address e → (is_mark s.placed (running_domain s.kernel) (word_at (seen s) (reg s.context 1)) ≡ true
    → IsSafe s (by_turn s (row e (returning (work s pick)))))
    → IsSafe s (by_turn s (by_call e (work s pick)))
call-safe laws s d pick e x high goes =
    call-by laws s d pick e x high goes (is_mark s.placed (running_domain s.kernel) (word_at (seen s) (reg s.context 1))) refl

-- ---- the caller goes on

-- a record of the caller's entry
pub record IsEntered (s : System) (entry : ℕ) (told : Record) : Type 0 where
  pub confined : IsAtEntry s (who_runs s.kernel) entry → IsConfined s told
  pub keeps : (t : System) → StepKeeps (who_runs s.kernel) s t → Keeps told s t
  pub spelled : (t : System) → IsSpelled told s t

-- what was done to the kernel before the caller goes on
pub record IsCarriedOut (s : System) (k : Kernel) : Type 0 where
  pub sound : IsSoundKernel k s.placed s.steps
  pub runs : ThreadRuns k
  pub own : (own_of s).threads (running k) ≡ true
  pub untouched : IsUntouched (own_of s) s.kernel k

pub goes-safe : {entry : ℕ} → Given → (s : System) (d : Domain) (pick : Option ℕ) (k : Kernel) (c : List ℕ) (told : Record)
    → IsCalling s d entry → IsCarriedOut s k → IsGoodFor k.apps s.placed (running k) c → IsEntered s entry told
    → IsSafe s (by_turn s (record {
      kernel = dispatched (moved_to_front (saved k c)) pick;
      context =
          dispatched_context (moved_to_front (saved k c)) pick;
      shown = told;
    }))
goes-safe laws s d pick k c told x done good entered =
    let rest : IsResting (own_of s) s.kernel (moved_to_front (saved k c)) s.placed s.steps =
    rests-front (own_of s) s.kernel k s.placed s.steps c done.sound done.runs done.own done.untouched good in
    let l : Leaves s (moved_to_front (saved k c)) pick told =
    leaves s (moved_to_front (saved k c)) pick told x.sound rest.sound rest.none_runs rest.untouched in
    record {
      sound = l.sound;
      confined = entered.confined (comes-from laws s d x);
      keeps = entered.keeps (behind s (moved_to_front (saved k c)) pick)
          (step-keeps s (behind s (moved_to_front (saved k c)) pick) x.runs l.others);
      spelled = entered.spelled (behind s (moved_to_front (saved k c)) pick);
    }

pub nothing-done : (s : System) → IsSound s → ThreadRuns s.kernel → IsCarriedOut s s.kernel
nothing-done s h r = record { sound = h.kernel; runs = r; own = own-thread s; untouched = untouched-all (own_of s) s.kernel }

pub entered-by : (s : System) (e : ℕ) → IsEntered s e (Entry (s.steps + 1) (who_runs s.kernel) e)
entered-by s e = record { confined = λ a. a; keeps = λ t k. k; spelled = λ t. tt }

-- the registers behind the return of a call
pub behind-return : {entry : ℕ} → Given → (s : System) (d : Domain) → IsCalling s d entry → CALLS ≤ reg s.context 0
    → is_mark s.placed (running_domain s.kernel) (word_at (seen s) (reg s.context 1)) ≡ true
    → IsReturned s d (returned s.context (word_at (seen s) (reg s.context 1)))
behind-return laws s d x l is =
    returns-to laws s d (word_at (seen s) (reg s.context 1)) x l (word-small (seen s) (reg s.context 1) x.see.memory) is

-- a code in R12
code-small : (c : Code) → code_number c < 65536
code-small Full = omega arith
code-small BadArgument = omega arith
code-small NotOwner = omega arith
code-small OwnLock = omega arith
code-small NoFunction = omega arith
code-small ModuleEnded = omega arith

pub code-safe : Given → (s : System) (d : Domain) (pick : Option ℕ) (e : Call) (c : Code) (r : List ℕ)
    → IsCalling s d (entry_address e) → IsReturned s d r
    → IsSafe s (by_turn s (goes_on (work s pick) s.kernel r (code_number c)
    (Entry (s.steps + 1) (who_runs s.kernel) (entry_address e))))
code-safe laws s d pick e c r x is =
    goes-safe laws s d pick s.kernel (set_reg r 12 (code_number c)) _ x (nothing-done s x.sound x.runs)
    (good-returned s d _ x (with-register s d r 12 (code_number c) (omega arith) (code-small c) is))
    (entered-by s (entry_address e))

-- ---- emit, self

pub emits-safe : Given → (s : System) (d : Domain) (pick : Option ℕ) → IsCalling s d EMITS → CALLS ≤ reg s.context 0
    → is_mark s.placed (running_domain s.kernel) (word_at (seen s) (reg s.context 1)) ≡ true
    → IsSafe s (by_turn s (row Emits (returning (work s pick))))
emits-safe laws s d pick x l is =
    goes-safe laws s d pick s.kernel (set_reg (returned s.context (word_at (seen s) (reg s.context 1))) 12 0) _ x
    (nothing-done s x.sound x.runs)
    (good-returned s d _ x (with-register s d _ 12 0 (omega arith) (omega arith) (behind-return laws s d x l is)))
    record {
      confined = λ a. (
        a,
        reg_other (raised s.context) 0 (word_at (seen s) (reg s.context 1)) 12 (omega arith)
            ∙ reg_other s.context 1 (sum_of (reg s.context 1) 2) 12 (omega arith),
      );
      keeps = λ t k. k;
      spelled = λ t. tt;
    }

pub self-safe : Given → (s : System) (d : Domain) (pick : Option ℕ) → IsCalling s d IDENTITY → CALLS ≤ reg s.context 0
    → is_mark s.placed (running_domain s.kernel) (word_at (seen s) (reg s.context 1)) ≡ true
    → IsSafe s (by_turn s (row Self (returning (work s pick))))
self-safe laws s d pick x l is =
    goes-safe laws s d pick s.kernel
    (set_reg (set_reg (returned s.context (word_at (seen s) (reg s.context 1))) 13
    (256 * app_of (running s.kernel) + number_of (running s.kernel))) 12 0) _ x (nothing-done s x.sound x.runs)
    (good-returned s d _ x (with-register s d _ 12 0 (omega arith) (omega arith)
    (with-register s d _ 13 _ (omega arith) (let t = x.runs.thread in omega arith) (behind-return laws s d x l is))))
    (entered-by s IDENTITY)

-- ---- priority

sound-priority : (k : Kernel) (ds : List (Option Domain)) (n : ℕ) (r : List ℕ) → IsSoundKernel k ds n → ThreadRuns k
    → get_or r 12 0 ≤ 7 → IsSoundKernel (with_priority k r) ds n
sound-priority k ds n r h run p =
    let is : IsRunningRow k (running k) = running_is k h.settled.orderly run in
    let size : length k.threads ≡ 32 = h.settled.orderly.shape.thread_rows in
    record {
      settled = priority_stays_settled k r h.settled run p;
      domains = h.domains;
      saved = saved-put k.apps ds k.threads (running k) (record (thread_at k (running k)) { priority = get_or r 12 0 })
          (omega arith) (λ _ other. absurd (other is.state)) h.saved;
      populated = populated-put k.apps k.threads (running k) (record (thread_at k (running k)) { priority = get_or r 12 0 })
          (omega arith) (λ off. omega (arith, is.state)) h.populated;
      functions = h.functions;
      bounded = h.bounded;
    }

priority-by : Given → (s : System) (d : Domain) (pick : Option ℕ) (r : List ℕ) → IsCalling s d PRIORITY → IsReturned s d r
    → (b : Bool) → nat_lt 7 (get_or r 12 0) ≡ b
    → IsSafe s (by_turn s (unless Priority (record (work s pick) { context = r }) (cond b (Some BadArgument) None)
    (after Priority (record (work s pick) { context = r }) (with_priority s.kernel r))))
priority-by laws s d pick r x is true e = code-safe laws s d pick Priority BadArgument r x is
priority-by laws s d pick r x is false e =
    goes-safe laws s d pick (with_priority s.kernel r) (set_reg r 12 0) _ x
    record {
      sound = sound-priority s.kernel s.placed s.steps r x.sound.kernel x.runs (ltb-false 7 (get_or r 12 0) e);
      runs =
          record { thread = x.runs.thread; no_module = x.runs.no_module };
      own = own-thread s;
      untouched =
          untouched-row (own_of s) s.kernel (running s.kernel) _ (own-thread s);
    }
    (good-returned s d _ x (with-register s d r 12 0 (omega arith) (omega arith) is)) (entered-by s PRIORITY)

pub priority-safe : Given → (s : System) (d : Domain) (pick : Option ℕ) → IsCalling s d PRIORITY → CALLS ≤ reg s.context 0
    → is_mark s.placed (running_domain s.kernel) (word_at (seen s) (reg s.context 1)) ≡ true
    → IsSafe s (by_turn s (row Priority (returning (work s pick))))
priority-safe laws s d pick x l is =
    priority-by laws s d pick (returned s.context (word_at (seen s) (reg s.context 1))) x (behind-return laws s d x l is)
    (nat_lt 7 (get_or (returned s.context (word_at (seen s) (reg s.context 1))) 12 0)) refl
