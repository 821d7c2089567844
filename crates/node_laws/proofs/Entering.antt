-- A running thread calls a module.
use Rattle.std.proofs.Common.{◌≡◌, ◌≢◌, ℕ, zero, suc, ◌+◌, ◌%◌, ◌<◌, ◌≤◌, Bool, true, false, eqb, cond, List, [], ◌∷◌, length, get_or, refl, sym, ap, subst, inl, inr, arith, Option, None, Some}
use Rattle.std.specs.Prelude.{nat_lt, ◌||◌}
use Rattle.std.specs.List.{AllByRecursion}
use Rattle.std.proofs.lemmas.Bool.{cases_lt, ltb-false, eqb-false}
use Rattle.std.proofs.lemmas.List.{get_or_past}
use Rattle.kernel_model.specs.declared.states.TheConstants.{ENDED}
use Rattle.kernel_model.specs.declared.map.TheConstants.{KERNEL_STACK, KERNEL_TOP}
use Rattle.kernel_model.specs.declared.entries.TheConstants.{MODULE_CALL}
use Rattle.kernel_model.specs.declared.kinds.Kind.{Kind}
use Rattle.kernel_model.specs.declared.kinds.Kind.TheVariants.{App, Module}
use Rattle.machine_model.specs.Memory.{word_at}
use Rattle.machine_model.specs.Context.{reg, IsContext}
use Rattle.machine_laws.specs.Steady.{IsStatus}
use Rattle.kernel_model.specs.Kernel.{Kernel, thread_at, with_thread, module_at, function_at, free_module}
use Rattle.kernel_model.specs.Words.{none, free, live, calling, running, app_of, with_running_module}
use Rattle.kernel_model.specs.declared.rows.ModuleRow.{ModuleRow}
use Rattle.kernel_model.specs.declared.rows.ThreadRow.{ThreadRow}
use Rattle.kernel_model.specs.Running.{ThreadRuns}
use Rattle.kernel_model.specs.Dispatching.{saved}
use Rattle.kernel_model.specs.declared.code.Code.TheVariants.{NoFunction, ModuleEnded}
use Rattle.kernel_model.specs.Modules.{ended_module, entered, entered_context}
use Rattle.module_laws.proofs.CallRules.{entered_stays_settled}
use Rattle.load_model.specs.Domains.{Domain}
use Rattle.node_model.specs.Placed.{IsWellPlaced, control_bits}
use Rattle.node_model.specs.Systems.{System, seen, is_mark}
use Rattle.node_model.specs.Entries.{ModuleCall, work, unless, goes_straight, called}
use Rattle.node_model.specs.Steps.{by_turn}
use Rattle.node_model.specs.Sound.{IsDomain, HasDomain, IsGoodIn, IsGoodFor, IsSoundKernel, AModule}
use Rattle.node_model.specs.Kept.{Own, KernelKept}
use Rattle.node_model.specs.Laws.{IsSafe}
use Rattle.node_laws.specs.Facts.{Given}
use Rattle.node_laws.specs.Steps.{TurnLaw}
use Rattle.node_laws.proofs.Rows.{saved-put, populated-put}
use Rattle.node_laws.proofs.Resting.{sound-saved, saved-row}
use Rattle.node_laws.proofs.Stepping.{well-placed, of-module, later, step-keeps}
use Rattle.node_laws.proofs.Contexts.{IsMark, mark-of, good-mark, returned}
use Rattle.node_laws.proofs.Untouched.{IsUntouched, untouched-twice, untouched-row, untouched-words, kept-straight}
use Rattle.node_laws.proofs.Calls.{IsCalling, calling as calling-so, own_of, own-thread, comes-from, memory-untouched, IsReturned, good-returned}
use Rattle.node_laws.proofs.Faulting.{behind-return, call-safe, code-safe}
use Rattle.node_laws.proofs.Waiting.{mark-behind}

-- ---- the kernel in a call

pub untouched-call : (own : Own) (k : Kernel) (i : ℕ) → IsUntouched own k (with_running_module k i)
untouched-call own k i = untouched-words own k _ _ k.running i 0

sound-entered : (k : Kernel) (ds : List (Option Domain)) (n : ℕ) (c : List ℕ) → IsSoundKernel k ds n → ThreadRuns k
    → (function_at k (reg c 12)).module < 4 → (module_at k (function_at k (reg c 12)).module).state ≡ live
    → IsGoodFor k.apps ds (running k) c → is_mark ds (app_of (running k)) (reg c 0) ≡ true → IsSoundKernel (entered k c) ds n
sound-entered k ds n c h r li alive good mark =
    let t : ℕ = running k in
    let k1 : Kernel = saved k c in
    let h1 : IsSoundKernel k1 ds n = sound-saved k ds n c h r good.good.steady.context.words in
    let size : length k1.threads ≡ 32 = h1.settled.orderly.shape.thread_rows in
    let l : t < length k1.threads = (let x = r.thread in omega arith) in
    let put : thread_at k1 t ≡ record (thread_at k t) { regs = c } = saved-row k c r h.settled.orderly.shape.thread_rows in
    let row : ThreadRow = record (thread_at k1 t) { state = calling } in
    record {
      settled = entered_stays_settled k c h.settled r good.good.steady.context.words li alive;
      domains = h.domains;
      saved = saved-put k.apps ds k1.threads t row l (λ _ _. record {
        good = subst (λ (w : ThreadRow). IsGoodFor k.apps ds t w.regs) (sym put) good;
        mark = λ _. subst (λ (w : ThreadRow). is_mark ds (app_of t) (reg w.regs 0) ≡ true) (sym put) mark;
      }) h1.saved;
      populated = populated-put k.apps k1.threads t row l (λ off. omega arith) h1.populated;
      functions = h.functions;
      bounded = record { ticks = h.bounded.ticks; count = omega arith; no_count = λ _. refl; lines = h.bounded.lines };
    }

untouched-entered : (own : Own) (k : Kernel) (c : List ℕ) → own.threads (running k) ≡ true → IsUntouched own k (entered k c)
untouched-entered own k c e =
    let k1 : Kernel = saved k c in
    let k2 : Kernel = with_thread k1 (running k) (record (thread_at k1 (running k)) { state = calling }) in
    untouched-twice own k k1 (entered k c) (untouched-row own k (running k) _ e)
    (untouched-twice own k1 k2 (entered k c) (untouched-row own k1 (running k) _ e) (untouched-call own k2 _))

-- ---- the module's first context

small-list : (xs : List ℕ) → AllByRecursion (λ x. x < 65536) xs → (k : ℕ) → get_or xs k 0 < 65536
small-list [] h k = omega arith
small-list (x ∷ xs) h zero = h.0
small-list (x ∷ xs) h (suc k) = small-list xs h.1 k

first-context : (k : Kernel) (c : List ℕ) → (function_at k (reg c 12)).address % 2 ≡ 0 → (function_at k (reg c 12)).address < 65536
    → IsContext c → IsContext (entered_context k c)
first-context k c e l h =
    let z : 0 < 65536 = omega arith in
    record {
      words = refl;
      pc_even = e;
      sp_even = refl;
      zero = refl;
      small = small-list (entered_context k c)
          (l, (omega arith, (z, (z, (z, (z, (z, (z, (z, (z, (z, (z, (h.small 13, (h.small 14, (z, (z, tt))))))))))))))));
    }

pub status-module : (k : Kind) → k ≡ Module → IsStatus (control_bits k) 0
status-module Module e = record { high = refl; control = refl }
status-module App e = absurd (cc)

first-good : (s : System) (c : List ℕ) → IsSoundKernel s.kernel s.placed s.steps → IsContext c → reg c 12 < 64
    → (function_at s.kernel (reg c 12)).module < 4 → (module_at s.kernel (function_at s.kernel (reg c 12)).module).state ≢ free
    → IsGoodIn s.placed (8 + (function_at s.kernel (reg c 12)).module) KERNEL_STACK KERNEL_TOP (entered_context s.kernel c)
first-good s c h ctx lf li used =
    let k : Kernel = s.kernel in
    let i : ℕ = (function_at k (reg c 12)).module in
    let at : ℕ = (function_at k (reg c 12)).address in
    let has : HasDomain s.placed (8 + i) = h.domains.modules_used i li used in
    let d : Domain = has.0 in
    let is : IsDomain k.apps k.modules (8 + i) d = h.domains.placed (8 + i) d has.1 in
    let well : IsWellPlaced d = well-placed k (8 + i) d h.settled is in
    let mark : IsMark d at = mark-of s.placed (8 + i) at d has.1 is.accepted (h.functions (reg c 12) lf (λ e. omega arith)) in
    record {
      domain = d;
      placed = has.1;
      good = good-mark d KERNEL_STACK KERNEL_TOP (entered_context k c) (record {
        context = first-context k c mark.even_at (omega (arith, mark.to, well.code_high)) ctx;
        room = omega arith;
        within = omega arith;
        status = status-module d.object.kind (of-module k i d is).0;
      }) well mark;
    }

-- ---- the call

enters : Given → (s : System) (d : Domain) (pick : Option ℕ) (c : List ℕ) → IsCalling s d MODULE_CALL → IsReturned s d c
    → is_mark s.placed (app_of (running s.kernel)) (reg c 0) ≡ true → reg c 12 < 64
    → (function_at s.kernel (reg c 12)).module ≢ none
    → (module_at s.kernel (function_at s.kernel (reg c 12)).module).state ≢ ended_module
    → IsSafe s (by_turn s (goes_straight (entered s.kernel c) (entered_context s.kernel c)
    (called (record (work s pick) { context = c }) MODULE_CALL)))
enters laws s d pick c x is m lf some on =
    let k : Kernel = s.kernel in
    let i : ℕ = (function_at k (reg c 12)).module in
    let h : IsSoundKernel k s.placed s.steps = x.sound.kernel in
    let used : (module_at k i).state ≢ free = h.settled.orderly.functions (reg c 12) lf some in
    let li : i < 4 = within i used in
    let has : HasDomain s.placed (8 + i) = h.domains.modules_used i li used in
    let known : (module_at k i).state ≤ ENDED = (of-module k i has.0 (h.domains.placed (8 + i) has.0 has.1)).1.known in
    let alive : (module_at k i).state ≡ live = omega arith in
    let good : IsGoodFor k.apps s.placed (running k) c = good-returned s d c x is in
    record {
      sound = record {
        code = x.sound.code;
        kernel = later (entered k c) s.placed s.steps (sound-entered k s.placed s.steps c h x.runs li alive good m);
        running = AModule li (first-good s c h is.steady.context lf li used);
      };
      confined = comes-from laws s d x;
      keeps = step-keeps s (record s { kernel = entered k c; context = entered_context k c; steps = s.steps + 1 }) x.runs record {
        memory = memory-untouched (own_of s) s;
        kernel = kept-straight (own_of s) k (entered k c) (entered_context k c) (untouched-entered (own_of s) k c (own-thread s));
        placed = refl;
      };
      spelled = tt;
    }
  where
    within : (i : ℕ) → (module_at s.kernel i).state ≢ free → i < 4
    within i used = elim (cases_lt i 4) [
      | inl l ↦ l
      | inr u ↦ absurd (used (ap (λ (r : ModuleRow). r.state)
          (get_or_past s.kernel.modules i free_module
          (let size = x.sound.kernel.settled.orderly.shape.module_rows in omega arith))))
    ]

enter-by : Given → (s : System) (d : Domain) (pick : Option ℕ) (c : List ℕ) → IsCalling s d MODULE_CALL → IsReturned s d c
    → is_mark s.placed (app_of (running s.kernel)) (reg c 0) ≡ true
    → (a : Bool) → nat_lt 63 (reg c 12) ≡ a → (b : Bool) → eqb (function_at s.kernel (reg c 12)).module none ≡ b → (e : Bool)
    → eqb (module_at s.kernel (function_at s.kernel (reg c 12)).module).state ended_module ≡ e
    → IsSafe s (by_turn s (unless ModuleCall (record (work s pick) { context = c })
    (cond (a || b) (Some NoFunction) (cond e (Some ModuleEnded) None))
    (goes_straight (entered s.kernel c) (entered_context s.kernel c) (called (record (work s pick) { context = c }) MODULE_CALL))))
enter-by laws s d pick c x is m true ea b eb e ee = code-safe laws s d pick ModuleCall NoFunction c x is
enter-by laws s d pick c x is m false ea true eb e ee = code-safe laws s d pick ModuleCall NoFunction c x is
enter-by laws s d pick c x is m false ea false eb true ee = code-safe laws s d pick ModuleCall ModuleEnded c x is
enter-by laws s d pick c x is m false ea false eb false ee =
    let few : reg c 12 ≤ 63 = ltb-false 63 (reg c 12) ea in
    enters laws s d pick c x is m (omega arith) (eqb-false _ none eb) (eqb-false _ ended_module ee)

pub enter-turn : Given → TurnLaw ModuleCall
enter-turn laws s pick see h few r good at =
    let x : IsCalling s good.domain MODULE_CALL = calling-so laws s see h r good (omega arith, omega arith) in
    let c : List ℕ = returned s.context (word_at (seen s) (reg s.context 1)) in
    call-safe laws s good.domain pick ModuleCall x (omega arith)
    (λ e. enter-by laws s good.domain pick c x (behind-return laws s good.domain x (omega arith) e)
    (mark-behind laws s good.domain x (omega arith) e)
    (nat_lt 63 (reg c 12)) refl (eqb (function_at s.kernel (reg c 12)).module none) refl
    (eqb (module_at s.kernel (function_at s.kernel (reg c 12)).module).state ended_module) refl)
