-- A running thread that sleeps, waits for a line, or asks for the tick number.
use Rattle.std.proofs.Common.{◌≡◌, ◌≢◌, ℕ, ◌+◌, ◌/◌, ◌%◌, ◌<◌, ◌≤◌, Bool, true, false, not, eqb, cond, List, [], ◌∷◌, ◌++◌, length, get_or, set, insert, refl, sym, ap, ◌∙◌, subst, inl, inr, arith, Option, None, Some}
use Rattle.std.specs.Prelude.{nat_lt, ◌||◌}
use Rattle.std.proofs.lemmas.Bool.{cases_eq, cond-false, eqb-false, ltb-false}
use Rattle.std.proofs.lemmas.List.{get_or-set_same, get_or-set_other}
use Rattle.machine_model.specs.Memory.{word_at}
use Rattle.machine_model.specs.Context.{reg, set_reg}
use Rattle.machine_laws.proofs.Registers.{reg_other}
use Rattle.kernel_model.specs.declared.entries.TheConstants.{CALLS, LINE, SLEEP, TICKS}
use Rattle.kernel_model.specs.Kernel.{Kernel, thread_at, with_thread, with_line, with_sleepers, line_at}
use Rattle.kernel_model.specs.Words.{none, asleep, on_line, running, app_of, tick_number}
use Rattle.kernel_model.specs.Queues.{among_sleepers}
use Rattle.kernel_model.specs.declared.rows.ThreadRow.{ThreadRow}
use Rattle.kernel_model.specs.Running.{ThreadRuns, running_domain}
use Rattle.kernel_model.specs.Dispatching.{saved}
use Rattle.kernel_model.specs.Waking.{slept, waiting_line}
use Rattle.kernel_model.specs.declared.code.Code.TheVariants.{BadArgument}
use Rattle.thread_laws.proofs.WaitRules.{slept_stays_settled, waiting_line_stays_settled}
use Rattle.load_model.specs.Domains.{Domain}
use Rattle.node_model.specs.Systems.{System, seen, is_mark}
use Rattle.node_model.specs.Entries.{Work, Turn, Sleep, Line, Ticks, work, module_runs, unless, yields, after_leaving, gives_ticks, with_ticks, goes_straight, goes_on, called}
use Rattle.node_model.specs.Steps.{by_turn}
use Rattle.node_model.specs.Sound.{IsSoundKernel, IsGoodFor}
use Rattle.node_model.specs.Kept.{Own, without_own}
use Rattle.node_model.specs.Laws.{IsSafe}
use Rattle.node_laws.specs.Facts.{Given}
use Rattle.node_laws.specs.Steps.{TurnLaw}
use Rattle.node_laws.proofs.Rows.{saved-put, populated-put}
use Rattle.node_laws.proofs.Resting.{sound-saved, saved-row}
use Rattle.node_laws.proofs.Stepping.{domain-runs, no-module}
use Rattle.node_laws.proofs.Contexts.{returned}
use Rattle.node_laws.proofs.Untouched.{IsUntouched, untouched-all, untouched-twice, untouched-row, without-insert}
use Rattle.node_model.specs.Nodes.{most_steps}
use Rattle.node_laws.proofs.Calls.{pc-behind, IsCalling, calling, own_of, own-thread, told-safe, untouched-runs, IsReturned, with-register, good-returned, good-saved, rests-end}
use Rattle.node_laws.proofs.Faulting.{behind-return, call-safe, code-safe, goes-safe, nothing-done, entered-by}

-- ---- what stays

untouched-sleepers : (own : Own) (k : Kernel) (i t : ℕ) → own.threads t ≡ true
    → IsUntouched own k (with_sleepers k (insert k.sleepers i t))
untouched-sleepers own k i t e = record {
  rows = λ b l f. refl;
  threads = λ u l f. refl;
  mutexes = λ b i l m f. refl;
  conditions = λ b i l m f. refl;
  ready = refl;
  sleepers = without-insert own.threads k.sleepers i t e;
  lines = λ n l. refl;
  functions = refl;
  modules = λ i l f. refl;
  ticks = refl;
  lines_pending = refl;
}

without-last : (own : ℕ → Bool) (xs : List ℕ) (t : ℕ) → own t ≡ true → without_own own (xs ++ t ∷ []) ≡ without_own own xs
without-last own [] t e = cond-false (not (own t)) (t ∷ []) [] (ap not e)
without-last own (x ∷ xs) t e = ap (λ (ys : List ℕ). cond (not (own x)) (x ∷ ys) ys) (without-last own xs t e)

untouched-line : (own : Own) (k : Kernel) (n t : ℕ) → n < length k.lines → own.threads t ≡ true
    → IsUntouched own k (with_line k n (line_at k n ++ t ∷ []))
untouched-line own k n t l e = record {
  rows = λ b l f. refl;
  threads = λ u l f. refl;
  mutexes = λ b i l m f. refl;
  conditions = λ b i l m f. refl;
  ready = refl;
  sleepers = refl;
  lines = λ m b. elim (cases_eq m n) [
    | inl s ↦ ap (λ (j : ℕ). without_own own.threads (get_or (set k.lines n (line_at k n ++ t ∷ [])) j [])) s
        ∙ ap (without_own own.threads) (get_or-set_same k.lines n (line_at k n ++ t ∷ []) [] l)
        ∙ without-last own.threads (line_at k n) t e ∙ ap (λ (j : ℕ). without_own own.threads (line_at k j)) (sym s)
    | inr x ↦ ap (without_own own.threads) (get_or-set_other k.lines n m (line_at k n ++ t ∷ []) [] x)
  ];
  functions = refl;
  modules = λ i l f. refl;
  ticks = refl;
  lines_pending = refl;
}

-- ---- sleep

-- the registers that are saved go on at a mark
marked : {entry : ℕ} → (s : System) (d : Domain) (c : List ℕ) (at : ℕ) → IsCalling s d entry → reg c 0 ≡ at
    → is_mark s.placed (running_domain s.kernel) at ≡ true → is_mark s.placed (app_of (running s.kernel)) (reg c 0) ≡ true
marked s d c at x here e = ap (is_mark s.placed (app_of (running s.kernel))) here
    ∙ ap (λ (n : ℕ). is_mark s.placed n at) (sym (domain-runs s.kernel x.runs)) ∙ e

slept-row : (k : Kernel) (r : List ℕ) → ThreadRow
slept-row k r = let wake = tick_number k + get_or r 12 0 in
    record (thread_at k (running k)) { state = asleep; wake_low = wake % 65536; wake_high = wake / 65536 }

sound-slept : (k : Kernel) (ds : List (Option Domain)) (n : ℕ) (r : List ℕ) → IsSoundKernel k ds n → ThreadRuns k
    → get_or r 12 0 ≢ 0 → IsGoodFor k.apps ds (running k) (thread_at k (running k)).regs
    → is_mark ds (app_of (running k)) (reg (thread_at k (running k)).regs 0) ≡ true → IsSoundKernel (slept k r) ds n
unfolding slept-row
sound-slept k ds n r h run p good mark =
    let size : length k.threads ≡ 32 = h.settled.orderly.shape.thread_rows in
    let l : running k < length k.threads = (let x = run.thread in omega arith) in
    record {
      settled = slept_stays_settled k r h.settled run p;
      domains = h.domains;
      saved = saved-put k.apps ds k.threads (running k) (slept-row k r) l (λ _ _. record { good = good; mark = λ _. mark }) h.saved;
      populated = populated-put k.apps k.threads (running k) (slept-row k r) l (λ off. omega arith) h.populated;
      functions = h.functions;
      bounded = h.bounded;
    }

untouched-slept : (own : Own) (k : Kernel) (r : List ℕ) → own.threads (running k) ≡ true → IsUntouched own k (slept k r)
unfolding slept-row
untouched-slept own k r e =
    let k1 : Kernel = with_thread k (running k) (slept-row k r) in
    let k2 : Kernel = with_sleepers k1 (among_sleepers k1 (running k)) in
    untouched-twice own k k1 (slept k r) (untouched-row own k (running k) (slept-row k r) e)
    (untouched-twice own k1 k2 (slept k r) (untouched-sleepers own k1 _ (running k) e) (untouched-runs own k2 none))

-- a caller that was saved, and doesn't go on at once
pub saved-mark : {entry : ℕ} → (s : System) (d : Domain) (c : List ℕ) → IsCalling s d entry
    → is_mark s.placed (app_of (running s.kernel)) (reg c 0) ≡ true
    → is_mark s.placed (app_of (running s.kernel)) (reg (thread_at (saved s.kernel c) (running s.kernel)).regs 0) ≡ true
saved-mark s d c x e = subst (λ (row : ThreadRow). is_mark s.placed (app_of (running s.kernel)) (reg row.regs 0) ≡ true)
    (sym (saved-row s.kernel c x.runs x.sound.kernel.settled.orderly.shape.thread_rows)) e

sleeps : Given → (s : System) (d : Domain) (pick : Option ℕ) (r : List ℕ) → IsCalling s d SLEEP → IsReturned s d r
    → is_mark s.placed (app_of (running s.kernel)) (reg r 0) ≡ true → get_or r 12 0 ≢ 0
    → IsSafe s (by_turn s (after_leaving Sleep (record (work s pick) { context = r }) (slept (saved s.kernel (set_reg r 12 0)) r)))
sleeps laws s d pick r x is m some =
    let c : List ℕ = set_reg r 12 0 in
    let k : Kernel = s.kernel in
    let good : IsGoodFor k.apps s.placed (running k) c =
    good-returned s d c x (with-register s d r 12 0 (omega arith) (omega arith) is) in
    let runs : ThreadRuns (saved k c) = record { thread = x.runs.thread; no_module = x.runs.no_module } in
    let mark : is_mark s.placed (app_of (running k)) (reg c 0) ≡ true =
    ap (is_mark s.placed (app_of (running k))) (reg_other r 12 0 0 (omega arith)) ∙ m in
    told-safe laws s d (slept (saved k c) r) pick SLEEP x record {
      sound = sound-slept (saved k c) s.placed s.steps r
          (sound-saved k s.placed s.steps c x.sound.kernel x.runs good.good.steady.context.words) runs some
          (good-saved k s.placed c x.runs x.sound.kernel.settled.orderly.shape.thread_rows good) (saved-mark s d c x mark);
      none_runs = record { no_thread = refl; no_module = x.runs.no_module };
      untouched = untouched-twice (own_of s) k (saved k c) (slept (saved k c) r)
          (untouched-row (own_of s) k (running k) (record (thread_at k (running k)) { regs = c }) (own-thread s))
          (untouched-slept (own_of s) (saved k c) r (own-thread s));
    }

sleep-by : Given → (s : System) (d : Domain) (pick : Option ℕ) (r : List ℕ) → IsCalling s d SLEEP → IsReturned s d r
    → is_mark s.placed (app_of (running s.kernel)) (reg r 0) ≡ true → (b : Bool) → eqb (get_or r 12 0) 0 ≡ b
    → IsSafe s (by_turn s (cond b (yields Sleep (record (work s pick) { context = r }))
    (after_leaving Sleep (record (work s pick) { context = r }) (slept (saved s.kernel (set_reg r 12 0)) r))))
sleep-by laws s d pick r x is m true e =
    told-safe laws s d _ pick SLEEP x
    (rests-end (own_of s) s.kernel s.kernel s.placed s.steps (set_reg r 12 0) x.sound.kernel x.runs (own-thread s)
    (untouched-all (own_of s) s.kernel) (good-returned s d _ x (with-register s d r 12 0 (omega arith) (omega arith) is)))
sleep-by laws s d pick r x is m false e = sleeps laws s d pick r x is m (eqb-false (get_or r 12 0) 0 e)

-- ---- a line

line-row : (k : Kernel) (n : ℕ) → ThreadRow
line-row k n = record (thread_at k (running k)) { state = on_line; object = n }

sound-waiting : (k : Kernel) (ds : List (Option Domain)) (n : ℕ) (r : List ℕ) → IsSoundKernel k ds n → ThreadRuns k
    → get_or r 12 0 < 14 → IsGoodFor k.apps ds (running k) (thread_at k (running k)).regs
    → is_mark ds (app_of (running k)) (reg (thread_at k (running k)).regs 0) ≡ true → IsSoundKernel (waiting_line k r) ds n
unfolding line-row
sound-waiting k ds n r h run p good mark =
    let size : length k.threads ≡ 32 = h.settled.orderly.shape.thread_rows in
    let l : running k < length k.threads = (let x = run.thread in omega arith) in
    record {
      settled = waiting_line_stays_settled k r h.settled run p;
      domains = h.domains;
      saved = saved-put k.apps ds k.threads (running k) (line-row k (get_or r 12 0)) l
          (λ _ _. record { good = good; mark = λ _. mark }) h.saved;
      populated = populated-put k.apps k.threads (running k) (line-row k (get_or r 12 0)) l (λ off. omega arith) h.populated;
      functions = h.functions;
      bounded = h.bounded;
    }

untouched-waiting : (own : Own) (k : Kernel) (r : List ℕ) → length k.lines ≡ 14 → get_or r 12 0 < 14
    → own.threads (running k) ≡ true → IsUntouched own k (waiting_line k r)
unfolding line-row
untouched-waiting own k r size l e =
    let n : ℕ = get_or r 12 0 in
    let k1 : Kernel = with_line k n (line_at k n ++ running k ∷ []) in
    let k2 : Kernel = with_thread k1 (running k) (line-row k1 n) in
    untouched-twice own k k1 (waiting_line k r) (untouched-line own k n (running k) (omega arith) e)
    (untouched-twice own k1 k2 (waiting_line k r) (untouched-row own k1 (running k) (line-row k1 n) e)
    (untouched-runs own k2 none))

waits : Given → (s : System) (d : Domain) (pick : Option ℕ) (r : List ℕ) → IsCalling s d LINE → IsReturned s d r
    → is_mark s.placed (app_of (running s.kernel)) (reg r 0) ≡ true → get_or r 12 0 ≤ 13
    → IsSafe s (by_turn s (after_leaving Line (record (work s pick) { context = r })
    (waiting_line (saved s.kernel (set_reg r 12 0)) r)))
waits laws s d pick r x is m few =
    let c : List ℕ = set_reg r 12 0 in
    let k : Kernel = s.kernel in
    let good : IsGoodFor k.apps s.placed (running k) c =
    good-returned s d c x (with-register s d r 12 0 (omega arith) (omega arith) is) in
    let runs : ThreadRuns (saved k c) = record { thread = x.runs.thread; no_module = x.runs.no_module } in
    let mark : is_mark s.placed (app_of (running k)) (reg c 0) ≡ true =
    ap (is_mark s.placed (app_of (running k))) (reg_other r 12 0 0 (omega arith)) ∙ m in
    told-safe laws s d (waiting_line (saved k c) r) pick LINE x record {
      sound = sound-waiting (saved k c) s.placed s.steps r
          (sound-saved k s.placed s.steps c x.sound.kernel x.runs good.good.steady.context.words) runs (omega arith)
          (good-saved k s.placed c x.runs x.sound.kernel.settled.orderly.shape.thread_rows good) (saved-mark s d c x mark);
      none_runs = record { no_thread = refl; no_module = x.runs.no_module };
      untouched = untouched-twice (own_of s) k (saved k c) (waiting_line (saved k c) r)
          (untouched-row (own_of s) k (running k) (record (thread_at k (running k)) { regs = c }) (own-thread s))
          (untouched-waiting (own_of s) (saved k c) r x.sound.kernel.settled.orderly.shape.line_lists (omega arith) (own-thread s));
    }

line-by : Given → (s : System) (d : Domain) (pick : Option ℕ) (r : List ℕ) → IsCalling s d LINE → IsReturned s d r
    → is_mark s.placed (app_of (running s.kernel)) (reg r 0) ≡ true → (a : Bool) → eqb (get_or r 12 0) 0 ≡ a → (b : Bool)
    → nat_lt 13 (get_or r 12 0) ≡ b
    → IsSafe s (by_turn s (unless Line (record (work s pick) { context = r }) (cond (a || b) (Some BadArgument) None)
    (after_leaving Line (record (work s pick) { context = r }) (waiting_line (saved s.kernel (set_reg r 12 0)) r))))
line-by laws s d pick r x is m true ea b eb = code-safe laws s d pick Line BadArgument r x is
line-by laws s d pick r x is m false ea true eb = code-safe laws s d pick Line BadArgument r x is
line-by laws s d pick r x is m false ea false eb = waits laws s d pick r x is m (ltb-false 13 (get_or r 12 0) eb)

-- ---- the turns

-- the registers behind the return go on at the mark
pub mark-behind : {entry : ℕ} → Given → (s : System) (d : Domain) → IsCalling s d entry → CALLS ≤ reg s.context 0
    → is_mark s.placed (running_domain s.kernel) (word_at (seen s) (reg s.context 1)) ≡ true
    → is_mark s.placed (app_of (running s.kernel)) (reg (returned s.context (word_at (seen s) (reg s.context 1))) 0) ≡ true
mark-behind laws s d x l e = marked s d (returned s.context (word_at (seen s) (reg s.context 1)))
    (word_at (seen s) (reg s.context 1)) x (pc-behind laws s d (word_at (seen s) (reg s.context 1)) x l e) e

pub sleep-turn : Given → TurnLaw Sleep
sleep-turn laws s pick see h few r good at =
    let x : IsCalling s good.domain SLEEP = calling laws s see h r good (omega arith, omega arith) in
    let c : List ℕ = returned s.context (word_at (seen s) (reg s.context 1)) in
    call-safe laws s good.domain pick Sleep x (omega arith)
    (λ e. sleep-by laws s good.domain pick c x (behind-return laws s good.domain x (omega arith) e)
    (mark-behind laws s good.domain x (omega arith) e) (eqb (get_or c 12 0) 0) refl)

pub line-turn : Given → TurnLaw Line
line-turn laws s pick see h few r good at =
    let x : IsCalling s good.domain LINE = calling laws s see h r good (omega arith, omega arith) in
    let c : List ℕ = returned s.context (word_at (seen s) (reg s.context 1)) in
    call-safe laws s good.domain pick Line x (omega arith)
    (λ e. line-by laws s good.domain pick c x (behind-return laws s good.domain x (omega arith) e)
    (mark-behind laws s good.domain x (omega arith) e) (eqb (get_or c 12 0) 0) refl (nat_lt 13 (get_or c 12 0)) refl)

-- ---- the tick number

ticks-by : Given → (s : System) (d : Domain) (pick : Option ℕ) (r : List ℕ) → IsCalling s d TICKS → IsReturned s d r
    → s.steps < most_steps → IsSafe s (by_turn s (gives_ticks (record (work s pick) { context = r })))
ticks-by laws s d pick r x is few =
    let w : Work = record (work s pick) { context = r } in
    let ticks : tick_number s.kernel ≤ s.steps = x.sound.kernel.bounded.ticks in
    subst (λ (t : Turn). IsSafe s (by_turn s t))
    (sym (cond-false (module_runs s.kernel) (goes_straight s.kernel (set_reg (with_ticks w) 12 0) (called w TICKS))
    (goes_on w s.kernel (with_ticks w) 0 (called w TICKS)) (no-module s.kernel x.runs)))
    (goes-safe laws s d pick s.kernel (set_reg (with_ticks w) 12 0) _ x (nothing-done s x.sound x.runs)
    (good-returned s d _ x (with-register s d _ 12 0 (omega arith) (omega arith)
    (with-register s d _ 14 _ (omega arith) (omega arith) (with-register s d r 13 _ (omega arith) (omega arith) is))))
    (entered-by s TICKS))

pub ticks-turn : Given → TurnLaw Ticks
ticks-turn laws s pick see h few r good at =
    let x : IsCalling s good.domain TICKS = calling laws s see h r good (omega arith, omega arith) in
    let c : List ℕ = returned s.context (word_at (seen s) (reg s.context 1)) in
    call-safe laws s good.domain pick Ticks x (omega arith)
    (λ e. ticks-by laws s good.domain pick c x (behind-return laws s good.domain x (omega arith) e) few)
