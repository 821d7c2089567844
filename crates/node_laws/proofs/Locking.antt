-- A running thread's calls on mutexes and conditions.
use Rattle.std.proofs.Common.{◌≡◌, ◌≢◌, ℕ, ◌+◌, ◌*◌, ◌<◌, ◌≤◌, Bool, true, false, not, cond, List, [], ◌∷◌, ◌++◌, length, get_or, set, take, drop, refl, sym, ap, ◌∙◌, subst, inl, inr, arith, Option, None, Some}
use Rattle.std.specs.Prelude.{nat_lt, ◌||◌}
use Rattle.std.proofs.lemmas.Bool.{cond-true, ltb-false, eqb-true, eqb-false}
use Rattle.machine_model.specs.Memory.{word_at}
use Rattle.machine_model.specs.Context.{reg, set_reg}
use Rattle.machine_laws.proofs.Registers.{reg_other}
use Rattle.kernel_model.specs.declared.entries.TheConstants.{BROADCAST, LOCK, SIGNAL, UNLOCK, WAIT}
use Rattle.kernel_model.specs.Kernel.{Kernel, thread_at, with_thread, condition_at, with_condition, with_mutex}
use Rattle.kernel_model.specs.Words.{none, free, on_mutex, on_condition, running, app_of, identity, none_running, owner_of, waiters_of}
use Rattle.kernel_model.specs.declared.rows.AppRow.{AppRow}
use Rattle.kernel_model.specs.declared.rows.MutexRow.{MutexRow}
use Rattle.kernel_model.specs.declared.rows.ThreadRow.{ThreadRow}
use Rattle.place_model.specs.Settled.{IsSettledKernel}
use Rattle.kernel_model.specs.Running.{ThreadRuns}
use Rattle.kernel_model.specs.Dispatching.{saved, moved_to_front}
use Rattle.kernel_model.specs.declared.code.Code.TheVariants.{BadArgument, NotOwner, OwnLock}
use Rattle.thread_laws.proofs.Spots.{running_is}
use Rattle.kernel_model.specs.Sync.{own_app, own_number, is_free_mutex, owns, with_mutex_row, queued, unlocked, waiting_condition, woken}
use Rattle.sync_laws.proofs.SyncRules.{locked_stays_settled, queued_settled, unlocked_stays_settled, waited_stays_settled, own_is}
use Rattle.sync_laws.proofs.WokenRules.{woken_stays_settled, put_again}
use Rattle.load_model.specs.Domains.{Domain}
use Rattle.node_model.specs.Systems.{System, seen, is_mark}
use Rattle.node_model.specs.Entries.{Call, Lock, Unlock, Wait, Signal, Broadcast, entry_address, work, unless, after, after_leaving, locks}
use Rattle.node_model.specs.Steps.{by_turn}
use Rattle.node_model.specs.Sound.{IsSoundKernel, IsGoodFor}
use Rattle.node_model.specs.Laws.{IsSafe}
use Rattle.node_model.specs.Kept.{Own}
use Rattle.node_laws.specs.Facts.{Given}
use Rattle.node_laws.specs.Steps.{TurnLaw}
use Rattle.node_laws.proofs.Rows.{saved-put, populated-put}
use Rattle.node_laws.proofs.Resting.{sound-saved, saved-row}
use Rattle.node_laws.proofs.Contexts.{returned}
use Rattle.node_laws.proofs.Untouched.{untouched-twice, untouched-row}
use Rattle.node_laws.proofs.Calls.{IsCalling, calling, own_of, own-thread, told-safe, untouched-runs, IsReturned, with-register, good-returned, rests-front}
use Rattle.node_laws.proofs.Faulting.{behind-return, call-safe, code-safe, goes-safe, entered-by}
use Rattle.node_laws.proofs.Waiting.{mark-behind}
use Rattle.node_laws.proofs.Sharing.{IsShifted, shifted-twice, shifted-mutex, shifted-condition, shifted-handed, shifted-go, sound-shifted, untouched-mutex, untouched-condition, own-app}

-- ---- the caller goes on behind a change of mutexes and conditions

-- it runs on
pub runs-on : (own : Own) (k j : Kernel) → IsShifted own k j → ThreadRuns k → ThreadRuns j
runs-on own k j s r = record {
  thread = subst (λ (t : ℕ). t < 32) (sym s.words.running) r.thread;
  no_module = s.words.in_module
      ∙ r.no_module;
}

pub good-on : (own : Own) (k j : Kernel) (ds : List (Option Domain)) (c : List ℕ) → IsShifted own k j
    → IsGoodFor k.apps ds (running k) c → IsGoodFor j.apps ds (running j) c
good-on own k j ds c s h = subst (λ (x : List AppRow). IsGoodFor x ds (running j) c) (sym s.words.apps)
    (subst (λ (t : ℕ). IsGoodFor k.apps ds t c) (sym s.words.running) h)

pub shifted-safe : Given → (s : System) (d : Domain) (pick : Option ℕ) (e : Call) (j : Kernel) (r : List ℕ)
    → IsCalling s d (entry_address e) → IsReturned s d r → IsShifted (own_of s) s.kernel j → IsSettledKernel j
    → IsSafe s (by_turn s (after e (record (work s pick) { context = r }) j))
shifted-safe laws s d pick e j r x is shift settled =
    goes-safe laws s d pick j (set_reg r 12 0) _ x
    record {
      sound = sound-shifted (own_of s) s.kernel j s.placed s.steps x.sound.kernel shift settled;
      runs = runs-on (own_of s) s.kernel j shift x.runs;
      own = ap (own_of s).threads shift.words.running ∙ own-thread s;
      untouched = shift.untouched;
    }
    (good-on (own_of s) s.kernel j s.placed _ shift
    (good-returned s d _ x (with-register s d r 12 0 (omega arith) (omega arith) is)))
    (entered-by s (entry_address e))

pub own-below : (s : System) → ThreadRuns s.kernel → own_app s.kernel < 8
own-below s r = let l = r.thread in omega arith

-- ---- unlock

unlock-by : Given → (s : System) (d : Domain) (pick : Option ℕ) (r : List ℕ) → IsCalling s d UNLOCK → IsReturned s d r → (a : Bool)
    → nat_lt 3 (get_or r 12 0) ≡ a → (b : Bool) → owns s.kernel (get_or r 12 0) ≡ b
    → IsSafe s (by_turn s (unless Unlock (record (work s pick) { context = r })
    (cond a (Some BadArgument) (cond (not b) (Some NotOwner) None))
    (after Unlock (record (work s pick) { context = r }) (unlocked s.kernel (get_or r 12 0)))))
unlock-by laws s d pick r x is true ea b eb = code-safe laws s d pick Unlock BadArgument r x is
unlock-by laws s d pick r x is false ea false eb = code-safe laws s d pick Unlock NotOwner r x is
unlock-by laws s d pick r x is false ea true eb =
    let i : ℕ = get_or r 12 0 in
    let few : i ≤ 3 = ltb-false 3 i ea in
    let h : IsSettledKernel s.kernel = x.sound.kernel.settled in
    shifted-safe laws s d pick Unlock (unlocked s.kernel i) r x is
    (shifted-handed (own_of s) s.kernel (own_app s.kernel) i (waiters_of s.kernel (own_app s.kernel) i) (own-app (own_app s.kernel))
    h (own-below s x.runs) (omega arith) refl)
    (unlocked_stays_settled s.kernel i h x.runs (omega arith))

pub unlock-turn : Given → TurnLaw Unlock
unlock-turn laws s pick see h few r good at =
    let x : IsCalling s good.domain UNLOCK = calling laws s see h r good (omega arith, omega arith) in
    let c : List ℕ = returned s.context (word_at (seen s) (reg s.context 1)) in
    call-safe laws s good.domain pick Unlock x (omega arith)
    (λ e. unlock-by laws s good.domain pick c x (behind-return laws s good.domain x (omega arith) e) (nat_lt 3 (get_or c 12 0))
    refl (owns s.kernel (get_or c 12 0)) refl)

-- ---- signal and broadcast

-- some go for their mutexes
shifted-woken : (s : System) (c count : ℕ) → IsSettledKernel s.kernel → ThreadRuns s.kernel → c < 4
    → IsShifted (own_of s) s.kernel (woken s.kernel c count)
unfolding woken
shifted-woken s c count h r lc =
    let k : Kernel = s.kernel in
    let a : ℕ = own_app k in
    let ns : List ℕ = condition_at k a c in
    let k1 : Kernel = with_condition k a c (drop count ns) in
    shifted-twice (own_of s) k k1 (woken k c count) (shifted-condition (own_of s) k a c (drop count ns) lc (own-app a).0)
    (shifted-go (own_of s) (take count ns) (drop count ns) k1 a c (own-app a) (own-below s r) lc
    (subst (λ (j : Kernel). IsSettledKernel j) (sym (put_again k a c count)) h))

woken-safe : Given → (s : System) (d : Domain) (pick : Option ℕ) (e : Call) (count : ℕ) (r : List ℕ)
    → IsCalling s d (entry_address e) → IsReturned s d r → (b : Bool) → nat_lt 3 (get_or r 12 0) ≡ b
    → IsSafe s (by_turn s (unless e (record (work s pick) { context = r }) (cond b (Some BadArgument) None)
    (after e (record (work s pick) { context = r }) (woken s.kernel (get_or r 12 0) count))))
woken-safe laws s d pick e count r x is true eb = code-safe laws s d pick e BadArgument r x is
woken-safe laws s d pick e count r x is false eb =
    let c : ℕ = get_or r 12 0 in
    let few : c ≤ 3 = ltb-false 3 c eb in
    let h : IsSettledKernel s.kernel = x.sound.kernel.settled in
    shifted-safe laws s d pick e (woken s.kernel c count) r x is (shifted-woken s c count h x.runs (omega arith))
    (woken_stays_settled s.kernel c count h x.runs (omega arith))

pub signal-turn : Given → TurnLaw Signal
signal-turn laws s pick see h few r good at =
    let x : IsCalling s good.domain SIGNAL = calling laws s see h r good (omega arith, omega arith) in
    let c : List ℕ = returned s.context (word_at (seen s) (reg s.context 1)) in
    call-safe laws s good.domain pick Signal x (omega arith)
    (λ e. woken-safe laws s good.domain pick Signal 1 c x (behind-return laws s good.domain x (omega arith) e)
    (nat_lt 3 (get_or c 12 0)) refl)

pub broadcast-turn : Given → TurnLaw Broadcast
broadcast-turn laws s pick see h few r good at =
    let x : IsCalling s good.domain BROADCAST = calling laws s see h r good (omega arith, omega arith) in
    let c : List ℕ = returned s.context (word_at (seen s) (reg s.context 1)) in
    call-safe laws s good.domain pick Broadcast x (omega arith)
    (λ e. woken-safe laws s good.domain pick Broadcast (length (condition_at s.kernel (own_app s.kernel) (get_or c 12 0))) c x
    (behind-return laws s good.domain x (omega arith) e) (nat_lt 3 (get_or c 12 0)) refl)

-- ---- a caller that rests, on a mutex or a condition

-- the running thread's row, and lists of mutexes and conditions
abbrev rests-with : Kernel → (t : ℕ) → ThreadRow → List MutexRow → List (List ℕ) → Kernel
rests-with k t row ms cs = none_running (record (with_thread k t row) { mutexes = ms; conditions = cs })

sound-rests : (k : Kernel) (ds : List (Option Domain)) (n t : ℕ) (row : ThreadRow) (ms : List MutexRow) (cs : List (List ℕ))
    → IsSoundKernel k ds n → ThreadRuns k → t ≡ running k → IsSettledKernel (rests-with k t row ms cs)
    → row.state ≢ free → IsGoodFor k.apps ds (running k) row.regs → is_mark ds (app_of (running k)) (reg row.regs 0) ≡ true
    → IsSoundKernel (rests-with k t row ms cs) ds n
sound-rests k ds n t row ms cs h r here settled on good mark =
    let l : t < length k.threads = (let x = r.thread in let size = h.settled.orderly.shape.thread_rows in omega arith) in
    record {
      settled = settled;
      domains = h.domains;
      saved = saved-put k.apps ds k.threads t row l
          (λ _ _. record {
            good = subst (λ (u : ℕ). IsGoodFor k.apps ds u row.regs) (sym here) good;
            mark =
                λ _. subst (λ (u : ℕ). is_mark ds (app_of u) (reg row.regs 0) ≡ true) (sym here) mark;
          }) h.saved;
      populated = populated-put k.apps k.threads t row l on h.populated;
      functions = h.functions;
      bounded = h.bounded;
    }

-- the registers that are saved
marked-still : (s : System) (r : List ℕ) → is_mark s.placed (app_of (running s.kernel)) (reg r 0) ≡ true
    → is_mark s.placed (app_of (running s.kernel)) (reg (set_reg r 12 0) 0) ≡ true
marked-still s r m = ap (is_mark s.placed (app_of (running s.kernel))) (reg_other r 12 0 0 (omega arith)) ∙ m

-- ---- lock

queues : Given → (s : System) (d : Domain) (pick : Option ℕ) (r : List ℕ) → IsCalling s d LOCK → IsReturned s d r
    → is_mark s.placed (app_of (running s.kernel)) (reg r 0) ≡ true → (i : ℕ) → i < 4
    → owner_of s.kernel (own_app s.kernel) i ≢ none → owner_of s.kernel (own_app s.kernel) i ≢ own_number s.kernel
    → IsSafe s (by_turn s (after_leaving Lock (record (work s pick) { context = r })
    (none_running (queued (saved s.kernel (set_reg r 12 0)) (own_app s.kernel) i (own_number s.kernel)))))
queues laws s d pick r x is m i li some other =
    let k : Kernel = s.kernel in
    let c : List ℕ = set_reg r 12 0 in
    let a : ℕ = own_app k in
    let n : ℕ = own_number k in
    let t : ℕ = identity a n in
    let here : t ≡ running k = own_is k in
    let k1 : Kernel = saved k c in
    let good : IsGoodFor k.apps s.placed (running k) c =
    good-returned s d c x (with-register s d r 12 0 (omega arith) (omega arith) is) in
    let h1 : IsSoundKernel k1 s.placed s.steps =
    sound-saved k s.placed s.steps c x.sound.kernel x.runs good.good.steady.context.words in
    let r1 : ThreadRuns k1 = record { thread = x.runs.thread; no_module = x.runs.no_module } in
    let row : ThreadRow = record (thread_at k1 t) { state = on_mutex; object = i; mutex = 0 } in
    let owner : MutexRow = record { owner = owner_of k a i; waiters = record { items = waiters_of k a i ++ n ∷ [] } } in
    let put : thread_at k1 (running k) ≡ record (thread_at k (running k)) { regs = c } =
    saved-row k c x.runs x.sound.kernel.settled.orderly.shape.thread_rows in
    let regs : (thread_at k1 t).regs ≡ c = ap (λ (u : ℕ). (thread_at k1 u).regs) here ∙ ap (λ (w : ThreadRow). w.regs) put in
    let own : (own_of s).threads t ≡ true = ap (own_of s).threads here ∙ own-thread s in
    let k2 : Kernel = with_mutex k1 a i owner in
    told-safe laws s d (rests-with k1 t row (set k.mutexes (4 * a + i) owner) k.conditions) pick LOCK x record {
      sound = sound-rests k1 s.placed s.steps t row (set k.mutexes (4 * a + i) owner) k.conditions h1 r1 here
          (queued_settled k1 i h1.settled r1 li some other) (omega arith)
          (subst (λ (v : List ℕ). IsGoodFor k.apps s.placed (running k) v) (sym regs) good)
          (subst (λ (v : List ℕ). is_mark s.placed (app_of (running k)) (reg v 0) ≡ true) (sym regs) (marked-still s r m));
      none_runs = record { no_thread = refl; no_module = x.runs.no_module };
      untouched = untouched-twice (own_of s) k k1 _ (untouched-row (own_of s) k (running k) _ (own-thread s))
          (untouched-twice (own_of s) k1 k2 _ (untouched-mutex (own_of s) k1 a i owner li (own-app a).0)
          (untouched-twice (own_of s) k2 (with_thread k2 t row) _ (untouched-row (own_of s) k2 t row own)
          (untouched-runs (own_of s) (with_thread k2 t row) none)));
    }

-- a free mutex is taken
abbrev taken : Kernel → (i : ℕ) → Kernel
taken k i = with_mutex_row k (own_app k) i (own_number k) (waiters_of k (own_app k) i)

-- the mutex is free, or isn't
locks-by : Given → (s : System) (d : Domain) (pick : Option ℕ) (r : List ℕ) → IsCalling s d LOCK → IsReturned s d r
    → is_mark s.placed (app_of (running s.kernel)) (reg r 0) ≡ true → (i : ℕ) → i < 4
    → owner_of s.kernel (own_app s.kernel) i ≢ own_number s.kernel → (b : Bool) → is_free_mutex s.kernel (own_app s.kernel) i ≡ b
    → IsSafe s (by_turn s (cond b
    (after_leaving Lock (record (work s pick) { context = r })
    (moved_to_front (cond b (taken (saved s.kernel (set_reg r 12 0)) i)
    (none_running (queued (saved s.kernel (set_reg r 12 0)) (own_app s.kernel) i (own_number s.kernel))))))
    (after_leaving Lock (record (work s pick) { context = r })
    (cond b (taken (saved s.kernel (set_reg r 12 0)) i)
    (none_running (queued (saved s.kernel (set_reg r 12 0)) (own_app s.kernel) i (own_number s.kernel)))))))
locks-by laws s d pick r x is m i li other true e =
    let k : Kernel = s.kernel in
    let c : List ℕ = set_reg r 12 0 in
    let shift : IsShifted (own_of s) k (taken k i) = shifted-mutex (own_of s) k (own_app k) i _ li (own-app (own_app k)).0 in
    let sound : IsSoundKernel (taken k i) s.placed s.steps =
    sound-shifted (own_of s) k (taken k i) s.placed s.steps x.sound.kernel shift
    (subst IsSettledKernel (cond-true (is_free_mutex k (own_app k) i) (taken k i) _ e)
    (locked_stays_settled k i x.sound.kernel.settled x.runs li other)) in
    told-safe laws s d (moved_to_front (saved (taken k i) c)) pick LOCK x
    (rests-front (own_of s) k (taken k i) s.placed s.steps c sound (record { thread = x.runs.thread; no_module = x.runs.no_module })
    (own-thread s) shift.untouched (good-returned s d c x (with-register s d r 12 0 (omega arith) (omega arith) is)))
locks-by laws s d pick r x is m i li other false e =
    queues laws s d pick r x is m i li (eqb-false (owner_of s.kernel (own_app s.kernel) i) none e) other

lock-by : Given → (s : System) (d : Domain) (pick : Option ℕ) (r : List ℕ) → IsCalling s d LOCK → IsReturned s d r
    → is_mark s.placed (app_of (running s.kernel)) (reg r 0) ≡ true
    → (a : Bool) → nat_lt 3 (get_or r 12 0) ≡ a → (b : Bool) → owns s.kernel (get_or r 12 0) ≡ b
    → IsSafe s (by_turn s (unless Lock (record (work s pick) { context = r })
    (cond a (Some BadArgument) (cond b (Some OwnLock) None)) (locks (record (work s pick) { context = r }) (get_or r 12 0))))
lock-by laws s d pick r x is m true ea b eb = code-safe laws s d pick Lock BadArgument r x is
lock-by laws s d pick r x is m false ea true eb = code-safe laws s d pick Lock OwnLock r x is
lock-by laws s d pick r x is m false ea false eb =
    let i : ℕ = get_or r 12 0 in
    let few : i ≤ 3 = ltb-false 3 i ea in
    locks-by laws s d pick r x is m i (omega arith) (eqb-false (owner_of s.kernel (own_app s.kernel) i) (own_number s.kernel) eb)
    (is_free_mutex s.kernel (own_app s.kernel) i) refl

pub lock-turn : Given → TurnLaw Lock
lock-turn laws s pick see h few r good at =
    let x : IsCalling s good.domain LOCK = calling laws s see h r good (omega arith, omega arith) in
    let c : List ℕ = returned s.context (word_at (seen s) (reg s.context 1)) in
    call-safe laws s good.domain pick Lock x (omega arith)
    (λ e. lock-by laws s good.domain pick c x (behind-return laws s good.domain x (omega arith) e)
    (mark-behind laws s good.domain x (omega arith) e) (nat_lt 3 (get_or c 12 0)) refl (owns s.kernel (get_or c 12 0)) refl)

-- ---- wait

-- the running thread's row isn't shifted
own-row : (own : Own) (k j : Kernel) → IsSettledKernel k → ThreadRuns k → IsShifted own k j
    → thread_at j (running k) ≡ thread_at k (running k)
own-row own k j h r s = elim (s.rows (running k)) [ inl e ↦ e | inr m ↦ absurd (m.rested (running_is k h.orderly r).state) ]

waits : Given → (s : System) (d : Domain) (pick : Option ℕ) (r : List ℕ) → IsCalling s d WAIT → IsReturned s d r
    → is_mark s.placed (app_of (running s.kernel)) (reg r 0) ≡ true → (c i : ℕ) → c < 4 → i < 4
    → owner_of s.kernel (own_app s.kernel) i ≡ own_number s.kernel
    → IsSafe s (by_turn s (after_leaving Wait (record (work s pick) { context = r })
    (waiting_condition (saved s.kernel (set_reg r 12 0)) c i)))
waits laws s d pick r x is m c i lc li mine =
    let k : Kernel = s.kernel in
    let v : List ℕ = set_reg r 12 0 in
    let a : ℕ = own_app k in
    let n : ℕ = own_number k in
    let t : ℕ = running k in
    let k1 : Kernel = saved k v in
    let good : IsGoodFor k.apps s.placed t v = good-returned s d v x (with-register s d r 12 0 (omega arith) (omega arith) is) in
    let h1 : IsSoundKernel k1 s.placed s.steps =
    sound-saved k s.placed s.steps v x.sound.kernel x.runs good.good.steady.context.words in
    let r1 : ThreadRuns k1 = record { thread = x.runs.thread; no_module = x.runs.no_module } in
    let j : Kernel = unlocked k1 i in
    let shift : IsShifted (own_of s) k1 j =
    shifted-handed (own_of s) k1 a i (waiters_of k1 a i) (own-app a) h1.settled (own-below s x.runs) li refl in
    let hj : IsSoundKernel j s.placed s.steps =
    sound-shifted (own_of s) k1 j s.placed s.steps h1 shift (unlocked_stays_settled k1 i h1.settled r1 li) in
    let rj : ThreadRuns j = runs-on (own_of s) k1 j shift r1 in
    let row : ThreadRow = record (thread_at j t) { state = on_condition; object = c; mutex = i } in
    let put : thread_at k1 t ≡ record (thread_at k t) { regs = v } =
    saved-row k v x.runs x.sound.kernel.settled.orderly.shape.thread_rows in
    let regs : (thread_at j t).regs ≡ v = ap (λ (w : ThreadRow). w.regs) (own-row (own_of s) k1 j h1.settled r1 shift ∙ put) in
    let goodj : IsGoodFor j.apps s.placed (running j) v = good-on (own_of s) k1 j s.placed v shift good in
    let markj : is_mark s.placed (app_of (running j)) (reg v 0) ≡ true =
    ap (λ (u : ℕ). is_mark s.placed (app_of u) (reg v 0)) shift.words.running ∙ marked-still s r m in
    let list : List ℕ = condition_at j a c ++ n ∷ [] in
    let k2 : Kernel = with_condition j a c list in
    told-safe laws s d (rests-with j t row j.mutexes (set j.conditions (4 * a + c) list)) pick WAIT x record {
      sound = sound-rests j s.placed s.steps t row j.mutexes (set j.conditions (4 * a + c) list) hj rj (sym shift.words.running)
          (waited_stays_settled k1 c i h1.settled r1 lc li mine) (omega arith)
          (subst (λ (w : List ℕ). IsGoodFor j.apps s.placed (running j) w) (sym regs) goodj)
          (subst (λ (w : List ℕ). is_mark s.placed (app_of (running j)) (reg w 0) ≡ true) (sym regs) markj);
      none_runs = record { no_thread = refl; no_module = rj.no_module };
      untouched = untouched-twice (own_of s) k k1 _ (untouched-row (own_of s) k (running k) _ (own-thread s))
          (untouched-twice (own_of s) k1 j _ shift.untouched
          (untouched-twice (own_of s) j k2 _ (untouched-condition (own_of s) j a c list lc (own-app a).0)
          (untouched-twice (own_of s) k2 (with_thread k2 t row) _ (untouched-row (own_of s) k2 t row (own-thread s))
          (untouched-runs (own_of s) (with_thread k2 t row) none))));
    }

wait-by : Given → (s : System) (d : Domain) (pick : Option ℕ) (r : List ℕ) → IsCalling s d WAIT → IsReturned s d r
    → is_mark s.placed (app_of (running s.kernel)) (reg r 0) ≡ true
    → (a : Bool) → nat_lt 3 (get_or r 12 0) ≡ a → (b : Bool) → nat_lt 3 (get_or r 13 0) ≡ b → (o : Bool)
    → owns s.kernel (get_or r 13 0) ≡ o
    → IsSafe s (by_turn s (unless Wait (record (work s pick) { context = r })
    (cond (a || b) (Some BadArgument) (cond (not o) (Some NotOwner) None))
    (after_leaving Wait (record (work s pick) { context = r })
    (waiting_condition (saved s.kernel (set_reg r 12 0)) (get_or r 12 0) (get_or r 13 0)))))
wait-by laws s d pick r x is m true ea b eb o eo = code-safe laws s d pick Wait BadArgument r x is
wait-by laws s d pick r x is m false ea true eb o eo = code-safe laws s d pick Wait BadArgument r x is
wait-by laws s d pick r x is m false ea false eb false eo = code-safe laws s d pick Wait NotOwner r x is
wait-by laws s d pick r x is m false ea false eb true eo =
    let few : get_or r 12 0 ≤ 3 = ltb-false 3 (get_or r 12 0) ea in
    let four : get_or r 13 0 ≤ 3 = ltb-false 3 (get_or r 13 0) eb in
    waits laws s d pick r x is m (get_or r 12 0) (get_or r 13 0) (omega arith) (omega arith)
    (eqb-true (owner_of s.kernel (own_app s.kernel) (get_or r 13 0)) (own_number s.kernel) eo)

pub wait-turn : Given → TurnLaw Wait
wait-turn laws s pick see h few r good at =
    let x : IsCalling s good.domain WAIT = calling laws s see h r good (omega arith, omega arith) in
    let c : List ℕ = returned s.context (word_at (seen s) (reg s.context 1)) in
    call-safe laws s good.domain pick Wait x (omega arith)
    (λ e. wait-by laws s good.domain pick c x (behind-return laws s good.domain x (omega arith) e)
    (mark-behind laws s good.domain x (omega arith) e) (nat_lt 3 (get_or c 12 0)) refl (nat_lt 3 (get_or c 13 0)) refl
    (owns s.kernel (get_or c 13 0)) refl)
