-- The routine of a line, where a thread was interrupted.
use Rattle.std.proofs.Common.{◌≡◌, ◌≢◌, ℕ, ◌+◌, ◌*◌, ◌<◌, ◌≤◌, eqb, List, [], ◌∷◌, get_or, take, drop, refl, sym, ap, ◌∙◌, subst, inl, arith, Option}
use Rattle.std.specs.List.{AllByRecursion}
use Rattle.std.proofs.lemmas.Bool.{cond_both, eqb-true}
use Rattle.std.proofs.lemmas.List.{get_or-set_other}
use Rattle.machine_model.specs.Memory.{word_at, even, IsMemory}
use Rattle.machine_model.specs.Context.{reg, set_reg, IsContext}
use Rattle.machine_model.specs.Does.{raised}
use Rattle.machine_model.proofs.Contexts.{set-context}
use Rattle.machine_laws.proofs.Registers.{reg_other, sp_same}
use Rattle.kernel_model.specs.declared.map.TheConstants.{DATA_POOL, FIRST_ROUTINE}
use Rattle.kernel_model.specs.Kernel.{Kernel, thread_at, free_thread}
use Rattle.kernel_model.specs.Words.{none, running, ready_row, running_state}
use Rattle.kernel_model.specs.Queues.{to_ready_end}
use Rattle.kernel_model.specs.declared.rows.ThreadRow.{ThreadRow}
use Rattle.kernel_model.specs.Running.{ThreadRuns, NoneRuns}
use Rattle.kernel_model.specs.Dispatching.{saved, moved_to_front, moved_to_end, dispatched, dispatched_context}
use Rattle.kernel_model.specs.Waking.{each_to_end, ticked, woken_line}
use Rattle.thread_laws.proofs.Spots.{running_is}
use Rattle.load_model.specs.Domains.{Domain}
use Rattle.node_model.specs.Systems.{System, seen}
use Rattle.node_model.specs.Entries.{interrupted, served, vector_turn, work}
use Rattle.node_model.specs.Steps.{by_turn}
use Rattle.node_model.specs.Sound.{IsSound, IsSoundKernel, IsRunning, IsServing, IsInterrupted, IsGoodFor}
use Rattle.node_model.specs.Laws.{IsSeen, IsSafe}
use Rattle.node_laws.specs.Facts.{Given}
use Rattle.node_laws.proofs.Resting.{sound-saved, sound-front, sound-end, dispatch}
use Rattle.node_laws.proofs.Stepping.{IsThread, thread-facts, later, word-small}
use Rattle.node_laws.proofs.Calls.{good-saved}
use Rattle.node_laws.proofs.Waking.{IsWoken, each-leaves, Waits}
use Rattle.node_laws.proofs.Serving.{woken-is, sound-ticked, sound-woken, ticked-is, with-tick, due, all-take, all-from, sleeper-waits}
use Rattle.kernel_model.specs.Kernel.{with_sleepers, with_line, line_at}
use Rattle.kernel_model.specs.declared.rows.AppRow.{AppRow}

-- ---- what was pushed is read alike from memory and from what is seen

pub same-word : (s : System) (a : ℕ) → IsSeen s → DATA_POOL ≤ a → word_at (seen s) a ≡ word_at s.memory a
unfolding word_at
same-word s a see l =
    ap (λ (x : ℕ). x + 256 * get_or (seen s) (even a + 1) 0) (see.above (even a) (omega arith))
    ∙ ap (λ (x : ℕ). get_or s.memory (even a) 0 + 256 * x) (see.above (even a + 1) (omega arith))

unfoldable pub second : List ℕ → (sr : ℕ) → List ℕ
second c sr = raised (set_reg c 2 sr)

pub second-sp : (c : List ℕ) (sr : ℕ) → IsContext c → sr < 65536 → reg c 1 + 2 < 65536 → reg (second c sr) 1 ≡ reg c 1 + 2
unfolding second
second-sp c sr h small l =
    let sp : reg (set_reg c 2 sr) 1 ≡ reg c 1 = reg_other c 2 sr 1 (omega arith) in
    sp_same (set_reg c 2 sr) _ (set-context c 2 sr h small) ∙ omega (arith, sp, h.sp_even)

pub interrupted-same : (s : System) → IsSeen s → IsContext s.context → DATA_POOL ≤ reg s.context 1 → reg s.context 1 + 2 < 65536
    → word_at s.memory (reg s.context 1) < 65536 → interrupted (seen s) s.context ≡ interrupted s.memory s.context
unfolding second
interrupted-same s see h low high small =
    let c : List ℕ = s.context in
    let a : word_at (seen s) (reg c 1) ≡ word_at s.memory (reg c 1) = same-word s (reg c 1) see low in
    let sp : reg (second c (word_at s.memory (reg c 1))) 1 ≡ reg c 1 + 2 = second-sp c (word_at s.memory (reg c 1)) h small high in
    let b : word_at (seen s) (reg (second c (word_at s.memory (reg c 1))) 1) ≡ word_at s.memory
    (reg (second c (word_at s.memory (reg c 1))) 1) =
    same-word s (reg (second c (word_at s.memory (reg c 1))) 1) see (omega (arith, sp)) in
    ap (λ (w : ℕ). raised (set_reg (second c w) 0 (word_at (seen s) (reg (second c w) 1)))) a
    ∙ ap (λ (w : ℕ). raised (set_reg (second c (word_at s.memory (reg c 1))) 0 w)) b

-- ---- the saved row of the running thread stays while others wake

row-stays : (ts : List ℕ) (k : Kernel) (u : ℕ) → AllByRecursion (λ t. u ≢ t) ts → thread_at (each_to_end k ts) u ≡ thread_at k u
row-stays [] k u h = refl
row-stays (t ∷ ts) k u h = row-stays ts (to_ready_end k t) u h.1
    ∙ get_or-set_other k.threads t u (ready_row (thread_at k t)) free_thread h.0

apart : (k : Kernel) (u : ℕ) → (thread_at k u).state ≡ running_state → (ts : List ℕ) → AllByRecursion (Waits k.threads) ts
    → AllByRecursion (λ t. u ≢ t) ts
apart k u e [] w = tt
apart k u e (t ∷ ts) w = ((λ s. w.0.rests (ap (λ (v : ℕ). (thread_at k v).state) (sym s) ∙ e)), apart k u e ts w.1)

ticked-row : (k : Kernel) (ds : List (Option Domain)) (n : ℕ) → IsSoundKernel k ds n → ThreadRuns k
    → thread_at (ticked k) (running k) ≡ thread_at k (running k)
ticked-row k ds n h r =
    ap (λ (j : Kernel). thread_at j (running k)) (ticked-is k)
    ∙ row-stays (take (due k) k.sleepers) (with_sleepers (with-tick k) (drop (due k) k.sleepers)) (running k)
    (apart k (running k) (running_is k h.settled.orderly r).state (take (due k) k.sleepers)
    (all-take (Waits k.threads) (due k) k.sleepers (all-from (Waits k.threads) k.sleepers (sleeper-waits k h.settled.orderly))))

-- who runs stays, and where its stack is
pub record SameRuns (k j : Kernel) : Type 0 where
  pub running : j.running ≡ k.running
  pub in_module : j.module_now ≡ k.module_now
  pub apps : j.apps ≡ k.apps

pub ticked-same : (k : Kernel) → SameRuns k (ticked k)
ticked-same k =
    let left : IsWoken (with_sleepers (with-tick k) (drop (due k) k.sleepers))
    (each_to_end (with_sleepers (with-tick k) (drop (due k) k.sleepers)) (take (due k) k.sleepers)) =
    each-leaves (take (due k) k.sleepers) (with_sleepers (with-tick k) (drop (due k) k.sleepers)) in
    subst (SameRuns k) (sym (ticked-is k)) record { running = left.running; in_module = left.in_module; apps = left.apps }

-- a tick while a thread is interrupted
sound-tick : (k : Kernel) (ds : List (Option Domain)) (n : ℕ) (c : List ℕ) → IsSoundKernel k ds n → ThreadRuns k
    → IsGoodFor k.apps ds (running k) c → IsSoundKernel (moved_to_end (ticked (saved k c))) ds (n + 1)
    × NoneRuns (moved_to_end (ticked (saved k c)))
sound-tick k ds n c h r good =
    let k1 : Kernel = saved k c in
    let h1 : IsSoundKernel k1 ds n = sound-saved k ds n c h r good.good.steady.context.words in
    let r1 : ThreadRuns k1 = record { thread = r.thread; no_module = r.no_module } in
    let k2 : Kernel = ticked k1 in
    let same : SameRuns k1 k2 = ticked-same k1 in
    let r2 : ThreadRuns k2 = record {
      thread = subst (λ (t : ℕ). t < 32) (sym same.running) r.thread;
      no_module = same.in_module
          ∙ r.no_module;
    } in
    let row : thread_at k2 (running k2) ≡ thread_at k1 (running k1) = ap (thread_at k2) same.running ∙ ticked-row k1 ds n h1 r1 in
    let good1 : IsGoodFor k.apps ds (running k) (thread_at k1 (running k1)).regs =
    good-saved k ds c r h.settled.orderly.shape.thread_rows good in
    let good2 : IsGoodFor k2.apps ds (running k2) (thread_at k2 (running k2)).regs =
    subst (λ (w : ThreadRow). IsGoodFor k2.apps ds (running k2) w.regs) (sym row)
    (subst (λ (t : ℕ). IsGoodFor k2.apps ds t (thread_at k1 (running k1)).regs) (sym same.running)
    (subst (λ (x : List AppRow). IsGoodFor x ds (running k) (thread_at k1 (running k1)).regs) (sym same.apps) good1)) in
    (sound-end k2 ds (n + 1) (sound-ticked k1 ds n h1) r2 good2, record { no_thread = refl; no_module = r2.no_module })

-- another line
pub woken-same : (k : Kernel) (n : ℕ) → SameRuns k (woken_line k n)
woken-same k n =
    let left : IsWoken (with_line k n []) (each_to_end (with_line k n []) (line_at k n)) =
    each-leaves (line_at k n) (with_line k n []) in
    subst (SameRuns k) (sym (woken-is k n)) record { running = left.running; in_module = left.in_module; apps = left.apps }

sound-line : (k : Kernel) (ds : List (Option Domain)) (n l : ℕ) (c : List ℕ) → l < 14 → IsSoundKernel k ds n → ThreadRuns k
    → IsGoodFor k.apps ds (running k) c → IsSoundKernel (woken_line (moved_to_front (saved k c)) l) ds n
    × NoneRuns (woken_line (moved_to_front (saved k c)) l)
sound-line k ds n l c below h r good =
    let k1 : Kernel = saved k c in
    let r1 : ThreadRuns k1 = record { thread = r.thread; no_module = r.no_module } in
    let h2 : IsSoundKernel (moved_to_front k1) ds n =
    sound-front k1 ds n (sound-saved k ds n c h r good.good.steady.context.words) r1
    (good-saved k ds c r h.settled.orderly.shape.thread_rows good) in
    let same : SameRuns (moved_to_front k1) (woken_line (moved_to_front k1) l) = woken-same (moved_to_front k1) l in
    (sound-woken (moved_to_front k1) ds n l below h2, record { no_thread = same.running; no_module = same.in_module ∙ r.no_module })

-- ---- the routine

sound-served : (k : Kernel) (ds : List (Option Domain)) (n l : ℕ) (c : List ℕ) → l < 14 → IsSoundKernel k ds n → ThreadRuns k
    → IsGoodFor k.apps ds (running k) c → IsSoundKernel (served l k c) ds (n + 1) × NoneRuns (served l k c)
sound-served k ds n l c below h r good =
    cond_both (eqb (running k) none) _ _ (λ (j : Kernel). IsSoundKernel j ds (n + 1) × NoneRuns j)
    (λ e. absurd (let q = eqb-true (running k) none e in let x = r.thread in omega arith))
    (λ _. cond_both (eqb l 0) (moved_to_end (ticked (saved k c))) (woken_line (moved_to_front (saved k c)) l)
    (λ (j : Kernel). IsSoundKernel j ds (n + 1) × NoneRuns j)
    (λ _. sound-tick k ds n c h r good)
    (λ _. let x : IsSoundKernel (woken_line (moved_to_front (saved k c)) l) ds n
    × NoneRuns (woken_line (moved_to_front (saved k c)) l) = sound-line k ds n l c below h r good in (later _ ds n x.0, x.1)))

pub serve-safe : Given → (s : System) (pick : Option ℕ) (l : ℕ) → IsSeen s → IsSound s → (r : ThreadRuns s.kernel)
    → IsServing s.context → IsInterrupted s.memory s.context s.kernel.apps s.placed (running s.kernel) → l < 14
    → reg s.context 0 ≡ FIRST_ROUTINE + 2 * l
    → IsSafe s (by_turn s (vector_turn l (seen s) (work s pick)))
serve-safe laws s pick l see h r serving i below at =
    let f : IsThread s i.good.domain = thread-facts laws s i.good.domain see h r i.good.placed in
    let word : word_at s.memory (reg s.context 1) < 65536 = small s.memory (reg s.context 1) h.code.memory in
    let same : interrupted (seen s) s.context ≡ interrupted s.memory s.context =
    interrupted-same s see serving.context (omega (arith, i.from_low, f.stack.within_low, f.well.lo_low))
    (omega (arith, i.to_top, f.stack.within_top, f.well.hi_high)) word in
    let good : IsGoodFor s.kernel.apps s.placed (running s.kernel) (interrupted (seen s) s.context) =
    subst (λ (c : List ℕ). IsGoodFor s.kernel.apps s.placed (running s.kernel) c) (sym same) i.good in
    let k : IsSoundKernel (served l s.kernel (interrupted (seen s) s.context)) s.placed (s.steps + 1)
    × NoneRuns (served l s.kernel (interrupted (seen s) s.context)) =
    sound-served s.kernel s.placed s.steps l (interrupted (seen s) s.context) below h.kernel r good in
    let d : IsSoundKernel (dispatched (served l s.kernel (interrupted (seen s) s.context)) pick) s.placed (s.steps + 1)
    × IsRunning s.memory (dispatched_context (served l s.kernel (interrupted (seen s) s.context)) pick)
    (dispatched (served l s.kernel (interrupted (seen s) s.context)) pick) s.placed =
    dispatch s.memory (served l s.kernel (interrupted (seen s) s.context)) s.placed (s.steps + 1) pick k.0 k.1 in
    record {
      sound = record { code = h.code; kernel = d.0; running = d.1 };
      confined =
          record { number = below; at = at; cleared = serving.cleared; pushed = inl (r, i) };
      keeps = tt;
      spelled = tt;
    }
  where
    small : (m : List ℕ) (a : ℕ) → IsMemory m → word_at m a < 65536
    small m a x = word-small m a x
