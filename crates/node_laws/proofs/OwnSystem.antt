-- A node that stands for a sound system stands for the one that its own parts make: what is seen takes the place of memory.
use Rattle.std.proofs.Common.{◌≡◌, ℕ, ◌+◌, ◌-◌, ◌*◌, ◌%◌, ◌<◌, ◌≤◌, ◌≢◌, List, length, get_or, inl, inr, refl, sym, ap, ◌∙◌, subst, arith, Option}
use Rattle.std.proofs.lemmas.Bool.{cases_lt}
use Rattle.std.proofs.lemmas.Grind.{same_number_lists}
use Rattle.machine_model.specs.Memory.{word_at, even, IsMemory}
use Rattle.machine_model.specs.Context.{reg, set_reg, IsContext}
use Rattle.machine_model.specs.Does.{raised}
use Rattle.machine_model.proofs.Contexts.{set-context}
use Rattle.machine_laws.proofs.Registers.{reg_other, sp_same}
use Rattle.kernel_model.specs.declared.map.TheConstants.{BITMAP, BITMAP_END, DATA_POOL, DATA_POOL_END, KERNEL_STACK, KERNEL_TOP, TABLES_END, VECTORS}
use Rattle.kernel_model.specs.Kernel.{Kernel, app_at}
use Rattle.kernel_model.specs.Layout.{kernel_of}
use Rattle.kernel_model.specs.Running.{ThreadRuns, idle_context}
use Rattle.kernel_model.specs.Words.{free, running, app_of}
use Rattle.thread_laws.specs.Facts.{IsRunning as IsRunningRow}
use Rattle.thread_laws.proofs.Spots.{running_is}
use Rattle.load_model.specs.Domains.{Domain}
use Rattle.load_model.specs.Loading.{Loadable}
use Rattle.node_model.specs.Entries.{interrupted}
use Rattle.node_model.specs.Placed.{IsWellPlaced}
use Rattle.node_model.specs.Systems.{System, seen, seen_in}
use Rattle.node_model.specs.Sound.{IsSound, IsRunning, AThread, Nothing, Interrupted, IdleInterrupted, AModule, IsServing, IsInterrupted, IsIdleInterrupted, HasDomain, IsDomain, low_in, top_in}
use Rattle.node_model.specs.Laws.{IsSeen}
use Rattle.node_model.specs.Nodes.{Parts, Represents, IsSoundNode, all_owned, system_of}
use Rattle.node_laws.proofs.Domains.{of-app, app-placed, IsStack, stack-in}
use Rattle.node_laws.proofs.Representing.{seen-free, seen-over, seen-length}
use Rattle.node_laws.proofs.Routines.{second, second-sp, interrupted-same, same-word}
use Rattle.node_laws.proofs.Seeing.{sees}
use Rattle.node_laws.proofs.Stepping.{code-seen, word-small}

-- ---- what is seen of what is seen

seen-twice : (m : List ℕ) (k : Kernel) (ds : List (Option Domain)) → length m ≡ 65536 → seen_in m k ds ≡ seen_in (seen_in m k ds) k ds
seen-twice m k ds e = same_number_lists (seen_in m k ds) (seen_in (seen_in m k ds) k ds) (size ∙ sym (seen-length (seen_in m k ds) k ds size)) (λ a l. each a)
  where
    size : length (seen_in m k ds) ≡ 65536
    size = seen-length m k ds e

    each : (a : ℕ) → get_or (seen_in m k ds) a 0 ≡ get_or (seen_in (seen_in m k ds) k ds) a 0
    each a = elim (cases_lt a 512) [
      | inl l ↦ sym (seen-free (seen_in m k ds) k ds a size (inl l))
      | inr u ↦ elim (cases_lt a TABLES_END) [
        | inl l ↦ seen-over m (seen_in m k ds) k ds a e size (inl (u, l))
        | inr v ↦ elim (cases_lt a BITMAP) [
          | inl l ↦ sym (seen-free (seen_in m k ds) k ds a size (inr (inl (v, l))))
          | inr x ↦ elim (cases_lt a BITMAP_END) [
            | inl l ↦ seen-over m (seen_in m k ds) k ds a e size (inr (x, l))
            | inr y ↦ sym (seen-free (seen_in m k ds) k ds a size (inr (inr y)))
          ]
        ]
      ]
    ]

-- ---- the stacks are seen as they are

-- the stack of the running thread lies in the data pool
in-data : (s : System) → IsSound s → ThreadRuns s.kernel
    → (DATA_POOL ≤ low_in s.kernel.apps (running s.kernel)) × (top_in s.kernel.apps (running s.kernel) ≤ DATA_POOL_END)
in-data s h r =
    let t : ℕ = running s.kernel in
    let l : app_of t < 8 = (let x = r.thread in omega arith) in
    let row : IsRunningRow s.kernel t = running_is s.kernel h.kernel.settled.orderly r in
    let used : (app_at s.kernel (app_of t)).state ≢ free = λ z. omega (arith, z, row.app) in
    let has : HasDomain s.placed (app_of t) = h.kernel.domains.apps_used (app_of t) l used in
    let is : IsDomain s.kernel.apps s.kernel.modules (app_of t) has.0 = h.kernel.domains.placed (app_of t) has.0 has.1 in
    let app = of-app s.kernel.apps s.kernel.modules (app_of t) has.0 l is in
    let well : IsWellPlaced has.0 = app-placed s.kernel s.placed s.steps (app_of t) has.0 h.kernel l has.1 in
    let stack : IsStack has.0 (low_in s.kernel.apps t) (top_in s.kernel.apps t) =
    stack-in s.kernel.apps t has.0 well app.0 is.region app.1 (omega (arith, row.within, app.1.threads)) in
    (omega (arith, stack.within_low, well.lo_low), omega (arith, stack.within_top, well.hi_high))

interrupted-seen : (s : System) → IsSeen s → IsSound s → ThreadRuns s.kernel → IsServing s.context
    → IsInterrupted s.memory s.context s.kernel.apps s.placed (running s.kernel)
    → IsInterrupted (seen s) s.context s.kernel.apps s.placed (running s.kernel)
interrupted-seen s see h r serving i =
    let pool : (DATA_POOL ≤ low_in s.kernel.apps (running s.kernel)) × (top_in s.kernel.apps (running s.kernel) ≤ DATA_POOL_END) = in-data s h r in
    let low : DATA_POOL ≤ reg s.context 1 = omega (arith, i.from_low, pool.0) in
    let same : interrupted (seen s) s.context ≡ interrupted s.memory s.context =
    interrupted-same s see serving.context low (omega (arith, i.to_top, pool.1)) (word-small s.memory (reg s.context 1) h.code.memory) in
    record {
      good = record {
        domain = i.good.domain;
        placed = i.good.placed;
        good = rw same i.good.good;
      };
      even_pc = ap (λ (w : ℕ). w % 2) (same-word s (reg s.context 1 + 2) see (omega (arith, low))) ∙ i.even_pc;
      from_low = i.from_low;
      to_top = i.to_top;
    }

-- ---- what was pushed while the machine idled

-- a word of the kernel's stack
kernel-word : (s : System) (a : ℕ) → length s.memory ≡ 65536 → KERNEL_STACK ≤ a → a < KERNEL_TOP
    → word_at (seen s) a ≡ word_at s.memory a
unfolding word_at
kernel-word s a e l u =
    ap (λ (x : ℕ). x + 256 * get_or (seen s) (even a + 1) 0)
    (seen-free s.memory s.kernel s.placed (even a) e (inr (inl (omega arith, omega arith))))
    ∙ ap (λ (x : ℕ). get_or s.memory (even a) 0 + 256 * x)
    (seen-free s.memory s.kernel s.placed (even a + 1) e (inr (inl (omega arith, omega arith))))

-- SP behind two words that are popped
popped-sp : (m c : List ℕ) → IsMemory m → IsContext c → reg (interrupted m c) 1 ≡ ((reg c 1 + 2) % 65536 + 2) % 65536
popped-sp m c hm h =
    let w : ℕ = word_at m (reg c 1) in
    let c1 : List ℕ = set_reg c 2 w in
    let h1 : IsContext c1 = set-context c 2 w h (word-small m (reg c 1) hm) in
    let c2 : List ℕ = raised c1 in
    let h2 : IsContext c2 = set-context c1 1 ((reg c1 1 + 2) % 65536) h1 (omega arith) in
    let v : ℕ = word_at m (reg c2 1) in
    let c3 : List ℕ = set_reg c2 0 v in
    let h3 : IsContext c3 = set-context c2 0 v h2 (word-small m (reg c2 1) hm) in
    let a : reg c1 1 ≡ reg c 1 = reg_other c 2 w 1 (omega arith) in
    let b : reg c2 1 ≡ even ((reg c1 1 + 2) % 65536) = sp_same c1 ((reg c1 1 + 2) % 65536) h1 in
    let d : reg c3 1 ≡ reg c2 1 = reg_other c2 0 v 1 (omega arith) in
    let e : reg (raised c3) 1 ≡ even ((reg c3 1 + 2) % 65536) = sp_same c3 ((reg c3 1 + 2) % 65536) h3 in
    e ∙ omega (arith, a, b, d, h.sp_even)

idle-sp : (m c : List ℕ) → IsMemory m → IsContext c → interrupted m c ≡ idle_context → reg c 1 ≡ (KERNEL_TOP - 4)
idle-sp m c hm h e =
    let top : reg (interrupted m c) 1 ≡ KERNEL_TOP = ap (λ (r : List ℕ). reg r 1) e in
    omega (arith, popped-sp m c hm h, top, h.small 1)

idle-seen : (s : System) → IsSound s → IsServing s.context → IsIdleInterrupted s.memory s.context → IsIdleInterrupted (seen s) s.context
unfolding second
idle-seen s h serving i =
    let c : List ℕ = s.context in
    let m : IsMemory s.memory = h.code.memory in
    let sp : reg c 1 ≡ (KERNEL_TOP - 4) = idle-sp s.memory c m serving.context i.idle in
    let a : word_at (seen s) (reg c 1) ≡ word_at s.memory (reg c 1) = kernel-word s (reg c 1) m.bytes (omega (arith, sp)) (omega (arith, sp)) in
    let w : ℕ = word_at s.memory (reg c 1) in
    let next : reg (second c w) 1 ≡ reg c 1 + 2 = second-sp c w serving.context (word-small s.memory (reg c 1) m) (omega (arith, sp)) in
    let b : word_at (seen s) (reg (second c w) 1) ≡ word_at s.memory (reg (second c w) 1) =
    kernel-word s (reg (second c w) 1) m.bytes (omega (arith, sp, next)) (omega (arith, sp, next)) in
    let same : interrupted (seen s) c ≡ interrupted s.memory c =
    ap (λ (x : ℕ). raised (set_reg (second c x) 0 (word_at (seen s) (reg (second c x) 1)))) a
    ∙ ap (λ (x : ℕ). raised (set_reg (second c w) 0 x)) b in
    record {
      idle = same ∙ i.idle;
      even_pc = ap (λ (x : ℕ). x % 2) (kernel-word s (reg c 1 + 2) m.bytes (omega (arith, sp)) (omega (arith, sp))) ∙ i.even_pc;
    }

-- ---- the system with what is seen for memory

abbrev with-seen : System → System
with-seen s = record s { memory = seen s }

running-seen : (s : System) → IsSeen s → IsSound s → IsRunning s.memory s.context s.kernel s.placed
    → IsRunning (seen s) s.context s.kernel s.placed
running-seen s see h (AThread r good) = AThread r good
running-seen s see h (Nothing r e) = Nothing r e
running-seen s see h (Interrupted r serving i) = Interrupted r serving (interrupted-seen s see h r serving i)
running-seen s see h (IdleInterrupted r serving i) = IdleInterrupted r serving (idle-seen s h serving i)
running-seen s see h (AModule l good) = AModule l good

sound-seen : (s : System) → IsSound s → IsSound (with-seen s)
sound-seen s h =
    let see : IsSeen s = sees s h in
    record {
      code = record {
        memory = see.memory;
        code = λ n d e. code-seen s n d see h.code h.kernel e;
        vectors = λ n l. same-word s (VECTORS + 2 * n) see (omega arith) ∙ h.code.vectors n l;
      };
      kernel = h.kernel;
      running = running-seen s see h h.running;
    }

-- it is the one that a node's parts make
same-system : (n : Parts) (os : List Loadable) (s : System) → Represents n os s → system_of n os ≡ with-seen s
unfolding system_of
same-system n os s r =
    let placed : all_owned (kernel_of n.mem) os n.owner ≡ s.placed =
    ap (λ (k : Kernel). all_owned k os n.owner) r.kernel ∙ ap (λ (o : List ℕ). all_owned s.kernel os o) r.owner ∙ r.placed in
    λ i. record {
      memory = r.memory i;
      context = r.context i;
      kernel = r.kernel i;
      placed = placed i;
      owner = r.owner i;
      steps = r.steps i;
    }

own-parts : (n : Parts) (os : List Loadable) → n.mem ≡ seen (system_of n os) → Represents n os (system_of n os)
unfolding system_of
own-parts n os e = record { memory = e; kernel = refl; context = refl; steps = refl; owner = refl; placed = refl }

pub node-sound : (n : Parts) (os : List Loadable) (s : System) → Represents n os s → IsSound s → IsSoundNode n os
node-sound n os s r h =
    let same : system_of n os ≡ with-seen s = same-system n os s r in
    record {
      represents = own-parts n os (r.memory ∙ seen-twice s.memory s.kernel s.placed h.code.memory.bytes ∙ ap (λ (x : System). seen x) (sym same));
      sound = subst (λ (x : System). IsSound x) (sym same) (sound-seen s h);
    }
