-- An interrupt that is accepted while a thread runs.
use Rattle.std.proofs.Common.{◌≡◌, ◌≢◌, ℕ, ◌+◌, ◌-◌, ◌*◌, ◌/◌, ◌%◌, ◌^◌, ◌<◌, ◌≤◌, List, [], ◌∷◌, length, get_or, refl, sym, ap, ◌∙◌, subst, inl, inr, arith, Option, Contains, AllPairs}
use Rattle.std.specs.List.{AllByRecursion}
use Rattle.machine_model.specs.Memory.{even, word_at, put_all, IsMemory}
use Rattle.machine_model.specs.Context.{reg, set_reg, IsContext}
use Rattle.machine_model.specs.Does.{Effect, lowered}
use Rattle.machine_model.specs.Operands.{sum_of}
use Rattle.machine_model.proofs.Contexts.{as_words, set-context}
use Rattle.machine_laws.proofs.Registers.{reg_other, pc_same, sp_same, sr_same}
use Rattle.kernel_model.specs.declared.map.TheConstants.{FIRST_ROUTINE}
use Rattle.kernel_model.specs.declared.kinds.Kind.{Kind}
use Rattle.kernel_model.specs.declared.kinds.Kind.TheVariants.{App, Module}
use Rattle.kernel_model.specs.Kernel.{Kernel, with_word}
use Rattle.kernel_model.specs.Words.{running}
use Rattle.kernel_model.specs.declared.rows.SysWord.TheVariants.{Pending}
use Rattle.kernel_model.specs.Running.{ThreadRuns}
use Rattle.load_model.specs.Domains.{Domain}
use Rattle.node_model.specs.Placed.{control_bits}
use Rattle.machine_model.specs.Accepting.{accepted, vector_address, only_scg0}
use Rattle.node_model.specs.Systems.{System, seen}
use Rattle.node_model.specs.Entries.{interrupted}
use Rattle.node_model.specs.Steps.{acceptance, without_line, pending}
use Rattle.node_model.specs.Sound.{IsSound, IsSoundKernel, IsServing, Interrupted, IsGoodFor, low_in, top_in}
use Rattle.node_model.specs.Confined.{Within}
use Rattle.node_model.specs.Laws.{IsSeen, IsSafe, IsInPools}
use Rattle.node_laws.specs.Facts.{Given}
use Rattle.node_laws.proofs.OtherWords.{settled-words}
use Rattle.node_laws.proofs.Stepping.{IsThread, thread-facts, writes, later, memory-after, all-map}
use Rattle.node_laws.proofs.Accepting.{four, in_order, high_word, pushed-accepted}

-- ---- another pending word

pub sound-pending : (k : Kernel) (ds : List (Option Domain)) (n v : ℕ) → v < 2 ^ 14 → IsSoundKernel k ds n
    → IsSoundKernel (with_word k Pending v) ds n
sound-pending k ds n v l h = record {
  settled = settled-words k k.budget v h.settled;
  domains = h.domains;
  saved = h.saved;
  populated = h.populated;
  functions = h.functions;
  bounded = record { ticks = h.bounded.ticks; count = h.bounded.count; no_count = h.bounded.no_count; lines = l };
}

-- ---- what is written

written-words : (n : ℕ) (m : List ℕ) (a0 a1 a2 a3 a4 a5 a6 a7 a8 a9 a10 a11 a12 a13 a14 a15 : ℕ) → a1 < 65536 → a1 % 2 ≡ 0 → 4 ≤ a1
    → (accepted n m (a0 ∷ a1 ∷ a2 ∷ a3 ∷ a4 ∷ a5 ∷ a6 ∷ a7 ∷ a8 ∷ a9 ∷ a10 ∷ a11 ∷ a12 ∷ a13 ∷ a14 ∷ a15 ∷ [])).written ≡ four
    (a1 - 4) (a2 % 256) (a2 / 256) (a1 - 2) (a0 % 256) (a0 / 256)
unfolding accepted set_reg
written-words n m a0 a1 a2 a3 a4 a5 a6 a7 a8 a9 a10 a11 a12 a13 a14 a15 small e s =
    let b : ℕ = a1 - 4 in
    let a : ℕ = a1 - 2 in
    let ea : even ((a1 + 65534) % 65536) ≡ a = omega arith in
    let eb : even ((a + 65534) % 65536) ≡ b = omega arith in
    let va : even a ≡ a = omega arith in
    let vb : even b ≡ b = omega arith in
    rw (ea, eb, va, vb) (in_order b (a2 % 256) (a2 / 256) a (a0 % 256) (a0 / 256) (omega arith))

pub written-is : (n : ℕ) (m c : List ℕ) → IsContext c → 4 ≤ reg c 1
    → (accepted n m c).written ≡ four (reg c 1 - 4) (reg c 2 % 256) (reg c 2 / 256) (reg c 1 - 2) (reg c 0 % 256) (reg c 0 / 256)
written-is n m c h s =
    subst (λ (r : List ℕ). (accepted n m r).written ≡ four (reg c 1 - 4) (reg c 2 % 256) (reg c 2 / 256) (reg c 1 - 2)
    (reg c 0 % 256) (reg c 0 / 256)) (as_words c h.words)
    (written-words n m (reg c 0) (reg c 1) (reg c 2) (reg c 3) (reg c 4) (reg c 5) (reg c 6) (reg c 7) (reg c 8) (reg c 9)
    (reg c 10) (reg c 11) (reg c 12) (reg c 13) (reg c 14) (reg c 15) (h.small 1) h.sp_even s)

-- ---- the context that serves

lowered-is : (c : List ℕ) → IsContext c → 2 ≤ reg c 1 → IsContext (lowered c) × (reg (lowered c) 1 ≡ reg c 1 - 2)
lowered-is c h l = (
  set-context c 1 (sum_of (reg c 1) 65534) h (omega arith),
  sp_same c (sum_of (reg c 1) 65534) h
      ∙ omega (arith, h.sp_even, h.small 1),
)

pub serving : (n : ℕ) (m c : List ℕ) → n < 14 → IsContext c → 4 ≤ reg c 1 → reg c 2 / 64 % 2 ≡ 0
    → word_at m (vector_address n) ≡ FIRST_ROUTINE + 2 * n → IsServing (accepted n m c).context
    × (reg (accepted n m c).context 1 ≡ reg c 1 - 4)
unfolding accepted
serving n m c l h s bit v =
    let one : IsContext (lowered c) × (reg (lowered c) 1 ≡ reg c 1 - 2) = lowered-is c h (omega arith) in
    let two : IsContext (lowered (lowered c)) × (reg (lowered (lowered c)) 1 ≡ reg (lowered c) 1 - 2) =
    lowered-is (lowered c) one.0 (omega (arith, one.1)) in
    let r2 : List ℕ = lowered (lowered c) in
    let r3 : List ℕ = set_reg r2 2 (only_scg0 (reg c 2)) in
    let w : ℕ = word_at m (vector_address n) in
    let ctx : IsContext r3 = set-context r2 2 (only_scg0 (reg c 2)) two.0 (omega arith) in (
      record {
        context = set-context r3 0 w ctx (omega (arith, v));
        line = n;
        number = l;
        at = pc_same r3 w ctx ∙ omega (arith, v);
        cleared = reg_other r3 0 w 2 (omega arith) ∙ sr_same r2 (only_scg0 (reg c 2)) two.0 ∙ omega (arith, bit);
      },
      reg_other r3 0 w 1 (omega arith) ∙ reg_other r2 2 (only_scg0 (reg c 2)) 1 (omega arith) ∙ two.1 ∙ omega (arith, one.1),
    )

-- it depends on the vector's word alone
pub same-accepted : (n : ℕ) (m j c : List ℕ) → word_at m (vector_address n) ≡ word_at j (vector_address n)
    → accepted n m c ≡ accepted n j c
unfolding accepted
same-accepted n m j c e = ap (λ (v : ℕ).
    record { context = set_reg (set_reg (lowered (lowered c)) 2 (only_scg0 (reg c 2))) 0 v; written = (accepted n m c).written }) e

-- ---- the acceptance

pub all-four : (P : ℕ × ℕ → Type 0) (b x y a z w : ℕ) → P (b, x) → P (b + 1, y) → P (a, z) → P (a + 1, w)
    → AllByRecursion P (four b x y a z w)
all-four P b x y a z w p q r s = (p, (q, (r, (s, tt))))

pub same-word : (s : System) (n : ℕ) → IsSeen s → word_at (seen s) (vector_address n) ≡ word_at s.memory (vector_address n)
unfolding word_at
same-word s n see =
    ap (λ (x : ℕ). x + 256 * get_or (seen s) (even (vector_address n) + 1) 0) (see.above (even (vector_address n)) (omega arith))
    ∙ ap (λ (x : ℕ). get_or s.memory (even (vector_address n)) 0 + 256 * x) (see.above (even (vector_address n) + 1) (omega arith))

pub accept-safe : Given → (s : System) (n : ℕ) → IsSeen s → IsSound s → (r : ThreadRuns s.kernel)
    → IsGoodFor s.kernel.apps s.placed (running s.kernel) s.context → n < 14 → IsSafe s (acceptance s n)
accept-safe laws s n see h r good l =
    let d : Domain = good.domain in
    let c : List ℕ = s.context in
    let low : ℕ = low_in s.kernel.apps (running s.kernel) in
    let top : ℕ = top_in s.kernel.apps (running s.kernel) in
    let f : IsThread s d = thread-facts laws s d see h r good.placed in
    let ctx : IsContext c = good.good.steady.context in
    let sp_low : low + 4 ≤ reg c 1 = good.good.steady.room in
    let sp_top : reg c 1 ≤ top = good.good.steady.within in
    let bit : reg c 2 / 64 % 2 ≡ 0 = scg0 d.object.kind f.kind good.good.steady.status.control in
    let vector : word_at (seen s) (vector_address n) ≡ word_at s.memory (vector_address n) = same-word s n see in
    let at : word_at (seen s) (vector_address n) ≡ FIRST_ROUTINE + 2 * n = vector ∙ h.code.vectors n l in
    let e : Effect = accepted n (seen s) c in
    let is : e.written ≡ four (reg c 1 - 4) (reg c 2 % 256) (reg c 2 / 256) (reg c 1 - 2) (reg c 0 % 256) (reg c 0 / 256) =
    written-is n (seen s) c ctx (omega arith) in
    let sr : reg c 2 < 65536 = ctx.small 2 in
    let pc : reg c 0 < 65536 = ctx.small 0 in
    let own : AllByRecursion (Within low top) e.written = subst (AllByRecursion (Within low top)) (sym is)
    (all-four (Within low top) (reg c 1 - 4) (reg c 2 % 256) (reg c 2 / 256) (reg c 1 - 2) (reg c 0 % 256) (reg c 0 / 256)
    (omega arith, omega arith) (omega arith, omega arith) (omega arith, omega (arith, ctx.sp_even))
    (omega arith, omega (arith, ctx.sp_even))) in
    let pools : AllByRecursion IsInPools e.written =
    all-map (Within low top) IsInPools
    (λ w i. inr (omega (arith, i.0, f.stack.within_low, f.well.lo_low), omega (arith, i.1, f.stack.within_top, f.well.hi_high)))
    e.written own in
    let small : AllByRecursion (λ (w : ℕ × ℕ). w.1 < 256) e.written =
    subst (AllByRecursion (λ (w : ℕ × ℕ). w.1 < 256)) (sym is)
    (all-four (λ (w : ℕ × ℕ). w.1 < 256) (reg c 1 - 4) (reg c 2 % 256) (reg c 2 / 256) (reg c 1 - 2) (reg c 0 % 256)
    (reg c 0 / 256) (omega arith) (omega arith) (omega arith) (omega arith)) in
    let memory : IsMemory (put_all s.memory e.written) = memory-after e.written s.memory h.code.memory small in
    let serves : IsServing e.context × (reg e.context 1 ≡ reg c 1 - 4) = serving n (seen s) c l ctx (omega arith) bit at in
    let back : interrupted (put_all s.memory e.written) e.context ≡ c =
    subst (λ (x : Effect). interrupted (put_all s.memory x.written) x.context ≡ c)
    (sym (same-accepted n (seen s) s.memory c vector)) (pushed-accepted n s.memory c h.code.memory.bytes ctx (omega arith)) in
    record {
      sound = record {
        code = writes s e.written h.code h.kernel pools memory;
        kernel = later (without_line s.kernel n) s.placed s.steps
            (sound-pending s.kernel s.placed s.steps (pending s.kernel - 2 ^ n) (omega (arith, h.kernel.bounded.lines)) h.kernel);
        running = Interrupted record { thread = r.thread; no_module = r.no_module } serves.0 record {
          good = subst (λ (x : List ℕ). IsGoodFor s.kernel.apps s.placed (running s.kernel) x) (sym back) good;
          even_pc = (let word : word_at (put_all s.memory
              (four (reg c 1 - 4) (reg c 2 % 256) (reg c 2 / 256) (reg c 1 - 2) (reg c 0 % 256) (reg c 0 / 256)))
              (reg c 1 - 4 + 2) ≡ reg c 0 % 256 + 256 * (reg c 0 / 256) =
              high_word s.memory (reg c 1 - 4) (reg c 2 % 256) (reg c 2 / 256) (reg c 1 - 2) (reg c 0 % 256) (reg c 0 / 256)
              (omega (arith, ctx.sp_even)) (omega arith) (omega (arith, h.code.memory.bytes, ctx.small 1)) in
              let there : word_at (put_all s.memory e.written) (reg e.context 1 + 2) ≡ reg c 0 % 256 + 256 * (reg c 0 / 256) =
              ap (λ (ws : List (ℕ × ℕ)). word_at (put_all s.memory ws) (reg e.context 1 + 2)) is
              ∙ ap (λ (x : ℕ). word_at (put_all s.memory
              (four (reg c 1 - 4) (reg c 2 % 256) (reg c 2 / 256) (reg c 1 - 2) (reg c 0 % 256) (reg c 0 / 256))) (x + 2))
              serves.1 ∙ word in
              omega (arith, there, ctx.pc_even));
          from_low = omega (arith, serves.1);
          to_top = omega (arith, serves.1);
        };
      };
      confined = record { who = refl; number = l; at_pc = refl; four = ap (length {A = ℕ × ℕ}) is; inside = inl (r, own) };
      keeps = tt;
      spelled = tt;
    }
  where
    scg0 : (k : Kind) → k ≡ App → reg s.context 2 / 8 % 32 ≡ control_bits k → reg s.context 2 / 64 % 2 ≡ 0
    scg0 App e b = omega arith
    scg0 Module e b = absurd (cc)
