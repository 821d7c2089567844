-- An interrupt that is accepted while nothing runs, and its routine.
use Rattle.std.proofs.Common.{◌≡◌, ℕ, zero, suc, ◌+◌, ◌-◌, ◌*◌, ◌/◌, ◌%◌, ◌^◌, ◌<◌, ◌≤◌, eqb, List, length, get_or, refl, sym, ap, ◌∙◌, subst, inl, inr, arith, Option}
use Rattle.std.specs.List.{AllByRecursion}
use Rattle.std.proofs.lemmas.Bool.{cond-true, cond_both, eq-eqb}
use Rattle.machine_model.specs.Memory.{word_at, put_all, IsMemory}
use Rattle.machine_model.specs.Context.{reg, IsContext}
use Rattle.machine_model.specs.Does.{Effect}
use Rattle.kernel_model.specs.declared.map.TheConstants.{FIRST_ROUTINE, KERNEL_TOP}
use Rattle.kernel_model.specs.Kernel.{Kernel}
use Rattle.kernel_model.specs.Words.{none, running}
use Rattle.kernel_model.specs.Running.{NoneRuns, idle_context}
use Rattle.kernel_model.specs.Dispatching.{dispatched, dispatched_context}
use Rattle.kernel_model.specs.Waking.{ticked, woken_line}
use Rattle.load_model.specs.Domains.{Domain}
use Rattle.machine_model.specs.Accepting.{accepted, vector_address}
use Rattle.node_model.specs.Systems.{System, seen}
use Rattle.node_model.specs.Entries.{who_runs, interrupted, served, vector_turn, work}
use Rattle.node_model.specs.Steps.{acceptance, without_line, pending, by_turn}
use Rattle.node_model.specs.Sound.{IsSound, IsSoundKernel, IsServing, IsIdleInterrupted, IsRunning, IdleInterrupted}
use Rattle.node_model.specs.Confined.{Within, IsConfinedAccept}
use Rattle.node_model.specs.Laws.{IsSeen, IsSafe, IsInPools}
use Rattle.node_laws.proofs.Resting.{dispatch}
use Rattle.node_laws.proofs.Stepping.{writes, later, memory-after, all-map}
use Rattle.node_laws.proofs.Accepting.{four, high_word, pushed-accepted}
use Rattle.node_laws.proofs.Interrupting.{written-is, serving, same-accepted, all-four, same-word, sound-pending}
use Rattle.node_laws.proofs.Serving.{sound-ticked, sound-woken}
use Rattle.node_laws.proofs.Routines.{SameRuns, ticked-same, woken-same}

-- ---- the acceptance

pub idle-is : IsContext idle_context
idle-is = record { words = refl; pc_even = refl; sp_even = refl; zero = refl; small = small }
  where
    small : (k : ℕ) → get_or idle_context k 0 < 65536
    small zero = omega arith
    small (suc zero) = omega arith
    small (suc (suc zero)) = omega arith
    small (suc (suc (suc zero))) = omega arith
    small (suc (suc (suc (suc zero)))) = omega arith
    small (suc (suc (suc (suc (suc zero))))) = omega arith
    small (suc (suc (suc (suc (suc (suc zero)))))) = omega arith
    small (suc (suc (suc (suc (suc (suc (suc zero))))))) = omega arith
    small (suc (suc (suc (suc (suc (suc (suc (suc zero)))))))) = omega arith
    small (suc (suc (suc (suc (suc (suc (suc (suc (suc zero))))))))) = omega arith
    small (suc (suc (suc (suc (suc (suc (suc (suc (suc (suc zero)))))))))) = omega arith
    small (suc (suc (suc (suc (suc (suc (suc (suc (suc (suc (suc zero))))))))))) = omega arith
    small (suc (suc (suc (suc (suc (suc (suc (suc (suc (suc (suc (suc zero)))))))))))) = omega arith
    small (suc (suc (suc (suc (suc (suc (suc (suc (suc (suc (suc (suc (suc zero))))))))))))) = omega arith
    small (suc (suc (suc (suc (suc (suc (suc (suc (suc (suc (suc (suc (suc (suc zero)))))))))))))) = omega arith
    small (suc (suc (suc (suc (suc (suc (suc (suc (suc (suc (suc (suc (suc (suc (suc zero))))))))))))))) = omega arith
    small (suc (suc (suc (suc (suc (suc (suc (suc (suc (suc (suc (suc (suc (suc (suc (suc k)))))))))))))))) = omega arith

-- from a system whose registers are those
accept-from : (s : System) (n : ℕ) → IsSeen s → IsSound s → NoneRuns s.kernel → (c : List ℕ) → c ≡ s.context → IsContext c
    → reg c 1 ≡ KERNEL_TOP → reg c 2 / 64 % 2 ≡ 0 → c ≡ idle_context → n < 14 → IsSafe s (acceptance s n)
accept-from s n see h r c is ctx sp bit idle l =
    subst (λ (x : List ℕ). IsSafe (record s { context = x }) (acceptance (record s { context = x }) n)) is here
  where
    e : Effect
    e = accepted n (seen s) c

    vector : word_at (seen s) (vector_address n) ≡ word_at s.memory (vector_address n)
    vector = same-word s n see

    at : word_at (seen s) (vector_address n) ≡ FIRST_ROUTINE + 2 * n
    at = vector ∙ h.code.vectors n l

    room : 4 ≤ reg c 1
    room = omega arith

    written : e.written ≡ four (reg c 1 - 4) (reg c 2 % 256) (reg c 2 / 256) (reg c 1 - 2) (reg c 0 % 256) (reg c 0 / 256)
    written = written-is n (seen s) c ctx room

    sr : reg c 2 < 65536
    sr = ctx.small 2

    pc : reg c 0 < 65536
    pc = ctx.small 0

    top : AllByRecursion (Within (KERNEL_TOP - 4) KERNEL_TOP) e.written
    top = subst (AllByRecursion (Within (KERNEL_TOP - 4) KERNEL_TOP)) (sym written)
        (all-four (Within (KERNEL_TOP - 4) KERNEL_TOP) (reg c 1 - 4) (reg c 2 % 256) (reg c 2 / 256)
        (reg c 1 - 2) (reg c 0 % 256) (reg c 0 / 256)
        (omega arith, omega arith) (omega arith, omega arith) (omega arith, omega arith) (omega arith, omega arith))

    pools : AllByRecursion IsInPools e.written
    pools =
        all-map (Within (KERNEL_TOP - 4) KERNEL_TOP) IsInPools (λ w i. inl (omega (arith, i.0), omega (arith, i.1))) e.written top

    small : AllByRecursion (λ (w : ℕ × ℕ). w.1 < 256) e.written
    small = subst (AllByRecursion (λ (w : ℕ × ℕ). w.1 < 256)) (sym written)
        (all-four (λ (w : ℕ × ℕ). w.1 < 256) (reg c 1 - 4) (reg c 2 % 256) (reg c 2 / 256) (reg c 1 - 2) (reg c 0 % 256)
        (reg c 0 / 256) (omega arith) (omega arith) (omega arith) (omega arith))

    memory : IsMemory (put_all s.memory e.written)
    memory = memory-after e.written s.memory h.code.memory small

    serves : IsServing e.context × (reg e.context 1 ≡ reg c 1 - 4)
    serves = serving n (seen s) c l ctx room bit at

    back : interrupted (put_all s.memory e.written) e.context ≡ c
    back = subst (λ (x : Effect). interrupted (put_all s.memory x.written) x.context ≡ c)
        (sym (same-accepted n (seen s) s.memory c vector)) (pushed-accepted n s.memory c h.code.memory.bytes ctx room)

    even-pc : word_at (put_all s.memory e.written) (reg e.context 1 + 2) % 2 ≡ 0
    even-pc =
        let word : word_at (put_all s.memory
        (four (reg c 1 - 4) (reg c 2 % 256) (reg c 2 / 256) (reg c 1 - 2) (reg c 0 % 256) (reg c 0 / 256)))
        (reg c 1 - 4 + 2) ≡ reg c 0 % 256 + 256 * (reg c 0 / 256) =
        high_word s.memory (reg c 1 - 4) (reg c 2 % 256) (reg c 2 / 256) (reg c 1 - 2) (reg c 0 % 256) (reg c 0 / 256)
        (omega (arith, ctx.sp_even)) (omega arith) (omega (arith, h.code.memory.bytes, ctx.small 1)) in
        let there : word_at (put_all s.memory e.written) (reg e.context 1 + 2) ≡ reg c 0 % 256 + 256 * (reg c 0 / 256) =
        ap (λ (ws : List (ℕ × ℕ)). word_at (put_all s.memory ws) (reg e.context 1 + 2)) written
        ∙ ap (λ (x : ℕ). word_at (put_all s.memory
        (four (reg c 1 - 4) (reg c 2 % 256) (reg c 2 / 256) (reg c 1 - 2) (reg c 0 % 256) (reg c 0 / 256))) (x + 2)) serves.1
        ∙ word in
        omega (arith, there, ctx.pc_even)

    own : IsConfinedAccept (record s { context = c }) (who_runs s.kernel) n (reg c 0) e.written
    own = record { who = refl; number = l; at_pc = refl; four = ap (length {A = ℕ × ℕ}) written; inside = inr (r, top) }

    here : IsSafe (record s { context = c }) (acceptance (record s { context = c }) n)
    here = record {
      sound = record {
        code = writes s e.written h.code h.kernel pools memory;
        kernel = later (without_line s.kernel n) s.placed s.steps
            (sound-pending s.kernel s.placed s.steps (pending s.kernel - 2 ^ n) (omega (arith, h.kernel.bounded.lines)) h.kernel);
        running = IdleInterrupted record { no_thread = r.no_thread; no_module = r.no_module } serves.0
            record { idle = back ∙ idle; even_pc = even-pc };
      };
      confined = own;
      keeps = tt;
      spelled = tt;
    }

pub accept-idle : (s : System) (n : ℕ) → IsSeen s → IsSound s → NoneRuns s.kernel → s.context ≡ idle_context → n < 14
    → IsSafe s (acceptance s n)
accept-idle s n see h r e l = accept-from s n see h r idle_context (sym e) idle-is refl refl refl l

-- ---- the routine

sound-idle : (k : Kernel) (ds : List (Option Domain)) (n l : ℕ) (c : List ℕ) → l < 14 → IsSoundKernel k ds n → NoneRuns k
    → IsSoundKernel (served l k c) ds (n + 1) × NoneRuns (served l k c)
sound-idle k ds n l c below h r =
    subst (λ (j : Kernel). IsSoundKernel j ds (n + 1) × NoneRuns j)
    (sym (cond-true (eqb (running k) none) _ _ (eq-eqb (running k) none r.no_thread)))
    (cond_both (eqb l 0) (ticked k) (woken_line k l) (λ (j : Kernel). IsSoundKernel j ds (n + 1) × NoneRuns j)
    (λ _. (sound-ticked k ds n h, none-still k (ticked k) (ticked-same k) r))
    (λ _. (later (woken_line k l) ds n (sound-woken k ds n l below h), none-still k (woken_line k l) (woken-same k l) r)))
  where
    none-still : (k j : Kernel) → SameRuns k j → NoneRuns k → NoneRuns j
    none-still k j s r = record { no_thread = s.running ∙ r.no_thread; no_module = s.in_module ∙ r.no_module }

pub serve-idle : (s : System) (pick : Option ℕ) (l : ℕ) → IsSound s → NoneRuns s.kernel → IsServing s.context
    → IsIdleInterrupted s.memory s.context → l < 14 → reg s.context 0 ≡ FIRST_ROUTINE + 2 * l
    → IsSafe s (by_turn s (vector_turn l (seen s) (work s pick)))
serve-idle s pick l h r serving i below at =
    let c : List ℕ = interrupted (seen s) s.context in
    let k : IsSoundKernel (served l s.kernel c) s.placed (s.steps + 1) × NoneRuns (served l s.kernel c) =
    sound-idle s.kernel s.placed s.steps l c below h.kernel r in
    let d : IsSoundKernel (dispatched (served l s.kernel c) pick) s.placed (s.steps + 1)
    × IsRunning s.memory (dispatched_context (served l s.kernel c) pick) (dispatched (served l s.kernel c) pick) s.placed =
    dispatch s.memory (served l s.kernel c) s.placed (s.steps + 1) pick k.0 k.1 in
    record {
      sound = record { code = h.code; kernel = d.0; running = d.1 };
      confined =
          record { number = below; at = at; cleared = serving.cleared; pushed = inr (r, i) };
      keeps = tt;
      spelled = tt;
    }
