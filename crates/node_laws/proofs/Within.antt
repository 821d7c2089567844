-- A module's instruction, and its entries that don't leave it.
use Rattle.std.proofs.Common.{◌≡◌, ◌≢◌, ℕ, ◌+◌, ◌<◌, true, false, not, eqb, List, refl, sym, ap, ◌∙◌, subst, inl, inr, arith, Option, Some, Contains, AllPairs}
use Rattle.std.specs.List.{AllByRecursion}
use Rattle.std.proofs.lemmas.Bool.{cond-true, cond-false, ne_eqb, and_left}
use Rattle.msp_encode.specs.declared.instr.Instr.{Instr}
use Rattle.kernel_model.specs.declared.map.TheConstants.{KERNEL_LIMIT, KERNEL_STACK, KERNEL_TOP}
use Rattle.kernel_model.specs.declared.entries.TheConstants.{FIRST_ENTRY}
use Rattle.kernel_model.specs.declared.kinds.Kind.{Kind}
use Rattle.kernel_model.specs.declared.kinds.Kind.TheVariants.{Module}
use Rattle.machine_model.specs.Memory.{word_at, put_all, IsMemory}
use Rattle.machine_model.specs.Context.{reg}
use Rattle.machine_model.specs.Does.{does, Effect}
use Rattle.machine_laws.specs.Steady.{Limits}
use Rattle.kernel_model.specs.Kernel.{Kernel, with_word, word_of}
use Rattle.kernel_model.specs.Words.{none, running, running_module, app_of, thread_runs}
use Rattle.kernel_model.specs.declared.rows.SysWord.TheVariants.{Budget}
use Rattle.kernel_model.specs.Running.{running_domain}
use Rattle.load_model.specs.Domains.{Domain}
use Rattle.trace_model.specs.declared.records.Who.{Who}
use Rattle.trace_model.specs.declared.records.Who.TheVariants as who
use Rattle.trace_model.specs.declared.records.Record.TheVariants as record_of
use Rattle.node_model.specs.Placed.{IsWellPlaced, StandsIn}
use Rattle.node_model.specs.Good.{IsGood}
use Rattle.node_model.specs.Instructions.{Inside, Leads, StaysInStack, StepsAt}
use Rattle.node_model.specs.Systems.{System, seen, domain_in}
use Rattle.node_model.specs.Entries.{who_runs, module_runs}
use Rattle.node_model.specs.Steps.{by_effect, instruction, fetched, most_instructions}
use Rattle.node_model.specs.Sound.{IsDomain, IsSound, IsSoundKernel, IsGoodIn, AModule, low_in, top_in}
use Rattle.node_model.specs.Confined.{MayWrite, stack_low_in, stack_top_in}
use Rattle.node_model.specs.Kept.{StepKeeps}
use Rattle.node_model.specs.Laws.{IsSeen, IsSafe, IsInPools}
use Rattle.node_laws.specs.Facts.{Given}
use Rattle.node_laws.proofs.OtherWords.{settled-words}
use Rattle.node_laws.proofs.Stepping.{all-map, code-seen, stands-so, writes, memory-after}
use Rattle.node_laws.proofs.Stepping.{well-placed, of-module}

-- ---- the module that runs

pub record IsInModule (s : System) (d : Domain) : Type 0 where
  pub see : IsSeen s
  pub sound : IsSound s
  pub below : running_module s.kernel < 4
  pub placed : domain_in s.placed (8 + running_module s.kernel) ≡ Some d
  pub is : IsDomain s.kernel.apps s.kernel.modules (8 + running_module s.kernel) d
  pub kind : d.object.kind ≡ Module
  pub well : IsWellPlaced d
  pub stands : StandsIn d (seen s)
  pub limits : Limits (seen s) KERNEL_STACK KERNEL_TOP
  pub good : IsGood d KERNEL_STACK KERNEL_TOP s.context

pub runs-module : (k : Kernel) → running_module k < 4 → module_runs k ≡ true
runs-module k l = ap not (ne_eqb (running_module k) none (λ e. omega arith))

pub who-module : (k : Kernel) → running_module k < 4 → who_runs k ≡ who.Module (running_module k)
who-module k l = cond-true (module_runs k) (who.Module (running_module k)) _ (runs-module k l)

pub domain-module : (k : Kernel) → running_module k < 4 → running_domain k ≡ 8 + running_module k
domain-module k l = cond-false (eqb (running_module k) none) (app_of (running k)) (8 + running_module k)
    (ne_eqb (running_module k) none (λ e. omega arith))

no-thread : (k : Kernel) → running_module k < 4 → thread_runs k ≡ false
no-thread k l = and_left (eqb (running_module k) none) _ (ne_eqb (running_module k) none (λ e. omega arith))

pub in-module : Given → (s : System) → IsSeen s → IsSound s → running_module s.kernel < 4
    → (g : IsGoodIn s.placed (8 + running_module s.kernel) KERNEL_STACK KERNEL_TOP s.context) → IsInModule s g.domain
in-module laws s see h l g =
    let n : ℕ = 8 + running_module s.kernel in
    let d : Domain = g.domain in
    let is : IsDomain s.kernel.apps s.kernel.modules n d = h.kernel.domains.placed n d g.placed in
    let well : IsWellPlaced d = well-placed s.kernel n d h.kernel.settled is in
    record {
      see = see;
      sound = h;
      below = l;
      placed = g.placed;
      is = is;
      kind = (of-module s.kernel (running_module s.kernel) d is).0;
      well = well;
      stands = record {
        memory = see.memory;
        placed = well;
        accepted = is.accepted;
        code =
            stands-so laws d (seen s) well.code_even (code-seen s n d see h.code h.kernel g.placed);
      };
      limits = record {
        limit =
            see.limit ∙ h.kernel.settled.orderly.limit ∙ cond-false (thread_runs s.kernel) _ KERNEL_LIMIT (no-thread s.kernel l);
        last = see.top ∙ h.kernel.settled.orderly.top ∙ cond-false (thread_runs s.kernel) _ KERNEL_TOP (no-thread s.kernel l);
        low_even = refl;
        top_even = refl;
        order = omega arith;
        word = omega arith;
      };
      good = g.good;
    }

-- ---- the count of its instructions

sound-counted : (k : Kernel) (ds : List (Option Domain)) (n : ℕ) → running_module k < 4 → word_of k Budget < most_instructions
    → IsSoundKernel k ds n → IsSoundKernel (with_word k Budget (word_of k Budget + 1)) ds (n + 1)
sound-counted k ds n l few h = record {
  settled = settled-words k (word_of k Budget + 1) k.pending h.settled;
  domains = h.domains;
  saved = h.saved;
  populated = h.populated;
  functions = h.functions;
  bounded = record {
    ticks = omega (arith, h.bounded.ticks);
    count = omega arith;
    no_count = λ e. absurd (omega arith);
    lines =
        h.bounded.lines;
  };
}

-- ---- its instruction

-- the kernel's stack is the running module's
module-stack : (k : Kernel) (c : List ℕ) (i : Instr) (e : Effect) → running_module k < 4
    → StaysInStack KERNEL_STACK KERNEL_TOP c i e
    → StaysInStack (stack_low_in k) (stack_top_in k) c i e
module-stack k c i e l h =
    subst (λ (low : ℕ). StaysInStack low (stack_top_in k) c i e)
    (sym (cond-true (module_runs k) KERNEL_STACK (low_in k.apps (running k)) (runs-module k l)))
    (subst (λ (top : ℕ). StaysInStack KERNEL_STACK top c i e)
    (sym (cond-true (module_runs k) KERNEL_TOP (top_in k.apps (running k)) (runs-module k l))) h)

by-module : (s : System) (d : Domain) → IsInModule s d → word_of s.kernel Budget < most_instructions
    → (place : StepsAt d (seen s) s.context)
    → IsMemory (put_all s.memory (does (seen s) s.context place.instr place.words).written)
    → Leads d KERNEL_STACK KERNEL_TOP (does (seen s) s.context place.instr place.words)
    → StaysInStack KERNEL_STACK KERNEL_TOP s.context place.instr (does (seen s) s.context place.instr place.words)
    → IsSafe s (by_effect s (with_word s.kernel Budget (word_of s.kernel Budget + 1))
    (does (seen s) s.context place.instr place.words)
    (record_of.Instr (s.steps + 1) (who_runs s.kernel) (reg s.context 0) (word_at (seen s) (reg s.context 0))
    (does (seen s) s.context place.instr place.words).written))
by-module s d m few place memory leads stays =
    let effect : Effect = does (seen s) s.context place.instr place.words in
    let ws : List (ℕ × ℕ) = effect.written in
    let pools : AllByRecursion IsInPools ws =
    all-map (Inside d KERNEL_STACK KERNEL_TOP) IsInPools
    (λ w i. elim i [
      | inl a ↦ inr (omega (arith, a.0, m.well.lo_low), omega (arith, a.1, m.well.hi_high))
      | inr a ↦
          inl (a.0, a.1)
    ]) ws leads.inside in
    record {
      sound = record {
        code = writes s ws m.sound.code m.sound.kernel pools memory;
        kernel = sound-counted s.kernel s.placed s.steps m.below few m.sound.kernel;
        running = AModule m.below record { domain = d; placed = m.placed; good = leads.good };
      };
      confined = record {
        domain = d;
        runs = record { placed = ap (domain_in s.placed) (domain-module s.kernel m.below) ∙ m.placed; who = refl };
        at_pc = refl;
        first = refl;
        place = place;
        image = code-seen s (8 + running_module s.kernel) d m.see m.sound.code m.sound.kernel m.placed;
        written = refl;
        inside = subst (λ (k : Kind). AllByRecursion (MayWrite k d) ws) (sym m.kind) leads.inside;
        stack = module-stack s.kernel s.context place.instr effect m.below stays;
      };
      keeps = subst (λ (w : Who). StepKeeps w s
          (by_effect s (with_word s.kernel Budget (word_of s.kernel Budget + 1)) effect (record_of.IdleTurn 0)).system)
          (sym (who-module s.kernel m.below)) tt;
      spelled = record { instr = place.instr; words = place.words; fetched = place.fetched; context = refl; memory = refl };
    }

pub module-steps : Given → (s : System) (d : Domain) → IsInModule s d → reg s.context 0 < FIRST_ENTRY
    → word_of s.kernel Budget < most_instructions → IsSafe s (instruction s (fetched (seen s) (reg s.context 0)))
module-steps laws s d m l few =
    let place : StepsAt d (seen s) s.context = laws.fetches d KERNEL_STACK KERNEL_TOP (seen s) s.context m.stands m.good l in
    let effect : Effect = does (seen s) s.context place.instr place.words in
    let is : fetched (seen s) (reg s.context 0) ≡ Some (place.instr, place.words) =
    (laws.fetched (seen s) (reg s.context 0) place.instr place.words m.see.memory).1 place.fetched in
    subst (λ (o : Option (Instr × ℕ)). IsSafe s (instruction s o)) (sym is)
    (subst (λ (k : Kernel). IsSafe s
    (by_effect s k effect (record_of.Instr (s.steps + 1) (who_runs s.kernel) (reg s.context 0)
    (word_at (seen s) (reg s.context 0)) effect.written)))
    (sym (cond-true (module_runs s.kernel) (with_word s.kernel Budget (word_of s.kernel Budget + 1)) s.kernel
    (runs-module s.kernel m.below)))
    (by-module s d m few place
    (memory-after effect.written s.memory m.sound.code.memory
    (laws.written (seen s) s.context place.instr place.words m.see.memory m.good.steady.context))
    (laws.instruction d KERNEL_STACK KERNEL_TOP (seen s) s.context place.instr place.words m.stands m.limits m.good l place.fetched)
    (laws.stack d KERNEL_STACK KERNEL_TOP (seen s) s.context place.instr place.words m.stands m.limits m.good l place.fetched)))
