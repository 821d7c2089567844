-- A running thread's turn at an entry.
use Rattle.std.proofs.Common.{◌≡◌, ℕ, ◌+◌, ◌<◌, ◌≤◌, ◌⊎◌, true, List, length, refl, sym, ap, ◌∙◌, subst, arith, Option, Some}
use Rattle.std.proofs.lemmas.Bool.{eq-eqb}
use Rattle.code_model.specs.Rules.{IsJumpEntry, IsCallEntry}
use Rattle.machine_model.specs.Memory.{word_at}
use Rattle.machine_model.specs.Context.{reg, set_reg}
use Rattle.machine_laws.specs.Steady.{IsSteady}
use Rattle.machine_laws.proofs.Registers.{reg_other, steady-reg}
use Rattle.kernel_model.specs.declared.entries.TheConstants.{CALLS, FIRST_ENTRY, YIELD}
use Rattle.kernel_model.specs.Kernel.{Kernel, thread_at, with_thread}
use Rattle.kernel_model.specs.Words.{none, running, app_of, ready_row, with_running}
use Rattle.kernel_model.specs.Queues.{to_ready_front, to_ready_end}
use Rattle.kernel_model.specs.declared.rows.ThreadRow.{ThreadRow}
use Rattle.kernel_model.specs.Running.{ThreadRuns, NoneRuns, running_domain}
use Rattle.kernel_model.specs.Dispatching.{saved, moved_to_front, moved_to_end, dispatched, dispatched_context}
use Rattle.load_model.specs.Domains.{Domain}
use Rattle.trace_model.specs.declared.records.Record.{Record}
use Rattle.trace_model.specs.declared.records.Record.TheVariants.{Entry}
use Rattle.node_model.specs.Placed.{bits}
use Rattle.node_model.specs.Good.{IsGood}
use Rattle.node_model.specs.Systems.{System, seen, domain_in, is_mark}
use Rattle.node_model.specs.Entries.{Yield, work, who_runs, returning, row}
use Rattle.node_model.specs.Steps.{by_turn}
use Rattle.node_model.specs.Sound.{IsSound, IsSoundKernel, IsRunning, IsGoodFor, low_in, top_in}
use Rattle.node_model.specs.Confined.{IsAtEntry}
use Rattle.node_model.specs.Kept.{Own, of_app, MemoryKept, OthersKept}
use Rattle.node_model.specs.Laws.{IsSeen, IsSafe}
use Rattle.node_laws.specs.Facts.{Given}
use Rattle.node_laws.proofs.Resting.{sound-saved, saved-row, sound-front, sound-end, dispatch}
use Rattle.node_laws.proofs.Stepping.{IsThread, thread-facts, domain-runs, step-keeps, later, word-small}
use Rattle.node_laws.proofs.Contexts.{IsMark, mark-of, good-mark, at-entry, at-call, returned, steady-returned, pc-returned}
use Rattle.node_laws.proofs.Untouched.{IsUntouched, untouched-all, untouched-twice, untouched-row, untouched-ready, kept-dispatch, untouched-words}

-- a thread runs, its context is safe, and PC is at this entry
pub record IsCalling (s : System) (d : Domain) (entry : ℕ) : Type 0 where
  pub see : IsSeen s
  pub sound : IsSound s
  pub runs : ThreadRuns s.kernel
  pub placed : domain_in s.placed (app_of (running s.kernel)) ≡ Some d
  pub facts : IsThread s d
  pub good : IsGood d (low_in s.kernel.apps (running s.kernel)) (top_in s.kernel.apps (running s.kernel)) s.context
  pub at : reg s.context 0 ≡ entry
  pub high : FIRST_ENTRY ≤ reg s.context 0

abbrev pub own_of : System → Own
own_of s = of_app (app_of (running s.kernel))

pub calling : {entry : ℕ} → Given → (s : System) → IsSeen s → IsSound s → ThreadRuns s.kernel
    → (good : IsGoodFor s.kernel.apps s.placed (running s.kernel) s.context) → (reg s.context 0 ≡ entry) × (FIRST_ENTRY ≤ entry)
    → IsCalling s good.domain entry
calling laws s see h r good l =
    record {
      see = see;
      sound = h;
      runs = r;
      placed = good.placed;
      facts = thread-facts laws s good.domain see h r good.placed;
      good = good.good;
      at = l.0;
      high = omega (arith, l.0, l.1);
    }

-- the record of a turn of the thread comes from an entry
pub comes-from : {entry : ℕ} → Given → (s : System) (d : Domain) → IsCalling s d entry → IsAtEntry s (who_runs s.kernel) entry
comes-from laws s d x = record {
  domain = d;
  runs = record { placed = ap (domain_in s.placed) (domain-runs s.kernel x.runs) ∙ x.placed; who = refl };
  at = sym x.at;
  allowed = subst (λ (e : ℕ). IsJumpEntry d.object.kind e ⊎ IsCallEntry d.object.kind e) x.at
      (at-entry laws d (low_in s.kernel.apps (running s.kernel)) (top_in s.kernel.apps (running s.kernel)) (seen s) s.context
      x.facts.stands x.good x.high);
}

pub memory-untouched : (own : Own) (s : System) → MemoryKept own s.placed s.memory s.memory
memory-untouched own s = record { code = λ n d e f k l u. refl; region = λ n d e f k l u. refl }

-- what a turn that ends in a dispatch leaves
pub record Leaves (s : System) (k : Kernel) (pick : Option ℕ) (told : Record) : Type 0 where
  pub sound : IsSound (record s { kernel = dispatched k pick; context = dispatched_context k pick; steps = s.steps + 1 })
  pub others : OthersKept (app_of (running s.kernel)) s
      (record s { kernel = dispatched k pick; context = dispatched_context k pick; steps = s.steps + 1 })

pub leaves : (s : System) (k : Kernel) (pick : Option ℕ) (told : Record) → IsSound s → IsSoundKernel k s.placed s.steps → NoneRuns k
    → IsUntouched (own_of s) s.kernel k → Leaves s k pick told
leaves s k pick told h sound none untouched =
    let after : IsSoundKernel (dispatched k pick) s.placed s.steps
    × IsRunning s.memory (dispatched_context k pick) (dispatched k pick) s.placed =
    dispatch s.memory k s.placed s.steps pick sound none in
    record {
      sound = record { code = h.code; kernel = later (dispatched k pick) s.placed s.steps after.0; running = after.1 };
      others = record {
        memory = memory-untouched (own_of s) s;
        kernel =
            kept-dispatch (own_of s) s.kernel k pick untouched sound.settled.orderly;
        placed = refl;
      };
    }

-- ---- the caller goes on

pub own-thread : (s : System) → (own_of s).threads (running s.kernel) ≡ true
own-thread s = eq-eqb (app_of (running s.kernel)) (app_of (running s.kernel)) refl

pub untouched-runs : (own : Own) (k : Kernel) (t : ℕ) → IsUntouched own k (with_running k t)
untouched-runs own k t = untouched-words own k _ _ t k.module_now k.budget

pub untouched-front : (own : Own) (k : Kernel) → own.threads (running k) ≡ true → IsUntouched own k (moved_to_front k)
untouched-front own k e =
    let k1 : Kernel = with_thread k (running k) (ready_row (thread_at k (running k))) in
    untouched-twice own k (to_ready_front k (running k)) (moved_to_front k)
    (untouched-twice own k k1 (to_ready_front k (running k))
    (untouched-row own k (running k) (ready_row (thread_at k (running k))) e) (untouched-ready own k1 _ (running k) e))
    (untouched-runs own (to_ready_front k (running k)) none)

pub untouched-end : (own : Own) (k : Kernel) → own.threads (running k) ≡ true → IsUntouched own k (moved_to_end k)
untouched-end own k e =
    let k1 : Kernel = with_thread k (running k) (ready_row (thread_at k (running k))) in
    untouched-twice own k (to_ready_end k (running k)) (moved_to_end k)
    (untouched-twice own k k1 (to_ready_end k (running k)) (untouched-row own k (running k) (ready_row (thread_at k (running k))) e)
    (untouched-ready own k1 _ (running k) e))
    (untouched-runs own (to_ready_end k (running k)) none)

-- the kernel of a caller that is saved and goes to the front, or to the end
pub record IsResting (own : Own) (before after : Kernel) (ds : List (Option Domain)) (n : ℕ) : Type 0 where
  pub sound : IsSoundKernel after ds n
  pub none_runs : NoneRuns after
  pub untouched : IsUntouched own before after

pub good-saved : (k : Kernel) (ds : List (Option Domain)) (c : List ℕ) → ThreadRuns k → length k.threads ≡ 32
    → IsGoodFor k.apps ds (running k) c → IsGoodFor k.apps ds (running k) (thread_at (saved k c) (running k)).regs
good-saved k ds c r size good =
    subst (λ (row : ThreadRow). IsGoodFor k.apps ds (running k) row.regs) (sym (saved-row k c r size)) good

pub rests-front : (own : Own) (before k : Kernel) (ds : List (Option Domain)) (n : ℕ) (c : List ℕ) → IsSoundKernel k ds n
    → ThreadRuns k → own.threads (running k) ≡ true → IsUntouched own before k
    → IsGoodFor k.apps ds (running k) c → IsResting own before (moved_to_front (saved k c)) ds n
rests-front own before k ds n c h r e u good =
    let runs : ThreadRuns (saved k c) = record { thread = r.thread; no_module = r.no_module } in
    record {
      sound = sound-front (saved k c) ds n (sound-saved k ds n c h r good.good.steady.context.words) runs
          (good-saved k ds c r h.settled.orderly.shape.thread_rows good);
      none_runs = record { no_thread = refl; no_module = r.no_module };
      untouched = untouched-twice own before (saved k c) (moved_to_front (saved k c))
          (untouched-twice own before k (saved k c) u
          (untouched-row own k (running k) (record (thread_at k (running k)) { regs = c }) e)) (untouched-front own (saved k c) e);
    }

pub rests-end : (own : Own) (before k : Kernel) (ds : List (Option Domain)) (n : ℕ) (c : List ℕ) → IsSoundKernel k ds n
    → ThreadRuns k → own.threads (running k) ≡ true → IsUntouched own before k
    → IsGoodFor k.apps ds (running k) c → IsResting own before (moved_to_end (saved k c)) ds n
rests-end own before k ds n c h r e u good =
    let runs : ThreadRuns (saved k c) = record { thread = r.thread; no_module = r.no_module } in
    record {
      sound = sound-end (saved k c) ds n (sound-saved k ds n c h r good.good.steady.context.words) runs
          (good-saved k ds c r h.settled.orderly.shape.thread_rows good);
      none_runs = record { no_thread = refl; no_module = r.no_module };
      untouched = untouched-twice own before (saved k c) (moved_to_end (saved k c))
          (untouched-twice own before k (saved k c) u
          (untouched-row own k (running k) (record (thread_at k (running k)) { regs = c }) e)) (untouched-end own (saved k c) e);
    }

-- ---- behind a return to a mark

-- registers that go on at a mark, with others of them changed
pub record IsReturned (s : System) (d : Domain) (c : List ℕ) : Type 0 where
  pub steady : IsSteady (bits d) (low_in s.kernel.apps (running s.kernel)) (top_in s.kernel.apps (running s.kernel)) c
  pub mark : IsMark d (reg c 0)

pub returns-to : {entry : ℕ} → Given → (s : System) (d : Domain) (at : ℕ) → IsCalling s d entry → CALLS ≤ reg s.context 0
    → at < 65536 → is_mark s.placed (running_domain s.kernel) at ≡ true → IsReturned s d (returned s.context at)
returns-to laws s d at x l small e =
    let low : ℕ = low_in s.kernel.apps (running s.kernel) in
    let top : ℕ = top_in s.kernel.apps (running s.kernel) in
    let room : reg s.context 1 + 2 ≤ top = at-call laws d low top (seen s) s.context x.facts.stands x.good x.facts.kind l in
    let word : top < 65536 = x.facts.limits.word in
    let mark : IsMark d at = mark-of s.placed (app_of (running s.kernel)) at d x.placed x.facts.is.accepted
    (subst (λ (n : ℕ). is_mark s.placed n at ≡ true) (domain-runs s.kernel x.runs) e) in
    record {
      steady = steady-returned (bits d) low top s.context at x.good.steady room word small;
      mark = subst (IsMark d) (sym (pc-returned (bits d) low top s.context at x.good.steady room word mark.even_at)) mark;
    }

pub pc-behind : {entry : ℕ} → Given → (s : System) (d : Domain) (at : ℕ) → IsCalling s d entry → CALLS ≤ reg s.context 0
    → is_mark s.placed (running_domain s.kernel) at ≡ true → reg (returned s.context at) 0 ≡ at
pc-behind laws s d at x l e =
    let low : ℕ = low_in s.kernel.apps (running s.kernel) in
    let top : ℕ = top_in s.kernel.apps (running s.kernel) in
    let mark : IsMark d at = mark-of s.placed (app_of (running s.kernel)) at d x.placed x.facts.is.accepted
    (subst (λ (n : ℕ). is_mark s.placed n at ≡ true) (domain-runs s.kernel x.runs) e) in
    pc-returned (bits d) low top s.context at x.good.steady
    (at-call laws d low top (seen s) s.context x.facts.stands x.good x.facts.kind l) x.facts.limits.word mark.even_at

pub with-register : (s : System) (d : Domain) (c : List ℕ) (n v : ℕ) → 4 ≤ n → v < 65536 → IsReturned s d c
    → IsReturned s d (set_reg c n v)
with-register s d c n v l small h = record {
  steady = steady-reg (bits d) _ _ c n v h.steady (omega arith) (omega arith) small;
  mark = subst (IsMark d) (sym (reg_other c n v 0 (omega arith))) h.mark;
}

pub good-returned : {entry : ℕ} → (s : System) (d : Domain) (c : List ℕ) → IsCalling s d entry → IsReturned s d c
    → IsGoodFor s.kernel.apps s.placed (running s.kernel) c
good-returned s d c x h = record { domain = d; placed = x.placed; good = good-mark d _ _ c h.steady x.facts.well h.mark }

-- ---- yield

-- an entry's record
pub told-safe : Given → (s : System) (d : Domain) (k : Kernel) (pick : Option ℕ) (e : ℕ) → IsCalling s d e
    → IsResting (own_of s) s.kernel k s.placed s.steps
    → IsSafe s (by_turn s (record {
      kernel = dispatched k pick;
      context = dispatched_context k pick;
      shown =
          Entry (s.steps + 1) (who_runs s.kernel) e;
    }))
told-safe laws s d k pick e x rest =
    let l : Leaves s k pick (Entry (s.steps + 1) (who_runs s.kernel) e) =
    leaves s k pick (Entry (s.steps + 1) (who_runs s.kernel) e) x.sound rest.sound rest.none_runs rest.untouched in
    record {
      sound = l.sound;
      confined = comes-from laws s d x;
      keeps = step-keeps s (record s { kernel = dispatched k pick; context = dispatched_context k pick; steps = s.steps + 1 })
          x.runs l.others;
      spelled = tt;
    }

pub yields-safe : Given → (s : System) (d : Domain) (pick : Option ℕ) → IsCalling s d YIELD → CALLS ≤ reg s.context 0
    → is_mark s.placed (running_domain s.kernel) (word_at (seen s) (reg s.context 1)) ≡ true
    → IsSafe s (by_turn s (row Yield (returning (work s pick))))
yields-safe laws s d pick x l e =
    let at : ℕ = word_at (seen s) (reg s.context 1) in
    let c : List ℕ = set_reg (returned s.context at) 12 0 in
    let r : IsReturned s d c = with-register s d (returned s.context at) 12 0 (omega arith) (omega arith)
    (returns-to laws s d at x l (word-small (seen s) (reg s.context 1) x.see.memory) e) in
    told-safe laws s d (moved_to_end (saved s.kernel c)) pick YIELD x
    (rests-end (own_of s) s.kernel s.kernel s.placed s.steps c x.sound.kernel x.runs (own-thread s)
    (untouched-all (own_of s) s.kernel) (good-returned s d c x r))
