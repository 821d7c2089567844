-- What a node's memory shows behind each part of a step.
use Rattle.std.proofs.Common.{◌≡◌, ◌≢◌, ℕ, ◌+◌, ◌-◌, ◌<◌, List, inl, inr, refl, sym, ap, ◌∙◌, subst, arith, Option, None, Some}
use Rattle.std.specs.List.{AllByRecursion}
use Rattle.std.specs.Int.Bits.{or_zero_r}
use Rattle.kernel_model.specs.declared.map.TheConstants.{KERNEL_TOP}
use Rattle.kernel_model.specs.declared.kinds.Kind.{Kind}
use Rattle.kernel_model.specs.declared.kinds.Kind.TheVariants.{App, Module}
use Rattle.msp_encode.specs.declared.instr.Instr.{Instr}
use Rattle.machine_model.specs.Memory.{word_at, IsMemory, put_all}
use Rattle.machine_model.specs.Context.{reg}
use Rattle.machine_model.specs.Accepting.{accepted}
use Rattle.machine_model.specs.Does.{does, Effect}
use Rattle.kernel_model.specs.Kernel.{Kernel, app_at, with_word}
use Rattle.kernel_model.specs.declared.rows.SysWord.TheVariants.{Pending}
use Rattle.kernel_model.specs.Layout.{kernel_of}
use Rattle.kernel_model.specs.Queues.{Leaves}
use Rattle.kernel_model.specs.Running.{ThreadRuns, running_domain}
use Rattle.kernel_model.specs.Words.{free, running, app_of}
use Rattle.thread_laws.specs.Facts.{IsRunning as IsRunningRow}
use Rattle.thread_laws.proofs.Spots.{running_is}
use Rattle.load_model.specs.Domains.{Domain}
use Rattle.trace_model.specs.declared.records.Record.{Record}
use Rattle.trace_model.specs.declared.records.Record.TheVariants.{Instr as InstrRecord, Accept as AcceptRecord}
use Rattle.node_model.specs.Placed.{IsWellPlaced}
use Rattle.node_model.specs.Systems.{System, seen}
use Rattle.node_model.specs.Entries.{Turn, who_runs}
use Rattle.node_model.specs.Steps.{Next, Accepts, Runs, by_case, by_turn, by_effect, acceptance, case_of, counted, fetched, instruction, pending, step_of, with_pending, without_line}
use Rattle.node_model.specs.Sound.{IsSound, HasDomain, IsDomain, low_in, top_in}
use Rattle.node_model.specs.Confined.{Within, MayWrite, IsOwnInstr, IsConfinedAccept, IsInOwnStack}
use Rattle.node_model.specs.Laws.{IsInPools, IsSafe}
use Rattle.node_model.specs.Nodes.{most_steps}
use Rattle.node_model.specs.Code.{Shows, RaiseLaw, NoneRaisedLaw, GivesNext, TurnStandsLaw, IsDone, InstructionStandsLaw, IsAccepting, AcceptanceStandsLaw, IsWritten, DoneWritesLaw, AcceptedWritesLaw}
use Rattle.node_laws.specs.Facts.{Given}
use Rattle.node_laws.proofs.Seeing.{IsOnStack, on-stack}
use Rattle.node_laws.proofs.Joining.{each-step}
use Rattle.node_laws.proofs.Representing.{seen-writes}
use Rattle.node_laws.proofs.Showing.{shows-seen, settled-shown, leaves-bytes}
use Rattle.node_laws.proofs.Stepping.{all-map, well-placed}

-- ---- lines are raised

pub raise : RaiseLaw
raise before after s raised w h a left =
    let j : Kernel = with_pending s.kernel raised in
    let l : Leaves before after j = subst (λ (k : Kernel). Leaves before after (with_pending k raised)) w.kernel left in
    record { memory = a; bytes = leaves-bytes before after s j w h.code.memory a l; kernel = l.kernel }

pub none-raised : NoneRaisedLaw
none-raised s = ap (λ (v : ℕ). record s { kernel = with_word s.kernel Pending v }) (or_zero_r (pending s.kernel))

-- ---- a turn

turned : (s : System) (t : Turn) (before after context : List ℕ) (told : Record) → Shows before s → IsMemory s.memory → IsMemory after
    → Leaves before after t.kernel → context ≡ t.context → told ≡ t.shown → GivesNext after context told (by_turn s t)
turned s t before after context told w h a left e f = record {
  shows = record { memory = a; bytes = leaves-bytes before after s t.kernel w h a left; kernel = left.kernel };
  regs = e;
  shown = f;
}

pub turn-stands : TurnStandsLaw
turn-stands s pick t before after context told h =
    subst (λ (x : Next). GivesNext after context told x) (sym h.turn)
    (turned s t before after context told h.shows h.sound.code.memory h.memory h.left h.regs h.shown)

-- ---- an effect

-- what is written are bytes in the pools
record IsPooled (s : System) (e : Effect) : Type 0 where
  memory : IsMemory (put_all s.memory e.written)
  pools : AllByRecursion IsInPools e.written

abbrev with-writes : System → List (ℕ × ℕ) → System
with-writes s ws = record s { memory = put_all s.memory ws }

written-shows : (s : System) (e : Effect) (before : List ℕ) → Shows before s → IsMemory s.memory → IsPooled s e
    → Shows (put_all before e.written) (with-writes s e.written)
written-shows s e before w h p =
    let x : System = with-writes s e.written in
    let same : put_all before e.written ≡ seen x =
    ap (λ (m : List ℕ). put_all m e.written) w.bytes ∙ seen-writes s.memory s.kernel s.placed e.written h.bytes p.pools in
    subst (λ (m : List ℕ). Shows m x) (sym same) (shows-seen before s x w h p.memory refl)

is-written : (s : System) (e : Effect) (before : List ℕ) → Shows before s → IsSound s → IsPooled s e
    → IsWritten s e.written (put_all before e.written)
is-written s e before w h p =
    let x : Shows (put_all before e.written) (with-writes s e.written) = written-shows s e before w h.code.memory p in
    record {
      shows = x;
      kernel = x.kernel;
      settled = settled-shown (put_all before e.written) (with-writes s e.written) x p.memory h.kernel.settled;
    }

effect-gives : (s : System) (k : Kernel) (e : Effect) (told : Record) (before after : List ℕ) → Shows before s → IsMemory s.memory
    → IsMemory after → IsPooled s e → Leaves (put_all before e.written) after k → GivesNext after e.context told (by_effect s k e told)
effect-gives s k e told before after w h a p left =
    let x : System = with-writes s e.written in
    record {
      shows = record {
        memory = a;
        bytes = leaves-bytes (put_all before e.written) after x k (written-shows s e before w h p) p.memory a left;
        kernel = left.kernel;
      };
      regs = refl;
      shown = refl;
    }

-- ---- an instruction

may-write : (k : Kind) (d : Domain) (w : ℕ × ℕ) → IsWellPlaced d → MayWrite k d w → IsInPools w
may-write App d w well i = inr (omega (arith, i.0, well.lo_low), omega (arith, i.1, well.hi_high))
may-write Module d w well (inl i) = inr (omega (arith, i.0, well.lo_low), omega (arith, i.1, well.hi_high))
may-write Module d w well (inr i) = inl i

done-next : (s : System) (pick : Option ℕ) (i : Instr) (words : ℕ) → case_of s.kernel s.context ≡ Runs
    → fetched (seen s) (reg s.context 0) ≡ Some (i, words) → step_of s pick ≡ instruction s (Some (i, words))
done-next s pick i words runs found = ap (by_case s pick) runs ∙ ap (instruction s) found

done-pooled : Given → (s : System) (pick : Option ℕ) (i : Instr) (words : ℕ) → IsSound s → s.steps < most_steps
    → case_of s.kernel s.context ≡ Runs → fetched (seen s) (reg s.context 0) ≡ Some (i, words)
    → IsPooled s (does (seen s) s.context i words)
done-pooled laws s pick i words h few runs found =
    let safe : IsSafe s (instruction s (Some (i, words))) =
    subst (λ (x : Next). IsSafe s x) (done-next s pick i words runs found) (each-step laws s pick h few) in
    let own : IsOwnInstr s (who_runs s.kernel) (reg s.context 0) (word_at (seen s) (reg s.context 0))
    (does (seen s) s.context i words).written = safe.confined in
    let is : IsDomain s.kernel.apps s.kernel.modules (running_domain s.kernel) own.domain =
    h.kernel.domains.placed (running_domain s.kernel) own.domain own.runs.placed in
    record {
      memory = safe.sound.code.memory;
      pools = all-map (MayWrite own.domain.object.kind own.domain) IsInPools
          (λ w. may-write own.domain.object.kind own.domain w
          (well-placed s.kernel (running_domain s.kernel) own.domain h.kernel.settled is))
          (does (seen s) s.context i words).written own.inside;
    }

done-seen : Given → (s : System) (pick : Option ℕ) (i : Instr) (words : ℕ) (after context : List ℕ) (told : Record)
    → IsDone s i words (seen s) after context told → GivesNext after context told (step_of s pick)
done-seen laws s pick i words after context told h =
    let e : Effect = does (seen s) s.context i words in
    let p : IsPooled s e = done-pooled laws s pick i words h.sound h.steps h.runs h.found in
    let x : IsWritten s e.written (put_all (seen s) e.written) = is-written s e (seen s) h.shows h.sound p in
    let left : Leaves (put_all (seen s) e.written) after (counted s.kernel) =
    subst (λ (k : Kernel). Leaves (put_all (seen s) e.written) after (counted k)) x.kernel
    (subst (λ (m : List ℕ). Leaves m after (counted (kernel_of m))) h.written h.left) in
    let gives : GivesNext after e.context
    (InstrRecord (s.steps + 1) (who_runs s.kernel) (reg s.context 0) (word_at (seen s) (reg s.context 0)) e.written)
    (instruction s (Some (i, words))) =
    effect-gives s (counted s.kernel) e _ (seen s) after h.shows h.sound.code.memory h.memory p left in
    subst (λ (y : Next). GivesNext after context told y) (sym (done-next s pick i words h.runs h.found))
    record { shows = gives.shows; regs = h.regs; shown = h.shown }

pub instruction-stands : Given → InstructionStandsLaw
instruction-stands laws s pick i words before after context told h =
    subst (λ (m : List ℕ). IsDone s i words m after context told → GivesNext after context told (step_of s pick)) (sym h.shows.bytes)
    (done-seen laws s pick i words after context told) h

pub done-writes : Given → DoneWritesLaw
done-writes laws s i words before h few w runs found =
    subst (λ (m : List ℕ). Shows m s → fetched m (reg s.context 0) ≡ Some (i, words)
    → IsWritten s (does m s.context i words).written (put_all m (does m s.context i words).written)) (sym w.bytes)
    (λ x f. is-written s (does (seen s) s.context i words) (seen s) x h
    (done-pooled laws s None i words h few runs f)) w found

-- ---- an acceptance

stack-pools : (s : System) (ws : List (ℕ × ℕ)) → IsSound s → ThreadRuns s.kernel
    → AllByRecursion (Within (low_in s.kernel.apps (running s.kernel)) (top_in s.kernel.apps (running s.kernel))) ws
    → AllByRecursion IsInPools ws
stack-pools s ws h r all =
    let t : ℕ = running s.kernel in
    let l : app_of t < 8 = (let x = r.thread in omega arith) in
    let row : IsRunningRow s.kernel t = running_is s.kernel h.kernel.settled.orderly r in
    let used : (app_at s.kernel (app_of t)).state ≢ free = λ z. omega (arith, z, row.app) in
    let has : HasDomain s.placed (app_of t) = h.kernel.domains.apps_used (app_of t) l used in
    let on : IsOnStack s has.0 = on-stack s has.0 h r has.1 in
    all-map (Within (low_in s.kernel.apps t) (top_in s.kernel.apps t)) IsInPools
    (λ w i. inr (omega (arith, i.0, on.stack.within_low, on.well.lo_low), omega (arith, i.1, on.stack.within_top, on.well.hi_high))) ws all

own-pools : (s : System) (ws : List (ℕ × ℕ)) → IsSound s → IsInOwnStack s ws → AllByRecursion IsInPools ws
own-pools s ws h (inl i) = stack-pools s ws h i.0 i.1
own-pools s ws h (inr i) = all-map (Within (KERNEL_TOP - 4) KERNEL_TOP) IsInPools (λ w x. inl (omega (arith, x.0), x.1)) ws i.1

accepted-pooled : Given → (s : System) (pick : Option ℕ) (line : ℕ) → IsSound s → s.steps < most_steps
    → case_of s.kernel s.context ≡ Accepts line → IsPooled s (accepted line (seen s) s.context)
accepted-pooled laws s pick line h few e =
    let safe : IsSafe s (acceptance s line) =
    subst (λ (x : Next). IsSafe s x) (ap (by_case s pick) e) (each-step laws s pick h few) in
    let own : IsConfinedAccept s (who_runs s.kernel) line (reg s.context 0) (accepted line (seen s) s.context).written =
    safe.confined in
    record {
      memory = safe.sound.code.memory;
      pools = own-pools s (accepted line (seen s) s.context).written h own.inside;
    }

accepted-seen : Given → (s : System) (pick : Option ℕ) (line : ℕ) (after context : List ℕ) (told : Record)
    → IsAccepting s line (seen s) after context told → GivesNext after context told (step_of s pick)
accepted-seen laws s pick line after context told h =
    let e : Effect = accepted line (seen s) s.context in
    let p : IsPooled s e = accepted-pooled laws s pick line h.sound h.steps h.accepts in
    let x : IsWritten s e.written (put_all (seen s) e.written) = is-written s e (seen s) h.shows h.sound p in
    let left : Leaves (put_all (seen s) e.written) after (without_line s.kernel line) =
    subst (λ (k : Kernel). Leaves (put_all (seen s) e.written) after (without_line k line)) x.kernel
    (subst (λ (m : List ℕ). Leaves m after (without_line (kernel_of m) line)) h.written h.left) in
    let gives : GivesNext after e.context
    (AcceptRecord (s.steps + 1) (who_runs s.kernel) line (reg s.context 0) e.written) (acceptance s line) =
    effect-gives s (without_line s.kernel line) e _ (seen s) after h.shows h.sound.code.memory h.memory p left in
    subst (λ (y : Next). GivesNext after context told y) (sym (ap (by_case s pick) h.accepts))
    record { shows = gives.shows; regs = h.regs; shown = h.shown }

pub acceptance-stands : Given → AcceptanceStandsLaw
acceptance-stands laws s pick line before after context told h =
    subst (λ (m : List ℕ). IsAccepting s line m after context told → GivesNext after context told (step_of s pick)) (sym h.shows.bytes)
    (accepted-seen laws s pick line after context told) h

pub accepted-writes : Given → AcceptedWritesLaw
accepted-writes laws s line before h few w e =
    subst (λ (m : List ℕ). Shows m s → IsWritten s (accepted line m s.context).written (put_all m (accepted line m s.context).written))
    (sym w.bytes)
    (λ x. is-written s (accepted line (seen s) s.context) (seen s) x h (accepted-pooled laws s None line h few e)) w
