-- What each case gives every system that memory and registers stand for.
use Rattle.std.proofs.Common.{◌≡◌, ℕ, ◌+◌, ◌-◌, ◌^◌, ◌<◌, Bool, true, false, cond, eqb, List, Option, Some, None, Result, Ok, Err, inl, inr, refl, sym, ap, ◌∙◌, subst, arith}
use Rattle.std.specs.Prelude.{◌↔◌}
use Rattle.std.proofs.lemmas.List.{get_or_past}
use Rattle.msp_encode.specs.declared.instr.Instr.{Instr}
use Rattle.msp_decode.specs.declared.reading.NoInstr.{NoInstr}
use Rattle.machine_model.specs.Accepting.{accepted}
use Rattle.machine_model.specs.Context.{reg, IsContext}
use Rattle.machine_model.specs.Does.{does, memory_after}
use Rattle.machine_model.specs.Fetching.{IsFetched}
use Rattle.machine_model.specs.Memory.{word_at, IsMemory}
use Rattle.msp_machine.specs.Fetch.{Fetches}
use Rattle.kernel_model.specs.declared.rows.SysWord.TheVariants.{Pending, Budget}
use Rattle.kernel_model.specs.declared.rows.ModuleRow.{ModuleRow}
use Rattle.kernel_model.specs.Kernel.{Kernel, word_of, with_word, module_at, free_module}
use Rattle.kernel_model.specs.Layout.{kernel_of}
use Rattle.kernel_model.specs.Queues.{Leaves}
use Rattle.kernel_model.specs.Words.{none, running, running_module, app_of, tick_number}
use Rattle.kernel_model.specs.Running.{NoneRuns, running_domain}
use Rattle.kernel_model.specs.Modules.{HasKnownModules}
use Rattle.place_model.specs.Marking.{IsOwnMark, IsMarkOf}
use Rattle.place_model.specs.Placing.{domain_at, module_domain}
use Rattle.load_model.specs.Domains.{Domain}
use Rattle.trace_model.specs.declared.records.Record.{Record}
use Rattle.trace_model.specs.declared.records.Record.TheVariants as told
use Rattle.node_model.specs.Systems.{System, seen, domain_in, is_mark, is_mark_in}
use Rattle.node_model.specs.Entries.{Call, Turn, Work, work, turn_at, vector_turn, has_row, nothing_happens, module_runs, who_runs}
use Rattle.node_model.specs.Steps.{Next, Case, Accepts, IsIdle, Enters, Serves, OverBudget, Runs, by_case, by_turn, case_of, fetched, instruction, over_budget, pending, step_of, with_raised}
use Rattle.node_model.specs.Sound.{IsSound, IsRunning, AThread, Nothing, Interrupted, IdleInterrupted, AModule}
use Rattle.node_model.specs.Confined.{IsConfined, IsJustAccepted, IsPushed}
use Rattle.node_model.specs.Laws.{StepLaw, FetchedLaw, RowlessLaw, RaisedLaw}
use Rattle.node_model.specs.Nodes.{Parts, Represents, Stepped, most_steps}
use Rattle.load_model.specs.Loading.{Loadable}
use Rattle.node_model.specs.Code.{StandsLaw, ShownLaw, Shows, SettledLaw, KnownLaw, OwnMarkLaw, NoneRaisedLaw, GivesNext, TurnStandsLaw, IsWritten, InstructionStandsLaw, DoneWritesLaw, AcceptanceStandsLaw, AcceptedWritesLaw}
use Rattle.node_laws.proofs.Stepping.{domain-runs}
use Rattle.node_laws.proofs.Within.{domain-module}
use Rattle.node_laws.proofs.Idling.{idle-is}
use Rattle.retos_node.specs.Cases.{Stands, StandsForOne, IsAtEntry}
use Rattle.retos_node.specs.Turns.{MayTurn, IsWork, HasRow, Turned}

-- ---- a system that memory and registers stand for

pub case_here : (m r : List ℕ) (n : ℕ) (s : System) (x : Case) → Stands m r n s → case_of (kernel_of m) r ≡ x
    → case_of s.kernel s.context ≡ x
case_here m r n s x h e = ap (λ (c : List ℕ). case_of s.kernel c) (sym h.regs) ∙ ap (λ (k : Kernel). case_of k r) (sym h.shows.kernel) ∙ e

pub leaves_same : (m : List ℕ) → Leaves m m (kernel_of m)
leaves_same m = record { kernel = refl; others = refl; laid_out = λ h. h; queues = λ h. h }

pub ready : SettledLaw → KnownLaw → (m r : List ℕ) (n : ℕ) → StandsForOne m r n → MayTurn m
ready settled known m r n h = record {
  settled = settled m h.0 h.1.shows h.1.sound;
  known = subst (λ (k : Kernel). HasKnownModules k) (sym h.1.shows.kernel) (known h.0 h.1.sound);
  time = subst (λ (k : Kernel). tick_number k < 10000000) (sym h.1.shows.kernel) (omega (arith, h.1.sound.kernel.bounded.ticks, h.1.made));
}

-- with its lines raised
pub raised_stands : RaisedLaw → (m after r : List ℕ) (n raised : ℕ) (s : System) → Stands m r n s → Shows after (with_raised s raised)
    → Stands after r n (with_raised s raised)
raised_stands law m after r n raised s h w = record {
  shows = w;
  regs = h.regs;
  sound = law s raised h.sound;
  number = h.number;
  made = h.made;
}

-- ---- an acceptance

-- the line was read before, and taken after the bytes were written
pub record IsAcceptedBy (before middle after registers context : List ℕ) (line step : ℕ) (shown : Record) : Type 0 where
  pub case : case_of (kernel_of before) registers ≡ Accepts line
  pub memory : IsMemory after
  pub written : middle ≡ memory_after before (accepted line before registers)
  pub left : Leaves middle after (with_word (kernel_of middle) Pending (pending (kernel_of before) - 2 ^ line))
  pub regs : context ≡ (accepted line before registers).context
  pub told_is : shown ≡ told.Accept step (who_runs (kernel_of before)) line (reg registers 0) (accepted line before registers).written

pub gives_acceptance : AcceptedWritesLaw → AcceptanceStandsLaw → (s : System) (pick : Option ℕ) (line : ℕ) (before middle after registers context : List ℕ) (step : ℕ) (shown : Record)
    → Stands before registers step s → IsAcceptedBy before middle after registers context line step shown
    → GivesNext after context shown (step_of s pick)
gives_acceptance writes stands s pick line before middle after registers context step shown st given =
    let h : IsAcceptedBy before middle after s.context context line step shown =
    subst (λ (r : List ℕ). IsAcceptedBy before middle after r context line step shown) st.regs given in
    let case : case_of s.kernel s.context ≡ Accepts line = subst (λ (k : Kernel). case_of k s.context ≡ Accepts line) st.shows.kernel h.case in
    let w : IsWritten s (accepted line before s.context).written (memory_after before (accepted line before s.context)) =
    writes s line before st.sound st.made st.shows case in
    let mid : kernel_of middle ≡ s.kernel = ap kernel_of h.written ∙ w.kernel in
    let same : pending (kernel_of before) ≡ pending (kernel_of middle) = ap (λ (k : Kernel). pending k) (st.shows.kernel ∙ sym mid) in
    stands s pick line before after context shown record {
      sound = st.sound;
      steps = st.made;
      shows = st.shows;
      memory = h.memory;
      accepts = case;
      middle = middle;
      written = h.written;
      left = subst (λ (p : ℕ). Leaves middle after (with_word (kernel_of middle) Pending (p - 2 ^ line))) same h.left;
      regs = h.regs;
      shown = h.told_is
          ∙ ap (λ (n : ℕ). told.Accept n (who_runs (kernel_of before)) line (reg s.context 0) (accepted line before s.context).written) st.number
          ∙ ap (λ (k : Kernel). told.Accept (s.steps + 1) (who_runs k) line (reg s.context 0) (accepted line before s.context).written) st.shows.kernel;
    }

-- ---- an instruction

abbrev pub counted_if : Bool → Kernel → (count : ℕ) → Kernel
counted_if b k n = cond b (with_word k Budget n) k

-- whether it is counted, and how many there were, was read before
pub record IsDoneBy (before middle after registers context : List ℕ) (i : Instr) (words step : ℕ) (shown : Record) : Type 0 where
  pub case : case_of (kernel_of before) registers ≡ Runs
  pub memory : IsMemory after
  pub found : fetched before (reg registers 0) ≡ Some (i, words)
  pub written : middle ≡ memory_after before (does before registers i words)
  pub left : Leaves middle after (counted_if (module_runs (kernel_of before)) (kernel_of middle) (word_of (kernel_of before) Budget + 1))
  pub regs : context ≡ (does before registers i words).context
  pub told_is : shown ≡ told.Instr step (who_runs (kernel_of before)) (reg registers 0) (word_at before (reg registers 0)) (does before registers i words).written

pub gives_instruction : DoneWritesLaw → InstructionStandsLaw → (s : System) (pick : Option ℕ) (i : Instr) (words : ℕ) (before middle after registers context : List ℕ) (step : ℕ) (shown : Record)
    → Stands before registers step s → IsDoneBy before middle after registers context i words step shown
    → GivesNext after context shown (step_of s pick)
gives_instruction writes stands s pick i words before middle after registers context step shown st given =
    let h : IsDoneBy before middle after s.context context i words step shown =
    subst (λ (r : List ℕ). IsDoneBy before middle after r context i words step shown) st.regs given in
    let case : case_of s.kernel s.context ≡ Runs = subst (λ (k : Kernel). case_of k s.context ≡ Runs) st.shows.kernel h.case in
    let w : IsWritten s (does before s.context i words).written (memory_after before (does before s.context i words)) =
    writes s i words before st.sound st.made st.shows case h.found in
    let mid : kernel_of middle ≡ s.kernel = ap kernel_of h.written ∙ w.kernel in
    let same : kernel_of before ≡ kernel_of middle = st.shows.kernel ∙ sym mid in
    stands s pick i words before after context shown record {
      sound = st.sound;
      steps = st.made;
      shows = st.shows;
      memory = h.memory;
      runs = case;
      found = h.found;
      middle = middle;
      written = h.written;
      left = subst (λ (k : Kernel). Leaves middle after (counted_if (module_runs k) (kernel_of middle) (word_of k Budget + 1))) same h.left;
      regs = h.regs;
      shown = h.told_is
          ∙ ap (λ (n : ℕ). told.Instr n (who_runs (kernel_of before)) (reg s.context 0) (word_at before (reg s.context 0)) (does before s.context i words).written) st.number
          ∙ ap (λ (k : Kernel). told.Instr (s.steps + 1) (who_runs k) (reg s.context 0) (word_at before (reg s.context 0)) (does before s.context i words).written) st.shows.kernel;
    }

pub left_uncounted : (m : List ℕ) (b : Bool) (n : ℕ) → b ≡ false → Leaves m m (counted_if b (kernel_of m) n)
left_uncounted m b n e = subst (λ (x : Bool). Leaves m m (counted_if x (kernel_of m) n)) (sym e) (leaves_same m)

pub left_counted : (middle after : List ℕ) (b : Bool) (n v : ℕ) → b ≡ true → n ≡ v → Leaves middle after (with_word (kernel_of middle) Budget n)
    → Leaves middle after (counted_if b (kernel_of middle) v)
left_counted middle after b n v e f h = subst (λ (x : Bool). Leaves middle after (counted_if x (kernel_of middle) v)) (sym e)
    (subst (λ (x : ℕ). Leaves middle after (with_word (kernel_of middle) Budget x)) f h)

-- what is fetched
pub is_found : FetchedLaw → (m : List ℕ) (pc : ℕ) (i : Instr) (n : ℕ) → IsMemory m → Fetches m pc (Ok (i, n)) → fetched m pc ≡ Some (i, n)
is_found law m pc i n h f = (law m pc i n h).1 f

abbrev IsErr : Result (Instr × ℕ) NoInstr → Type 0
IsErr (Ok x) = ⊥
IsErr (Err e) = Unit {0}

none_found : FetchedLaw → (m : List ℕ) (pc : ℕ) (e : NoInstr) → IsMemory m
    → ((answer : Result (Instr × ℕ) NoInstr) → Fetches m pc answer → Err e ≡ answer) → (o : Option (Instr × ℕ)) → fetched m pc ≡ o → o ≡ None
none_found law m pc e h only None f = refl
none_found law m pc e h only (Some x) f =
    let is : IsFetched m pc x.0 x.1 = (law m pc x.0 x.1 h).0 f in
    absurd (subst IsErr (only (Ok (x.0, x.1)) is) tt)

pub isnt_found : FetchedLaw → (m : List ℕ) (pc : ℕ) (e : NoInstr) → IsMemory m
    → ((answer : Result (Instr × ℕ) NoInstr) → Fetches m pc answer → Err e ≡ answer) → fetched m pc ≡ None
isnt_found law m pc e h only = none_found law m pc e h only (fetched m pc) refl

-- ---- nothing happens

-- at a system whose step is a turn that does nothing
nothing : TurnStandsLaw → (s : System) (pick other : Option ℕ) (m r : List ℕ) (n : ℕ) → Stands m r n s
    → by_case s pick (case_of s.kernel s.context) ≡ by_turn s (nothing_happens (work s other))
    → GivesNext m r (told.IdleTurn n) (step_of s pick)
nothing law s pick other m r n h e = law s pick (nothing_happens (work s other)) m m r (told.IdleTurn n) record {
  sound = h.sound;
  shows = h.shows;
  memory = h.shows.memory;
  turn = e;
  left = subst (λ (k : Kernel). Leaves m m k) h.shows.kernel (leaves_same m);
  regs = h.regs;
  shown = ap told.IdleTurn h.number;
}

pub gives_idle : TurnStandsLaw → (s : System) (pick : Option ℕ) (m r : List ℕ) (n : ℕ) → Stands m r n s
    → case_of (kernel_of m) r ≡ IsIdle → GivesNext m r (told.IdleTurn n) (step_of s pick)
gives_idle law s pick m r n h e = nothing law s pick pick m r n h (ap (by_case s pick) (case_here m r n s IsIdle h e))

pub gives_none : TurnStandsLaw → (s : System) (pick : Option ℕ) (m r : List ℕ) (n : ℕ) → Stands m r n s
    → case_of (kernel_of m) r ≡ Runs → fetched m (reg r 0) ≡ None → GivesNext m r (told.IdleTurn n) (step_of s pick)
gives_none law s pick m r n h e f =
    let none_here : fetched (seen s) (reg s.context 0) ≡ None =
    ap (λ (x : List ℕ). fetched x (reg s.context 0)) (sym h.shows.bytes) ∙ ap (λ (c : List ℕ). fetched m (reg c 0)) (sym h.regs) ∙ f in
    nothing law s pick None m r n h (ap (by_case s pick) (case_here m r n s Runs h e) ∙ ap (instruction s) none_here)

-- ---- a turn

pub running_is_context : (m c : List ℕ) (k : Kernel) (ds : List (Option Domain)) → IsRunning m c k ds → IsContext c
running_is_context m c k ds (AThread r good) = good.good.steady.context
running_is_context m c k ds (Nothing r e) = subst (λ (x : List ℕ). IsContext x) (sym e) idle-is
running_is_context m c k ds (Interrupted r serving i) = serving.context
running_is_context m c k ds (IdleInterrupted r serving i) = serving.context
running_is_context m c k ds (AModule l good) = good.good.steady.context

gives_turn : StepLaw → TurnStandsLaw → (s : System) (pick : Option ℕ) (t : Turn) (before after registers context : List ℕ) (step : ℕ) (shown : Record)
    → Stands before registers step s → IsMemory after → by_case s pick (case_of s.kernel s.context) ≡ by_turn s t
    → Turned before after context shown t → GivesNext after context shown (step_of s pick)
gives_turn safe law s pick t before after registers context step shown st memory e h =
    let next : IsSound (by_turn s t).system =
    subst (λ (x : Next). IsSound x.system) e (safe s pick st.sound st.made).sound in
    let is : IsContext t.context = running_is_context s.memory t.context t.kernel s.placed next.running in
    law s pick t before after context shown record {
      sound = st.sound;
      shows = st.shows;
      memory = memory;
      turn = e;
      left = h.leaves;
      regs = h.registers_are is;
      shown = h.shown;
    }

-- ---- the work of a turn

-- no domain runs, and no address is a mark of it
none_marked : (m : List ℕ) (s : System) (at : ℕ) → Shows m s → IsSound s → NoneRuns s.kernel
    → IsOwnMark m at ↔ (is_mark s.placed (running_domain s.kernel) at ≡ true)
none_marked m s at w h r = (λ i. absurd (left i), λ e. absurd (right e))
  where
    number : running_domain s.kernel ≡ 16383
    number = ap (λ (i : ℕ). cond (eqb i none) (app_of (running s.kernel)) (8 + i)) r.no_module ∙ ap (λ (t : ℕ). app_of t) r.no_thread

    far : module_at s.kernel 16375 ≡ free_module
    far = get_or_past s.kernel.modules 16375 free_module (omega (arith, h.kernel.settled.orderly.shape.module_rows))

    left : IsOwnMark m at → ⊥
    left i =
        let here : IsMarkOf m (domain_at s.kernel (running_domain s.kernel)).code.from (domain_at s.kernel (running_domain s.kernel)).code.to at =
        subst (λ (k : Kernel). IsMarkOf m (domain_at k (running_domain k)).code.from (domain_at k (running_domain k)).code.to at) w.kernel i in
        let there : IsMarkOf m (domain_at s.kernel 16383).code.from (domain_at s.kernel 16383).code.to at =
        subst (λ (n : ℕ). IsMarkOf m (domain_at s.kernel n).code.from (domain_at s.kernel n).code.to at) number here in
        let nowhere : IsMarkOf m 0 0 at = subst (λ (row : ModuleRow). IsMarkOf m (module_domain row).code.from (module_domain row).code.to at) far there in
        omega (arith, nowhere.to)

    right : is_mark s.placed (running_domain s.kernel) at ≡ true → ⊥
    right e =
        let past : domain_in s.placed 16383 ≡ None = get_or_past s.placed 16383 None (omega (arith, h.kernel.domains.twelve)) in
        let no : is_mark s.placed (running_domain s.kernel) at ≡ false =
        ap (λ (n : ℕ). is_mark s.placed n at) number ∙ ap (λ (d : Option Domain). is_mark_in d at) past in
        cc (e, no)

marks_by : OwnMarkLaw → (m : List ℕ) (s : System) (at : ℕ) → Shows m s → IsSound s → IsRunning s.memory s.context s.kernel s.placed
    → IsOwnMark m at ↔ (is_mark s.placed (running_domain s.kernel) at ≡ true)
marks_by law m s at w h (AThread r good) = law m s at w h (let l = r.thread in omega (arith, domain-runs s.kernel r))
marks_by law m s at w h (Interrupted r serving i) = law m s at w h (let l = r.thread in omega (arith, domain-runs s.kernel r))
marks_by law m s at w h (AModule l good) = law m s at w h (omega (arith, domain-module s.kernel l))
marks_by law m s at w h (Nothing r e) = none_marked m s at w h r
marks_by law m s at w h (IdleInterrupted r serving i) = none_marked m s at w h r

is_work : OwnMarkLaw → (s : System) (pick : Option ℕ) (m r : List ℕ) (n : ℕ) → Stands m r n s → IsWork m r n pick (work s pick)
is_work law s pick m r n h = record {
  kernel = h.shows.kernel;
  context = h.regs;
  marks = λ at. marks_by law m s at h.shows h.sound h.sound.running;
  stacked = ap (λ (c : List ℕ). word_at m (reg c 1)) h.regs ∙ ap (λ (x : List ℕ). word_at x (reg s.context 1)) h.shows.bytes;
  step_is = h.number;
  pick_is = refl;
}

-- ---- an entry

row_by : StepLaw → RowlessLaw → (s : System) (c : Call) → IsSound s → s.steps < 10000000 → case_of s.kernel s.context ≡ Enters c
    → (b : Bool) → has_row s.kernel c ≡ b → has_row s.kernel c ≡ true
row_by safe law s c h few e true f = f
row_by safe law s c h few e false f = absurd (law s None c e f (safe s None h few).confined)

pub has_row_here : StepLaw → RowlessLaw → (m r : List ℕ) (n : ℕ) → StandsForOne m r n → IsAtEntry (kernel_of m) r
    → HasRow (kernel_of m) (reg r 0)
has_row_here safe law m r n h at = record {
  call = at.call;
  at = at.at;
  row = ap (λ (k : Kernel). has_row k at.call) h.1.shows.kernel
      ∙ row_by safe law h.0 at.call h.1.sound h.1.made (case_here m r n h.0 (Enters at.call) h.1 at.enters) (has_row h.0.kernel at.call) refl;
}

entered : (s : System) (pick : Option ℕ) (c : Call) → case_of s.kernel s.context ≡ Enters c → has_row s.kernel c ≡ true
    → by_case s pick (case_of s.kernel s.context) ≡ by_turn s (turn_at c (work s pick))
entered s pick c e f = ap (by_case s pick) e ∙ ap (λ (b : Bool). by_turn s (cond b (turn_at c (work s pick)) (nothing_happens (work s pick)))) f

pub gives_entry : StepLaw → TurnStandsLaw → OwnMarkLaw → RowlessLaw → (s : System) (pick : Option ℕ) (before after registers context : List ℕ) (step : ℕ) (shown : Record)
    → Stands before registers step s → IsMemory after → (at : IsAtEntry (kernel_of before) registers)
    → ((w : Work) → IsWork before registers step pick w → Turned before after context shown (turn_at at.call w))
    → GivesNext after context shown (step_of s pick)
gives_entry safe law marks rowless s pick before after registers context step shown st memory at h =
    let case : case_of s.kernel s.context ≡ Enters at.call = case_here before registers step s (Enters at.call) st at.enters in
    gives_turn safe law s pick (turn_at at.call (work s pick)) before after registers context step shown st memory
    (entered s pick at.call case (row_by safe rowless s at.call st.sound st.made case (has_row s.kernel at.call) refl))
    (h (work s pick) (is_work marks s pick before registers step st))

-- ---- a routine

pushed_no_module : (s : System) → IsPushed s → running_module s.kernel ≡ none
pushed_no_module s (inl x) = x.0.no_module
pushed_no_module s (inr x) = x.0.no_module

pub no_module_here : StepLaw → (m r : List ℕ) (n line : ℕ) → StandsForOne m r n → case_of (kernel_of m) r ≡ Serves line
    → running_module (kernel_of m) ≡ none
no_module_here safe m r n line h e =
    let s : System = h.0 in
    let case : case_of s.kernel s.context ≡ Serves line = case_here m r n s (Serves line) h.1 e in
    let just : IsJustAccepted s line =
    subst (λ (c : Case). IsConfined s (by_case s None c).shown) case (safe s None h.1.sound h.1.made).confined in
    ap (λ (k : Kernel). running_module k) h.1.shows.kernel ∙ pushed_no_module s just.pushed

pub gives_routine : StepLaw → TurnStandsLaw → OwnMarkLaw → (s : System) (pick : Option ℕ) (line : ℕ) (before after registers context : List ℕ) (step : ℕ) (shown : Record)
    → Stands before registers step s → IsMemory after → case_of (kernel_of before) registers ≡ Serves line
    → ((w : Work) → IsWork before registers step pick w → Turned before after context shown (vector_turn line before w))
    → GivesNext after context shown (step_of s pick)
gives_routine safe law marks s pick line before after registers context step shown st memory e h =
    let case : case_of s.kernel s.context ≡ Serves line = case_here before registers step s (Serves line) st e in
    gives_turn safe law s pick (vector_turn line (seen s) (work s pick)) before after registers context step shown st memory
    (ap (by_case s pick) case)
    (subst (λ (m : List ℕ). Turned before after context shown (vector_turn line m (work s pick))) st.shows.bytes
    (h (work s pick) (is_work marks s pick before registers step st)))

-- ---- a budget that is spent

pub gives_over : StepLaw → TurnStandsLaw → OwnMarkLaw → (s : System) (pick : Option ℕ) (before after registers context : List ℕ) (step : ℕ) (shown : Record)
    → Stands before registers step s → IsMemory after → case_of (kernel_of before) registers ≡ OverBudget
    → ((w : Work) → IsWork before registers step pick w → Turned before after context shown (over_budget w))
    → GivesNext after context shown (step_of s pick)
gives_over safe law marks s pick before after registers context step shown st memory e h =
    gives_turn safe law s pick (over_budget (work s pick)) before after registers context step shown st memory
    (ap (by_case s pick) (case_here before registers step s OverBudget st e))
    (h (work s pick) (is_work marks s pick before registers step st))

-- ---- a node

pub node_stands : ShownLaw → (n : Parts) (os : List Loadable) (s : System) → Represents n os s → IsSound s → n.steps < most_steps
    → Stands n.mem n.regs (n.steps + 1) s
node_stands shown n os s r h few = record {
  shows = shown n os s r h;
  regs = r.context;
  sound = h;
  number = ap (λ (x : ℕ). x + 1) r.steps;
  made = subst (λ (x : ℕ). x < most_steps) r.steps few;
}

pub stepped : StandsLaw → (old new : Parts) (os : List Loadable) (s : System) (raised : ℕ) (pick : Option ℕ) (shown : Record)
    → Represents old os s → IsSound s → old.steps < most_steps → new.steps ≡ old.steps + 1 → new.owner ≡ old.owner
    → GivesNext new.mem new.regs shown (step_of (with_raised s raised) pick) → Stepped new os s raised pick shown
stepped law old new os s raised pick shown r h few made same gives = law old new os s raised pick shown record {
  represents = r;
  sound = h;
  made = subst (λ (x : ℕ). x < most_steps) r.steps few;
  gives = gives;
  steps = made;
  owner = same;
}

-- where no line is raised, the next system is that of the system itself
unraised : NoneRaisedLaw → (s : System) (raised : ℕ) (pick : Option ℕ) (m r : List ℕ) (shown : Record) → raised ≡ 0
    → GivesNext m r shown (step_of s pick) → GivesNext m r shown (step_of (with_raised s raised) pick)
unraised law s raised pick m r shown e h =
    subst (λ (x : System). GivesNext m r shown (step_of x pick)) (sym (law s) ∙ ap (λ (n : ℕ). with_raised s n) (sym e)) h

-- a step before which no line is raised, by what it gives the system
pub untold_stepped : StandsLaw → ShownLaw → NoneRaisedLaw → (old new : Parts) (os : List Loadable) (s : System) (raised : ℕ) (pick : Option ℕ) (shown : Record)
    → Represents old os s → IsSound s → old.steps < most_steps → new.steps ≡ old.steps + 1 → new.owner ≡ old.owner → raised ≡ 0
    → ((t : System) → Stands old.mem old.regs (old.steps + 1) t → GivesNext new.mem new.regs shown (step_of t pick))
    → Stepped new os s raised pick shown
untold_stepped law seen none old new os s raised pick shown r h few made same e gives =
    stepped law old new os s raised pick shown r h few made same
    (unraised none s raised pick new.mem new.regs shown e (gives s (node_stands seen old os s r h few)))
