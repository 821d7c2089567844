-- What running objects comes to.
use Rattle.std.proofs.Common.{◌≡◌, ℕ, ◌<◌, ◌+◌, Bool, false, nat_lt, List, [], ◌∷◌, length, Some, None, Ok, Err, refl, ap, sym, subst, ◌∙◌, inl, inr, arith}
use Rattle.std.specs.declared.option.Option.{Option}
use Rattle.std.specs.declared.result.Result.{Result}
use Rattle.edge_io.specs.Known.{Files, FolderState, SinkState, appended, GotPrefix}
use Rattle.edge_io.specs.Causes.{Rose}
use Rattle.place_model.specs.declared.places.NoRoom.{NoRoom}
use Rattle.place_model.specs.declared.places.Regions.{Regions}
use Rattle.load_model.specs.Loading.{Loadable, places_of}
use Rattle.trace_model.specs.declared.scripts.Script.{Script}
use Rattle.node_model.specs.Systems.{System}
use Rattle.node_model.specs.Sound.{IsSound}
use Rattle.node_model.specs.Runs.{Run as Made, run, faults}
use Rattle.node_model.specs.Booting.{Refusal, booted, begun_if, empty_system, loaded, loaded_all, by_places}
use Rattle.node_model.specs.Nodes.{Parts, Represents, Boots, IsBootRefusal, trace_text}
use Rattle.retos_node.specs.declared.node.Node.{Node}
use Rattle.trace_print.specs.declared.show.Show.{Show}
use Rattle.retos_node.specs.declared.node.End.{End}
use Rattle.retos_node.specs.declared.node.End.TheVariants.{Limit, Quiet}
use Rattle.retos_node.specs.declared.node.BootFault.{BootFault}
use Rattle.retos_node.specs.declared.node.BootFault.TheVariants as boot_fault
use Rattle.retos_node.specs.Parts.{parts, IsBootFault, IsRunEnd, RunsTo, RunsUpTo}
use Rattle.retos_cli.specs.declared.command.Job.{Job}
use Rattle.retos_cli.specs.declared.command.Command.{Command}
use Rattle.retos_cli.specs.declared.command.Command.TheVariants.{Run, Check}
use Rattle.retos_cli.specs.declared.purpose.Purpose.{Purpose}
use Rattle.retos_cli.specs.declared.purpose.Purpose.TheVariants.{Checked, Script as Scripted}
use Rattle.retos_cli.specs.declared.outcome.Outcome.{Outcome}
use Rattle.retos_cli.specs.declared.outcome.Outcome.TheVariants.{Done, BadWords, Stopped, WriteFault}
use Rattle.retos_cli.specs.declared.outcome.Stop.{Stop}
use Rattle.retos_cli.specs.declared.outcome.Stop.TheVariants.{Refuse, ReadFault, NoMemory}
use Rattle.retos_cli.specs.declared.outcome.Refused.{Refused}
use Rattle.retos_cli.specs.declared.outcome.Why.TheVariants as why
use Rattle.retos_cli.specs.Words.{word}
use Rattle.retos_cli.specs.Lines.{accepted_lines}
use Rattle.retos_cli.specs.Meaning.{Input, Output, AreTaken, IsTaken, IsScriptOf, IsSupplied, IsUnplaced, IsOutput, IsFirstRefused, IsFirstRefusal, IsReached, inputs, job_inputs, named_inputs, behind_script, form_by, job_text, has_faulted, written}
use Rattle.retos_cli.specs.Tracing.{IsTraced, IsTraceCut, RunEnds, faults_of}
use Rattle.retos_cli.specs.Ends.{Told, Ended, TextEnds, ScriptEnds, StopCause, CommandStops, InputStops, RefusesInput, OnlyRead, CutAt, IsHeld}
use Rattle.retos_cli.proofs.Told.{told_map, told_all, told_same, told_both, rose_before}
use Rattle.retos_cli.proofs.Gathering.{refused_here, refused_later, reached_here, reached_later}

-- ---- why inputs end a command

-- why the one input of a command ends it
pub one_cause : (f0 f1 : FolderState) (i : Input) (s : Stop) → InputStops f0 f1 i s → StopCause (i ∷ []) f0 f1 s
one_cause f0 f1 i (Refuse r) h = told_map f0.files (λ m. RefusesInput m i r) (λ m. IsFirstRefused m (i ∷ []) r) (λ m e x. refused_here m i [] r x) h
one_cause f0 f1 i (ReadFault n) h = record { is_held = h.is_held; rose = h.rose; last = h.last; reached = told_all f0.files (λ m. IsReached m (i ∷ []) n) (λ m e. reached_here m i [] n h.name_is) }
one_cause f0 f1 i NoMemory h = tt

-- the script that is named
named-script : (f0 f1 : FolderState) (name : List ℕ) (r : Result Script Stop) → TextEnds f0 f1 name r → ScriptEnds f0 f1 (Some name) r
named-script f0 f1 name (Ok t) h = h
named-script f0 f1 name (Err s) h = one_cause f0 f1 (record { name = name; purpose = Scripted }) s h

pub script_got : (f0 f1 : FolderState) (script : Option (List ℕ)) (name : List ℕ) (r : Result Script Stop) → script ≡ Some name → TextEnds f0 f1 name r → ScriptEnds f0 f1 script r
script_got f0 f1 script name r e h = let P : Option (List ℕ) → Type 0 = λ s. ScriptEnds f0 f1 s r in subst P (sym e) (named-script f0 f1 name r h)

pub command_cause : (c : Command) (f0 f1 : FolderState) (s : Stop) → StopCause (inputs c) f0 f1 s → CommandStops c f0 f1 s
command_cause c f0 f1 (Refuse r) h = told_map f0.files (λ m. IsFirstRefused m (inputs c) r) (λ m. IsFirstRefusal m c r) (λ m e x. inl x) h
command_cause c f0 f1 (ReadFault n) h = h
command_cause c f0 f1 NoMemory h = tt

-- ---- the script before the objects

none-refused : (m : Files) (r : Refused) → IsFirstRefused m [] r → ⊥
unfolding IsFirstRefused
none-refused m r h = h

none-reached : (m : Files) (n : List ℕ) → IsReached m [] n → ⊥
unfolding IsReached
none-reached m n h = h

refused-more : (m : Files) (i : Input) (others : List Input) (r : Refused) → IsFirstRefused m (i ∷ []) r → IsFirstRefused m (i ∷ others) r
unfolding IsFirstRefused
refused-more m i others r (inl h) = inl h
refused-more m i others r (inr h) = absurd h.1

reached-more : (m : Files) (i : Input) (others : List Input) (n : List ℕ) → IsReached m (i ∷ []) n → IsReached m (i ∷ others) n
unfolding IsReached
reached-more m i others n (inl h) = inl h
reached-more m i others n (inr h) = absurd h.1

abbrev scripted : List ℕ → Input
scripted name = record { name = name; purpose = Scripted }

refused-by-script : (m : Files) (script : Option (List ℕ)) (others : List Input) (r : Refused) → IsFirstRefused m (behind_script script []) r → IsFirstRefused m (behind_script script others) r
refused-by-script m None others r h = absurd (none-refused m r h)
refused-by-script m (Some name) others r h = refused-more m (scripted name) others r h

reached-by-script : (m : Files) (script : Option (List ℕ)) (others : List Input) (n : List ℕ) → IsReached m (behind_script script []) n → IsReached m (behind_script script others) n
reached-by-script m None others n h = absurd (none-reached m n h)
reached-by-script m (Some name) others n h = reached-more m (scripted name) others n h

-- what ends the script ends all
pub script_stops : (f0 f1 : FolderState) (script : Option (List ℕ)) (others : List Input) (s : Stop) → StopCause (behind_script script []) f0 f1 s → StopCause (behind_script script others) f0 f1 s
script_stops f0 f1 script others (Refuse r) h = told_map f0.files (λ m. IsFirstRefused m (behind_script script []) r) (λ m. IsFirstRefused m (behind_script script others) r) (λ m e x. refused-by-script m script others r x) h
script_stops f0 f1 script others (ReadFault n) h = record {
  is_held = h.is_held;
  rose = h.rose;
  last = h.last;
  reached = told_map f0.files (λ m. IsReached m (behind_script script []) n) (λ m. IsReached m (behind_script script others) n) (λ m e x. reached-by-script m script others n x) h.reached;
}
script_stops f0 f1 script others NoMemory h = tt

script-taken : (m : Files) (name : List ℕ) (t : Script) → IsScriptOf m (Some name) t → IsTaken m (scripted name)
unfolding IsTaken
script-taken m name t h = (t, h)

refused-behind : (m : Files) (script : Option (List ℕ)) (t : Script) (others : List Input) (r : Refused) → IsScriptOf m script t → IsFirstRefused m others r → IsFirstRefused m (behind_script script others) r
refused-behind m None t others r k h = h
refused-behind m (Some name) t others r k h = refused_later m (scripted name) others r (script-taken m name t k) h

reached-behind : (m : Files) (script : Option (List ℕ)) (t : Script) (others : List Input) (n : List ℕ) → IsScriptOf m script t → IsReached m others n → IsReached m (behind_script script others) n
reached-behind m None t others n k h = h
reached-behind m (Some name) t others n k h = reached_later m (scripted name) others n (script-taken m name t k) h

-- what ends the objects behind a script that is taken ends all
stops-behind : (f0 f1 f2 : FolderState) (script : Option (List ℕ)) (t : Script) (others : List Input) (s : Stop)
    → Told f0.files (λ m. IsScriptOf m script t) → OnlyRead f0 f1 → StopCause others f1 f2 s → StopCause (behind_script script others) f0 f2 s
stops-behind f0 f1 f2 script t others (Refuse r) k l h =
    told_both f0.files (λ m. IsScriptOf m script t) (λ m. IsFirstRefused m others r) (λ m. IsFirstRefused m (behind_script script others) r) (λ m e x y. refused-behind m script t others r x y) k
    (told_same f0.files f1.files (λ m. IsFirstRefused m others r) l.files h)
stops-behind f0 f1 f2 script t others (ReadFault n) k l h = record {
  is_held = told_same f0.files f1.files (λ m. IsHeld m n) l.files h.is_held;
  rose = rose_before f0.read_faults f1.read_faults f2.read_faults l.later h.rose;
  last = h.last;
  reached = told_both f0.files (λ m. IsScriptOf m script t) (λ m. IsReached m others n) (λ m. IsReached m (behind_script script others) n) (λ m e x y. reached-behind m script t others n x y) k
      (told_same f0.files f1.files (λ m. IsReached m others n) l.files h.reached);
}
stops-behind f0 f1 f2 script t others NoMemory k l h = tt

pub objects_stop : (f0 f1 f2 : FolderState) (job : Job) (t : Script) (purpose : Purpose) (s : Stop)
    → Told f0.files (λ m. IsScriptOf m job.script t) → OnlyRead f0 f1 → purpose ≡ form_by job.script → StopCause (named_inputs purpose job.names) f1 f2 s → StopCause (job_inputs job) f0 f2 s
objects_stop f0 f1 f2 job t purpose s k l e h =
    let P : Purpose → Type 0 = λ x. StopCause (named_inputs x job.names) f1 f2 s in
    stops-behind f0 f1 f2 job.script t (named_inputs (form_by job.script) job.names) s k l (subst P e h)

pub supplied : (f0 f1 : FolderState) (job : Job) (t : Script) (os : List Loadable) (purpose : Purpose)
    → Told f0.files (λ m. IsScriptOf m job.script t) → OnlyRead f0 f1 → purpose ≡ form_by job.script → Told f1.files (λ m. AreTaken purpose m job.names os) → Told f0.files (λ m. IsSupplied m job t os)
supplied f0 f1 job t os purpose k l e h =
    let P : Purpose → Type 0 = λ x. Told f1.files (λ m. AreTaken x m job.names os) in
    told_both f0.files (λ m. IsScriptOf m job.script t) (λ m. AreTaken (form_by job.script) m job.names os) (λ m. IsSupplied m job t os) (λ m s x y. record { script = x; objects = y }) k
    (told_same f0.files f1.files (λ m. AreTaken (form_by job.script) m job.names os) l.files (subst P e h))

-- ---- the object without room

abbrev as-err : Refusal → Result System Refusal
as-err e = Err e

err-same : (a b : Refusal) → as-err a ≡ as-err b → a ≡ b
err-same a b e = cc e

abbrev AllLow : Result System Refusal → ℕ → Type 0
AllLow r k = (x : Refusal) → r ≡ Err x → x.object < k

placed-low : (s : System) (n : ℕ) (o : Loadable) (p : Result Regions NoRoom) → AllLow (by_places s n o p) (n + 1)
placed-low s n o (Ok r) x e = absurd (cc e)
placed-low s n o (Err cause) x e = let same : n ≡ x.object = ap (λ (f : Refusal). f.object) (err-same (record { object = n; cause = cause }) x e) in omega (arith, same)

loaded-low : (s : System) (n : ℕ) (o : Loadable) → AllLow (loaded s n o) (n + 1)
unfolding loaded
loaded-low s n o = placed-low s n o (places_of s.kernel o.object)

all-low : (os : List Loadable) (n : ℕ) (r : Result System Refusal) → AllLow r n → AllLow (loaded_all r n os) (n + length os)
all-low [] n r h x e = omega (arith, h x e)
all-low (o ∷ os) n (Err f) h x e = omega (arith, h x e)
all-low (o ∷ os) n (Ok s) h x e = omega (arith, all-low os (n + 1) (loaded s n o) (loaded-low s n o) x e)

begun-err : (r : Result System Refusal) (x : Refusal) → begun_if r ≡ Err x → r ≡ Err x
begun-err (Ok s) x e = absurd (cc e)
begun-err (Err f) x e = cc e

-- the object that is refused is one of the list
refused-within : (os : List Loadable) (x : Refusal) → booted os ≡ Err x → x.object < length os
unfolding booted
refused-within os x e = omega (arith, all-low os 0 (Ok empty_system) (λ y f. absurd (cc f)) x (begun-err (loaded_all (Ok empty_system) 0 os) x e))

-- what a refusal at boot says
record Refuses (b : Result System Refusal) (i : ℕ) (cause : NoRoom) : Type 0 where
  pub refusal : Refusal
  pub refused : b ≡ Err refusal
  pub object : refusal.object ≡ i
  pub why : refusal.cause ≡ cause

refuses-by : (b : Result System Refusal) (i : ℕ) (cause : NoRoom) → IsBootRefusal b i cause → Refuses b i cause
refuses-by (Ok s) i cause h = absurd h
refuses-by (Err e) i cause h = record { refusal = e; refused = refl; object = h.0; why = h.1 }

pub boot_refusal : (os : List Loadable) (f : BootFault) (i : ℕ) (cause : NoRoom) → f ≡ boot_fault.NoRoom i cause → IsBootFault os f → IsBootRefusal (booted os) i cause
boot_refusal os f i cause e h = let P : BootFault → Type 0 = λ x. IsBootFault os x in subst P e h

pub refused_below : (os : List Loadable) (i : ℕ) (cause : NoRoom) → IsBootRefusal (booted os) i cause → i < length os
refused_below os i cause h =
    let r : Refuses (booted os) i cause = refuses-by (booted os) i cause h in
    let low : r.refusal.object < length os = refused-within os r.refusal r.refused in omega (arith, low, r.object)

pub unplaced : (os : List Loadable) (names : List (List ℕ)) (i : ℕ) (cause : NoRoom) (name : List ℕ) → IsBootRefusal (booted os) i cause → name ≡ word names i
    → IsUnplaced os names (record { name = name; why = why.Room cause })
unplaced os names i cause name h e =
    let r : Refuses (booted os) i cause = refuses-by (booted os) i cause h in
    record { refusal = r.refusal; refused = r.refused; named = e ∙ ap (λ (k : ℕ). word names k) (sym r.object); cause = ap (λ (c : NoRoom). why.Room c) (sym r.why) }

-- ---- the run of a booted node

pub record IsBooted (n : Parts) (os : List Loadable) (b : Result System Refusal) : Type 0 where
  pub system : System
  pub boots : b ≡ Ok system
  pub represents : Represents n os system
  pub sound : IsSound system

pub booted_by : (n : Parts) (os : List Loadable) (b : Result System Refusal) → Boots n os b → IsBooted n os b
booted_by n os (Ok s) h = record { system = s; boots = refl; represents = h.0; sound = h.1 }
booted_by n os (Err e) h = absurd h

pub end_faults : (t : Script) (r : Made) (end : End) → IsRunEnd t r end → faults_of end ≡ faults r
end_faults t r (Limit n e f) h = h.fault_count
end_faults t r (Quiet n e f) h = h.fault_count

abbrev shown-text : Show → Job → Script → List Loadable → System → List ℕ
shown-text show job t os s = trace_text show.all show.tail (length os) t s (run job.steps t s)

pub traced : (old new : Node) (os : List Loadable) (job : Job) (t : Script) (o0 o1 : SinkState) (end : End) (n : ℕ)
    → Boots (parts old) os (booted os) → old.show ≡ job.show → RunsTo old new os job.steps t o0 o1 end → n ≡ faults_of end → IsTraced job t os o0 o1 (nat_lt 0 n)
traced old new os job t o0 o1 end n b w h e =
    let k : IsBooted (parts old) os (booted os) = booted_by (parts old) os (booted os) b in
    let r = h k.system k.represents k.sound in
    record {
      system = k.system;
      boots = k.boots;
      trace = r.2 ∙ ap (λ (show : Show). appended o0.bytes (shown-text show job t os k.system)) w;
      faulted_is = ap (λ (j : ℕ). nat_lt 0 j) (e ∙ end_faults t (run job.steps t k.system) end r.0);
    }

pub trace_cut : (old new : Node) (os : List Loadable) (job : Job) (t : Script) (o0 o1 : SinkState)
    → Boots (parts old) os (booted os) → old.show ≡ job.show → RunsUpTo old new os job.steps t o0 o1 → Rose o0.faults o1.faults → IsTraceCut job t os o0 o1
trace_cut old new os job t o0 o1 b w h r =
    let k : IsBooted (parts old) os (booted os) = booted_by (parts old) os (booted os) b in
    let P : Show → Type 0 = λ show. GotPrefix o0.bytes o1.bytes (shown-text show job t os k.system) in
    record { system = k.system; boots = k.boots; rose = r; prefix = subst P w (h k.system k.represents k.sound).1 }

-- ---- the command

run-output : (m : Files) (job : Job) (t : Script) (os : List Loadable) (s : System) (faulted : Bool) → IsSupplied m job t os → booted os ≡ Ok s → faulted ≡ has_faulted job t s
    → IsOutput (Run job) m (record { out = job_text job t os s; file = None; faulted = faulted })
unfolding IsOutput
run-output m job t os s faulted h b f = record { script = t; objects = os; supplied = h; system = s; boots = b; trace = refl; file_is = refl; faulted_is = f }

pub run_ended : (f0 f1 : FolderState) (o0 o1 : SinkState) (job : Job) (t : Script) (os : List Loadable) (r : Outcome)
    → Told f0.files (λ m. IsSupplied m job t os) → OnlyRead f0 f1 → RunEnds job t os o0 o1 r → Ended (Run job) f0 f1 o0 o1 r
run_ended f0 f1 o0 o1 job t os (Done f) k l h = record {
  told = told_map f0.files (λ m. IsSupplied m job t os) (λ m. (x : Output) × IsOutput (Run job) m x × (x.faulted ≡ f) × (o1.bytes ≡ appended o0.bytes x.out) × (f1.files ≡ Some (written m x.file)))
      (λ m e x. (record { out = job_text job t os h.system; file = None; faulted = f }, run-output m job t os h.system f x h.boots h.faulted_is, refl, h.trace, l.files ∙ e)) k;
}
run_ended f0 f1 o0 o1 job t os WriteFault k l h = record {
  cause = inl h.rose;
  told = told_map f0.files (λ m. IsSupplied m job t os) (λ m. (x : Output) × IsOutput (Run job) m x × CutAt x.file x.out m f1.files o0.bytes o1.bytes)
      (λ m e x. (record { out = job_text job t os h.system; file = None; faulted = has_faulted job t h.system }, run-output m job t os h.system (has_faulted job t h.system) x h.boots refl, (l.files ∙ e, h.prefix))) k;
}
run_ended f0 f1 o0 o1 job t os (Stopped (Refuse r)) k l h = record {
  read = l;
  cause = told_map f0.files (λ m. IsSupplied m job t os) (λ m. IsFirstRefusal m (Run job) r) (λ m e x. inr (record { script = t; objects = os; supplied = x; unplaced = h.0 })) k;
  out = h.1;
}
run_ended f0 f1 o0 o1 job t os (Stopped NoMemory) k l h = record { read = l; cause = tt; out = h }
run_ended f0 f1 o0 o1 job t os (Stopped (ReadFault n)) k l h = absurd h
run_ended f0 f1 o0 o1 job t os BadWords k l h = absurd h

pub run_stopped : (f0 f1 : FolderState) (o0 o1 : SinkState) (job : Job) (s : Stop) → StopCause (job_inputs job) f0 f1 s → OnlyRead f0 f1 → o1 ≡ o0 → Ended (Run job) f0 f1 o0 o1 (Stopped s)
run_stopped f0 f1 o0 o1 job s h l e = record { read = l; cause = command_cause (Run job) f0 f1 s h; out = e }

-- ---- the command `check`

check-output : (m : Files) (names : List (List ℕ)) (os : List Loadable) → AreTaken Checked m names os → IsOutput (Check names) m (record { out = accepted_lines names os; file = None; faulted = false })
unfolding IsOutput
check-output m names os h = record { objects = os; taken = h; lines = refl; file_is = refl; faulted_is = refl }

pub check_done : (f0 f1 : FolderState) (o0 o1 : SinkState) (names : List (List ℕ)) (os : List Loadable) → Told f0.files (λ m. AreTaken Checked m names os) → OnlyRead f0 f1
    → o1.bytes ≡ appended o0.bytes (accepted_lines names os) → Ended (Check names) f0 f1 o0 o1 (Done false)
check_done f0 f1 o0 o1 names os t l w = record {
  told = told_map f0.files (λ m. AreTaken Checked m names os) (λ m. (x : Output) × IsOutput (Check names) m x × (x.faulted ≡ false) × (o1.bytes ≡ appended o0.bytes x.out) × (f1.files ≡ Some (written m x.file)))
      (λ m e x. (record { out = accepted_lines names os; file = None; faulted = false }, check-output m names os x, refl, w, l.files ∙ e)) t;
}

pub check_cut : (f0 f1 : FolderState) (o0 o1 : SinkState) (names : List (List ℕ)) (os : List Loadable) → Told f0.files (λ m. AreTaken Checked m names os) → OnlyRead f0 f1
    → Rose o0.faults o1.faults → GotPrefix o0.bytes o1.bytes (accepted_lines names os) → Ended (Check names) f0 f1 o0 o1 WriteFault
check_cut f0 f1 o0 o1 names os t l r w = record {
  cause = inl r;
  told = told_map f0.files (λ m. AreTaken Checked m names os) (λ m. (x : Output) × IsOutput (Check names) m x × CutAt x.file x.out m f1.files o0.bytes o1.bytes)
      (λ m e x. (record { out = accepted_lines names os; file = None; faulted = false }, check-output m names os x, (l.files ∙ e, w))) t;
}

pub check_stopped : (f0 f1 : FolderState) (o0 o1 : SinkState) (names : List (List ℕ)) (s : Stop) → StopCause (named_inputs Checked names) f0 f1 s → OnlyRead f0 f1 → o1 ≡ o0 → Ended (Check names) f0 f1 o0 o1 (Stopped s)
check_stopped f0 f1 o0 o1 names s h l e = record { read = l; cause = command_cause (Check names) f0 f1 s h; out = e }
