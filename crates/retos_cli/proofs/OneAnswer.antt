-- The words and the files have one answer.
use Rattle.std.proofs.Common.{◌≡◌, ℕ, Bool, nat_lt, List, [], ◌∷◌, ◌++◌, length, Some, None, Ok, refl, ap, sym, subst, ◌∙◌, inl, inr}
use Rattle.std.specs.declared.option.Option.{Option}
use Rattle.edge_io.specs.Known.{Files, held}
use Rattle.code_model.specs.declared.object.Object.{Object}
use Rattle.code_model.specs.Verdicts.{IsAccepted}
use Rattle.object_form.specs.Spelling.{object_bytes}
use Rattle.load_model.specs.Loading.{Loadable}
use Rattle.trace_model.specs.declared.scripts.Script.{Script}
use Rattle.trace_model.specs.Grammar.{empty_script}
use Rattle.node_model.specs.Systems.{System}
use Rattle.node_model.specs.Runs.{faults}
use Rattle.node_model.specs.Booting.{booted, Refusal}
use Rattle.node_model.specs.Nodes.{end_line}
use Rattle.retos_cli.specs.declared.command.Job.{Job}
use Rattle.retos_cli.specs.declared.command.Command.{Command}
use Rattle.retos_cli.specs.declared.command.Command.TheVariants.{Run, Check, Asm, Insert, Gen}
use Rattle.retos_cli.specs.declared.purpose.Purpose.{Purpose}
use Rattle.retos_cli.specs.declared.purpose.Purpose.TheVariants.{Checked, Application, Source, Plain, Script as Scripted}
use Rattle.retos_cli.specs.declared.outcome.Why.{Why}
use Rattle.retos_cli.specs.declared.outcome.Why.TheVariants as why
use Rattle.retos_cli.specs.declared.outcome.Refused.{Refused}
use Rattle.retos_cli.specs.declared.outcome.Status.{Status}
use Rattle.retos_cli.specs.Words.{word}
use Rattle.retos_cli.specs.Lines.{refused_line, accepted_lines, assembled_line, inserted_line, generated_line}
use Rattle.retos_cli.specs.Meaning.{Input, AsksCheck, Taken, AreTaken, IsTaken, IsTakenAs, Refuses, IsScriptOf, IsSupplied, IsUnplaced, LacksRoom, IsFirstRefused, IsFirstRefusal, form_by, named_inputs, behind_script, inputs, job_inputs, Output, job_text, has_faulted, IsRunOutput, IsCheckOutput, IsAsmOutput, IsInsertOutput, IsGenOutput, IsGenerated, generated_run, IsOutput, IsRefusal, IsDone, Answer, IsAnswer, IsRefused, IsPrinted, refused_answer, done_answer, HasOneAnswer}
use Rattle.retos_cli.proofs.OneInput.{Laws, same_ok, same_err, not_ok, not_refused, same_cause, one_units, one_loadable, one_taken, one_assembled, one_inserted, one_guarded, one_script}

-- ---- refusals and outputs by their parts

same-refused : (r s : Refused) → r.name ≡ s.name → r.why ≡ s.why → r ≡ s
same-refused r s e f =
    ap (λ (n : List ℕ). let x : Refused = record { name = n; why = r.why } in x) e
    ∙ ap (λ (w : Why). let x : Refused = record { name = s.name; why = w } in x) f

same-output : (x y : Output) → x.out ≡ y.out → x.file ≡ y.file → x.faulted ≡ y.faulted → x ≡ y
same-output x y e f g =
    ap (λ (o : List ℕ). let z : Output = record { out = o; file = x.file; faulted = x.faulted } in z) e
    ∙ ap (λ (p : Option (List ℕ × List ℕ)). let z : Output = record { out = y.out; file = p; faulted = x.faulted } in z) f
    ∙ ap (λ (b : Bool). let z : Output = record { out = y.out; file = y.file; faulted = b } in z) g

-- a run's objects are checked
asks-by : (script : Option (List ℕ)) → AsksCheck (form_by script)
asks-by None = tt
asks-by (Some name) = tt

-- what is taken as an object that is checked is an input that is taken
taken-as : (purpose : Purpose) (h : Option (List ℕ)) (o : Loadable) → AsksCheck purpose → Taken purpose h o.object o.units → IsTakenAs purpose h
taken-as Checked h o a t = (o.object, o.units, t)
taken-as Application h o a t = (o.object, o.units, t)
taken-as Source h o a t = absurd a
taken-as Plain h o a t = absurd a
taken-as Scripted h o a t = absurd a

module _ (laws : Laws) (m : Files) where
  -- ---- the first input that is refused

  taken-or-refused : (i : Input) (w : Why) → IsTaken m i → Refuses i.purpose (held m i.name) w → ⊥
  unfolding IsTaken
  taken-or-refused i w t r = not_refused laws i.purpose (held m i.name) w t r

  one-first : (is : List Input) (r s : Refused) → IsFirstRefused m is r → IsFirstRefused m is s → r ≡ s
  unfolding IsFirstRefused
  one-first [] r s h g = absurd h
  one-first (i ∷ is) r s (inl h) (inl g) = same-refused r s (h.0 ∙ sym g.0) (same_cause laws i.purpose (held m i.name) r.why s.why h.1 g.1)
  one-first (i ∷ is) r s (inl h) (inr g) = absurd (taken-or-refused i r.why g.0 h.1)
  one-first (i ∷ is) r s (inr h) (inl g) = absurd (taken-or-refused i s.why h.0 g.1)
  one-first (i ∷ is) r s (inr h) (inr g) = one-first is r s h.1 g.1

  -- none of the inputs that are taken is refused
  none-of-named : (purpose : Purpose) (names : List (List ℕ)) (os : List Loadable) (r : Refused) → AsksCheck purpose → AreTaken purpose m names os → IsFirstRefused m (named_inputs purpose names) r → ⊥
  unfolding AreTaken IsFirstRefused
  none-of-named purpose [] os r a t h = h
  none-of-named purpose (name ∷ names) [] r a t h = t
  none-of-named purpose (name ∷ names) (o ∷ os) r a t (inl h) = not_refused laws purpose (held m name) r.why (taken-as purpose (held m name) o a t.0) h.1
  none-of-named purpose (name ∷ names) (o ∷ os) r a t (inr h) = none-of-named purpose names os r a t.1 h.1

  none-behind : (script : Option (List ℕ)) (t : Script) (is : List Input) (r : Refused) → IsScriptOf m script t → (IsFirstRefused m is r → ⊥) → IsFirstRefused m (behind_script script is) r → ⊥
  unfolding IsFirstRefused
  none-behind None t is r s none h = none h
  none-behind (Some name) t is r s none (inl h) = not_refused laws Scripted (held m name) r.why (t, s) h.1
  none-behind (Some name) t is r s none (inr h) = none h.1

  none-of-job : (job : Job) (t : Script) (os : List Loadable) (r : Refused) → IsSupplied m job t os → IsFirstRefused m (job_inputs job) r → ⊥
  none-of-job job t os r s h =
      none-behind job.script t (named_inputs (form_by job.script) job.names) r s.script (none-of-named (form_by job.script) job.names os r (asks-by job.script) s.objects) h

  none-alone : (i : Input) (r : Refused) → IsTakenAs i.purpose (held m i.name) → IsFirstRefused m (i ∷ []) r → ⊥
  unfolding IsFirstRefused
  none-alone i r t (inl h) = not_refused laws i.purpose (held m i.name) r.why t h.1
  none-alone i r t (inr h) = h.1

  none-of-none : (r : Refused) → IsFirstRefused m [] r → ⊥
  unfolding IsFirstRefused
  none-of-none r h = h

  -- ---- the objects and the script of a run

  one-list : (purpose : Purpose) (names : List (List ℕ)) (os ps : List Loadable) → AreTaken purpose m names os → AreTaken purpose m names ps → os ≡ ps
  unfolding AreTaken
  one-list purpose [] [] [] h g = refl
  one-list purpose [] [] (p ∷ ps) h g = absurd g
  one-list purpose [] (o ∷ os) ps h g = absurd h
  one-list purpose (name ∷ names) [] ps h g = absurd h
  one-list purpose (name ∷ names) (o ∷ os) [] h g = absurd g
  one-list purpose (name ∷ names) (o ∷ os) (p ∷ ps) h g =
      ap (λ (x : Loadable). x ∷ os) (one_taken laws purpose (held m name) o p h.0 g.0) ∙ ap (λ (xs : List Loadable). p ∷ xs) (one-list purpose names os ps h.1 g.1)

  one-script-of : (script : Option (List ℕ)) (t u : Script) → IsScriptOf m script t → IsScriptOf m script u → t ≡ u
  one-script-of None t u e f = e ∙ sym f
  one-script-of (Some name) t u e f = one_script (held m name) t u e f

  record IsOneSupply (t u : Script) (os ps : List Loadable) : Type 0 where
    script : t ≡ u
    objects : os ≡ ps

  one-supply : (job : Job) (t u : Script) (os ps : List Loadable) → IsSupplied m job t os → IsSupplied m job u ps → IsOneSupply t u os ps
  one-supply job t u os ps h g = record {
    script = one-script-of job.script t u h.script g.script;
    objects = one-list (form_by job.script) job.names os ps h.objects g.objects;
  }

  one-system : (os ps : List Loadable) (s z : System) → os ≡ ps → booted os ≡ Ok s → booted ps ≡ Ok z → s ≡ z
  one-system os ps s z e h g = same_ok (booted ps) s z (ap booted (sym e) ∙ h) g

  -- ---- the first refusal

  one-room : (job : Job) (r s : Refused) → LacksRoom m job r → LacksRoom m job s → r ≡ s
  one-room job r s h g =
      let same : h.objects ≡ g.objects = (one-supply job h.script g.script h.objects g.objects h.supplied g.supplied).objects in
      let u : IsUnplaced h.objects job.names r = h.unplaced in
      let v : IsUnplaced g.objects job.names s = g.unplaced in
      let e : u.refusal ≡ v.refusal = same_err (booted g.objects) u.refusal v.refusal (ap booted (sym same) ∙ u.refused) v.refused in
      same-refused r s (u.named ∙ ap (λ (x : Refusal). word job.names x.object) e ∙ sym v.named) (u.cause ∙ ap (λ (x : Refusal). why.Room x.cause) e ∙ sym v.cause)

  one-refusal : (c : Command) (r s : Refused) → IsFirstRefusal m c r → IsFirstRefusal m c s → r ≡ s
  one-refusal c r s (inl h) (inl g) = one-first (inputs c) r s h g
  one-refusal (Run job) r s (inl h) (inr g) = absurd (none-of-job job g.script g.objects r g.supplied h)
  one-refusal (Run job) r s (inr h) (inl g) = absurd (none-of-job job h.script h.objects s h.supplied g)
  one-refusal (Run job) r s (inr h) (inr g) = one-room job r s h g
  one-refusal (Check names) r s (inr h) g = absurd h
  one-refusal (Check names) r s (inl h) (inr g) = absurd g
  one-refusal (Asm from to) r s (inr h) g = absurd h
  one-refusal (Asm from to) r s (inl h) (inr g) = absurd g
  one-refusal (Insert from to) r s (inr h) g = absurd h
  one-refusal (Insert from to) r s (inl h) (inr g) = absurd g
  one-refusal (Gen seed to) r s (inr h) g = absurd h
  one-refusal (Gen seed to) r s (inl h) (inr g) = absurd g

  -- ---- where there is an output, there is no refusal

  run-apart : (job : Job) (x : Output) (r : Refused) → IsRunOutput m job x → IsFirstRefusal m (Run job) r → ⊥
  run-apart job x r d (inl h) = none-of-job job d.script d.objects r d.supplied h
  run-apart job x r d (inr h) =
      let same : d.objects ≡ h.objects = (one-supply job d.script h.script d.objects h.objects d.supplied h.supplied).objects in
      not_ok (booted h.objects) d.system h.unplaced.refusal (ap booted (sym same) ∙ d.boots) h.unplaced.refused

  apart : (c : Command) (x : Output) (r : Refused) → IsOutput c m x → IsFirstRefusal m c r → ⊥
  unfolding IsOutput
  apart (Run job) x r d h = run-apart job x r d h
  apart (Check names) x r d (inl h) = none-of-named Checked names d.objects r tt d.taken h
  apart (Check names) x r d (inr h) = h
  apart (Asm from to) x r d (inl h) = none-alone (record { name = from; purpose = Source }) r (d.object, d.assembles) h
  apart (Asm from to) x r d (inr h) = h
  apart (Insert from to) x r d (inl h) = none-alone (record { name = from; purpose = Plain }) r (d.object, d.guarded, d.guards) h
  apart (Insert from to) x r d (inr h) = h
  apart (Gen seed to) x r d (inl h) = none-of-none r h
  apart (Gen seed to) x r d (inr h) = h

  -- ---- outputs

  one-run : (job : Job) (x y : Output) → IsRunOutput m job x → IsRunOutput m job y → x ≡ y
  one-run job x y d e =
      let same : IsOneSupply d.script e.script d.objects e.objects = one-supply job d.script e.script d.objects e.objects d.supplied e.supplied in
      let s : d.system ≡ e.system = one-system d.objects e.objects d.system e.system same.objects d.boots e.boots in
      let text : job_text job d.script d.objects d.system ≡ job_text job e.script e.objects e.system =
      ap (λ (t : Script). job_text job t d.objects d.system) same.script
      ∙ ap (λ (os : List Loadable). job_text job e.script os d.system) same.objects
      ∙ ap (λ (z : System). job_text job e.script e.objects z) s in
      let fault : has_faulted job d.script d.system ≡ has_faulted job e.script e.system =
      ap (λ (t : Script). has_faulted job t d.system) same.script ∙ ap (λ (z : System). has_faulted job e.script z) s in
      same-output x y (d.trace ∙ text ∙ sym e.trace) (d.file_is ∙ sym e.file_is) (d.faulted_is ∙ fault ∙ sym e.faulted_is)

  one-check : (names : List (List ℕ)) (x y : Output) → IsCheckOutput m names x → IsCheckOutput m names y → x ≡ y
  one-check names x y d e =
      let same : d.objects ≡ e.objects = one-list Checked names d.objects e.objects d.taken e.taken in
      same-output x y (d.lines ∙ ap (λ (os : List Loadable). accepted_lines names os) same ∙ sym e.lines) (d.file_is ∙ sym e.file_is) (d.faulted_is ∙ sym e.faulted_is)

  abbrev file-of : List ℕ → Object → Option (List ℕ × List ℕ)
  file-of to o = Some (to, object_bytes o)

  one-asm : (from to : List ℕ) (x y : Output) → IsAsmOutput m from to x → IsAsmOutput m from to y → x ≡ y
  one-asm from to x y d e =
      let same : d.object ≡ e.object = one_assembled laws (held m from) d.object e.object d.assembles e.assembles in
      same-output x y (d.line ∙ ap (λ (o : Object). assembled_line to o) same ∙ sym e.line) (d.file_is ∙ ap (λ (o : Object). file-of to o) same ∙ sym e.file_is) (d.faulted_is ∙ sym e.faulted_is)

  one-insert : (from to : List ℕ) (x y : Output) → IsInsertOutput m from to x → IsInsertOutput m from to y → x ≡ y
  one-insert from to x y d e =
      let same : d.guarded ≡ e.guarded = one_guarded laws (held m from) d.object e.object d.guarded e.guarded d.guards e.guards in
      same-output x y (d.line ∙ ap (λ (o : Object). inserted_line to o) same ∙ sym e.line) (d.file_is ∙ ap (λ (o : Object). file-of to o) same ∙ sym e.file_is) (d.faulted_is ∙ sym e.faulted_is)

  -- ---- generated objects

  record IsOneMade (s z : Object) (o p : Loadable) : Type 0 where
    source : s ≡ z
    object : o ≡ p

  one-made : (seed : ℕ) (s z : Object) (o p : Loadable) → IsGenerated seed s o → IsGenerated seed z p → IsOneMade s z o p
  one-made seed s z o p h g =
      let source : s ≡ z = laws.object s z (h.source_is ∙ sym g.source_is) in
      let same : o.object ≡ p.object = one_inserted laws s z o.object p.object source h.gives g.gives in
      let P : Object → Type 0 = λ x. IsAccepted x o.units in
      record { source = source; object = one_loadable laws o p same (one_units laws p.object o.units p.units (subst P same h.accepted) g.accepted h.bitmap g.bitmap) }

  abbrev lines-of : ℕ → Object → Loadable → System → List ℕ
  lines-of seed source o s = generated_line seed (length source.code) o.object o.units ++ end_line empty_script (generated_run s)

  one-gen : (seed : ℕ) (to : List ℕ) (x y : Output) → IsGenOutput seed to x → IsGenOutput seed to y → x ≡ y
  one-gen seed to x y d e =
      let same : IsOneMade d.source e.source d.object e.object = one-made seed d.source e.source d.object e.object d.made e.made in
      let s : d.system ≡ e.system = one-system (d.object ∷ []) (e.object ∷ []) d.system e.system (ap (λ (o : Loadable). o ∷ []) same.object) d.boots e.boots in
      let lines : lines-of seed d.source d.object d.system ≡ lines-of seed e.source e.object e.system =
      ap (λ (o : Object). lines-of seed o d.object d.system) same.source
      ∙ ap (λ (o : Loadable). lines-of seed e.source o d.system) same.object
      ∙ ap (λ (z : System). lines-of seed e.source e.object z) s in
      same-output x y (d.lines ∙ lines ∙ sym e.lines) (d.file_is ∙ ap (λ (o : Loadable). file-of to o.object) same.object ∙ sym e.file_is)
      (d.faulted_is ∙ ap (λ (z : System). nat_lt 0 (faults (generated_run z))) s ∙ sym e.faulted_is)

  one-output : (c : Command) (x y : Output) → IsOutput c m x → IsOutput c m y → x ≡ y
  unfolding IsOutput
  one-output (Run job) x y d e = one-run job x y d e
  one-output (Check names) x y d e = one-check names x y d e
  one-output (Asm from to) x y d e = one-asm from to x y d e
  one-output (Insert from to) x y d e = one-insert from to x y d e
  one-output (Gen seed to) x y d e = one-gen seed to x y d e

  -- ---- answers

  record IsOneLine (s z : Status) (line other : List ℕ) : Type 0 where
    status : s ≡ z
    line_is : line ≡ other

  one-line : (c : Option Command) (s z : Status) (line other : List ℕ) → IsRefusal c m s line → IsRefusal c m z other → IsOneLine s z line other
  unfolding IsRefusal
  one-line None s z line other h g = record { status = h.0 ∙ sym g.0; line_is = h.1 ∙ sym g.1 }
  one-line (Some c) s z line other (e, (r, h, l)) (f, (q, g, k)) = record { status = e ∙ sym f; line_is = l ∙ ap refused_line (one-refusal c r q h g) ∙ sym k }

  done-once : (c : Option Command) (x y : Output) → IsDone c m x → IsDone c m y → x ≡ y
  unfolding IsDone
  done-once None x y d e = absurd d
  done-once (Some c) x y d e = one-output c x y d e

  done-apart : (c : Option Command) (s : Status) (line : List ℕ) (x : Output) → IsRefusal c m s line → IsDone c m x → ⊥
  unfolding IsDone IsRefusal
  done-apart None s line x h d = d
  done-apart (Some c) s line x (e, (r, h, l)) d = apart c x r d h

  same-answer : (c : Option Command) (a b : Answer) → IsAnswer c m a → IsAnswer c m b → a ≡ b
  same-answer c a b (IsRefused s line h e) (IsRefused z other g f) =
      let same : IsOneLine s z line other = one-line c s z line other h g in
      e ∙ ap (λ (y : Status). refused_answer y line) same.status ∙ ap (λ (y : List ℕ). refused_answer z y) same.line_is ∙ sym f
  same-answer c a b (IsRefused s line h e) (IsPrinted x d f) = absurd (done-apart c s line x h d)
  same-answer c a b (IsPrinted x d e) (IsRefused s line h f) = absurd (done-apart c s line x h d)
  same-answer c a b (IsPrinted x d e) (IsPrinted y g f) = e ∙ ap (λ (z : Output). done_answer z) (done-once c x y d g) ∙ sym f

pub has_one_answer : (laws : Laws) (c : Option Command) (m : Files) → HasOneAnswer c m
has_one_answer laws c m = record { answer = same-answer laws m c; output = done-once laws m c; apart = done-apart laws m c }
