-- The clauses of the top call, from what a command came to and from what was printed.
use Rattle.std.proofs.Common.{◌≡◌, ℕ, ◌⊎◌, Bool, true, false, List, Some, None, refl, ap, sym, subst, ◌∙◌, inl, inr, arith}
use Rattle.std.specs.declared.option.Option.{Option}
use Rattle.edge_io.specs.Known.{Files, FolderState, SinkState, appended, GotPrefix}
use Rattle.edge_io.specs.Causes.{Rose, Still}
use Rattle.retos_cli.specs.declared.command.Command.{Command}
use Rattle.retos_cli.specs.declared.outcome.Stop.{Stop}
use Rattle.retos_cli.specs.declared.outcome.Stop.TheVariants as stop
use Rattle.retos_cli.specs.declared.outcome.Outcome.{Outcome}
use Rattle.retos_cli.specs.declared.outcome.Outcome.TheVariants as outcome
use Rattle.retos_cli.specs.declared.outcome.Status.{Status}
use Rattle.retos_cli.specs.declared.outcome.Status.TheVariants as status
use Rattle.retos_cli.specs.declared.outcome.Refused.{Refused as Refusing}
use Rattle.retos_cli.specs.Lines.{words_line, write_line, memory_line, read_line, refused_line}
use Rattle.retos_cli.specs.Meaning.{IsRefused, IsPrinted, IsRefusal, IsFirstRefusal, IsDone, IsOutput, Output, written, status_by, refused_answer, done_answer, HasOneAnswer}
use Rattle.retos_cli.specs.Ends.{Told, EndedBy, Finished, CutShort, CutAt, StoppedFor, Printed, line_of, status_of}
use Rattle.retos_cli.specs.Clauses.{Call, IsOutputOf, OutputClause, RefusedClause, ReadFaultClause, NoMemoryClause, WriteFaultClause, CompleteClause, NoCommandClause, OneAnswerClause, LineFor, IsLeft, IsUnwritten, IsReadLine, IsWriteFault, IsCut, Nothing, OfOutput, OfWrites, OfStatus, HasStatus}
use Rattle.retos_cli.proofs.Told.{told_map, told_all}

injected : (a b : Command) → Some a ≡ Some b → a ≡ b
injected a b e = cc e

done-is : (c : Command) (m : Files) (x : Output) → IsOutput c m x → IsDone (Some c) m x
unfolding IsDone
done-is c m x h = h

refusal-is : (c : Command) (m : Files) (r : Refusing) → IsFirstRefusal m c r → IsRefusal (Some c) m status.Refused (refused_line r)
unfolding IsRefusal
refusal-is c m r h = (refl, (r, h, refl))

bad-words-is : (m : Files) → IsRefusal None m status.BadWords words_line
unfolding IsRefusal
bad-words-is m = (refl, refl)

-- words have one answer
abbrev OneAnswer : Type 0
OneAnswer = (c : Option Command) (m : Files) → HasOneAnswer c m

pub one_answer_clause : (call : Call) → OneAnswer → OneAnswerClause call
one_answer_clause call one = told_all call.folder_before.files (HasOneAnswer call.command) (λ m s. one call.command m)

-- a count that rose isn't still
moved : (a b : ℕ) → Rose a b → Still a b → ⊥
moved a b r s = omega (arith, r, s)

module _ (f0 f1 : FolderState) (o0 o1 e0 e1 : SinkState) where
  abbrev call-with : Option Command → Call
  call-with c = record {
    command = c;
    folder_before = f0;
    folder_after = f1;
    out_before = o0;
    out_after = o1;
    err_before = e0;
    err_after = e1;
  }

  abbrev Came : Option Command → Outcome → Type 0
  Came c o = EndedBy c f0 f1 o0 o1 o

  -- the line on err, whole
  abbrev Whole : Option (List ℕ) → Type 0
  Whole None = e1 ≡ e0
  Whole (Some line) = e1.bytes ≡ appended e0.bytes line

  abbrev Written : Command → Bool → Files → Type 0
  Written c faulted m = (x : Output) × IsOutput c m x × (x.faulted ≡ faulted) × (o1.bytes ≡ appended o0.bytes x.out) × (f1.files ≡ Some (written m x.file))

  same-status : (a b : Bool) → a ≡ b → status_by b ≡ status_by a
  same-status a b e = ap (λ (f : Bool). status_by f) (sym e)

  -- ---- the output

  output-of : (c : Command) (faulted : Bool) → OneAnswer → Finished c f0 f1 o0 o1 faulted → e1 ≡ e0 → Told f0.files (IsOutputOf (call-with (Some c)) (status_by faulted))
  output-of c faulted one h e = told_map f0.files (Written c faulted) (IsOutputOf (call-with (Some c)) (status_by faulted))
      (λ m s t. record {
        unrefused = λ given line r. (one (Some c) m).apart given line t.0 r (done-is c m t.0 t.1);
        x = t.0;
        done = done-is c m t.0 t.1;
        out = t.3;
        err = ap (λ (s : SinkState). s.bytes) e;
        files = t.4;
        status = same-status t.0.faulted faulted t.2;
      }) h.told

  output-whole : (c : Option Command) (o : Outcome) → OneAnswer → Came c o → Whole (line_of o) → OutputClause (call-with c) (status_of o)
  output-whole (Some c) (outcome.Done true) one h w = output-of c true one h w
  output-whole (Some c) (outcome.Done false) one h w = output-of c false one h w
  output-whole (Some c) outcome.BadWords one h w = absurd h
  output-whole (Some c) (outcome.Stopped (stop.Refuse r)) one h w = tt
  output-whole (Some c) (outcome.Stopped (stop.ReadFault n)) one h w = tt
  output-whole (Some c) (outcome.Stopped stop.NoMemory) one h w = tt
  output-whole (Some c) outcome.WriteFault one h w = tt
  output-whole None (outcome.Done b) one h w = absurd h
  output-whole None outcome.BadWords one h w = tt
  output-whole None (outcome.Stopped (stop.Refuse r)) one h w = absurd h
  output-whole None (outcome.Stopped (stop.ReadFault n)) one h w = absurd h
  output-whole None (outcome.Stopped stop.NoMemory) one h w = tt
  output-whole None outcome.WriteFault one h w = absurd h

  -- ---- the lines

  refused-line-for : (c : Command) (r : Refusing) → StoppedFor c f0 f1 o0 o1 (stop.Refuse r) → LineFor (call-with (Some c)) status.Refused (refused_line r)
  refused-line-for c r h = told_map f0.files (λ m. IsFirstRefusal m c r) (λ m. IsRefusal (Some c) m status.Refused (refused_line r)) (λ m s t. refusal-is c m r t) h.cause

  read-line-for : (c : Command) (n : List ℕ) → StoppedFor c f0 f1 o0 o1 (stop.ReadFault n) → IsReadLine (call-with (Some c)) (read_line n)
  read-line-for c n h = record { rose = h.cause.rose; name = n; last = h.cause.last; line_is = refl; is_held = h.cause.is_held; reached = h.cause.reached }

  left-by : (c : Command) (s : Stop) → StoppedFor c f0 f1 o0 o1 s → IsLeft (call-with (Some c))
  left-by c s h = record { out = h.out; files = h.read.files; created = h.read.created; writes = h.read.writes }

  same-left : f1 ≡ f0 → o1 ≡ o0 → IsLeft (call-with None)
  same-left f o = record {
    out = o;
    files = ap (λ (s : FolderState). s.files) f;
    created = ap (λ (s : FolderState). s.created) f;
    writes = ap (λ (s : FolderState). s.write_faults) f;
  }

  stopped-unwritten : (c : Command) (s : Stop) (given : Status) (line : List ℕ) → StoppedFor c f0 f1 o0 o1 s → LineFor (call-with (Some c)) given line → e1.bytes ≡ appended e0.bytes line → IsUnwritten (call-with (Some c)) given
  stopped-unwritten c s given line h l w = record { left = left-by c s h; line = line; line_for = l; err = w }

  same-unwritten : (given : Status) (line : List ℕ) → f1 ≡ f0 → o1 ≡ o0 → LineFor (call-with None) given line → e1.bytes ≡ appended e0.bytes line → IsUnwritten (call-with None) given
  same-unwritten given line f o l w = record { left = same-left f o; line = line; line_for = l; err = w }

  refused-whole : (c : Option Command) (o : Outcome) → Came c o → Whole (line_of o) → RefusedClause (call-with c) (status_of o)
  refused-whole (Some c) (outcome.Done true) h w = tt
  refused-whole (Some c) (outcome.Done false) h w = tt
  refused-whole (Some c) outcome.BadWords h w = absurd h
  refused-whole (Some c) (outcome.Stopped (stop.Refuse r)) h w = stopped-unwritten c (stop.Refuse r) status.Refused (refused_line r) h (refused-line-for c r h) w
  refused-whole (Some c) (outcome.Stopped (stop.ReadFault n)) h w = tt
  refused-whole (Some c) (outcome.Stopped stop.NoMemory) h w = tt
  refused-whole (Some c) outcome.WriteFault h w = tt
  refused-whole None (outcome.Done b) h w = absurd h
  refused-whole None outcome.BadWords h w = same-unwritten status.BadWords words_line h.0 h.1 (refl, refl) w
  refused-whole None (outcome.Stopped (stop.Refuse r)) h w = absurd h
  refused-whole None (outcome.Stopped (stop.ReadFault n)) h w = absurd h
  refused-whole None (outcome.Stopped stop.NoMemory) h w = tt
  refused-whole None outcome.WriteFault h w = absurd h

  read-whole : (c : Option Command) (o : Outcome) → Came c o → Whole (line_of o) → ReadFaultClause (call-with c) (status_of o)
  read-whole (Some c) (outcome.Done true) h w = tt
  read-whole (Some c) (outcome.Done false) h w = tt
  read-whole (Some c) outcome.BadWords h w = absurd h
  read-whole (Some c) (outcome.Stopped (stop.Refuse r)) h w = tt
  read-whole (Some c) (outcome.Stopped (stop.ReadFault n)) h w = stopped-unwritten c (stop.ReadFault n) status.ReadFault (read_line n) h (read-line-for c n h) w
  read-whole (Some c) (outcome.Stopped stop.NoMemory) h w = tt
  read-whole (Some c) outcome.WriteFault h w = tt
  read-whole None (outcome.Done b) h w = absurd h
  read-whole None outcome.BadWords h w = tt
  read-whole None (outcome.Stopped (stop.Refuse r)) h w = absurd h
  read-whole None (outcome.Stopped (stop.ReadFault n)) h w = absurd h
  read-whole None (outcome.Stopped stop.NoMemory) h w = tt
  read-whole None outcome.WriteFault h w = absurd h

  memory-whole : (c : Option Command) (o : Outcome) → Came c o → Whole (line_of o) → NoMemoryClause (call-with c) (status_of o)
  memory-whole (Some c) (outcome.Done true) h w = tt
  memory-whole (Some c) (outcome.Done false) h w = tt
  memory-whole (Some c) outcome.BadWords h w = absurd h
  memory-whole (Some c) (outcome.Stopped (stop.Refuse r)) h w = tt
  memory-whole (Some c) (outcome.Stopped (stop.ReadFault n)) h w = tt
  memory-whole (Some c) (outcome.Stopped stop.NoMemory) h w = stopped-unwritten c stop.NoMemory status.NoMemory memory_line h refl w
  memory-whole (Some c) outcome.WriteFault h w = tt
  memory-whole None (outcome.Done b) h w = absurd h
  memory-whole None outcome.BadWords h w = tt
  memory-whole None (outcome.Stopped (stop.Refuse r)) h w = absurd h
  memory-whole None (outcome.Stopped (stop.ReadFault n)) h w = absurd h
  memory-whole None (outcome.Stopped stop.NoMemory) h w = same-unwritten status.NoMemory memory_line h.0 h.1 refl w
  memory-whole None outcome.WriteFault h w = absurd h

  -- ---- write faults

  abbrev ErrPart : List ℕ → Type 0
  ErrPart line = (e1.bytes ≡ appended e0.bytes line) ⊎ (Rose e0.faults e1.faults × GotPrefix e0.bytes e1.bytes line)

  cut-told : (c : Command) → CutShort c f0 f1 o0 o1 → Told f0.files (IsCut (call-with (Some c)))
  cut-told c h = told_map f0.files (λ m. (x : Output) × IsOutput c m x × CutAt x.file x.out m f1.files o0.bytes o1.bytes) (IsCut (call-with (Some c))) (λ m s t. OfOutput t.0 (done-is c m t.0 t.1) t.2) h.told

  cause-of : Rose o0.faults o1.faults ⊎ Rose f0.write_faults f1.write_faults → Rose o0.faults o1.faults ⊎ (Rose e0.faults e1.faults ⊎ Rose f0.write_faults f1.write_faults)
  cause-of (inl r) = inl r
  cause-of (inr r) = inr (inr r)

  cut-by : (c : Command) → CutShort c f0 f1 o0 o1 → ErrPart write_line → IsWriteFault (call-with (Some c))
  cut-by c h w = record { cause = cause-of h.cause; told = cut-told c h; line = write_line; which = OfWrites refl h.cause; err = w }

  write-whole : (c : Option Command) (o : Outcome) → Came c o → Whole (line_of o) → WriteFaultClause (call-with c) (status_of o)
  write-whole (Some c) (outcome.Done true) h w = tt
  write-whole (Some c) (outcome.Done false) h w = tt
  write-whole (Some c) outcome.BadWords h w = absurd h
  write-whole (Some c) (outcome.Stopped (stop.Refuse r)) h w = tt
  write-whole (Some c) (outcome.Stopped (stop.ReadFault n)) h w = tt
  write-whole (Some c) (outcome.Stopped stop.NoMemory) h w = tt
  write-whole (Some c) outcome.WriteFault h w = cut-by c h (inl w)
  write-whole None (outcome.Done b) h w = absurd h
  write-whole None outcome.BadWords h w = tt
  write-whole None (outcome.Stopped (stop.Refuse r)) h w = absurd h
  write-whole None (outcome.Stopped (stop.ReadFault n)) h w = absurd h
  write-whole None (outcome.Stopped stop.NoMemory) h w = tt
  write-whole None outcome.WriteFault h w = absurd h

  unwritten : (c : Option Command) (given : Status) (line : List ℕ) → IsLeft (call-with c) → LineFor (call-with c) given line → Rose e0.faults e1.faults → GotPrefix e0.bytes e1.bytes line → IsWriteFault (call-with c)
  unwritten c given line k l r g = record {
    cause = inr (inl r);
    told = told_all f0.files (IsCut (call-with c)) (λ m s. Nothing (k.files ∙ s) (ap (λ (s : SinkState). s.bytes) k.out));
    line = line;
    which = OfStatus given l r k;
    err = inr (r, g);
  }

  abbrev Cut : Outcome → Type 0
  Cut o = (k : List ℕ) → line_of o ≡ Some k → GotPrefix e0.bytes e1.bytes k

  -- err's own sink cut the line short
  write-cut : (c : Option Command) (o : Outcome) → Came c o → (line : List ℕ) → line_of o ≡ Some line → Rose e0.faults e1.faults → Cut o → IsWriteFault (call-with c)
  write-cut (Some c) (outcome.Done b) h line e r g = absurd (cc e)
  write-cut (Some c) outcome.BadWords h line e r g = absurd h
  write-cut (Some c) (outcome.Stopped (stop.Refuse x)) h line e r g = unwritten (Some c) status.Refused (refused_line x) (left-by c (stop.Refuse x) h) (refused-line-for c x h) r (g (refused_line x) refl)
  write-cut (Some c) (outcome.Stopped (stop.ReadFault n)) h line e r g = unwritten (Some c) status.ReadFault (read_line n) (left-by c (stop.ReadFault n) h) (read-line-for c n h) r (g (read_line n) refl)
  write-cut (Some c) (outcome.Stopped stop.NoMemory) h line e r g = unwritten (Some c) status.NoMemory memory_line (left-by c stop.NoMemory h) refl r (g memory_line refl)
  write-cut (Some c) outcome.WriteFault h line e r g = cut-by c h (inr (r, g write_line refl))
  write-cut None (outcome.Done b) h line e r g = absurd h
  write-cut None outcome.BadWords h line e r g = unwritten None status.BadWords words_line (same-left h.0 h.1) (refl, refl) r (g words_line refl)
  write-cut None (outcome.Stopped (stop.Refuse x)) h line e r g = absurd h
  write-cut None (outcome.Stopped (stop.ReadFault n)) h line e r g = absurd h
  write-cut None (outcome.Stopped stop.NoMemory) h line e r g = unwritten None status.NoMemory memory_line (same-left h.0 h.1) refl r (g memory_line refl)
  write-cut None outcome.WriteFault h line e r g = absurd h

  -- ---- completeness

  abbrev Ending : Option Command → Status → Files → Type 0
  Ending c given m = HasStatus (call-with c) given m ⊎ (given ≡ status.NoMemory)

  complete-done : (c : Command) (faulted : Bool) → Finished c f0 f1 o0 o1 faulted → Told f0.files (Ending (Some c) (status_by faulted))
  complete-done c faulted h = told_map f0.files (Written c faulted) (Ending (Some c) (status_by faulted))
      (λ m s t. inl (record { answer = done_answer t.0; is = IsPrinted t.0 (done-is c m t.0 t.1) refl; status = same-status t.0.faulted faulted t.2 })) h.told

  complete-refused : (c : Command) (r : Refusing) → StoppedFor c f0 f1 o0 o1 (stop.Refuse r) → Told f0.files (Ending (Some c) status.Refused)
  complete-refused c r h = told_map f0.files (λ m. IsFirstRefusal m c r) (Ending (Some c) status.Refused)
      (λ m s t. inl (record { answer = refused_answer status.Refused (refused_line r); is = IsRefused status.Refused (refused_line r) (refusal-is c m r t) refl; status = refl })) h.cause

  none-moved : Rose o0.faults o1.faults ⊎ Rose f0.write_faults f1.write_faults → Still o0.faults o1.faults → Still f0.write_faults f1.write_faults → ⊥
  none-moved (inl r) s t = moved o0.faults o1.faults r s
  none-moved (inr r) s t = moved f0.write_faults f1.write_faults r t

  complete-whole : (c : Option Command) (o : Outcome) → Came c o → Whole (line_of o) → CompleteClause (call-with c) (status_of o)
  complete-whole (Some c) (outcome.Done b) h w q = complete-done c b h
  complete-whole (Some c) outcome.BadWords h w q = absurd h
  complete-whole (Some c) (outcome.Stopped (stop.Refuse r)) h w q = complete-refused c r h
  complete-whole (Some c) (outcome.Stopped (stop.ReadFault n)) h w q = absurd (moved f0.read_faults f1.read_faults h.cause.rose q.reads)
  complete-whole (Some c) (outcome.Stopped stop.NoMemory) h w q = told_all f0.files (Ending (Some c) status.NoMemory) (λ m s. inr refl)
  complete-whole (Some c) outcome.WriteFault h w q = absurd (none-moved h.cause q.out q.writes)
  complete-whole None (outcome.Done b) h w q = absurd h
  complete-whole None outcome.BadWords h w q = told_all f0.files (Ending None status.BadWords) (λ m s. inl (record { answer = refused_answer status.BadWords words_line; is = IsRefused status.BadWords words_line (bad-words-is m) refl; status = refl }))
  complete-whole None (outcome.Stopped (stop.Refuse r)) h w q = absurd h
  complete-whole None (outcome.Stopped (stop.ReadFault n)) h w q = absurd h
  complete-whole None (outcome.Stopped stop.NoMemory) h w q = told_all f0.files (Ending None status.NoMemory) (λ m s. inr refl)
  complete-whole None outcome.WriteFault h w q = absurd h

  no-command-whole : (c : Option Command) (o : Outcome) → Came c o → Whole (line_of o) → NoCommandClause (call-with c) (status_of o)
  no-command-whole (Some c) o h w e = absurd (cc e)
  no-command-whole None (outcome.Done b) h w e = absurd h
  no-command-whole None outcome.BadWords h w e = inl refl
  no-command-whole None (outcome.Stopped (stop.Refuse r)) h w e = absurd h
  no-command-whole None (outcome.Stopped (stop.ReadFault n)) h w e = absurd h
  no-command-whole None (outcome.Stopped stop.NoMemory) h w e = inr (inl refl)
  no-command-whole None outcome.WriteFault h w e = absurd h

  -- ---- by what was printed

  by-printed : (line : Option (List ℕ)) (own given : Status) (C : Status → Type 0) → (Whole line → C own)
      → ((l : List ℕ) → line ≡ Some l → Rose e0.faults e1.faults → GotPrefix e0.bytes e1.bytes l → C status.WriteFault) → Printed line own e0 e1 given → C given
  by-printed None own given C whole cut p = subst C (sym p.0) (whole p.1)
  by-printed (Some line) own given C whole cut (inl p) = subst C (sym p.0) (whole p.1)
  by-printed (Some line) own given C whole cut (inr p) = subst C (sym p.0) (cut line refl p.1 p.2)

  same-line : (o : Outcome) (l : List ℕ) → line_of o ≡ Some l → GotPrefix e0.bytes e1.bytes l → Cut o
  same-line o l e g k f = let P : List ℕ → Type 0 = λ x. GotPrefix e0.bytes e1.bytes x in subst P (cut-same l k (sym e ∙ f)) g
    where
      cut-same : (a b : List ℕ) → Some a ≡ Some b → a ≡ b
      cut-same a b x = cc x

  module _ (c : Option Command) (o : Outcome) (given : Status) (h : Came c o) (p : Printed (line_of o) (status_of o) e0 e1 given) where
    pub output_clause : OneAnswer → OutputClause (call-with c) given
    output_clause one = by-printed (line_of o) (status_of o) given (OutputClause (call-with c)) (output-whole c o one h) (λ l e r g. tt) p

    pub refused_clause : RefusedClause (call-with c) given
    refused_clause = by-printed (line_of o) (status_of o) given (RefusedClause (call-with c)) (refused-whole c o h) (λ l e r g. tt) p

    pub read_fault_clause : ReadFaultClause (call-with c) given
    read_fault_clause = by-printed (line_of o) (status_of o) given (ReadFaultClause (call-with c)) (read-whole c o h) (λ l e r g. tt) p

    pub no_memory_clause : NoMemoryClause (call-with c) given
    no_memory_clause = by-printed (line_of o) (status_of o) given (NoMemoryClause (call-with c)) (memory-whole c o h) (λ l e r g. tt) p

    pub write_fault_clause : WriteFaultClause (call-with c) given
    write_fault_clause = by-printed (line_of o) (status_of o) given (WriteFaultClause (call-with c)) (write-whole c o h) (λ l e r g. write-cut c o h l e r (same-line o l e g)) p

    pub complete_clause : CompleteClause (call-with c) given
    complete_clause = by-printed (line_of o) (status_of o) given (CompleteClause (call-with c)) (complete-whole c o h) (λ l e r g q. absurd (moved e0.faults e1.faults r q.err)) p

    pub no_command_clause : NoCommandClause (call-with c) given
    no_command_clause = by-printed (line_of o) (status_of o) given (NoCommandClause (call-with c)) (no-command-whole c o h) (λ l e r g x. inr (inr (refl, r))) p
