-- What the command `insert` comes to.
use Rattle.std.proofs.Common.{◌≡◌, ℕ, false, List, Some, None, Ok, refl, ap, sym, subst, ◌∙◌}
use Rattle.std.specs.declared.option.Option.{Option}
use Rattle.edge_io.specs.Known.{Files, FolderState, SinkState, AnswersOf, appended, held}
use Rattle.code_model.specs.declared.object.Object.{Object}
use Rattle.object_form.specs.Spelling.{object_bytes}
use Rattle.retos_cli.specs.declared.command.Command.TheVariants.{Insert}
use Rattle.retos_cli.specs.declared.purpose.Purpose.TheVariants.{Plain}
use Rattle.retos_cli.specs.declared.outcome.Outcome.{Outcome}
use Rattle.retos_cli.specs.declared.outcome.Outcome.TheVariants.{Done, BadWords, Stopped, WriteFault}
use Rattle.retos_cli.specs.declared.outcome.Stop.{Stop}
use Rattle.retos_cli.specs.declared.outcome.Stop.TheVariants.{Refuse, ReadFault, NoMemory}
use Rattle.retos_cli.specs.Lines.{inserted_line}
use Rattle.retos_cli.specs.Meaning.{Input, Output, Guards, IsOutput, written}
use Rattle.retos_cli.specs.Ends.{Told, Ended, OnlyRead, InputStops, CutAt, FileCut}
use Rattle.retos_cli.specs.Writing.{IsPut}
use Rattle.retos_cli.proofs.Inputs.{holds}
use Rattle.retos_cli.proofs.Told.{told_map, told_same, told_both}
use Rattle.retos_cli.proofs.Runs.{one_cause, command_cause}
use Rattle.retos_cli.proofs.Sources.{put_over, cause_after, read_then}

-- some object of the input has these guards
abbrev pub GuardsSome : List ℕ → Object → Files → Type 0
GuardsSome name q m = (o : Object) × Guards (held m name) o q

pub guarded_told : (files : Option Files) (name bytes text : List ℕ) (q : Object) → AnswersOf files name (Ok bytes) → text ≡ bytes → (o : Object) × Guards (Some text) o q → Told files (GuardsSome name q)
guarded_told None name bytes text q a e h = tt
guarded_told (Some m) name bytes text q a e h =
    let P : Option (List ℕ) → Type 0 = λ k. (o : Object) × Guards k o q in
    subst P (ap (λ (x : List ℕ). Some x) e ∙ holds (held m name) bytes a) h

abbrev output-of : List ℕ → Object → Output
output-of to q = record { out = inserted_line to q; file = Some (to, object_bytes q); faulted = false }

insert-output : (m : Files) (from to : List ℕ) (q : Object) → GuardsSome from q m → IsOutput (Insert from to) m (output-of to q)
unfolding IsOutput
insert-output m from to q h = record { object = h.0; guarded = q; guards = h.1; line = refl; file_is = refl; faulted_is = refl }

ended-by : (f0 f1 f2 : FolderState) (o0 o1 : SinkState) (from to : List ℕ) (q : Object) (r : Outcome)
    → Told f0.files (GuardsSome from q) → OnlyRead f0 f1 → IsPut f1 f2 o0 o1 to q (inserted_line to q) r → Ended (Insert from to) f0 f2 o0 o1 r
ended-by f0 f1 f2 o0 o1 from to q (Done faulted) t l h = record {
  told = told_map f0.files (GuardsSome from q) (λ m. (x : Output) × IsOutput (Insert from to) m x × (x.faulted ≡ faulted) × (o1.bytes ≡ appended o0.bytes x.out) × (f2.files ≡ Some (written m x.file)))
      (λ m e a. (output-of to q, insert-output m from to q a, sym h.0, h.2, put_over f1.files f2.files m to (object_bytes q) h.1 (l.files ∙ e))) t;
}
ended-by f0 f1 f2 o0 o1 from to q WriteFault t l h = record {
  cause = cause_after f0 f1 f2 o0 o1 l h.cause;
  told = told_both f0.files (GuardsSome from q) (λ m. FileCut to (object_bytes q) (inserted_line to q) m f2.files o0.bytes o1.bytes)
      (λ m. (x : Output) × IsOutput (Insert from to) m x × CutAt x.file x.out m f2.files o0.bytes o1.bytes)
      (λ m e a k. (output-of to q, insert-output m from to q a, k)) t
      (told_same f0.files f1.files (λ m. FileCut to (object_bytes q) (inserted_line to q) m f2.files o0.bytes o1.bytes) l.files h.left);
}
ended-by f0 f1 f2 o0 o1 from to q (Stopped NoMemory) t l h = record { read = read_then f0 f1 f2 l h.0; cause = tt; out = h.1 }
ended-by f0 f1 f2 o0 o1 from to q (Stopped (Refuse r)) t l h = absurd h
ended-by f0 f1 f2 o0 o1 from to q (Stopped (ReadFault n)) t l h = absurd h
ended-by f0 f1 f2 o0 o1 from to q BadWords t l h = absurd h

pub insert_ended : (f0 f1 f2 : FolderState) (o0 o1 : SinkState) (from to : List ℕ) (q : Object) (line : List ℕ) (r : Outcome)
    → Told f0.files (GuardsSome from q) → OnlyRead f0 f1 → line ≡ inserted_line to q → IsPut f1 f2 o0 o1 to q line r → Ended (Insert from to) f0 f2 o0 o1 r
insert_ended f0 f1 f2 o0 o1 from to q line r t l e h = let P : List ℕ → Type 0 = λ x. IsPut f1 f2 o0 o1 to q x r in ended-by f0 f1 f2 o0 o1 from to q r t l (subst P e h)

abbrev plain : List ℕ → Input
plain name = record { name = name; purpose = Plain }

pub insert_stopped : (f0 f1 : FolderState) (o0 o1 : SinkState) (from to : List ℕ) (s : Stop) → InputStops f0 f1 (plain from) s → OnlyRead f0 f1 → o1 ≡ o0 → Ended (Insert from to) f0 f1 o0 o1 (Stopped s)
insert_stopped f0 f1 o0 o1 from to s h l e = record { read = l; cause = command_cause (Insert from to) f0 f1 s (one_cause f0 f1 (plain from) s h); out = e }
