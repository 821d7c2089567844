-- What the command `asm` comes to.
use Rattle.std.proofs.Common.{◌≡◌, ℕ, ◌⊎◌, false, List, Some, None, refl, ap, sym, subst, ◌∙◌, inl, inr}
use Rattle.std.specs.FinMap.{insert}
use Rattle.std.specs.declared.option.Option.{Option}
use Rattle.edge_io.specs.Known.{Files, FolderState, SinkState, appended, held, put, MayCreate}
use Rattle.edge_io.specs.Causes.{Rose}
use Rattle.code_model.specs.declared.object.Object.{Object}
use Rattle.object_form.specs.Spelling.{object_bytes}
use Rattle.retos_cli.specs.declared.command.Command.{Command}
use Rattle.retos_cli.specs.declared.command.Command.TheVariants.{Run, Check, Asm, Insert, Gen}
use Rattle.retos_cli.specs.declared.purpose.Purpose.TheVariants.{Source}
use Rattle.retos_cli.specs.declared.outcome.Outcome.{Outcome}
use Rattle.retos_cli.specs.declared.outcome.Outcome.TheVariants.{Done, BadWords, Stopped, WriteFault}
use Rattle.retos_cli.specs.declared.outcome.Stop.{Stop}
use Rattle.retos_cli.specs.declared.outcome.Stop.TheVariants.{Refuse, ReadFault, NoMemory}
use Rattle.retos_cli.specs.Lines.{assembled_line}
use Rattle.retos_cli.specs.Meaning.{Input, Output, Assembles, IsOutput, written}
use Rattle.retos_cli.specs.Ends.{Told, Ended, OnlyRead, InputStops, CutAt, FileCut, MayRun}
use Rattle.retos_cli.specs.Writing.{IsPut}
use Rattle.retos_cli.proofs.Told.{told_map, told_same, told_both}
use Rattle.retos_cli.proofs.Runs.{one_cause, command_cause}

pub may_create_after : (a b : Option (List ℕ)) (name : List ℕ) → b ≡ a → MayCreate a name → MayCreate b name
may_create_after a b name e m = let P : Option (List ℕ) → Type 0 = λ c. MayCreate c name in subst P (sym e) m

abbrev output-of : List ℕ → Object → Output
output-of to o = record { out = assembled_line to o; file = Some (to, object_bytes o); faulted = false }

asm-output : (m : Files) (from to : List ℕ) (o : Object) → Assembles (held m from) o → IsOutput (Asm from to) m (output-of to o)
unfolding IsOutput
asm-output m from to o a = record { object = o; assembles = a; line = refl; file_is = refl; faulted_is = refl }

pub put_over : (fs gs : Option Files) (m : Files) (name bytes : List ℕ) → gs ≡ put fs name bytes → fs ≡ Some m → gs ≡ Some (insert m name bytes)
put_over fs gs m name bytes e f = e ∙ ap (λ (hs : Option Files). put hs name bytes) f

rose-after : (a b c : ℕ) → b ≡ a → Rose b c → Rose a c
rose-after a b c e r = let P : ℕ → Type 0 = λ n. Rose n c in subst P e r

pub cause_after : (f0 f1 f2 : FolderState) (o0 o1 : SinkState) → OnlyRead f0 f1 → Rose o0.faults o1.faults ⊎ Rose f1.write_faults f2.write_faults → Rose o0.faults o1.faults ⊎ Rose f0.write_faults f2.write_faults
cause_after f0 f1 f2 o0 o1 l (inl r) = inl r
cause_after f0 f1 f2 o0 o1 l (inr r) = inr (rose-after f0.write_faults f1.write_faults f2.write_faults l.writes r)

pub read_then : (f0 f1 f2 : FolderState) → OnlyRead f0 f1 → f2 ≡ f1 → OnlyRead f0 f2
read_then f0 f1 f2 l e = let P : FolderState → Type 0 = λ f. OnlyRead f0 f in subst P (sym e) l

ended-by : (f0 f1 f2 : FolderState) (o0 o1 : SinkState) (from to : List ℕ) (o : Object) (r : Outcome)
    → Told f0.files (λ m. Assembles (held m from) o) → OnlyRead f0 f1 → IsPut f1 f2 o0 o1 to o (assembled_line to o) r → Ended (Asm from to) f0 f2 o0 o1 r
ended-by f0 f1 f2 o0 o1 from to o (Done faulted) t l h = record {
  told = told_map f0.files (λ m. Assembles (held m from) o) (λ m. (x : Output) × IsOutput (Asm from to) m x × (x.faulted ≡ faulted) × (o1.bytes ≡ appended o0.bytes x.out) × (f2.files ≡ Some (written m x.file)))
      (λ m e a. (output-of to o, asm-output m from to o a, sym h.0, h.2, put_over f1.files f2.files m to (object_bytes o) h.1 (l.files ∙ e))) t;
}
ended-by f0 f1 f2 o0 o1 from to o WriteFault t l h = record {
  cause = cause_after f0 f1 f2 o0 o1 l h.cause;
  told = told_both f0.files (λ m. Assembles (held m from) o) (λ m. FileCut to (object_bytes o) (assembled_line to o) m f2.files o0.bytes o1.bytes)
      (λ m. (x : Output) × IsOutput (Asm from to) m x × CutAt x.file x.out m f2.files o0.bytes o1.bytes)
      (λ m e a k. (output-of to o, asm-output m from to o a, k)) t
      (told_same f0.files f1.files (λ m. FileCut to (object_bytes o) (assembled_line to o) m f2.files o0.bytes o1.bytes) l.files h.left);
}
ended-by f0 f1 f2 o0 o1 from to o (Stopped NoMemory) t l h = record { read = read_then f0 f1 f2 l h.0; cause = tt; out = h.1 }
ended-by f0 f1 f2 o0 o1 from to o (Stopped (Refuse r)) t l h = absurd h
ended-by f0 f1 f2 o0 o1 from to o (Stopped (ReadFault n)) t l h = absurd h
ended-by f0 f1 f2 o0 o1 from to o BadWords t l h = absurd h

pub asm_ended : (f0 f1 f2 : FolderState) (o0 o1 : SinkState) (from to : List ℕ) (o : Object) (line : List ℕ) (r : Outcome)
    → Told f0.files (λ m. Assembles (held m from) o) → OnlyRead f0 f1 → line ≡ assembled_line to o → IsPut f1 f2 o0 o1 to o line r → Ended (Asm from to) f0 f2 o0 o1 r
asm_ended f0 f1 f2 o0 o1 from to o line r t l e h = let P : List ℕ → Type 0 = λ x. IsPut f1 f2 o0 o1 to o x r in ended-by f0 f1 f2 o0 o1 from to o r t l (subst P e h)

abbrev sourced : List ℕ → Input
sourced name = record { name = name; purpose = Source }

pub asm_stopped : (f0 f1 : FolderState) (o0 o1 : SinkState) (from to : List ℕ) (s : Stop) → InputStops f0 f1 (sourced from) s → OnlyRead f0 f1 → o1 ≡ o0 → Ended (Asm from to) f0 f1 o0 o1 (Stopped s)
asm_stopped f0 f1 o0 o1 from to s h l e = record { read = l; cause = command_cause (Asm from to) f0 f1 s (one_cause f0 f1 (sourced from) s h); out = e }

-- where no name was created any command may run
pub may_run_fresh : (c : Option Command) (created : Option (List ℕ)) → created ≡ None → MayRun c created
may_run_fresh c created e = let P : Option (List ℕ) → Type 0 = λ n. MayRun c n in subst P (sym e) (by-command c)
  where
    by-command : (c : Option Command) → MayRun c None
    by-command None = tt
    by-command (Some (Run job)) = tt
    by-command (Some (Check names)) = tt
    by-command (Some (Asm from to)) = tt
    by-command (Some (Insert from to)) = tt
    by-command (Some (Gen seed to)) = tt
