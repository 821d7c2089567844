-- What writing a file and then a line comes to.
use Rattle.std.specs.Prelude.{◌≡◌, ◌⊎◌, List, ℕ, false}
use Rattle.std.specs.declared.result.Result.{Result}
use Rattle.std.specs.declared.result.Result.TheVariants.{Ok, Err}
use Rattle.edge_io.specs.Known.{FolderState, SinkState, appended, put}
use Rattle.edge_io.specs.Causes.{Rose}
use Rattle.edge_io.specs.declared.whole.SinkFault.{SinkFault}
use Rattle.code_model.specs.declared.object.Object.{Object}
use Rattle.object_form.specs.Spelling.{object_bytes}
use Rattle.retos_cli.specs.declared.outcome.Outcome.{Outcome}
use Rattle.retos_cli.specs.declared.outcome.Outcome.TheVariants.{Done, BadWords, Stopped, WriteFault}
use Rattle.retos_cli.specs.declared.outcome.Stop.TheVariants.{Refuse, ReadFault, NoMemory}
use Rattle.retos_cli.specs.Ends.{Told, FileCut}

-- a write of the file or of the line failed
pub record LineCut (f0 f1 : FolderState) (o0 o1 : SinkState) (name bytes line : List ℕ) : Type 0 where
  pub cause : Rose o0.faults o1.faults ⊎ Rose f0.write_faults f1.write_faults
  pub left : Told f0.files (λ m. FileCut name bytes line m f1.files o0.bytes o1.bytes)

-- the name holds the bytes and the line was printed, or a write failed
abbrev pub FileThenLine : FolderState → FolderState → SinkState → SinkState → List ℕ → List ℕ → List ℕ → Result Unit SinkFault → Type 0
FileThenLine f0 f1 o0 o1 name bytes line (Ok done) = (f1.files ≡ put f0.files name bytes) × (o1.bytes ≡ appended o0.bytes line)
FileThenLine f0 f1 o0 o1 name bytes line (Err e) = LineCut f0 f1 o0 o1 name bytes line

-- the object was written and then the line printed, or a write failed, or there was no memory before
abbrev pub IsPut : FolderState → FolderState → SinkState → SinkState → List ℕ → Object → List ℕ → Outcome → Type 0
IsPut f0 f1 o0 o1 name o line (Done faulted) = (faulted ≡ false) × (f1.files ≡ put f0.files name (object_bytes o)) × (o1.bytes ≡ appended o0.bytes line)
IsPut f0 f1 o0 o1 name o line WriteFault = LineCut f0 f1 o0 o1 name (object_bytes o) line
IsPut f0 f1 o0 o1 name o line (Stopped NoMemory) = (f1 ≡ f0) × (o1 ≡ o0)
IsPut f0 f1 o0 o1 name o line (Stopped (Refuse r)) = ⊥
IsPut f0 f1 o0 o1 name o line (Stopped (ReadFault failed)) = ⊥
IsPut f0 f1 o0 o1 name o line BadWords = ⊥
