-- Which calls a whole read or a whole write is made of. A trait's member `called` relates the states before and after a
-- call to the call; in generic code nothing but a call shows it.
use Rattle.std.specs.Prelude.{◌≡◌, ℕ, ◌+◌, ◌≤◌, ◌<◌, List, [], length, drop, Ok, Err}
use Rattle.std.specs.declared.result.Result.{Result}
use Rattle.edge_io.specs.declared.folder.ReadErr.{ReadErr}
use Rattle.edge_io.specs.declared.folder.ReadErr.TheVariants as read_err
use Rattle.edge_io.specs.declared.folder.WriteErr.{WriteErr}
use Rattle.edge_io.specs.declared.whole.InputFault.{InputFault}
use Rattle.edge_io.specs.declared.whole.InputFault.TheVariants as input
use Rattle.edge_io.specs.declared.whole.SinkFault.{SinkFault}
use Rattle.edge_io.specs.declared.whole.SinkFault.TheVariants as fault

-- a call of a folder and its answer
pub data FolderCall : Type 0 where
  read_call : (name : List ℕ) (at : ℕ) → Result ℕ ReadErr → FolderCall
  create_call : (name : List ℕ) → Result Unit WriteErr → FolderCall
  append_call : (name piece : List ℕ) → Result ℕ WriteErr → FolderCall

-- reads of a name from its start on, one behind the other, that each gave a byte or more, and this many in all
pub data Reads {S : Type 0} (called : S → FolderCall → S → Type 0) (name : List ℕ) (from : S) : S → ℕ → Type 0 where
  no_read : Reads called name from from 0
  next_read : {mid to : S} {total n : ℕ} → Reads called name from mid total → called mid (read_call name total (Ok n)) to → 0 < n → Reads called name from to (total + n)

-- how a whole read ends, after reads that gave so many bytes
abbrev pub ReadEnds : {S : Type 0} → (S → FolderCall → S → Type 0) → List ℕ → S → S → ℕ → Result (List ℕ) InputFault → Type 0
ReadEnds called name mid to total (Ok bytes) =
    (total ≡ length bytes) × called mid (read_call name total (Ok 0)) to
ReadEnds called name mid to total (Err input.Absent) = called mid (read_call name total (Err read_err.Absent)) to
ReadEnds called name mid to total (Err input.Failed) = called mid (read_call name total (Err read_err.Failed)) to
ReadEnds called name mid to total (Err input.TooLong) = (total ≡ 1048577) × (mid ≡ to)
ReadEnds called name mid to total (Err input.Memory) =
    (n : ℕ) × (total + n ≤ 1048577) × called mid (read_call name total (Ok n)) to

-- a whole read: reads that each gave a byte or more, at most 1,048,577 in all, and its end
pub record ReadTurns {S : Type 0} (called : S → FolderCall → S → Type 0) (from to : S) (name : List ℕ) (result : Result (List ℕ) InputFault) : Type 0 where
  pub mid : S
  pub total : ℕ
  pub turns : Reads called name from mid total
  pub bound : total ≤ 1048577
  pub ended : ReadEnds called name mid to total result

-- writes that each offered all that was left of the whole and took a byte or more, and what is left then
pub data Offers {S E : Type 0} (called : S → List ℕ → Result ℕ E → S → Type 0) (from : S) (whole : List ℕ) : S → List ℕ → Type 0 where
  no_offer : Offers called from whole from whole
  next_offer : {mid to : S} {rest : List ℕ} {n : ℕ} → Offers called from whole mid rest → called mid rest (Ok n) to → 0 < n → Offers called from whole to (drop n rest)

-- a last write, which offered all that was left of the whole, and its answer
pub record LastOffer {S E : Type 0} (called : S → List ℕ → Result ℕ E → S → Type 0) (from to : S) (whole : List ℕ) (answer : Result ℕ E) : Type 0 where
  pub mid : S
  pub rest : List ℕ
  pub turns : Offers called from whole mid rest
  pub short : 0 < length rest
  pub last : called mid rest answer to

-- a whole write: all was taken, or the last write failed, or took nothing of a rest that has bytes
abbrev pub WriteTurns : {S E : Type 0} → (S → List ℕ → Result ℕ E → S → Type 0) → S → S → List ℕ → Result Unit SinkFault → Type 0
WriteTurns called from to whole (Ok done) = Offers called from whole to []
WriteTurns {E = E} called from to whole (Err fault.Failed) = (e : E) × LastOffer called from to whole (Err e)
WriteTurns called from to whole (Err fault.TookNone) = LastOffer called from to whole (Ok 0)

-- an append to this name
abbrev pub appends : {S : Type 0} → (S → FolderCall → S → Type 0) → List ℕ → S → List ℕ → Result ℕ WriteErr → S → Type 0
appends called name mid piece answer to = called mid (append_call name piece answer) to

-- the write of a file: its creation failed, or it was created and then written whole, or not
pub data FileTurns {S : Type 0} (called : S → FolderCall → S → Type 0) (from to : S) (name whole : List ℕ) (result : Result Unit SinkFault) : Type 0 where
  not_created : (e : WriteErr) → called from (create_call name (Err e)) to → result ≡ Err fault.Failed → FileTurns called from to name whole result
  created : (made : S) → called from (create_call name (Ok tt)) made → WriteTurns (appends called name) made to whole result → FileTurns called from to name whole result
