-- What the parts of the first pass give.
use Rattle.std.specs.Prelude.{◌≡◌, ℕ, ◌≤◌, true, List, Result, Ok, Err}
use Rattle.code_model.specs.declared.object.TheConstants.{EXPORT_NUMBER_MAX}
use Rattle.asm_model.specs.declared.fault.AsmKind.{AsmKind}
use Rattle.asm_model.specs.declared.fault.AsmFault.{AsmFault}
use Rattle.asm_model.specs.declared.fault.AsmFault.TheVariants as faults
use Rattle.asm_model.specs.FirstPass.{Fault, fault}
use Rattle.asm_model.specs.declared.name.Name.{Name}
use Rattle.asm_model.specs.declared.name.Value.{Value}
use Rattle.asm_model.specs.declared.piece.Piece.{Piece}
use Rattle.asm_model.specs.declared.piece.Piece.TheVariants as piece
use Rattle.asm_model.specs.declared.piece.Placed.{Placed}
use Rattle.asm_model.specs.declared.progress.Progress.{Progress}
use Rattle.asm_model.specs.Drafts.{Draft, draft_by}
use Rattle.asm_model.specs.Instructions.{is_legal}
use Rattle.asm_model.specs.SecondPass.{Output}
use Rattle.msp_asm.specs.declared.built.Built.{Built}
use Rattle.msp_asm.specs.declared.drafts.Stop.{Stop}
use Rattle.msp_asm.specs.declared.drafts.Stop.TheVariants.{Kind, Memory}

-- this draft, or this fault; or there was no memory
abbrev pub Gives : Result Progress Stop → Result Draft AsmKind → List (Name × Value) → List Placed → Type 0
Gives (Ok p) answer names pieces = answer ≡ Ok (draft_by p names pieces)
Gives (Err (Kind kind)) answer names pieces = answer ≡ Err kind
Gives (Err Memory) answer names pieces = Unit {0}

-- an export's number is at most 63
abbrev pub HasSmallNumber : Piece → Type 0
HasSmallNumber (piece.Operation i source destination) = Unit {0}
HasSmallNumber (piece.Jump condition target) = Unit {0}
HasSmallNumber (piece.Word base word) = Unit {0}
HasSmallNumber (piece.Byte b) = Unit {0}
HasSmallNumber (piece.Entry label) = Unit {0}
HasSmallNumber (piece.Export number label) = number ≤ EXPORT_NUMBER_MAX

-- this output, or this fault; or there was no memory
abbrev pub Puts : Result (Unit {0}) Stop → Result Output AsmKind → Output → Type 0
Puts (Ok done) answer o = answer ≡ Ok o
Puts (Err (Kind kind)) answer o = answer ≡ Err kind
Puts (Err Memory) answer o = Unit {0}

-- what is built
abbrev pub output_of : Built → Output
output_of b = record { code = b.code; initialised = b.initialised; code_relocs = b.code_relocs; data_relocs = b.data_relocs; entry = b.entry; exports = b.exports }

-- an instruction is legal
abbrev pub IsLegalPiece : Piece → Type 0
IsLegalPiece (piece.Operation i source destination) = is_legal i ≡ true
IsLegalPiece (piece.Jump condition target) = Unit {0}
IsLegalPiece (piece.Word base word) = Unit {0}
IsLegalPiece (piece.Byte b) = Unit {0}
IsLegalPiece (piece.Entry label) = Unit {0}
IsLegalPiece (piece.Export number label) = Unit {0}

-- the fault of a line
abbrev pub fault_at : ℕ → Stop → AsmFault
fault_at line (Kind kind) = faults.At line kind
fault_at line Memory = faults.Memory

-- this draft, or this fault and its line; or there was no memory
abbrev pub FirstGives : Result Progress AsmFault → Result Draft Fault → List (Name × Value) → List Placed → Type 0
FirstGives (Ok p) answer names pieces = answer ≡ Ok (draft_by p names pieces)
FirstGives (Err (faults.At line kind)) answer names pieces = answer ≡ Err (fault line kind)
FirstGives (Err faults.Memory) answer names pieces = Unit {0}

-- this output, or this fault and its line; or there was no memory
abbrev pub SecondGives : Result Built AsmFault → Result Output Fault → Type 0
SecondGives (Ok b) answer = answer ≡ Ok (output_of b)
SecondGives (Err (faults.At line kind)) answer = answer ≡ Err (fault line kind)
SecondGives (Err faults.Memory) answer = Unit {0}
