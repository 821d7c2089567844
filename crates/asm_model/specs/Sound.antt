-- What holds of a draft without fault, whatever its source.
use Rattle.std.specs.Prelude.{◌≡◌, ℕ, ◌+◌, ◌%◌, ◌≤◌, true, List, [], ◌∷◌, Option, Some, None}
use Rattle.asm_model.specs.declared.piece.Piece.{Piece}
use Rattle.asm_model.specs.declared.piece.Piece.TheVariants as piece
use Rattle.asm_model.specs.declared.piece.Placed.{Placed}
use Rattle.asm_model.specs.declared.progress.Header.{Header}
use Rattle.asm_model.specs.declared.progress.Header.TheVariants as header
use Rattle.asm_model.specs.Expressions.{is_plain}
use Rattle.asm_model.specs.Instructions.{is_legal}
use Rattle.asm_model.specs.Drafts.{Draft, code_words, initialised_bytes}
use Rattle.code_model.specs.declared.object.TheConstants.{CODE_WORDS_MAX, EXPORT_NUMBER_MAX, STACK_BYTES_MAX, STACK_BYTES_MIN, STATIC_BYTES_MAX}
use Rattle.kernel_model.specs.declared.map.TheConstants.{THREADS_OF_APP}

-- the words that the pieces add to the code, and their bytes of static data
abbrev pub code_total : List Placed → ℕ
code_total [] = 0
code_total (p ∷ ps) = code_words p.piece + code_total ps

abbrev pub initialised_total : List Placed → ℕ
initialised_total [] = 0
initialised_total (p ∷ ps) = initialised_bytes p.piece + initialised_total ps

-- a piece at an offset of the static data, where the least number of an export is this
abbrev pub IsSoundPiece : (at least : ℕ) → Piece → Type 0
IsSoundPiece at least (piece.Operation i source destination) = is_legal i ≡ true
IsSoundPiece at least (piece.Jump condition target) = Unit {0}
IsSoundPiece at least (piece.Word base word) = (at % 2 ≡ 0) × (is_plain base ≡ true)
IsSoundPiece at least (piece.Byte b) = Unit {0}
IsSoundPiece at least (piece.Entry label) = Unit {0}
IsSoundPiece at least (piece.Export number label) = (least ≤ number) × (number ≤ EXPORT_NUMBER_MAX)

-- the least number that an export behind a piece may have
abbrev pub least_behind : ℕ → Piece → ℕ
least_behind least (piece.Operation i source destination) = least
least_behind least (piece.Jump condition target) = least
least_behind least (piece.Word base word) = least
least_behind least (piece.Byte b) = least
least_behind least (piece.Entry label) = least
least_behind least (piece.Export number label) = number + 1

abbrev pub ArePieces : (at least : ℕ) → List Placed → Type 0
ArePieces at least [] = Unit {0}
ArePieces at least (p ∷ ps) = IsSoundPiece at least p.piece × ArePieces (at + initialised_bytes p.piece) (least_behind least p.piece) ps

abbrev pub least_total : ℕ → List Placed → ℕ
least_total least [] = least
least_total least (p ∷ ps) = least_total (least_behind least p.piece) ps

-- how many pieces are an entry, and how many an export
abbrev pub entry_count : Piece → ℕ
entry_count (piece.Operation i source destination) = 0
entry_count (piece.Jump condition target) = 0
entry_count (piece.Word base word) = 0
entry_count (piece.Byte b) = 0
entry_count (piece.Entry label) = 1
entry_count (piece.Export number label) = 0

abbrev pub export_count : Piece → ℕ
export_count (piece.Operation i source destination) = 0
export_count (piece.Jump condition target) = 0
export_count (piece.Word base word) = 0
export_count (piece.Byte b) = 0
export_count (piece.Entry label) = 0
export_count (piece.Export number label) = 1

abbrev pub entry_total : List Placed → ℕ
entry_total [] = 0
entry_total (p ∷ ps) = entry_count p.piece + entry_total ps

abbrev pub export_total : List Placed → ℕ
export_total [] = 0
export_total (p ∷ ps) = export_count p.piece + export_total ps

-- applications have no exports, modules no entry, and what has no header neither
abbrev pub StartsSuit : Option Header → (entries exports : ℕ) → Type 0
StartsSuit None entries exports = (entries ≡ 0) × (exports ≡ 0)
StartsSuit (Some (header.App stack threads)) entries exports = exports ≡ 0
StartsSuit (Some header.Module) entries exports = entries ≡ 0

-- stack and threads are in their ranges
abbrev pub IsHeader : Option Header → Type 0
IsHeader None = Unit {0}
IsHeader (Some (header.App stack threads)) = (stack % 2 ≡ 0) × (STACK_BYTES_MIN ≤ stack) × (stack ≤ STACK_BYTES_MAX) × (1 ≤ threads) × (threads ≤ THREADS_OF_APP)
IsHeader (Some header.Module) = Unit {0}

pub record IsSound (d : Draft) : Type 0 where
  pub pieces : ArePieces 0 0 d.pieces
  pub code_is : code_total d.pieces ≡ d.progress.code
  pub initialised_is : initialised_total d.pieces ≡ d.progress.initialised
  pub least_is : least_total 0 d.pieces ≡ d.progress.least_export
  pub header : IsHeader d.progress.header
  pub starts : StartsSuit d.progress.header (entry_total d.pieces) (export_total d.pieces)
  pub code_most : d.progress.code ≤ CODE_WORDS_MAX
  pub static_most : d.progress.initialised + d.progress.zeroed ≤ STATIC_BYTES_MAX
