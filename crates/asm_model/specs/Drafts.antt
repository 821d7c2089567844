-- What the first pass collects.
use Rattle.std.specs.Prelude.{ℕ, ◌+◌, nat_le, Bool, true, false, List, [], ◌∷◌, ◌++◌, length, map, None, Result, Ok, Err, if◌then◌else◌}
use Rattle.msp_encode.specs.Spelling.{words_after}
use Rattle.asm_model.specs.declared.fault.AsmKind.{AsmKind}
use Rattle.asm_model.specs.declared.fault.AsmKind.TheVariants.{TooLarge}
use Rattle.asm_model.specs.declared.name.Name.{Name}
use Rattle.asm_model.specs.declared.name.Value.{Value}
use Rattle.asm_model.specs.declared.name.Value.TheVariants as value
use Rattle.asm_model.specs.declared.piece.Piece.{Piece}
use Rattle.asm_model.specs.declared.piece.Piece.TheVariants as piece
use Rattle.asm_model.specs.declared.piece.Placed.{Placed}
use Rattle.asm_model.specs.declared.progress.Section.{Section}
use Rattle.asm_model.specs.declared.progress.Section.TheVariants as section
use Rattle.asm_model.specs.declared.progress.Version.TheVariants as version
use Rattle.asm_model.specs.declared.progress.Progress.{Progress}
use Rattle.code_model.specs.declared.object.TheConstants.{CODE_WORDS_MAX, STATIC_BYTES_MAX}

-- the names that are defined and the pieces, both in their order, and the rest
pub record Draft : Type 0 where
  pub progress : Progress
  pub names : List (Name × Value)
  pub pieces : List Placed

abbrev pub draft_by : Progress → List (Name × Value) → List Placed → Draft
draft_by progress names pieces = record { progress = progress; names = names; pieces = pieces }

-- before the first line
unfoldable pub first_progress : Progress
first_progress = record { header = None; version = version.One; named = false; begun = false; section = section.Code; entered = false; least_export = 0; code = 0; initialised = 0; zeroed = 0 }

abbrev pub empty_draft : Draft
empty_draft = draft_by first_progress [] []

abbrev pub with_progress : Draft → Progress → Draft
with_progress d p = draft_by p d.names d.pieces

abbrev pub with_name : Draft → Name → Value → Draft
with_name d name v = draft_by d.progress (d.names ++ (name, v) ∷ []) d.pieces

abbrev pub placed : ℕ → Piece → Placed
placed line p = record { line = line; piece = p }

abbrev pub with_pieces : Draft → ℕ → List Piece → Draft
with_pieces d line pieces = draft_by d.progress d.names (d.pieces ++ map (placed line) pieces)

-- a label at the section's end
abbrev pub place_in : Section → Progress → Value
place_in section.Code p = value.Code p.code
place_in section.Data p = value.Initialised p.initialised
place_in section.Zero p = value.Zeroed p.zeroed

-- the words that a piece adds to the code
abbrev pub code_words : Piece → ℕ
code_words (piece.Operation i source destination) = 1 + length (words_after i)
code_words (piece.Jump condition target) = 1
code_words (piece.Word base word) = 0
code_words (piece.Byte b) = 0
code_words (piece.Entry label) = 0
code_words (piece.Export number label) = 0

-- the bytes that a piece adds to the initialised bytes
abbrev pub initialised_bytes : Piece → ℕ
initialised_bytes (piece.Operation i source destination) = 0
initialised_bytes (piece.Jump condition target) = 0
initialised_bytes (piece.Word base word) = 2
initialised_bytes (piece.Byte b) = 1
initialised_bytes (piece.Entry label) = 0
initialised_bytes (piece.Export number label) = 0

abbrev pub by_progress : Progress → Bool → Section → Bool → ℕ → ℕ → ℕ → ℕ → Progress
by_progress p begun section entered least_export code initialised zeroed = record { header = p.header; version = p.version; named = p.named; begun = begun; section = section; entered = entered; least_export = least_export; code = code; initialised = initialised; zeroed = zeroed }

-- with so many more code words, initialised bytes and zeroed bytes, unless that passes the limits
unfoldable pub grown : Progress → ℕ → ℕ → ℕ → Result Progress AsmKind
grown p code initialised zeroed =
    if nat_le (p.code + code) CODE_WORDS_MAX then (
    if nat_le ((p.initialised + initialised) + (p.zeroed + zeroed)) STATIC_BYTES_MAX
    then Ok (by_progress p true p.section p.entered p.least_export (p.code + code) (p.initialised + initialised) (p.zeroed + zeroed))
    else Err TooLarge)
    else Err TooLarge

-- with pieces of a line that need the room, unless that passes the limits
abbrev pub grown_draft : Draft → ℕ → List Piece → Result Progress AsmKind → Result Draft AsmKind
grown_draft d line pieces (Err kind) = Err kind
grown_draft d line pieces (Ok p) = Ok (with_pieces (with_progress d p) line pieces)
