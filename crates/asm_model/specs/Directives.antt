-- What each directive does to a draft.
use Rattle.std.specs.Prelude.{ℕ, ◌+◌, ◌*◌, ◌%◌, ◌==◌, ◌&&◌, not, Bool, true, false, List, length, map, Option, Some, None, is_some, Result, Ok, Err, if◌then◌else◌}
use Rattle.std.specs.List.{list_all}
use Rattle.asm_model.specs.declared.fault.AsmKind.{AsmKind}
use Rattle.asm_model.specs.declared.fault.AsmKind.TheVariants.{BadDirective, NumberRange, DoubleLabel}
use Rattle.asm_model.specs.declared.name.Name.{Name}
use Rattle.asm_model.specs.declared.name.Value.{Value}
use Rattle.asm_model.specs.declared.name.Value.TheVariants as value
use Rattle.asm_model.specs.declared.expression.Base.TheVariants as base
use Rattle.asm_model.specs.declared.expression.Numeral.{Numeral}
use Rattle.asm_model.specs.declared.expression.Expression.{Expression}
use Rattle.asm_model.specs.declared.piece.DataUnit.{DataUnit}
use Rattle.asm_model.specs.declared.piece.DataUnit.TheVariants as unit
use Rattle.asm_model.specs.declared.piece.Datum.{Datum}
use Rattle.asm_model.specs.declared.piece.Piece.{Piece}
use Rattle.asm_model.specs.declared.piece.Piece.TheVariants as piece
use Rattle.asm_model.specs.declared.progress.Section.{Section}
use Rattle.asm_model.specs.declared.progress.Section.TheVariants as section
use Rattle.asm_model.specs.declared.progress.Header.{Header}
use Rattle.asm_model.specs.declared.progress.Header.TheVariants as header
use Rattle.asm_model.specs.declared.progress.Version.{Version}
use Rattle.asm_model.specs.declared.progress.Version.TheVariants as version
use Rattle.asm_model.specs.declared.progress.Progress.{Progress}
use Rattle.asm_model.specs.Lines.{is_nil}
use Rattle.asm_model.specs.Words.{first_word, behind_word}
use Rattle.asm_model.specs.Numbers.{numeral_of, numeral_fits, numeral_word, is_between, byte_fits}
use Rattle.asm_model.specs.Names.{has_name_form, name_of, is_taken}
use Rattle.asm_model.specs.Operands.{address_of}
use Rattle.asm_model.specs.Instructions.{label_of}
use Rattle.asm_model.specs.Drafts.{by_progress, grown}
use Rattle.code_model.specs.declared.object.TheConstants.{EXPORT_NUMBER_MAX, STACK_BYTES_MAX, STACK_BYTES_MIN, STATIC_BYTES_MAX}
use Rattle.kernel_model.specs.declared.map.TheConstants.{THREADS_OF_APP}

-- ---- the header, before all other statements and once

abbrev pub with_header : Progress → Header → Progress
with_header p h = record { header = Some h; version = p.version; named = p.named; begun = p.begun; section = p.section; entered = p.entered; least_export = p.least_export; code = p.code; initialised = p.initialised; zeroed = p.zeroed }

-- an application's stack is even and 16 to 1024, its threads are 1 to 4
abbrev pub application : Option Numeral → Option Numeral → Result Header AsmKind
application None threads = Err BadDirective
application (Some stack) None = Err BadDirective
application (Some stack) (Some threads) =
    if (is_between STACK_BYTES_MIN STACK_BYTES_MAX stack && stack.size % 2 == 0) && is_between 1 THREADS_OF_APP threads then Ok (header.App stack.size threads.size)
    else Err NumberRange

-- the header of `.app`
unfoldable pub application_of : List ℕ → Result Header AsmKind
application_of rest = application (numeral_of (first_word rest)) (numeral_of (behind_word rest))

-- the header of `.module`
unfoldable pub module_of : List ℕ → Result Header AsmKind
module_of rest = if is_nil rest then Ok header.Module else Err BadDirective

abbrev pub headed : Progress → Result Header AsmKind → Result Progress AsmKind
headed p (Err kind) = Err kind
headed p (Ok h) = Ok (with_header p h)

-- a header where there is none yet
abbrev pub only_header : Progress → Option Header → Result Header AsmKind → Result Progress AsmKind
only_header p None h = headed p h
only_header p (Some other) h = Err BadDirective

-- ---- the version and names of numbers, between the header and all other statements

abbrev pub with_version : Progress → Version → Progress
with_version p v = record { header = p.header; version = v; named = true; begun = p.begun; section = p.section; entered = p.entered; least_export = p.least_export; code = p.code; initialised = p.initialised; zeroed = p.zeroed }

-- the operand is the number 2
abbrev pub is_two : Option Numeral → Bool
is_two None = false
is_two (Some n) = is_between 2 2 n

-- version 2, directly behind the header
unfoldable pub version_of : Progress → List ℕ → Result Progress AsmKind
version_of p rest =
    if (is_some p.header && not p.named) && (not p.begun && is_two (numeral_of rest)) then Ok (with_version p version.Two)
    else Err BadDirective

abbrev pub number_named : Option Numeral → Result Value AsmKind
number_named None = Err BadDirective
number_named (Some n) = if numeral_fits n then Ok (value.Number (numeral_word n)) else Err NumberRange

abbrev pub named_by : Name → Result Value AsmKind → Result (Name × Value) AsmKind
named_by name (Err kind) = Err kind
named_by name (Ok v) = Ok (name, v)

-- a name and its number, where `.equ` may stand
unfoldable pub equate : List (Name × Value) → Bool → List ℕ → Result (Name × Value) AsmKind
equate names allowed rest =
    if is_taken names (first_word rest) then Err DoubleLabel
    else if allowed && has_name_form (first_word rest) then named_by (name_of (first_word rest)) (number_named (numeral_of (behind_word rest)))
    else Err BadDirective

-- ---- entry and exports

abbrev pub is_application : Option Header → Bool
is_application None = false
is_application (Some (header.App stack threads)) = true
is_application (Some header.Module) = false

abbrev pub is_module : Option Header → Bool
is_module None = false
is_module (Some (header.App stack threads)) = false
is_module (Some header.Module) = true

abbrev pub entry_by : Option Name → Result Piece AsmKind
entry_by None = Err BadDirective
entry_by (Some label) = Ok (piece.Entry label)

-- an application's entry, once
unfoldable pub entry_of : List (Name × Value) → Progress → List ℕ → Result Piece AsmKind
entry_of names p rest = if is_application p.header && not p.entered then entry_by (label_of names rest) else Err BadDirective

abbrev pub export_by : ℕ → Option Numeral → Option Name → Result Piece AsmKind
export_by least None label = Err BadDirective
export_by least (Some number) None = Err BadDirective
export_by least (Some number) (Some label) = if is_between least EXPORT_NUMBER_MAX number then Ok (piece.Export number.size label) else Err NumberRange

-- a module's export, whose number is greater than the one before
unfoldable pub export_of : List (Name × Value) → Progress → List ℕ → Result Piece AsmKind
export_of names p rest = if is_module p.header then export_by p.least_export (numeral_of (first_word rest)) (label_of names (behind_word rest)) else Err BadDirective

-- with the entry or an export told
abbrev pub told : Progress → Piece → Progress
told p (piece.Entry label) = by_progress p true p.section true p.least_export p.code p.initialised p.zeroed
told p (piece.Export number label) = by_progress p true p.section p.entered (number + 1) p.code p.initialised p.zeroed
told p (piece.Operation i source destination) = p
told p (piece.Jump condition target) = p
told p (piece.Word base word) = p
told p (piece.Byte b) = p

-- ---- sections

unfoldable pub section_from : Progress → Section → List ℕ → Result Progress AsmKind
section_from p s rest = if is_some p.header && is_nil rest then Ok (by_progress p true s p.entered p.least_export p.code p.initialised p.zeroed) else Err BadDirective

abbrev pub is_code : Section → Bool
is_code section.Code = true
is_code section.Data = false
is_code section.Zero = false

abbrev pub is_data : Section → Bool
is_data section.Code = false
is_data section.Data = true
is_data section.Zero = false

abbrev pub is_zero : Section → Bool
is_zero section.Code = false
is_zero section.Data = false
is_zero section.Zero = true

-- ---- static data

abbrev pub word_datum : Option Expression → Option Datum
word_datum None = None
word_datum (Some e) = Some (record { piece = piece.Word e.base e.word; fits = e.fits })

abbrev pub byte_datum : Option Numeral → Option Datum
byte_datum None = None
byte_datum (Some n) = Some (record { piece = piece.Byte (numeral_word n % 256); fits = byte_fits n })

-- what an operand gives: a word is a number or an address, a byte is a number
unfoldable pub datum_of : DataUnit → List (Name × Value) → List ℕ → Option Datum
datum_of unit.Word names operand = word_datum (address_of names operand)
datum_of unit.Byte names operand = byte_datum (numeral_of operand)

abbrev pub unit_size : DataUnit → ℕ
unit_size unit.Word = 2
unit_size unit.Byte = 1

-- a word stands at an even offset
abbrev pub is_aligned : DataUnit → ℕ → Bool
is_aligned unit.Word at = at % 2 == 0
is_aligned unit.Byte at = true

abbrev pub datum_fits : Option Datum → Bool
datum_fits None = false
datum_fits (Some d) = d.fits

-- the piece of a datum, or a zero where there is none
abbrev pub datum_piece : DataUnit → Option Datum → Piece
datum_piece unit.Word None = piece.Word base.Number 0
datum_piece unit.Byte None = piece.Byte 0
datum_piece u (Some d) = d.piece

-- one or more operands, all of the directive's form
unfoldable pub are_data : DataUnit → List (Name × Value) → List (List ℕ) → Bool
are_data u names operands = not (is_nil operands) && list_all (λ o. is_some (datum_of u names o)) operands

unfoldable pub data_fit : DataUnit → List (Name × Value) → List (List ℕ) → Bool
data_fit u names operands = list_all (λ o. datum_fits (datum_of u names o)) operands

unfoldable pub data_pieces : DataUnit → List (Name × Value) → List (List ℕ) → List Piece
data_pieces u names operands = map (λ o. datum_piece u (datum_of u names o)) operands

-- with static data, where it may stand
unfoldable pub data_room : DataUnit → List (Name × Value) → Progress → List (List ℕ) → Result Progress AsmKind
data_room u names p operands =
    if not (is_data p.section && is_aligned u p.initialised && are_data u names operands) then Err BadDirective
    else if not (data_fit u names operands) then Err NumberRange
    else grown p 0 (unit_size u * length operands) 0

abbrev pub space_by : Progress → Option Numeral → Result Progress AsmKind
space_by p None = Err BadDirective
space_by p (Some n) = if is_between 0 STATIC_BYTES_MAX n then grown p 0 0 n.size else Err NumberRange

-- with zeroed bytes, where they may stand
unfoldable pub space_of : Progress → List ℕ → Result Progress AsmKind
space_of p rest = if is_zero p.section then space_by p (numeral_of rest) else Err BadDirective
