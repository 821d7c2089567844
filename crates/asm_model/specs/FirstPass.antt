-- The first pass: what each line adds to the draft, or its first fault.
use Rattle.std.specs.Prelude.{ℕ, ◌+◌, ◌&&◌, not, List, [], ◌∷◌, Option, Some, None, is_some, Result, Ok, Err, if◌then◌else◌}
use Rattle.std.specs.List.{list_all}
use Rattle.msp_encode.specs.declared.instr.Width.{Width}
use Rattle.asm_model.specs.declared.fault.AsmKind.{AsmKind}
use Rattle.asm_model.specs.declared.fault.AsmKind.TheVariants.{NotText, DoubleLabel, UnknownWord, BadDirective}
use Rattle.asm_model.specs.declared.name.Name.{Name}
use Rattle.asm_model.specs.declared.name.Value.{Value}
use Rattle.asm_model.specs.declared.mnemonic.MnemonicForm.{MnemonicForm}
use Rattle.asm_model.specs.declared.mnemonic.Directive.{Directive}
use Rattle.asm_model.specs.declared.mnemonic.Directive.TheVariants as directive
use Rattle.asm_model.specs.declared.mnemonic.Keyword.{Keyword}
use Rattle.asm_model.specs.declared.mnemonic.Keyword.TheVariants as keyword
use Rattle.asm_model.specs.declared.piece.Piece.{Piece}
use Rattle.asm_model.specs.declared.piece.DataUnit.{DataUnit}
use Rattle.asm_model.specs.declared.piece.DataUnit.TheVariants as unit
use Rattle.asm_model.specs.declared.progress.Section.TheVariants as section
use Rattle.asm_model.specs.declared.progress.Progress.{Progress}
use Rattle.asm_model.specs.Lines.{is_text_byte, is_nil}
use Rattle.asm_model.specs.Words.{body_of, has_colon, before_colon, behind_colon, first_word, behind_word, operands_of}
use Rattle.asm_model.specs.Names.{has_name_form, name_of, is_taken}
use Rattle.asm_model.specs.Mnemonics.{keyword_of}
use Rattle.asm_model.specs.Instructions.{instruction_of}
use Rattle.asm_model.specs.Drafts.{Draft, with_progress, with_name, with_pieces, place_in, code_words, grown, grown_draft}
use Rattle.asm_model.specs.Directives.{only_header, application_of, module_of, with_version, version_of, equate, entry_of, export_of, told, section_from, is_code, data_room, data_pieces, space_of}

-- ---- what a statement does to a draft

abbrev pub put_code : ℕ → Draft → Result Piece AsmKind → Result Draft AsmKind
put_code line d (Err kind) = Err kind
put_code line d (Ok p) = grown_draft d line (p ∷ []) (grown d.progress (code_words p) 0 0)

-- instructions stand behind the header and in `.code` alone
unfoldable pub take_instruction : ℕ → Draft → MnemonicForm → Width → List ℕ → Result Draft AsmKind
take_instruction line d f width rest =
    if is_some d.progress.header && is_code d.progress.section then put_code line d (instruction_of d.names f width (operands_of rest))
    else Err BadDirective

abbrev pub go_on : Draft → Result Progress AsmKind → Result Draft AsmKind
go_on d (Err kind) = Err kind
go_on d (Ok p) = Ok (with_progress d p)

abbrev pub define : Draft → Result (Name × Value) AsmKind → Result Draft AsmKind
define d (Err kind) = Err kind
define d (Ok entry) = Ok (with_name (with_progress d (with_version d.progress d.progress.version)) entry.0 entry.1)

abbrev pub tell : ℕ → Draft → Result Piece AsmKind → Result Draft AsmKind
tell line d (Err kind) = Err kind
tell line d (Ok p) = Ok (with_pieces (with_progress d (told d.progress p)) line (p ∷ []))

unfoldable pub take_data : ℕ → Draft → DataUnit → List (List ℕ) → Result Draft AsmKind
take_data line d u operands = grown_draft d line (data_pieces u d.names operands) (data_room u d.names d.progress operands)

unfoldable pub take_directive : ℕ → Draft → Directive → List ℕ → Result Draft AsmKind
take_directive line d directive.App rest = go_on d (only_header d.progress d.progress.header (application_of rest))
take_directive line d directive.Module rest = go_on d (only_header d.progress d.progress.header (module_of rest))
take_directive line d directive.Version rest = go_on d (version_of d.progress rest)
take_directive line d directive.Equ rest = define d (equate d.names (is_some d.progress.header && not d.progress.begun) rest)
take_directive line d directive.Entry rest = tell line d (entry_of d.names d.progress rest)
take_directive line d directive.Export rest = tell line d (export_of d.names d.progress rest)
take_directive line d directive.Code rest = go_on d (section_from d.progress section.Code rest)
take_directive line d directive.Data rest = go_on d (section_from d.progress section.Data rest)
take_directive line d directive.Zero rest = go_on d (section_from d.progress section.Zero rest)
take_directive line d directive.Word rest = take_data line d unit.Word (operands_of rest)
take_directive line d directive.Byte rest = take_data line d unit.Byte (operands_of rest)
take_directive line d directive.Space rest = go_on d (space_of d.progress rest)

abbrev pub take_keyword : ℕ → Draft → Option Keyword → List ℕ → Result Draft AsmKind
take_keyword line d None rest = Err UnknownWord
take_keyword line d (Some (keyword.Directive word)) rest = take_directive line d word rest
take_keyword line d (Some (keyword.Mnemonic f width)) rest = take_instruction line d f width rest

-- a statement, or none
unfoldable pub take_statement : ℕ → Draft → List ℕ → Result Draft AsmKind
take_statement line d text = if is_nil text then Ok d else take_keyword line d (keyword_of (first_word text)) (behind_word text)

-- ---- lines

-- a label stands for its place
abbrev pub with_label : Draft → List ℕ → Draft
with_label d word = with_name d (name_of word) (place_in d.progress.section d.progress)

-- a label and what stands behind it
unfoldable pub take_labelled : ℕ → Draft → List ℕ → List ℕ → Result Draft AsmKind
take_labelled line d word rest =
    if is_taken d.names word then Err DoubleLabel
    else if has_name_form word then take_statement line (with_label d word) rest
    else Err UnknownWord

-- a body: a line without its comment
unfoldable pub take_body : ℕ → Draft → List ℕ → Result Draft AsmKind
take_body line d body =
    if has_colon body then take_labelled line d (before_colon body) (behind_colon body)
    else take_statement line d body

-- the draft with a line, or the line's first fault
unfoldable pub take_line : ℕ → Draft → List ℕ → Result Draft AsmKind
take_line line d bytes = if list_all is_text_byte bytes then take_body line d (body_of bytes) else Err NotText

-- ---- all lines

-- a fault and its line
pub record Fault : Type 0 where
  pub line : ℕ
  pub kind : AsmKind

abbrev pub fault : ℕ → AsmKind → Fault
fault line kind = record { line = line; kind = kind }

-- what comes behind a line without fault, else the line's fault
abbrev pub behind_line : {X Y : Type 0} → ℕ → Result X AsmKind → (X → Result Y Fault) → Result Y Fault
behind_line line (Err kind) next = Err (fault line kind)
behind_line line (Ok x) next = next x

-- the draft of these lines behind another, or the first line with a fault; the lines are counted from this number on
abbrev pub first_pass : ℕ → List (List ℕ) → Draft → Result Draft Fault
first_pass line [] d = Ok d
first_pass line (bytes ∷ lines) d = behind_line line (take_line line d bytes) (λ next. first_pass (line + 1) lines next)
