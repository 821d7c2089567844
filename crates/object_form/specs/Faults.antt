-- The first fault of a text that is no object's: its fields as a table, in order, and the first condition that fails.
use Rattle.std.specs.Prelude.{◌≡◌, ℕ, zero, suc, ◌+◌, ◌*◌, ◌%◌, ◌==◌, nat_lt, nat_le, Bool, List, [], ◌∷◌, ◌++◌, length, Option, Some, None, if◌then◌else◌}
use Rattle.kernel_model.specs.declared.kinds.Kind.{Kind}
use Rattle.kernel_model.specs.declared.kinds.Kind.TheVariants.{App, Module}
use Rattle.object_form.specs.declared.fault.FormKind.{FormKind}
use Rattle.object_form.specs.declared.fault.FormKind.TheVariants as kinds
use Rattle.object_form.specs.declared.fault.FormFault.{FormFault}
use Rattle.object_form.specs.declared.fault.FormFault.TheVariants.{At, Memory}
use Rattle.object_form.specs.Reading.{byte_at, word_at, kind_of, listed, init_start, relocs_start, exports_start, text_end}
use Rattle.code_model.specs.declared.object.TheConstants.{CODE_WORDS_MAX, EXPORT_NUMBER_MAX, EXPORTS_MAX, RELOCS_MAX, STACK_BYTES_MAX, STACK_BYTES_MIN, STATIC_BYTES_MAX, VERSION_MAX, VERSION_MIN}
use Rattle.kernel_model.specs.declared.map.TheConstants.{THREADS_OF_APP}
use Rattle.object_form.specs.declared.layout.TheConstants.{APP_NUMBER, CODE_COUNT_AT, CODE_SECTION, ENTRY_AT, EXPORT_COUNT_AT, HEAD_BYTES, INIT_COUNT_AT, INIT_SECTION, KIND_AT, MAGIC, MAGIC_AT, MAGIC_BYTES, MODULE_NUMBER, RECORD_BYTES, RECORD_KIND_AT, RECORD_OFFSET_AT, RELOC_CODE, RELOC_COUNT_AT, RELOC_DATA, RELOC_HI, STACK_AT, THREADS_AT, VERSION_AT, WORD_BYTES, ZEROED_AT}

-- what is wrong, and where
pub record Reason : Type 0 where
  pub kind : FormKind
  pub offset : ℕ

abbrev pub reason : FormKind → ℕ → Option Reason
reason kind offset = Some (record { kind = kind; offset = offset })

abbrev pub or_else : Option Reason → Option Reason → Option Reason
or_else None other = other
or_else (Some r) other = Some r

-- a condition, and what is wrong where it fails
pub record Check : Type 0 where
  pub holds : Bool
  pub kind : FormKind
  pub offset : ℕ

abbrev pub check : Bool → FormKind → ℕ → Check
check holds kind offset = record { holds = holds; kind = kind; offset = offset }

-- a field: its place, its bytes and its conditions in order
pub record Field : Type 0 where
  pub at : ℕ
  pub size : ℕ
  pub checks : List Check

abbrev pub field : ℕ → ℕ → List Check → Field
field at size checks = record { at = at; size = size; checks = checks }

-- the first of the conditions that fails
abbrev pub failing : List Check → Option Reason
failing [] = None
failing (c ∷ cs) = if c.holds then failing cs else reason c.kind c.offset

-- a field that isn't there in full is short, else its first condition that fails counts
abbrev pub field_fault : List ℕ → Field → Option Reason
field_fault t f = if nat_le (f.at + f.size) (length t) then failing f.checks else reason kinds.Short (length t)

-- the fault of the first field that has one
unfoldable pub first_fault : List ℕ → List Field → Option Reason
first_fault t [] = None
first_fault t (f ∷ fs) = or_else (field_fault t f) (first_fault t fs)

-- ---- the fields of the head

unfoldable pub magic_field : List ℕ → Field
magic_field t = field MAGIC_AT MAGIC_BYTES (check (byte_at t 0 == byte_at MAGIC 0) kinds.Magic MAGIC_AT ∷ check (byte_at t 1 == byte_at MAGIC 1) kinds.Magic MAGIC_AT ∷ check (byte_at t 2 == byte_at MAGIC 2) kinds.Magic MAGIC_AT ∷ check (byte_at t 3 == byte_at MAGIC 3) kinds.Magic MAGIC_AT ∷ [])

unfoldable pub version_field : List ℕ → Field
version_field t = field VERSION_AT 1 (check (nat_le VERSION_MIN (byte_at t VERSION_AT)) kinds.Version VERSION_AT ∷ check (nat_le (byte_at t VERSION_AT) VERSION_MAX) kinds.Version VERSION_AT ∷ [])

unfoldable pub kind_field : List ℕ → Field
kind_field t = field KIND_AT 1 (check (nat_le APP_NUMBER (byte_at t KIND_AT)) kinds.Kind KIND_AT ∷ check (nat_le (byte_at t KIND_AT) MODULE_NUMBER) kinds.Kind KIND_AT ∷ [])

unfoldable pub code_count_field : List ℕ → Field
code_count_field t =
    field CODE_COUNT_AT WORD_BYTES (check (nat_le 1 (word_at t CODE_COUNT_AT)) kinds.Limit CODE_COUNT_AT ∷ check (nat_le (word_at t CODE_COUNT_AT) CODE_WORDS_MAX) kinds.Limit CODE_COUNT_AT ∷ [])

unfoldable pub init_count_field : List ℕ → Field
init_count_field t = field INIT_COUNT_AT WORD_BYTES (check (nat_le (word_at t INIT_COUNT_AT) STATIC_BYTES_MAX) kinds.Limit INIT_COUNT_AT ∷ [])

unfoldable pub zeroed_field : List ℕ → Field
zeroed_field t = field ZEROED_AT WORD_BYTES (check (nat_le (word_at t INIT_COUNT_AT + word_at t ZEROED_AT) STATIC_BYTES_MAX) kinds.Limit ZEROED_AT ∷ [])

-- an application's stack is even, and in its limits; a module has none
abbrev pub stack_checks : Kind → ℕ → List Check
stack_checks App n = check (n % 2 == 0) kinds.Limit STACK_AT ∷ check (nat_le STACK_BYTES_MIN n) kinds.Limit STACK_AT ∷ check (nat_le n STACK_BYTES_MAX) kinds.Limit STACK_AT ∷ []
stack_checks Module n = check (n == 0) kinds.Limit STACK_AT ∷ []

unfoldable pub stack_field : List ℕ → Field
stack_field t = field STACK_AT WORD_BYTES (stack_checks (kind_of (byte_at t KIND_AT)) (word_at t STACK_AT))

abbrev pub thread_checks : Kind → ℕ → List Check
thread_checks App n = check (nat_le 1 n) kinds.Limit THREADS_AT ∷ check (nat_le n THREADS_OF_APP) kinds.Limit THREADS_AT ∷ []
thread_checks Module n = check (n == 0) kinds.Limit THREADS_AT ∷ []

unfoldable pub threads_field : List ℕ → Field
threads_field t = field THREADS_AT 1 (thread_checks (kind_of (byte_at t KIND_AT)) (byte_at t THREADS_AT))

abbrev pub export_count_checks : Kind → ℕ → List Check
export_count_checks App n = check (n == 0) kinds.Limit EXPORT_COUNT_AT ∷ []
export_count_checks Module n = check (nat_le 1 n) kinds.Limit EXPORT_COUNT_AT ∷ check (nat_le n EXPORTS_MAX) kinds.Limit EXPORT_COUNT_AT ∷ []

unfoldable pub export_count_field : List ℕ → Field
export_count_field t = field EXPORT_COUNT_AT 1 (export_count_checks (kind_of (byte_at t KIND_AT)) (byte_at t EXPORT_COUNT_AT))

-- an application's entry is even and in the code of so many bytes; a module's is 0
abbrev pub entry_checks : Kind → ℕ → ℕ → List Check
entry_checks App code n = check (n % 2 == 0) kinds.Place ENTRY_AT ∷ check (nat_lt n code) kinds.Place ENTRY_AT ∷ []
entry_checks Module code n = check (n == 0) kinds.Place ENTRY_AT ∷ []

unfoldable pub entry_field : List ℕ → Field
entry_field t = field ENTRY_AT WORD_BYTES (entry_checks (kind_of (byte_at t KIND_AT)) (WORD_BYTES * word_at t CODE_COUNT_AT) (word_at t ENTRY_AT))

unfoldable pub reloc_count_field : List ℕ → Field
reloc_count_field t = field RELOC_COUNT_AT WORD_BYTES (check (nat_le (word_at t RELOC_COUNT_AT) RELOCS_MAX) kinds.Limit RELOC_COUNT_AT ∷ [])

abbrev pub head_fields : List ℕ → List Field
head_fields t = magic_field t ∷ version_field t ∷ kind_field t ∷ code_count_field t ∷ init_count_field t ∷ zeroed_field t ∷ stack_field t ∷ threads_field t ∷ export_count_field t ∷ entry_field t ∷ reloc_count_field t ∷ []

-- ---- the fields behind the head

-- the code words, and the initialised bytes: any
abbrev pub part_fields : List ℕ → List Field
part_fields t = field HEAD_BYTES (WORD_BYTES * word_at t CODE_COUNT_AT) [] ∷ field (init_start t) (word_at t INIT_COUNT_AT) [] ∷ []

-- what orders relocations: the section, then the offset
abbrev pub key_at : List ℕ → ℕ → ℕ
key_at t p = 65536 * byte_at t p + word_at t (p + RECORD_OFFSET_AT)

-- a relocation's kind is at most this in a section
abbrev pub greatest_kind : ℕ → ℕ
greatest_kind section = if section == CODE_SECTION then RELOC_HI else RELOC_DATA

-- the bytes of a section
abbrev pub section_size : List ℕ → ℕ → ℕ
section_size t section = if section == CODE_SECTION then WORD_BYTES * word_at t CODE_COUNT_AT else word_at t INIT_COUNT_AT

-- a relocation at a place, whose key has to be this or greater
unfoldable pub reloc_field : List ℕ → ℕ → ℕ → Field
reloc_field t p least = field p RECORD_BYTES (
    check (nat_le (byte_at t p) INIT_SECTION) kinds.Place p ∷
    check (nat_le RELOC_CODE (byte_at t (p + RECORD_KIND_AT))) kinds.Kind (p + RECORD_KIND_AT) ∷
    check (nat_le (byte_at t (p + RECORD_KIND_AT)) (greatest_kind (byte_at t p))) kinds.Kind (p + RECORD_KIND_AT) ∷
    check (word_at t (p + RECORD_OFFSET_AT) % 2 == 0) kinds.Place (p + RECORD_OFFSET_AT) ∷
    check (nat_le (word_at t (p + RECORD_OFFSET_AT) + WORD_BYTES) (section_size t (byte_at t p))) kinds.Place (p + RECORD_OFFSET_AT) ∷
    check (nat_le least (key_at t p)) kinds.Order (p + RECORD_OFFSET_AT) ∷ [])

-- more than the key of the relocation before, for relocation k of those that begin at a place
unfoldable pub least_key : List ℕ → ℕ → ℕ → ℕ
least_key t start zero = 0
least_key t start (suc j) = key_at t (start + RECORD_BYTES * j) + 1

abbrev pub reloc_fields : List ℕ → ℕ → ℕ → List Field
reloc_fields t start n = listed n (λ k. reloc_field t (start + RECORD_BYTES * k) (least_key t start k))

-- an export at a place, whose number has to be this or greater
unfoldable pub export_field : List ℕ → ℕ → ℕ → Field
export_field t p least = field p RECORD_BYTES (
    check (nat_le (byte_at t p) EXPORT_NUMBER_MAX) kinds.Limit p ∷
    check (nat_le least (byte_at t p)) kinds.Order p ∷
    check (byte_at t (p + RECORD_KIND_AT) == 0) kinds.Place (p + RECORD_KIND_AT) ∷
    check (word_at t (p + RECORD_OFFSET_AT) % 2 == 0) kinds.Place (p + RECORD_OFFSET_AT) ∷
    check (nat_lt (word_at t (p + RECORD_OFFSET_AT)) (WORD_BYTES * word_at t CODE_COUNT_AT)) kinds.Place (p + RECORD_OFFSET_AT) ∷ [])

-- more than the number of the export before
unfoldable pub least_number : List ℕ → ℕ → ℕ → ℕ
least_number t start zero = 0
least_number t start (suc j) = byte_at t (start + RECORD_BYTES * j) + 1

abbrev pub export_fields : List ℕ → ℕ → ℕ → List Field
export_fields t start n = listed n (λ k. export_field t (start + RECORD_BYTES * k) (least_number t start k))

-- ---- the whole

unfoldable pub fields_of_text : List ℕ → List Field
fields_of_text t = head_fields t ++ part_fields t ++ reloc_fields t (relocs_start t) (word_at t RELOC_COUNT_AT) ++ export_fields t (exports_start t) (byte_at t EXPORT_COUNT_AT)

-- bytes behind the last field
abbrev pub trailing : List ℕ → Option Reason
trailing t = if nat_le (length t) (text_end t) then None else reason kinds.Trailing (text_end t)

-- the first fault of a text, or none
unfoldable pub first_form_fault : List ℕ → Option Reason
first_form_fault t = or_else (first_fault t (fields_of_text t)) (trailing t)

-- want of memory, or exactly this fault
abbrev pub Names : FormFault → Option Reason → Type 0
Names Memory found = Unit {0}
Names (At kind offset) found = found ≡ reason kind offset
