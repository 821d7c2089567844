-- The fields that stand in a text, each read at its place.
use Rattle.std.specs.Prelude.{ℕ, zero, suc, ◌+◌, ◌*◌, ◌==◌, List, [], ◌∷◌, ◌++◌, slice_index, if◌then◌else◌}
use Rattle.kernel_model.specs.declared.kinds.Kind.{Kind}
use Rattle.kernel_model.specs.declared.kinds.Kind.TheVariants.{App, Module}
use Rattle.code_model.specs.declared.parts.RelKind.{RelKind}
use Rattle.code_model.specs.declared.parts.RelKind.TheVariants.{Code, Data, Lo, Hi}
use Rattle.code_model.specs.declared.parts.Reloc.{Reloc}
use Rattle.code_model.specs.declared.parts.Export.{Export}
use Rattle.code_model.specs.Fields.{Fields}
use Rattle.object_form.specs.declared.layout.TheConstants.{APP_NUMBER, CODE_COUNT_AT, CODE_SECTION, ENTRY_AT, EXPORT_COUNT_AT, HEAD_BYTES, INIT_COUNT_AT, KIND_AT, RECORD_BYTES, RECORD_KIND_AT, RECORD_OFFSET_AT, RELOC_CODE, RELOC_COUNT_AT, RELOC_DATA, RELOC_LO, STACK_AT, THREADS_AT, VERSION_AT, WORD_BYTES, ZEROED_AT}

-- the byte at a place of the text, 0 past its end
abbrev pub byte_at : List ℕ → ℕ → ℕ
byte_at t p = slice_index t p

-- the word whose low byte stands at a place
abbrev pub word_at : List ℕ → ℕ → ℕ
word_at t p = slice_index t p + 256 * slice_index t (p + 1)

abbrev pub kind_of : ℕ → Kind
kind_of n = if n == APP_NUMBER then App else Module

abbrev pub rel_kind_of : ℕ → RelKind
rel_kind_of n = if n == RELOC_CODE then Code else if n == RELOC_DATA then Data else if n == RELOC_LO then Lo else Hi

abbrev pub reloc_at : List ℕ → ℕ → Reloc
reloc_at t p = record { in_code = byte_at t p == CODE_SECTION; kind = rel_kind_of (byte_at t (p + RECORD_KIND_AT)); offset = word_at t (p + RECORD_OFFSET_AT) }

abbrev pub export_at : List ℕ → ℕ → Export
export_at t p = record { number = byte_at t p; offset = word_at t (p + RECORD_OFFSET_AT) }

-- the first n values of a function of the place
unfoldable pub listed : {A : Type 0} → ℕ → (ℕ → A) → List A
listed zero f = []
listed (suc n) f = listed n f ++ f n ∷ []

-- where the parts begin behind the head, and where the text ends
abbrev pub init_start : List ℕ → ℕ
init_start t = HEAD_BYTES + WORD_BYTES * word_at t CODE_COUNT_AT

abbrev pub relocs_start : List ℕ → ℕ
relocs_start t = init_start t + word_at t INIT_COUNT_AT

abbrev pub exports_start : List ℕ → ℕ
exports_start t = relocs_start t + RECORD_BYTES * word_at t RELOC_COUNT_AT

abbrev pub text_end : List ℕ → ℕ
text_end t = exports_start t + RECORD_BYTES * byte_at t EXPORT_COUNT_AT

-- n words, bytes, relocations and exports from a place on
abbrev pub words_from : List ℕ → ℕ → ℕ → List ℕ
words_from t start n = listed n (λ k. word_at t (start + WORD_BYTES * k))

abbrev pub bytes_from : List ℕ → ℕ → ℕ → List ℕ
bytes_from t start n = listed n (λ k. byte_at t (start + k))

abbrev pub relocs_from : List ℕ → ℕ → ℕ → List Reloc
relocs_from t start n = listed n (λ k. reloc_at t (start + RECORD_BYTES * k))

abbrev pub exports_from : List ℕ → ℕ → ℕ → List Export
exports_from t start n = listed n (λ k. export_at t (start + RECORD_BYTES * k))

unfoldable pub fields_in : List ℕ → Fields
fields_in t = record {
  kind = kind_of (byte_at t KIND_AT);
  version = byte_at t VERSION_AT;
  code = words_from t HEAD_BYTES (word_at t CODE_COUNT_AT);
  init = bytes_from t (init_start t) (word_at t INIT_COUNT_AT);
  zeroed = word_at t ZEROED_AT;
  stack = word_at t STACK_AT;
  threads = byte_at t THREADS_AT;
  entry = word_at t ENTRY_AT;
  relocs = relocs_from t (relocs_start t) (word_at t RELOC_COUNT_AT);
  exports = exports_from t (exports_start t) (byte_at t EXPORT_COUNT_AT);
}
