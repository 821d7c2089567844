-- What the parts of the reader give.
use Rattle.std.specs.Prelude.{◌≡◌, ℕ, List, None, Result, Ok, Err}
use Rattle.object_form.specs.declared.head.Head.{Head}
use Rattle.object_form.specs.declared.reading.Parts.{Parts}
use Rattle.object_form.specs.declared.fault.FormFault.{FormFault}
use Rattle.code_model.specs.Fields.{Fields, fields_by}
use Rattle.object_form.specs.declared.layout.TheConstants.{CODE_COUNT_AT, ENTRY_AT, EXPORT_COUNT_AT, INIT_COUNT_AT, KIND_AT, RELOC_COUNT_AT, STACK_AT, THREADS_AT, VERSION_AT, ZEROED_AT}
use Rattle.object_form.specs.Reading.{byte_at, word_at, kind_of, fields_in}
use Rattle.object_form.specs.Faults.{Field, field_fault, first_fault, first_form_fault, Names}

-- a value where the field has no fault, else that fault
abbrev pub ReadsField : {X : Type 0} → List ℕ → Field → Result X FormFault → (X → Type 0) → Type 0
ReadsField t f (Ok x) P = (field_fault t f ≡ None) × P x
ReadsField t f (Err e) P = Names e (field_fault t f)

-- a value where these fields have no fault, else the first fault
abbrev pub ReadsFields : {X : Type 0} → List ℕ → List Field → Result X FormFault → (X → Type 0) → Type 0
ReadsFields t fs (Ok x) P = (first_fault t fs ≡ None) × P x
ReadsFields t fs (Err e) P = Names e (first_fault t fs)

-- these are the numbers of the head
pub record IsHead (t : List ℕ) (h : Head) : Type 0 where
  pub kind_is : h.kind ≡ kind_of (byte_at t KIND_AT)
  pub version_is : h.version ≡ byte_at t VERSION_AT
  pub code_is : h.code ≡ word_at t CODE_COUNT_AT
  pub init_is : h.init ≡ word_at t INIT_COUNT_AT
  pub zeroed_is : h.zeroed ≡ word_at t ZEROED_AT
  pub stack_is : h.stack ≡ word_at t STACK_AT
  pub threads_is : h.threads ≡ byte_at t THREADS_AT
  pub exports_is : h.exports ≡ byte_at t EXPORT_COUNT_AT
  pub entry_is : h.entry ≡ word_at t ENTRY_AT
  pub relocs_is : h.relocs ≡ word_at t RELOC_COUNT_AT

-- the fields that were read
abbrev pub fields_read : Parts → Fields
fields_read p = fields_by p.head.kind p.head.version p.code p.init p.head.zeroed p.head.stack p.head.threads p.head.entry p.relocs p.exports

-- what was read in a text without fault: its fields
pub record AreRead (t : List ℕ) (p : Parts) : Type 0 where
  pub none : first_form_fault t ≡ None
  pub same : fields_read p ≡ fields_in t
