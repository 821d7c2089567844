-- What an object's form asks of its fields.
use Rattle.std.specs.Prelude.{◌≡◌, ℕ, ◌+◌, ◌*◌, ◌%◌, ◌<◌, ◌≤◌, List, length, true, false, slice_index, slice_index_or, if◌then◌else◌}
use Rattle.kernel_model.specs.declared.kinds.Kind.{Kind}
use Rattle.kernel_model.specs.declared.kinds.Kind.TheVariants.{App, Module}
use Rattle.code_model.specs.declared.object.TheConstants.{CODE_WORDS_MAX, EXPORTS_MAX, EXPORT_NUMBER_MAX, RELOCS_MAX, STACK_BYTES_MAX, STACK_BYTES_MIN, STATIC_BYTES_MAX, VERSION_MAX, VERSION_MIN}
use Rattle.kernel_model.specs.declared.map.TheConstants.{THREADS_OF_APP}
use Rattle.code_model.specs.declared.parts.RelKind.{RelKind}
use Rattle.code_model.specs.declared.parts.RelKind.TheVariants.{Code, Data, Lo, Hi}
use Rattle.code_model.specs.declared.parts.Reloc.{Reloc}
use Rattle.code_model.specs.declared.parts.Export.{Export}

-- the number of a relocation's kind in the text
abbrev pub kind_code : RelKind → ℕ
kind_code Code = 1
kind_code Data = 2
kind_code Lo = 3
kind_code Hi = 4

-- relocations of code come before those of initialised bytes
abbrev pub key : Reloc → ℕ
key r = if r.in_code then r.offset else r.offset + 65536

-- each key is less than those behind it
abbrev pub InOrder : List Reloc → Type 0
InOrder relocs = (j k : ℕ) (d : Reloc) → j < k → k < length relocs → key (slice_index_or relocs j d) < key (slice_index_or relocs k d)

-- each number is less than those behind it
abbrev pub NumbersRise : List Export → Type 0
NumbersRise exports = (j k : ℕ) (d : Export) → j < k → k < length exports → (slice_index_or exports j d).number < (slice_index_or exports k d).number

-- an even offset below the code's end
pub record IsInCode (code : List ℕ) (offset : ℕ) : Type 0 where
  pub even : offset % 2 ≡ 0
  pub below : offset < 2 * length code

-- the word of a relocation lies whole in its section, and the section takes its kind
pub record RelocFits (code init : List ℕ) (r : Reloc) : Type 0 where
  pub even : r.offset % 2 ≡ 0
  pub in_code : r.in_code ≡ true → r.offset < 2 * length code
  pub in_init : r.in_code ≡ false → r.offset + 2 ≤ length init
  pub init_kind : r.in_code ≡ false → kind_code r.kind ≤ 2

-- what an application's fields are
pub record AppForm (code : List ℕ) (stack threads entry : ℕ) (exports : List Export) : Type 0 where
  pub stack_even : stack % 2 ≡ 0
  pub stack_least : STACK_BYTES_MIN ≤ stack
  pub stack_most : stack ≤ STACK_BYTES_MAX
  pub threads_least : 1 ≤ threads
  pub threads_most : threads ≤ THREADS_OF_APP
  pub no_exports : length exports ≡ 0
  pub entry_in_code : IsInCode code entry

-- what a module's fields are
pub record ModuleForm (stack threads entry : ℕ) (exports : List Export) : Type 0 where
  pub no_stack : stack ≡ 0
  pub no_threads : threads ≡ 0
  pub entry_zero : entry ≡ 0
  pub exports_least : 1 ≤ length exports
  pub exports_most : length exports ≤ EXPORTS_MAX

pub record MeetsForm (kind : Kind) (version : ℕ) (code init : List ℕ) (zeroed stack threads entry : ℕ) (relocs : List Reloc) (exports : List Export) : Type 0 where
  pub version_least : VERSION_MIN ≤ version
  pub version_most : version ≤ VERSION_MAX
  pub code_least : 1 ≤ length code
  pub code_most : length code ≤ CODE_WORDS_MAX
  pub static_most : length init + zeroed ≤ STATIC_BYTES_MAX
  pub app : kind ≡ App → AppForm code stack threads entry exports
  pub of_module : kind ≡ Module → ModuleForm stack threads entry exports
  pub relocs_most : length relocs ≤ RELOCS_MAX
  pub relocs_fit : (k : ℕ) (d : Reloc) → k < length relocs → RelocFits code init (slice_index_or relocs k d)
  pub relocs_rise : InOrder relocs
  pub exports_fit : (k : ℕ) (d : Export) → k < length exports → IsInCode code (slice_index_or exports k d).offset
  pub exports_small : (k : ℕ) (d : Export) → k < length exports → (slice_index_or exports k d).number ≤ EXPORT_NUMBER_MAX
  pub exports_rise : NumbersRise exports
  -- each word has 16 bits, and each byte 8
  pub words_small : (k : ℕ) → slice_index code k < 65536
  pub bytes_small : (k : ℕ) → slice_index init k < 256
