-- The one text of an object.
use Rattle.std.specs.Prelude.{ℕ, ◌%◌, ◌/◌, List, [], ◌∷◌, ◌++◌, length, Bool, true, false}
use Rattle.std.specs.List.{flat_map}
use Rattle.kernel_model.specs.declared.kinds.Kind.{Kind}
use Rattle.kernel_model.specs.declared.kinds.Kind.TheVariants.{App, Module}
use Rattle.code_model.specs.declared.parts.Reloc.{Reloc}
use Rattle.code_model.specs.declared.parts.Export.{Export}
use Rattle.code_model.specs.declared.object.Object.{Object}
use Rattle.code_model.specs.Form.{kind_code}
use Rattle.object_form.specs.declared.layout.TheConstants.{APP_NUMBER, CODE_SECTION, INIT_SECTION, MAGIC, MODULE_NUMBER}
use Rattle.code_model.specs.Fields.{Fields, fields}

-- a word, its low byte first
abbrev pub word_bytes : ℕ → List ℕ
word_bytes w = w % 256 ∷ w / 256 ∷ []

abbrev pub kind_number : Kind → ℕ
kind_number App = APP_NUMBER
kind_number Module = MODULE_NUMBER

-- the number of a relocation's section
abbrev pub section_number : Bool → ℕ
section_number true = CODE_SECTION
section_number false = INIT_SECTION

abbrev pub reloc_bytes : Reloc → List ℕ
reloc_bytes r = section_number r.in_code ∷ kind_code r.kind ∷ word_bytes r.offset

abbrev pub export_bytes : Export → List ℕ
export_bytes e = e.number ∷ 0 ∷ word_bytes e.offset

-- the magic bytes, the version and the kind
abbrev pub start_bytes : Fields → List ℕ
start_bytes f = MAGIC ++ f.version ∷ kind_number f.kind ∷ []

-- how many code words, initialised and zeroed bytes there are
abbrev pub size_bytes : Fields → List ℕ
size_bytes f = word_bytes (length f.code) ++ word_bytes (length f.init) ++ word_bytes f.zeroed

-- the stack, the threads, how many exports, the entry, how many relocations
abbrev pub run_bytes : Fields → List ℕ
run_bytes f = word_bytes f.stack ++ f.threads ∷ length f.exports ∷ word_bytes f.entry ++ word_bytes (length f.relocs)

-- the head, the bytes before the code
abbrev pub head_bytes : Fields → List ℕ
head_bytes f = start_bytes f ++ size_bytes f ++ run_bytes f

-- the text of these fields
abbrev pub text_of : Fields → List ℕ
text_of f = head_bytes f ++ (flat_map word_bytes f.code ++ (f.init ++ (flat_map reloc_bytes f.relocs ++ flat_map export_bytes f.exports)))

-- the one text of an object
unfoldable pub object_bytes : Object → List ℕ
object_bytes o = text_of (fields o)
