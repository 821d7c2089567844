-- What is named, as marks.
use Rattle.std.specs.Prelude.{◌↔◌, ℕ, ◌*◌, ◌<◌, ◌⊎◌, ◌==◌, ◌&&◌, IsTrue, List}
use Rattle.std.specs.List.{Any}
use Rattle.kernel_model.specs.Bitmap.{Has}
use Rattle.code_model.specs.declared.object.TheConstants.{CODE_WORDS_MAX}
use Rattle.code_model.specs.declared.object.Object.{Object}
use Rattle.code_model.specs.declared.parts.Export.{Export}
use Rattle.code_model.specs.declared.parts.Reloc.{Reloc}
use Rattle.code_model.specs.Fields.{Fields, fields}
use Rattle.insert_model.specs.declared.line.Line.{Line}
use Rattle.insert_model.specs.Groups.{jumps_to, is_code, relocated_word, is_target}

-- the offsets of a set are marked beside those that were, as far as code goes
pub record AreAdded (old new : List ℕ) (P : ℕ → Type 0) : Type 0 where
  pub each : (k : ℕ) → k < CODE_WORDS_MAX → Has new k ↔ (Has old k ⊎ P (2 * k))

abbrev pub JumpsTo : Line → ℕ → Type 0
JumpsTo l x = IsTrue (jumps_to x l.at l.instr)

unfoldable pub SomeJumpTo : List Line → ℕ → Type 0
SomeJumpTo ls x = Any (λ (l : Line). JumpsTo l x) ls

abbrev pub Relocates : Fields → Reloc → ℕ → Type 0
Relocates f r x = IsTrue (is_code r.kind && (relocated_word f r == x))

unfoldable pub SomeRelocate : Fields → List Reloc → ℕ → Type 0
SomeRelocate f rs x = Any (λ (r : Reloc). Relocates f r x) rs

abbrev pub Exports : Export → ℕ → Type 0
Exports e x = IsTrue (e.offset == x)

unfoldable pub SomeExport : List Export → ℕ → Type 0
SomeExport es x = Any (λ (e : Export). Exports e x) es

-- the marks are the targets
pub record AreTargets (o : Object) (marks : List ℕ) : Type 0 where
  pub each : (k : ℕ) → k < CODE_WORDS_MAX → Has marks k ↔ IsTrue (is_target (fields o) (2 * k))
