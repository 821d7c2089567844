-- What a source assembles to.
use Rattle.std.specs.Prelude.{◌≡◌, ℕ, ◌==◌, ◌&&◌, not, Bool, false, List, ◌++◌, Option, Some, None, Result, Ok, Err, if◌then◌else◌}
use Rattle.kernel_model.specs.declared.kinds.Kind.TheVariants as kinds
use Rattle.code_model.specs.declared.object.Object.{Object}
use Rattle.code_model.specs.Fields.{Fields, fields, fields_by}
use Rattle.asm_model.specs.declared.fault.AsmKind.TheVariants.{BadDirective}
use Rattle.asm_model.specs.declared.fault.AsmFault.{AsmFault}
use Rattle.asm_model.specs.declared.fault.AsmFault.TheVariants.{At, Memory}
use Rattle.asm_model.specs.declared.progress.Header.{Header}
use Rattle.asm_model.specs.declared.progress.Header.TheVariants as header
use Rattle.asm_model.specs.declared.progress.Version.{Version}
use Rattle.asm_model.specs.declared.progress.Version.TheVariants as version
use Rattle.asm_model.specs.declared.progress.Progress.{Progress}
use Rattle.asm_model.specs.Lines.{lines_of}
use Rattle.asm_model.specs.Drafts.{Draft, empty_draft}
use Rattle.asm_model.specs.FirstPass.{Fault, fault, first_pass}
use Rattle.asm_model.specs.SecondPass.{Output, known_by, empty_output, second_pass}

-- an application's entry or a module's first export is there
abbrev pub has_starts : Progress → Option Header → Bool
has_starts p None = false
has_starts p (Some (header.App stack threads)) = p.entered
has_starts p (Some header.Module) = not (p.least_export == 0)

-- a header, its starts and code are there
unfoldable pub is_whole : Progress → Bool
is_whole p = has_starts p p.header && not (p.code == 0)

abbrev pub version_number : Version → ℕ
version_number version.One = 1
version_number version.Two = 2

-- the object's fields
abbrev pub fields_for : Progress → Output → Option Header → Fields
fields_for p o None = fields_by kinds.Module (version_number p.version) o.code o.initialised p.zeroed 0 0 o.entry (o.code_relocs ++ o.data_relocs) o.exports
fields_for p o (Some (header.App stack threads)) = fields_by kinds.App (version_number p.version) o.code o.initialised p.zeroed stack threads o.entry (o.code_relocs ++ o.data_relocs) o.exports
fields_for p o (Some header.Module) = fields_by kinds.Module (version_number p.version) o.code o.initialised p.zeroed 0 0 o.entry (o.code_relocs ++ o.data_relocs) o.exports

abbrev pub with_output : Progress → Result Output Fault → Result Fields Fault
with_output p (Err f) = Err f
with_output p (Ok o) = Ok (fields_for p o p.header)

-- the second pass over a draft of all lines, where nothing is missing
abbrev pub with_draft : Result Draft Fault → Result Fields Fault
with_draft (Err f) = Err f
with_draft (Ok d) = if is_whole d.progress then with_output d.progress (second_pass (known_by d) d.pieces empty_output) else Err (fault 0 BadDirective)

-- the fields of the object that a source gives, or its first fault
unfoldable pub assembled : List ℕ → Result Fields Fault
assembled source = with_draft (first_pass 1 (lines_of source) empty_draft)

-- the object of a source, or exactly its first fault; or there was no memory
abbrev pub GivesObject : List ℕ → Result Object AsmFault → Type 0
GivesObject source (Ok o) = assembled source ≡ Ok (fields o)
GivesObject source (Err (At line kind)) = assembled source ≡ Err (fault line kind)
GivesObject source (Err Memory) = Unit {0}
