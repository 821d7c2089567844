-- The fields of an object.
use Rattle.std.specs.Prelude.{ℕ, List}
use Rattle.kernel_model.specs.declared.kinds.Kind.{Kind}
use Rattle.code_model.specs.declared.parts.Reloc.{Reloc}
use Rattle.code_model.specs.declared.parts.Export.{Export}
use Rattle.code_model.specs.declared.object.Object.{Object}
use Rattle.code_model.specs.Form.{MeetsForm}

-- an object's fields, without the fact that they meet the form
pub record Fields : Type 0 where
  pub kind : Kind
  pub version : ℕ
  pub code : List ℕ
  pub init : List ℕ
  pub zeroed : ℕ
  pub stack : ℕ
  pub threads : ℕ
  pub entry : ℕ
  pub relocs : List Reloc
  pub exports : List Export

abbrev pub fields_by : Kind → ℕ → List ℕ → List ℕ → ℕ → ℕ → ℕ → ℕ → List Reloc → List Export → Fields
fields_by kind version code init zeroed stack threads entry relocs exports = record { kind = kind; version = version; code = code; init = init; zeroed = zeroed; stack = stack; threads = threads; entry = entry; relocs = relocs; exports = exports }

abbrev pub fields : Object → Fields
fields o = record { kind = o.kind; version = o.version; code = o.code; init = o.init; zeroed = o.zeroed; stack = o.stack; threads = o.threads; entry = o.entry; relocs = o.relocs; exports = o.exports }

-- these fields meet the form
abbrev pub Meets : Fields → Type 0
Meets f = MeetsForm f.kind f.version f.code f.init f.zeroed f.stack f.threads f.entry f.relocs f.exports
