-- The laws of objects' texts.
use Rattle.std.proofs.Common.{◌≡◌, ℕ, List, Option, None, refl, ap, sym, ◌∙◌}
use Rattle.code_model.specs.declared.object.Object.{Object}
use Rattle.object_form.specs.Spelling.{object_bytes}
use Rattle.code_model.specs.Fields.{Fields, fields, Meets}
use Rattle.object_form.specs.Reading.{fields_in}
use Rattle.object_form.specs.Faults.{Reason, first_form_fault, Names}
use Rattle.object_form.specs.declared.fault.FormFault.{FormFault}
use Rattle.object_form.specs.declared.fault.FormFault.TheVariants.{At, Memory}
use Rattle.object_form.proofs.FormRead.{AreBytes, meets-read}
use Rattle.object_form.proofs.TextRead.{text-read}
use Rattle.object_form.proofs.WrittenHolds.{written-has_no_fault, fields-written}

pub object-has_no_fault : (o : Object) → first_form_fault (object_bytes o) ≡ None
unfolding object_bytes
object-has_no_fault o = written-has_no_fault (fields o) o.form

-- the object of these fields
abbrev pub object_of : (f : Fields) → Meets f → Object
object_of f m = record { kind = f.kind; version = f.version; code = f.code; init = f.init; zeroed = f.zeroed; stack = f.stack; threads = f.threads; entry = f.entry; relocs = f.relocs; exports = f.exports; form = m }

pub fields-same_text : (a b : Object) → object_bytes a ≡ object_bytes b → fields a ≡ fields b
unfolding object_bytes
fields-same_text a b e = sym (fields-written (fields a)) ∙ ap fields_in e ∙ fields-written (fields b)

pub object-of_text : (t : List ℕ) → AreBytes t → first_form_fault t ≡ None → (o : Object) × (t ≡ object_bytes o)
unfolding object_bytes fields_in
object-of_text t small none = (object_of (fields_in t) (meets-read t small none), sym (text-read t small none))

-- no fault is named where there is none
pub only-memory : (e : FormFault) (found : Option Reason) → found ≡ None → Names e found → e ≡ Memory
only-memory Memory found none named = refl
only-memory (At k offset) found none named = absurd cc

pub object-fields : (o : Object) → fields_in (object_bytes o) ≡ fields o
unfolding object_bytes
object-fields o = fields-written (fields o)
