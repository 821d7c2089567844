-- Objects of the same fields.
use Rattle.std.proofs.Common.{◌≡◌, ap, subst}
use Rattle.std.proofs.Props.{props}
use Rattle.code_model.specs.declared.object.Object.{Object}
use Rattle.code_model.specs.Fields.{Fields, fields, Meets}

-- to meet the form is one fact at most
meets_once : (f : Fields) (m n : Meets f) → m ≡ n
meets_once f =
    let once : IsProp (Meets f) = hlevel props in
    once

-- the object of these fields
object_of : (f : Fields) → Meets f → Object
object_of f m = record { kind = f.kind; version = f.version; code = f.code; init = f.init; zeroed = f.zeroed; stack = f.stack; threads = f.threads; entry = f.entry; relocs = f.relocs; exports = f.exports; form = m }

pub same_object : (a b : Object) → fields a ≡ fields b → a ≡ b
unfolding object_of
same_object a b e =
    let P : Fields → Type 0 = λ f. (m : Meets f) → a ≡ object_of f m in
    let here : P (fields a) = λ m. ap (object_of (fields a)) (meets_once (fields a) a.form m) in
    subst P e here b.form
