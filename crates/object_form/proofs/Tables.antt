-- A table of fields has no fault exactly where each condition holds: both ways, one field at a time.
use Rattle.std.proofs.Common.{◌≡◌, ℕ, ◌+◌, ◌≤◌, Bool, true, false, cond, List, [], ◌∷◌, length, Option, Some, None, refl, ap, ◌∙◌}
use Rattle.std.proofs.lemmas.Bool.{leb-true, le-leb}
use Rattle.std.specs.Prelude.{nat_le}
use Rattle.object_form.specs.declared.fault.FormKind.TheVariants as kinds
use Rattle.object_form.specs.Faults.{Reason, reason, or_else, Check, Field, failing, field_fault, first_fault}

cond-none : (b : Bool) (rest : Option Reason) (r : Reason) → cond b rest (Some r) ≡ None → (b ≡ true) × (rest ≡ None)
cond-none true rest r e = (refl, e)
cond-none false rest r e = absurd cc

pub or_else-parts : (a b : Option Reason) → or_else a b ≡ None → (a ≡ None) × (b ≡ None)
or_else-parts None b e = (refl, e)
or_else-parts (Some r) b e = absurd cc

pub or_else-both : (a b : Option Reason) → a ≡ None → b ≡ None → or_else a b ≡ None
or_else-both a b p q = ap (λ (x : Option Reason). or_else x b) p ∙ q

-- each condition holds
abbrev pub EachHolds : List Check → Type 0
EachHolds [] = Unit {0}
EachHolds (c ∷ cs) = (c.holds ≡ true) × EachHolds cs

pub each-given : (cs : List Check) → failing cs ≡ None → EachHolds cs
each-given [] e = tt
each-given (c ∷ cs) e =
    let p = cond-none c.holds (failing cs) (record { kind = c.kind; offset = c.offset }) e in
    (p.0, each-given cs p.1)

pub each-holds : (cs : List Check) → EachHolds cs → failing cs ≡ None
each-holds [] h = refl
each-holds (c ∷ cs) h = ap (λ (b : Bool). cond b (failing cs) (reason c.kind c.offset)) h.0 ∙ each-holds cs h.1

-- the field is there in full, and each of its conditions holds
abbrev pub FieldHolds : List ℕ → Field → Type 0
FieldHolds t f = (f.at + f.size ≤ length t) × EachHolds f.checks

pub field-given : (t : List ℕ) (f : Field) → field_fault t f ≡ None → FieldHolds t f
field-given t f e =
    let p = cond-none (nat_le (f.at + f.size) (length t)) (failing f.checks) (record { kind = kinds.Short; offset = length t }) e in
    (leb-true (f.at + f.size) (length t) p.0, each-given f.checks p.1)

pub field-holds : (t : List ℕ) (f : Field) → FieldHolds t f → field_fault t f ≡ None
field-holds t f h = ap (λ (b : Bool). cond b (failing f.checks) (reason kinds.Short (length t))) (le-leb (f.at + f.size) (length t) h.0) ∙ each-holds f.checks h.1

-- the same of each field of a list
abbrev pub FieldsHold : List ℕ → List Field → Type 0
FieldsHold t [] = Unit {0}
FieldsHold t (f ∷ fs) = FieldHolds t f × FieldsHold t fs

pub fields-given : (t : List ℕ) (fs : List Field) → first_fault t fs ≡ None → FieldsHold t fs
unfolding first_fault
fields-given t [] e = tt
fields-given t (f ∷ fs) e =
    let p = or_else-parts (field_fault t f) (first_fault t fs) e in
    (field-given t f p.0, fields-given t fs p.1)

pub fields-hold : (t : List ℕ) (fs : List Field) → FieldsHold t fs → first_fault t fs ≡ None
unfolding first_fault
fields-hold t [] h = refl
fields-hold t (f ∷ fs) h = or_else-both (field_fault t f) (first_fault t fs) (field-holds t f h.0) (fields-hold t fs h.1)
