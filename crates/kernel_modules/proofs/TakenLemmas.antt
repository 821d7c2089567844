-- The functions of a module that another one has exported: the least of them, or none; and what a refusal is.
use Rattle.std.proofs.Common.{◌≡◌, ℕ, zero, suc, ◌<◌, ◌≤◌, Bool, true, false, cond, List, [], ◌∷◌, length, get_or, map, refl, sym, ap, ◌∙◌, subst, Option, None, Some, inl, inr, arith}
use Rattle.std.specs.Prelude.{◌==◌, Result, Ok, Err, IfErr, OnOk}
use Rattle.std.specs.List.{Contains, find}
use Rattle.std.proofs.lemmas.Bool.{cases_Bool, cond-true, cond-false, eqb-true, eqb-false}
use Rattle.code_model.specs.declared.object.Object.{Object}
use Rattle.code_model.specs.declared.parts.Export.{Export}
use Rattle.code_model.specs.Form.{NumbersRise}
use Rattle.kernel_model.specs.declared.kinds.Kind.{Kind}
use Rattle.kernel_model.specs.declared.kinds.Kind.TheVariants.{Module}
use Rattle.kernel_model.specs.Kernel.{Kernel, function_at}
use Rattle.kernel_model.specs.Words.{none}
use Rattle.load_model.specs.Domains.{code_length, region_length}
use Rattle.load_model.specs.Loading.{taken_number, unless_taken}
use Rattle.place_model.specs.declared.places.DomainRow.{DomainRow}
use Rattle.place_model.specs.declared.places.NoRoom.{NoRoom}
use Rattle.place_model.specs.declared.places.NoRoom.TheVariants.{Slots, Code as NoCode, Region as NoRegion, Taken}
use Rattle.place_model.specs.declared.places.Regions.{Regions}
use Rattle.place_model.specs.Placing.{domain_rows, first_number, number_count, free_from, placing, HasNumber, IsLeastFree, IsPlacing, IsRefusal}
use Rattle.kernel_modules.specs.Refusals.{IsTaken, NoneTaken, IsLeastTaken, IsModuleRefusal}
use Rattle.kernel_modules.proofs.FunctionLemmas.{is_exported, number_of_export}

-- ---- one function

when_true : (b : Bool) → cond b false true ≡ true → b ≡ false
when_true true h = sym h
when_true false h = refl

when_false : (b : Bool) → cond b false true ≡ false → b ≡ true
when_false true h = refl
when_false false h = sym h

is_taken : (k : Kernel) (f : ℕ) → is_exported k f ≡ true → IsTaken k f
is_taken k f h = eqb-false (function_at k f).module none (when_true ((function_at k f).module == none) h)

not_taken : (k : Kernel) (f : ℕ) → is_exported k f ≡ false → (function_at k f).module ≡ none
not_taken k f h = eqb-true (function_at k f).module none (when_false ((function_at k f).module == none) h)

-- ---- the functions of a list

some_number : Option ℕ → ℕ
some_number (Some n) = n
some_number None = 0

is_some : Option ℕ → Type 0
is_some (Some n) = Unit
is_some None = ⊥

number_is : (n f : ℕ) → Some n ≡ Some f → n ≡ f
unfolding some_number
number_is n f e = ap some_number e

some_none : (n : ℕ) → Some n ≡ None → ⊥
unfolding is_some
some_none n e = subst is_some e tt

taken_in : Kernel → List Export → Option ℕ
taken_in k es = find (is_exported k) (map number_of_export es)

none_some : (k : Kernel) (f : ℕ) → taken_in k [] ≡ Some f → ⊥
unfolding taken_in is_some
none_some k f h = subst is_some (sym h) tt

here : (k : Kernel) (e : Export) (es : List Export) → is_exported k e.number ≡ true → taken_in k (e ∷ es) ≡ Some e.number
unfolding taken_in
here k e es h = cond-true (is_exported k e.number) (Some e.number) (find (is_exported k) (map number_of_export es)) h

beyond : (k : Kernel) (e : Export) (es : List Export) → is_exported k e.number ≡ false → taken_in k (e ∷ es) ≡ taken_in k es
unfolding taken_in
beyond k e es h = cond-false (is_exported k e.number) (Some e.number) (find (is_exported k) (map number_of_export es)) h

rest_rises : (e : Export) (es : List Export) → NumbersRise (e ∷ es) → NumbersRise es
rest_rises e es h j k d a b = h (suc j) (suc k) d (omega arith) (omega arith)

-- a function of the list, that a module has exported, and no lesser one of the list is
record LeastIn (k : Kernel) (es : List Export) (f : ℕ) : Type 0 where
  export : Export
  own : Contains es export
  number : export.number ≡ f
  taken : IsTaken k f
  least : (e : Export) → Contains es e → IsTaken k e.number → f ≤ e.number

first_least : (k : Kernel) (x : Export) (es : List Export) → NumbersRise (x ∷ es) → (e : Export) (j : ℕ) → j < length (x ∷ es)
    → get_or (x ∷ es) j e ≡ e → x.number ≤ e.number
first_least k x es rise e zero b is = let same : x.number ≡ e.number = ap number_of_export is in omega arith
first_least k x es rise e (suc j) b is =
    let less : x.number < (get_or es j e).number = rise 0 (suc j) e (omega arith) b in
    let same : (get_or es j e).number ≡ e.number = ap number_of_export is in
    omega arith

later_least : (k : Kernel) (x : Export) (es : List Export) (f : ℕ) → is_exported k x.number ≡ false
    → ((e : Export) → Contains es e → IsTaken k e.number → f ≤ e.number) → (e : Export) (j : ℕ) → j < length (x ∷ es)
    → get_or (x ∷ es) j e ≡ e → IsTaken k e.number → f ≤ e.number
later_least k x es f isnt least e zero b is taken = absurd (taken (ap (λ (y : Export). (function_at k y.number).module) (sym is) ∙ not_taken k x.number isnt))
later_least k x es f isnt least e (suc j) b is taken = least e (j, omega arith, is) taken

least_in : (k : Kernel) (es : List Export) (f : ℕ) → NumbersRise es → taken_in k es ≡ Some f → LeastIn k es f
least_in k [] f rise h = absurd (none_some k f h)
least_in k (x ∷ es) f rise h = elim (cases_Bool (is_exported k x.number)) [
  | inl is_so ↦
      let same : x.number ≡ f = number_is x.number f (sym (here k x es is_so) ∙ h) in
      record {
        export = x;
        own = (0, omega arith, refl);
        number = same;
        taken = subst (IsTaken k) same (is_taken k x.number is_so);
        least = λ e c t. let low : x.number ≤ e.number = first_least k x es rise e c.0 c.1 c.2 in omega arith;
      }
  | inr isnt ↦
      let r : LeastIn k es f = least_in k es f (rest_rises x es rise) (sym (beyond k x es isnt) ∙ h) in
      record {
        export = r.export;
        own = (suc r.own.0, omega (arith, r.own.1), r.own.2);
        number = r.number;
        taken = r.taken;
        least = λ e c t. later_least k x es f isnt r.least e c.0 c.1 c.2 t;
      }
]

none_at : (k : Kernel) (x : Export) (es : List Export) → is_exported k x.number ≡ false
    → ((e : Export) → Contains es e → (function_at k e.number).module ≡ none) → (e : Export) (j : ℕ) → j < length (x ∷ es)
    → get_or (x ∷ es) j e ≡ e → (function_at k e.number).module ≡ none
none_at k x es isnt rest e zero b is = ap (λ (y : Export). (function_at k y.number).module) (sym is) ∙ not_taken k x.number isnt
none_at k x es isnt rest e (suc j) b is = rest e (j, omega arith, is)

none_in : (k : Kernel) (es : List Export) → taken_in k es ≡ None → (e : Export) → Contains es e → (function_at k e.number).module ≡ none
none_in k [] h e c = let never : c.0 < 0 = c.1 in absurd (omega arith)
none_in k (x ∷ es) h e c = elim (cases_Bool (is_exported k x.number)) [
  | inl is_so ↦ absurd (some_none x.number (sym (here k x es is_so) ∙ h))
  | inr isnt ↦ none_at k x es isnt (none_in k es (sym (beyond k x es isnt) ∙ h)) e c.0 c.1 c.2
]

-- ---- the functions of an object

pub least_taken : (k : Kernel) (o : Object) (f : ℕ) → Some f ≡ taken_number k o → IsLeastTaken k o f
unfolding taken_in
least_taken k o f h =
    let l : LeastIn k o.exports f = least_in k o.exports f o.form.exports_rise (sym h) in
    record { export = l.export; own = l.own; number = l.number; taken = l.taken; least = l.least }

none_taken : (k : Kernel) (o : Object) → None ≡ taken_number k o → NoneTaken k o
unfolding taken_in
none_taken k o h = none_in k o.exports (sym h)

pub untaken_where : (k : Kernel) (o : Object) (result : Result ℕ NoRoom) → None ≡ taken_number k o → OnOk result (NoneTaken k o)
untaken_where k o (Ok n) free = none_taken k o free
untaken_where k o (Err e) free = tt

-- ---- what a refusal is

abbrev pub LowestLaw : Type 0
LowestLaw = (k : Kernel) (kind : Kind) (c l : ℕ) (r : Regions) → placing k kind c l ≡ Ok r → IsPlacing k kind c l r

abbrev pub RefusedLaw : Type 0
RefusedLaw = (k : Kernel) (kind : Kind) (c l : ℕ) (e : NoRoom) → placing k kind c l ≡ Err e → IsRefusal k kind c l e

abbrev pub LeastLaw : Type 0
LeastLaw = (rows : List DomainRow) (first count number : ℕ) → free_from rows first count ≡ Some number → IsLeastFree rows first count number

-- where no function is taken, a refusal is that of the places
refusal_same : (k : Kernel) (o : Object) (e : NoRoom) → NoneTaken k o → IsRefusal k Module (code_length o) (region_length o) e → IsModuleRefusal k o e
refusal_same k o Slots free h = h
refusal_same k o (NoCode need gap) free h = (free, h)
refusal_same k o (NoRegion need gap) free h = (free, h)
refusal_same k o (Taken f) free h = absurd h

pub untaken_refusal : (k : Kernel) (o : Object) (result : Result ℕ NoRoom) → None ≡ taken_number k o
    → IfErr result (λ e. IsRefusal k Module (code_length o) (region_length o) e) → IfErr result (λ e. IsModuleRefusal k o e)
untaken_refusal k o (Ok n) free h = h
untaken_refusal k o (Err e) free h = refusal_same k o e (none_taken k o free) h

error_is : Result Regions NoRoom → NoRoom
error_is (Ok r) = Slots
error_is (Err e) = e

has_number : (k : Kernel) (o : Object) (r : Regions) → LowestLaw → LeastLaw → placing k Module (code_length o) (region_length o) ≡ Ok r → HasNumber k Module
has_number k o r lowest least h =
    (r.dom, least (domain_rows k) (first_number Module) (number_count Module) r.dom (lowest k Module (code_length o) (region_length o) r h).number)

-- where a function is taken, that is the cause, if a row is free
taken_cause : (k : Kernel) (o : Object) (f : ℕ) (e : NoRoom) (p : Result Regions NoRoom) → LowestLaw → RefusedLaw → LeastLaw
    → placing k Module (code_length o) (region_length o) ≡ p → IsLeastTaken k o f → unless_taken (Some f) p ≡ Err e → IsModuleRefusal k o e
unfolding error_is
taken_cause k o f e (Ok r) lowest refused least h taken q =
    subst (IsModuleRefusal k o) (ap error_is q) (has_number k o r lowest least h, taken)
taken_cause k o f e (Err Slots) lowest refused least h taken q =
    subst (IsModuleRefusal k o) (ap error_is q) (refused k Module (code_length o) (region_length o) Slots h)
taken_cause k o f e (Err (NoCode need gap)) lowest refused least h taken q =
    subst (IsModuleRefusal k o) (ap error_is q) ((refused k Module (code_length o) (region_length o) (NoCode need gap) h).0, taken)
taken_cause k o f e (Err (NoRegion need gap)) lowest refused least h taken q =
    subst (IsModuleRefusal k o) (ap error_is q) ((refused k Module (code_length o) (region_length o) (NoRegion need gap) h).0, taken)
taken_cause k o f e (Err (Taken g)) lowest refused least h taken q =
    absurd (refused k Module (code_length o) (region_length o) (Taken g) h)

pub taken_refusal : (k : Kernel) (o : Object) (f : ℕ) (e : NoRoom) → LowestLaw → RefusedLaw → LeastLaw → Some f ≡ taken_number k o
    → unless_taken (Some f) (placing k Module (code_length o) (region_length o)) ≡ Err e → IsModuleRefusal k o e
taken_refusal k o f e lowest refused least taken q =
    taken_cause k o f e (placing k Module (code_length o) (region_length o)) lowest refused least refl (least_taken k o f taken) q
