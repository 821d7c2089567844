-- The first fault of a list of fields: of its parts in order, and of the fields up to one that has a fault.
use Rattle.std.proofs.Common.{◌≡◌, ℕ, zero, suc, ◌+◌, ◌*◌, ◌<◌, List, [], ◌∷◌, ◌++◌, Option, Some, None, ◌-◌, refl, sym, ap, ◌∙◌, arith, add-zero, add-one, inl, inr}
use Rattle.std.proofs.lemmas.Bool.{cases_lt}
use Rattle.object_form.specs.declared.fault.FormFault.{FormFault}
use Rattle.object_form.specs.declared.fault.FormFault.TheVariants.{At, Memory}
use Rattle.object_form.specs.Reading.{byte_at, listed}
use Rattle.object_form.specs.Faults.{Reason, or_else, Field, field_fault, first_fault, Names, key_at, least_key, least_number}
use Rattle.object_form.proofs.Tables.{or_else-parts, or_else-both}

pub or_else-assoc : (a b c : Option Reason) → or_else (or_else a b) c ≡ or_else a (or_else b c)
or_else-assoc None b c = refl
or_else-assoc (Some r) b c = refl

pub or_else-none : (a : Option Reason) → or_else a None ≡ a
or_else-none None = refl
or_else-none (Some r) = refl

pub first_fault-append : (t : List ℕ) (xs ys : List Field) → first_fault t (xs ++ ys) ≡ or_else (first_fault t xs) (first_fault t ys)
unfolding first_fault
first_fault-append t [] ys = refl
first_fault-append t (x ∷ xs) ys = ap (or_else (field_fault t x)) (first_fault-append t xs ys) ∙ sym (or_else-assoc (field_fault t x) (first_fault t xs) (first_fault t ys))

first_fault-one : (t : List ℕ) (f : Field) → first_fault t (f ∷ []) ≡ field_fault t f
unfolding first_fault
first_fault-one t f = or_else-none (field_fault t f)

pub listed-next : {A : Type 0} (n : ℕ) (f : ℕ → A) → listed (n + 1) f ≡ listed n f ++ f n ∷ []
unfolding listed
listed-next n f = rw add-one refl

pub first_fault-next : (t : List ℕ) (n : ℕ) (f : ℕ → Field) → first_fault t (listed (n + 1) f) ≡ or_else (first_fault t (listed n f)) (field_fault t (f n))
first_fault-next t n f = rw (listed-next n f, first_fault-append t (listed n f) (f n ∷ []), first_fault-one t (f n)) refl

pub none-next : (t : List ℕ) (n : ℕ) (f : ℕ → Field) → first_fault t (listed n f) ≡ None → field_fault t (f n) ≡ None → first_fault t (listed (n + 1) f) ≡ None
none-next t n f before here = first_fault-next t n f ∙ ap (λ (a : Option Reason). or_else a (field_fault t (f n))) before ∙ here

some-after : (t : List ℕ) (k : ℕ) (f : ℕ → Field) (r : Reason) (more : ℕ) → first_fault t (listed k f) ≡ None → field_fault t (f k) ≡ Some r → first_fault t (listed (k + 1 + more) f) ≡ Some r
unfolding listed
some-after t k f r zero before here = ap (λ (m : ℕ). first_fault t (listed m f)) (add-zero (k + 1)) ∙ first_fault-next t k f ∙ ap (λ (a : Option Reason). or_else a (field_fault t (f k))) before ∙ here
some-after t k f r (suc more) before here =
    let so_far = some-after t k f r more before here in
    let split : k + 1 + suc more ≡ (k + 1 + more) + 1 = omega arith in
    ap (λ (n : ℕ). first_fault t (listed n f)) split ∙ first_fault-next t (k + 1 + more) f ∙ ap (λ (a : Option Reason). or_else a (field_fault t (f (k + 1 + more)))) so_far

-- the fault of field k, where the fields before have none, is that of the whole list
pub names-at : (t : List ℕ) (n k : ℕ) (f : ℕ → Field) (e : FormFault) → k < n → first_fault t (listed k f) ≡ None → Names e (field_fault t (f k)) → Names e (first_fault t (listed n f))
names-at t n k f Memory lt before named = tt
names-at t n k f (At kind offset) lt before named =
    let split : n ≡ k + 1 + (n - (k + 1)) = omega arith in
    ap (λ (m : ℕ). first_fault t (listed m f)) split ∙ some-after t k f (record { kind = kind; offset = offset }) (n - (k + 1)) before named

pub least_key-next : (t : List ℕ) (start n : ℕ) → least_key t start (n + 1) ≡ key_at t (start + 4 * n) + 1
unfolding least_key
least_key-next t start n = ap (least_key t start) (add-one n)

pub least_number-next : (t : List ℕ) (start n : ℕ) → least_number t start (n + 1) ≡ byte_at t (start + 4 * n) + 1
unfolding least_number
least_number-next t start n = ap (least_number t start) (add-one n)

-- a list of fields by place has no fault exactly where none of them has
pub listed-given : (t : List ℕ) (n : ℕ) (f : ℕ → Field) → first_fault t (listed n f) ≡ None → (k : ℕ) → k < n → field_fault t (f k) ≡ None
unfolding listed
listed-given t zero f e k lt = absurd (omega arith)
listed-given t (suc n) f e k lt =
    let split = sym (first_fault-append t (listed n f) (f n ∷ [])) ∙ e in
    let parts = or_else-parts (first_fault t (listed n f)) (first_fault t (f n ∷ [])) split in
    elim (cases_lt k n) [
      | inl below ↦ listed-given t n f parts.0 k below
      | inr past ↦
          let here : n ≡ k = omega arith in
          ap (λ (m : ℕ). field_fault t (f m)) (sym here) ∙ sym (first_fault-one t (f n)) ∙ parts.1
    ]

pub listed-holds : (t : List ℕ) (n : ℕ) (f : ℕ → Field) → ((k : ℕ) → k < n → field_fault t (f k) ≡ None) → first_fault t (listed n f) ≡ None
unfolding listed first_fault
listed-holds t zero f each = refl
listed-holds t (suc n) f each =
    first_fault-append t (listed n f) (f n ∷ []) ∙ or_else-both (first_fault t (listed n f)) (first_fault t (f n ∷ [])) (listed-holds t n f (λ k lt. each k (omega arith))) (first_fault-one t (f n) ∙ each n (omega arith))
