-- The row of a placed object is filled.
use Rattle.std.proofs.Common.{◌≡◌, ℕ, zero, suc, ◌+◌, ◌<◌, ◌≤◌, List, [], ◌∷◌, set, refl, sym, ap, ◌∙◌, subst}
use Rattle.std.specs.Prelude.{nat_lt}
use Rattle.std.proofs.lemmas.Bool.{lt-ltb, le-ltb, cond-true, cond-false}
use Rattle.kernel_model.specs.declared.kinds.Kind.{Kind}
use Rattle.kernel_model.specs.declared.kinds.Kind.TheVariants.{App, Module}
use Rattle.kernel_model.specs.Kernel.{Kernel, with_app}
use Rattle.kernel_model.specs.Words.{identity, live, saved_register}
use Rattle.kernel_model.specs.Layout.{kernel_of}
use Rattle.kernel_model.specs.Queues.{Leaves}
use Rattle.kernel_model.specs.declared.rows.AppRow.{AppRow}
use Rattle.code_model.specs.declared.object.Object.{Object}
use Rattle.code_model.specs.Statics.{static_size}
use Rattle.place_model.specs.declared.places.Regions.{Regions}
use Rattle.place_model.specs.Placing.{first_number, number_count, placed_app, with_places}
use Rattle.load_model.specs.Loading.{loaded_app, placed_row, ArePlaces}
use Rattle.reloc_loader.specs.Loading.{with_row}

set_twice : {X : Type 0} (xs : List X) (i : ℕ) (x y : X) → set (set xs i x) i y ≡ set xs i y
set_twice [] i x y = refl
set_twice (z ∷ xs) zero x y = refl
set_twice (z ∷ xs) (suc i) x y = ap (λ ys. z ∷ ys) (set_twice xs i x y)

-- an application's row over another one
app_over : (k : Kernel) (o : Object) (r : Regions) (row : AppRow) → loaded_app (with_app k r.dom row) o r ≡ loaded_app k o r
app_over k o r row =
    let new : AppRow = record {
      state = live;
      code_lo = r.code_lo;
      code_hi = r.code_hi;
      lo = r.lo;
      hi = r.hi;
      z = static_size o;
      stack = o.stack;
      threads = o.threads;
    } in
    ap (λ (rows : List AppRow). saved_register (record k { apps = rows }) (identity r.dom 0) 0 (r.code_lo + o.entry)) (set_twice k.apps r.dom row new)

-- the number is one of its kind
number_below : (o : Object) (r : Regions) → o.kind ≡ App → ArePlaces o r → r.dom < 8
number_below o r e p = subst (λ (x : Kind). r.dom < first_number x + number_count x) e p.number_to

number_above : (o : Object) (r : Regions) → o.kind ≡ Module → ArePlaces o r → 8 ≤ r.dom
number_above o r e p = subst (λ (x : Kind). first_number x ≤ r.dom) e p.number_from

pub app_put : (m m1 : List ℕ) (o : Object) (r : Regions) → o.kind ≡ App → ArePlaces o r → Leaves m m1 (loaded_app (kernel_of m) o r)
    → (k : Kernel) → kernel_of m ≡ with_places k r → Leaves m m1 (with_row o.kind k o r)
app_put m m1 o r kind p l k e =
    let places : with_places k r ≡ with_app k r.dom (placed_app r) =
    cond-true (nat_lt r.dom 8) (with_app k r.dom (placed_app r)) (placed_row k r) (lt-ltb r.dom 8 (number_below o r kind p)) in
    let same : loaded_app (kernel_of m) o r ≡ loaded_app k o r =
    ap (λ (x : Kernel). loaded_app x o r) (e ∙ places) ∙ app_over k o r (placed_app r) in
    subst (λ (x : Kind). Leaves m m1 (with_row x k o r)) (sym kind) (subst (λ (x : Kernel). Leaves m m1 x) same l)

pub module_put : (m : List ℕ) (o : Object) (r : Regions) → o.kind ≡ Module → ArePlaces o r
    → (k : Kernel) → kernel_of m ≡ with_places k r → Leaves m m (with_row o.kind k o r)
module_put m o r kind p k e =
    let places : with_places k r ≡ placed_row k r =
    cond-false (nat_lt r.dom 8) (with_app k r.dom (placed_app r)) (placed_row k r) (le-ltb r.dom 8 (number_above o r kind p)) in
    subst (λ (x : Kind). Leaves m m (with_row x k o r)) (sym kind)
    record { kernel = e ∙ places; others = refl; laid_out = λ x. x; queues = λ x. x }
