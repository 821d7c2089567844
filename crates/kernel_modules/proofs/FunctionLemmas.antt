-- The functions of a module that is loaded, and the module's row.
use Rattle.std.proofs.Common.{◌≡◌, ℕ, ◌+◌, ◌-◌, ◌<◌, ◌≤◌, Bool, true, false, List, [], ◌∷◌, length, get_or, refl, sym, ap, ◌∙◌, subst, Option, inl, inr, arith}
use Rattle.std.specs.Prelude.{◌==◌, if◌then◌else◌, Result, Ok}
use Rattle.std.specs.List.{fold}
use Rattle.std.proofs.lemmas.Bool.{cases_eq}
use Rattle.std.proofs.lemmas.List.{get_or-set_same, get_or-set_other}
use Rattle.kernel_model.specs.declared.states.TheConstants.{ENDED, LIVE}
use Rattle.kernel_model.specs.declared.kinds.Kind.{Kind}
use Rattle.kernel_model.specs.declared.kinds.Kind.TheVariants.{Module}
use Rattle.kernel_model.specs.declared.rows.ModuleRow.{ModuleRow}
use Rattle.kernel_model.specs.Kernel.{Kernel, function_at, module_at, free_module}
use Rattle.kernel_model.specs.Layout.{kernel_of}
use Rattle.kernel_model.specs.Queues.{Leaves}
use Rattle.kernel_model.specs.Words.{none}
use Rattle.code_model.specs.declared.object.Object.{Object}
use Rattle.code_model.specs.declared.parts.Export.{Export}
use Rattle.place_model.specs.declared.places.Regions.{Regions}
use Rattle.place_model.specs.declared.places.NoRoom.{NoRoom}
use Rattle.place_model.specs.Placing.{placing, placed_module, first_number, number_count}
use Rattle.place_model.specs.Settled.{IsSettled, IsSettledKernel}
use Rattle.load_model.specs.Domains.{code_length, region_length}
use Rattle.load_model.specs.Loading.{Loadable, Loaded, placed_row, loaded_module, loaded_kernel, with_export, taken_number, unless_taken, places_of}
use Rattle.load_model.specs.Laws.{LoadedLaw, TablesLastLaw}
use Rattle.kernel_model.specs.Modules.{HasKnownModules}

-- a module has exported the function
abbrev pub is_exported : Kernel → (f : ℕ) → Bool
is_exported k f = if (function_at k f).module == none then false else true

abbrev pub number_of_export : Export → ℕ
number_of_export e = e.number

-- ---- its places

abbrev module_placing : Kernel → Object → Result Regions NoRoom
module_placing k o = placing k Module (code_length o) (region_length o)

pub module_places : (k : Kernel) (o : Object) (taken : Option ℕ) → o.kind ≡ Module → taken ≡ taken_number k o
    → places_of k o ≡ unless_taken taken (module_placing k o)
unfolding places_of
module_places k o taken kind e =
    ap (λ (x : Kind). unless_taken (taken_number k o) (placing k x (code_length o) (region_length o))) kind
    ∙ ap (λ (t : Option ℕ). unless_taken t (module_placing k o)) (sym e)

-- ---- its row

-- exports leave the rows of modules
modules_stay : (k : Kernel) (i at : ℕ) (es : List Export) → (fold (with_export i at) k es).modules ≡ k.modules
modules_stay k i at [] = refl
modules_stay k i at (e ∷ es) = modules_stay (with_export i at k e) i at es

-- the number of a module that is placed
pub record IsPlaced (k : Kernel) (r : Regions) (n : ℕ) : Type 0 where
  pub is : r.dom ≡ n
  pub from : 8 ≤ n
  pub to : n < 12
  pub row : module_at (placed_row k r) (n - 8) ≡ placed_module r

pub is_placed : (m m1 : List ℕ) (o : Loadable) (r : Regions) (n : ℕ) → o.object.kind ≡ Module → IsSettled m
    → Loaded m m1 (placed_row (kernel_of m) r) o r → r.dom ≡ n → IsPlaced (kernel_of m) r n
is_placed m m1 o r n kind h l e =
    let from : 8 ≤ r.dom = subst (λ (x : Kind). first_number x ≤ r.dom) kind l.places.number_from in
    let to : r.dom < 12 = subst (λ (x : Kind). r.dom < first_number x + number_count x) kind l.places.number_to in
    record {
      is = e;
      from = omega arith;
      to = omega arith;
      row = ap (λ (i : ℕ). module_at (placed_row (kernel_of m) r) (i - 8)) (sym e)
          ∙ get_or-set_same (kernel_of m).modules (r.dom - 8) (placed_module r) free_module
          (let size = h.kernel.orderly.shape.module_rows in omega arith);
    }

-- where the functions' addresses begin
pub code_at : (m m1 : List ℕ) (o : Loadable) (r : Regions) (n : ℕ) → Loaded m m1 (placed_row (kernel_of m) r) o r → IsPlaced (kernel_of m) r n
    → (module_at (kernel_of m1) (n - 8)).code_lo ≡ r.code_lo
code_at m m1 o r n l p =
    ap (λ (k : Kernel). (module_at k (n - 8)).code_lo) l.kernel ∙ ap (λ (x : ModuleRow). x.code_lo) p.row

-- ---- with its functions

pub with_functions : (m m1 m2 : List ℕ) (o : Loadable) (r : Regions) (n : ℕ) → TablesLastLaw → length m1 ≡ 65536 → length m2 ≡ 65536
    → IsPlaced (kernel_of m) r n → Loaded m m1 (placed_row (kernel_of m) r) o r
    → Leaves m1 m2 (fold (with_export (n - 8) (module_at (kernel_of m1) (n - 8)).code_lo) (kernel_of m1) o.object.exports)
    → Loaded m m2 (loaded_module (kernel_of m) o.object r) o r
with_functions m m1 m2 o r n law e1 e2 p l h =
    law m m1 m2 (placed_row (kernel_of m) r) (loaded_module (kernel_of m) o.object r) o r e1 e2 l
    (subst (λ (k : Kernel). Leaves m1 m2 k)
    (ap (λ (at : ℕ). fold (with_export (n - 8) at) (kernel_of m1) o.object.exports) (code_at m m1 o r n l p)
    ∙ ap (λ (k : Kernel). fold (with_export (n - 8) r.code_lo) k o.object.exports) l.kernel
    ∙ ap (λ (d : ℕ). fold (with_export (d - 8) r.code_lo) (placed_row (kernel_of m) r) o.object.exports) (sym p.is))
    h)

pub module_settled : (m m1 : List ℕ) (o : Loadable) (r : Regions) → LoadedLaw → o.object.kind ≡ Module → IsSettled m
    → placing (kernel_of m) Module (code_length o.object) (region_length o.object) ≡ Ok r
    → Loaded m m1 (loaded_module (kernel_of m) o.object r) o r → IsSettled m1
module_settled m m1 o r law kind h e l =
    let k : Kernel = kernel_of m in
    let placed : placing k o.object.kind (code_length o.object) (region_length o.object) ≡ Ok r =
    ap (λ (x : Kind). placing k x (code_length o.object) (region_length o.object)) kind ∙ e in
    let settled : IsSettledKernel (loaded_module k o.object r) =
    subst (λ (x : Kind). IsSettledKernel (loaded_kernel x k o.object r)) kind (law k o.object r h.kernel placed) in
    record { laid_out = l.laid_out h.laid_out; kernel = subst (λ (x : Kernel). IsSettledKernel x) (sym l.kernel) settled }

pub known_with : (m m1 : List ℕ) (o : Loadable) (r : Regions) (n : ℕ) → IsPlaced (kernel_of m) r n
    → Loaded m m1 (loaded_module (kernel_of m) o.object r) o r → HasKnownModules (kernel_of m) → HasKnownModules (kernel_of m1)
known_with m m1 o r n p l h i b =
    let k : Kernel = kernel_of m in
    let same : module_at (kernel_of m1) i ≡ module_at (placed_row k r) i =
    ap (λ (x : Kernel). module_at x i) l.kernel
    ∙ ap (λ (rows : List ModuleRow). get_or rows i free_module) (modules_stay (placed_row k r) (r.dom - 8) r.code_lo o.object.exports) in
    elim (cases_eq i (n - 8)) [
      | inl here ↦
          let new : (module_at (kernel_of m1) i).state ≡ LIVE =
          ap (λ (x : ModuleRow). x.state) (same ∙ ap (λ (x : ℕ). module_at (placed_row k r) x) here ∙ p.row) in
          omega arith
      | inr other ↦
          let old : module_at (placed_row k r) i ≡ module_at k i =
          get_or-set_other k.modules (r.dom - 8) i (placed_module r) free_module (λ q. other (let is = p.is in omega arith)) in
          let before : (module_at k i).state ≤ ENDED = h i b in
          let state : (module_at (kernel_of m1) i).state ≡ (module_at k i).state = ap (λ (x : ModuleRow). x.state) (same ∙ old) in
          omega arith
    ]
