-- What spawn answers and leaves where its arguments pass.
use Rattle.std.proofs.Common.{◌≡◌, ℕ, ◌≤◌, Bool, true, false, not, ◌||◌, eqb, List, [], ◌∷◌, length, get_or, Option, None, Some, Result, Ok, Err, refl, sym, ap, ◌∙◌, subst, arith}
use Rattle.std.specs.List.{slice_get}
use Rattle.std.proofs.lemmas.Bool.{le-ltb, ne_eqb}
use Rattle.kernel_model.specs.Kernel.{Kernel}
use Rattle.kernel_model.specs.Words.{running, app_of, number_of}
use Rattle.kernel_model.specs.Layout.{kernel_of}
use Rattle.kernel_model.specs.Queues.{Leaves}
use Rattle.kernel_model.specs.declared.code.Code.{Code}
use Rattle.kernel_model.specs.declared.code.Code.TheVariants.{Full, BadArgument}
use Rattle.kernel_model.specs.Starting.{begun, free_threads}
use Rattle.kernel_model.specs.Entries.{spawn_code, first_code}
use Rattle.kernel_threads.specs.Entries.{SpawnedBy}

-- the first of a list is one that has some
first_is : (xs : List ℕ) (t : ℕ) → slice_get xs 0 ≡ Some t → (get_or xs 0 0 ≡ t) × ((eqb (length xs) 0) ≡ false)
first_is [] t e = absurd (cc)
first_is (x ∷ xs) t e = (cc, ne_eqb (length (x ∷ xs)) 0 (omega arith))

no_code : (k : Kernel) (r : List ℕ) → get_or r 13 0 ≤ 7 → (eqb (length (free_threads k (app_of (running k)))) 0) ≡ false → spawn_code k r true ≡ None
no_code k r h some =
    ap (λ (b : Bool). first_code ((not true || b, BadArgument) ∷ (eqb (length (free_threads k (app_of (running k)))) 0, Full) ∷ [])) (le-ltb 7 (get_or r 13 0) h)
    ∙ ap (λ (b : Bool). first_code ((false, BadArgument) ∷ (b, Full) ∷ [])) some

pub spawned_by : (m m' r : List ℕ) (t : ℕ) → get_or r 13 0 ≤ 7 → slice_get (free_threads (kernel_of m) (app_of (running (kernel_of m)))) 0 ≡ Some t
    → Leaves m m' (begun (kernel_of m) t (get_or r 12 0) (get_or r 13 0) (get_or r 14 0)) → SpawnedBy m m' r (spawn_code (kernel_of m) r true) (Ok (number_of t))
spawned_by m m' r t h first l =
    let k : Kernel = kernel_of m in
    let is = first_is (free_threads k (app_of (running k))) t first in
    let answer : Result ℕ Code = Ok (number_of t) in
    subst (λ (o : Option Code). SpawnedBy m m' r o answer) (sym (no_code k r h is.1)) (
      ap (λ (i : ℕ). let a : Result ℕ Code = Ok (number_of i) in a) (sym is.0),
      subst (λ (i : ℕ). Leaves m m' (begun k i (get_or r 12 0) (get_or r 13 0) (get_or r 14 0))) (sym is.0) l,
    )

-- where there is no free thread
none_is : (xs : List ℕ) → slice_get xs 0 ≡ None → (eqb (length xs) 0) ≡ true
none_is [] e = refl
none_is (x ∷ xs) e = absurd (cc)

full_code : (k : Kernel) (r : List ℕ) → get_or r 13 0 ≤ 7 → (eqb (length (free_threads k (app_of (running k)))) 0) ≡ true → spawn_code k r true ≡ Some Full
full_code k r h none =
    ap (λ (b : Bool). first_code ((not true || b, BadArgument) ∷ (eqb (length (free_threads k (app_of (running k)))) 0, Full) ∷ [])) (le-ltb 7 (get_or r 13 0) h)
    ∙ ap (λ (b : Bool). first_code ((false, BadArgument) ∷ (b, Full) ∷ [])) none

pub full_by : (m r : List ℕ) → get_or r 13 0 ≤ 7 → slice_get (free_threads (kernel_of m) (app_of (running (kernel_of m)))) 0 ≡ None
    → SpawnedBy m m r (spawn_code (kernel_of m) r true) (Err Full)
full_by m r h none =
    let k : Kernel = kernel_of m in
    let answer : Result ℕ Code = Err Full in
    subst (λ (o : Option Code). SpawnedBy m m r o answer) (sym (full_code k r h (none_is (free_threads k (app_of (running k))) none))) (refl, refl)

-- the same thread that begins, with equal words
pub begun_as : (m m' : List ℕ) (t pc priority r12 pc' priority' r12' : ℕ) → pc ≡ pc' → priority ≡ priority' → r12 ≡ r12'
    → Leaves m m' (begun (kernel_of m) t pc priority r12) → Leaves m m' (begun (kernel_of m) t pc' priority' r12')
begun_as m m' t pc p r12 pc' p' r12' e f g l =
    subst (λ (x : ℕ). Leaves m m' (begun (kernel_of m) t pc' p' x)) g
    (subst (λ (x : ℕ). Leaves m m' (begun (kernel_of m) t pc' x r12)) f (subst (λ (x : ℕ). Leaves m m' (begun (kernel_of m) t x p r12)) e l))
