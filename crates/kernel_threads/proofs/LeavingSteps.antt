-- The steps of the loops over a list that an application's threads leave, for the ready list and for the sleepers.
use Rattle.std.proofs.Common.{◌≡◌, ℕ, ◌+◌, ◌<◌, ◌≤◌, true, false, List, length, get_or, refl, sym, ap, ◌∙◌, subst, Contains}
use Rattle.kernel_model.specs.Kernel.{Kernel, with_ready, with_sleepers}
use Rattle.kernel_model.specs.Layout.{kernel_of}
use Rattle.kernel_model.specs.Queues.{Leaves, without}
use Rattle.kernel_model.specs.Ending.{is_of, others}
use Rattle.kernel_threads.proofs.ChainLemmas.{leaves_as, leaves_same, leaves_then}
use Rattle.kernel_threads.proofs.LeavingLemmas.{part_left, part_left_none, part_left_all, next_stands, taken_more, kept_more}

-- a list of a kernel, and the kernel with another in its place
pub record IsListOf (list : Kernel → List ℕ) (put : Kernel → List ℕ → Kernel) : Type 0 where
  pub again : (k : Kernel) (xs ys : List ℕ) → put (put k xs) ys ≡ put k ys
  pub here : (k : Kernel) (xs : List ℕ) → list (put k xs) ≡ xs
  pub same : (k : Kernel) → put k (list k) ≡ k

pub is_ready_list : IsListOf (λ k. k.ready) with_ready
is_ready_list = record { again = λ k xs ys. refl; here = λ k xs. refl; same = λ k. refl }

pub is_sleepers : IsListOf (λ k. k.sleepers) with_sleepers
is_sleepers = record { again = λ k xs ys. refl; here = λ k xs. refl; same = λ k. refl }

pub left_none : (list : Kernel → List ℕ) (put : Kernel → List ℕ → Kernel) → IsListOf list put → (m : List ℕ) (a : ℕ) (xs : List ℕ) → xs ≡ list (kernel_of m)
    → Leaves m m (put (kernel_of m) (part_left a xs 0))
left_none list put is m a xs e =
    leaves_as m m (kernel_of m) (put (kernel_of m) (part_left a xs 0))
    (sym (ap (λ ys. put (kernel_of m) ys) (part_left_none a xs ∙ e) ∙ is.same (kernel_of m))) (leaves_same m)

pub left_there : (list : Kernel → List ℕ) (put : Kernel → List ℕ → Kernel) → IsListOf list put → (m m' : List ℕ) (a i : ℕ) (xs : List ℕ) → i < length xs
    → Leaves m m' (put (kernel_of m) (part_left a xs i)) → Contains (list (kernel_of m')) (get_or xs i 0)
left_there list put is m m' a i xs h l =
    subst (λ (ys : List ℕ). Contains ys (get_or xs i 0)) (sym (ap list l.kernel ∙ is.here (kernel_of m) (part_left a xs i))) (next_stands a xs i h)

pub left_taken : (list : Kernel → List ℕ) (put : Kernel → List ℕ → Kernel) → IsListOf list put → (m m' m'' : List ℕ) (a i : ℕ) (xs : List ℕ) → i < length xs
    → is_of a (get_or xs i 0) ≡ true → Leaves m m' (put (kernel_of m) (part_left a xs i)) → Leaves m' m'' (put (kernel_of m') (without (list (kernel_of m')) (get_or xs i 0)))
    → Leaves m m'' (put (kernel_of m) (part_left a xs (i + 1)))
left_taken list put is m m' m'' a i xs h own l l' =
    let x : ℕ = get_or xs i 0 in
    let k : Kernel = kernel_of m in
    leaves_as m m'' (put (put k (part_left a xs i)) (without (list (put k (part_left a xs i))) x)) (put k (part_left a xs (i + 1)))
    (is.again k (part_left a xs i) (without (list (put k (part_left a xs i))) x)
    ∙ ap (λ ys. put k (without ys x)) (is.here k (part_left a xs i))
    ∙ ap (λ ys. put k ys) (taken_more a xs i h own))
    (leaves_then (λ j. put j (without (list j) x)) m m' m'' (put k (part_left a xs i)) l l')

pub left_kept : (list : Kernel → List ℕ) (put : Kernel → List ℕ → Kernel) → IsListOf list put → (m m' : List ℕ) (a i : ℕ) (xs : List ℕ) → i < length xs
    → is_of a (get_or xs i 0) ≡ false → Leaves m m' (put (kernel_of m) (part_left a xs i)) → Leaves m m' (put (kernel_of m) (part_left a xs (i + 1)))
left_kept list put is m m' a i xs h other l =
    leaves_as m m' (put (kernel_of m) (part_left a xs i)) (put (kernel_of m) (part_left a xs (i + 1))) (ap (λ ys. put (kernel_of m) ys) (kept_more a xs i h other)) l

pub left_all : (list : Kernel → List ℕ) (put : Kernel → List ℕ → Kernel) → IsListOf list put → (m m' : List ℕ) (a i : ℕ) (xs : List ℕ) → length xs ≤ i → xs ≡ list (kernel_of m)
    → Leaves m m' (put (kernel_of m) (part_left a xs i)) → Leaves m m' (put (kernel_of m) (others a (list (kernel_of m))))
left_all list put is m m' a i xs h e l =
    leaves_as m m' (put (kernel_of m) (part_left a xs i)) (put (kernel_of m) (others a (list (kernel_of m))))
    (ap (λ ys. put (kernel_of m) ys) (part_left_all a xs i h ∙ ap (λ ys. others a ys) e)) l
