-- The rows, mutexes and conditions of an application, made as new one by one.
use Rattle.std.proofs.Common.{◌≡◌, ◌≢◌, ℕ, zero, suc, ◌+◌, ◌<◌, List, [], ◌∷◌, refl, sym, ap, ◌∙◌, subst, arith, All, Contains, add-one, add-zero}
use Rattle.std.specs.List.{fold, range_with_len}
use Rattle.std.proofs.lemmas.List.Elements.{All-contains}
use Rattle.kernel_model.specs.Kernel.{Kernel, with_thread, with_mutex, with_condition, free_mutex, empty_row}
use Rattle.kernel_model.specs.Words.{app_of, identity}
use Rattle.kernel_model.specs.Layout.{kernel_of}
use Rattle.kernel_model.specs.Queues.{Leaves}
use Rattle.kernel_model.specs.Ending.{waits_ended}
use Rattle.kernel_threads.specs.Leaving.{rows_emptied}
use Rattle.kernel_threads.proofs.ChainLemmas.{leaves_as, leaves_then}

fold_range_suc : {A : Type 0} (f : A → ℕ → A) (z : A) (a n : ℕ) → fold f z (range_with_len a (suc n)) ≡ f (fold f z (range_with_len a n)) (a + n)
fold_range_suc f z a zero = ap (λ i. f z i) (sym (add-zero a))
fold_range_suc f z a (suc n) =
    fold_range_suc f (f z a) (a + 1) n ∙ ap (λ i. f (fold f (f z a) (range_with_len (a + 1) n)) i) (let e : a + 1 + n ≡ a + suc n = omega arith in e)

pub fold_range_more : {A : Type 0} (f : A → ℕ → A) (z : A) (n : ℕ) → fold f z (range_with_len 0 (n + 1)) ≡ f (fold f z (range_with_len 0 n)) n
fold_range_more f z n =
    ap (λ i. fold f z (range_with_len 0 i)) (add-one n) ∙ fold_range_suc f z 0 n ∙ ap (λ i. f (fold f z (range_with_len 0 n)) i) (let e : 0 + n ≡ n = omega arith in e)

-- ---- rows

emptied_lists : (a : ℕ) (ns : List ℕ) (k : Kernel)
    → ((fold (λ k n. with_thread k (identity a n) empty_row) k ns).ready ≡ k.ready) × ((fold (λ k n. with_thread k (identity a n) empty_row) k ns).sleepers ≡ k.sleepers)
emptied_lists a [] k = (refl, refl)
emptied_lists a (n ∷ ns) k = emptied_lists a ns (with_thread k (identity a n) empty_row)

-- a thread of the application stands in no list that has none
not_listed : (a n : ℕ) (xs : List ℕ) → n < 4 → All (λ t. app_of t ≢ a) xs → Contains xs (identity a n) → ⊥
not_listed a n xs h all there =
    let other : app_of (identity a n) ≢ a = All-contains (λ t. app_of t ≢ a) xs (identity a n) all there in
    other (omega arith)

pub unlisted_ready : (m m' : List ℕ) (a n : ℕ) → n < 4 → All (λ t. app_of t ≢ a) (kernel_of m).ready → Leaves m m' (rows_emptied (kernel_of m) a n)
    → Contains (kernel_of m').ready (identity a n) → ⊥
unlisted_ready m m' a n h all l there =
    not_listed a n (kernel_of m).ready h all
    (subst (λ (xs : List ℕ). Contains xs (identity a n)) (ap (λ (k : Kernel). k.ready) l.kernel ∙ (emptied_lists a (range_with_len 0 n) (kernel_of m)).0) there)

pub unlisted_asleep : (m m' : List ℕ) (a n : ℕ) → n < 4 → All (λ t. app_of t ≢ a) (kernel_of m).sleepers → Leaves m m' (rows_emptied (kernel_of m) a n)
    → Contains (kernel_of m').sleepers (identity a n) → ⊥
unlisted_asleep m m' a n h all l there =
    not_listed a n (kernel_of m).sleepers h all
    (subst (λ (xs : List ℕ). Contains xs (identity a n)) (ap (λ (k : Kernel). k.sleepers) l.kernel ∙ (emptied_lists a (range_with_len 0 n) (kernel_of m)).1) there)

pub emptied_more : (m m' m'' : List ℕ) (a n : ℕ) → Leaves m m' (rows_emptied (kernel_of m) a n) → Leaves m' m'' (with_thread (kernel_of m') (identity a n) empty_row)
    → Leaves m m'' (rows_emptied (kernel_of m) a (n + 1))
emptied_more m m' m'' a n l l' =
    leaves_as m m'' (with_thread (rows_emptied (kernel_of m) a n) (identity a n) empty_row) (rows_emptied (kernel_of m) a (n + 1))
    (sym (fold_range_more (λ k i. with_thread k (identity a i) empty_row) (kernel_of m) n))
    (leaves_then (λ k. with_thread k (identity a n) empty_row) m m' m'' (rows_emptied (kernel_of m) a n) l l')

-- ---- mutexes and conditions

-- the first mutexes and conditions are as new
abbrev pub waits_emptied : Kernel → (a count : ℕ) → Kernel
waits_emptied k a n = fold (λ k i. with_condition (with_mutex k a i free_mutex) a i []) k (range_with_len 0 n)

pub waits_more : (m m' m1 m'' : List ℕ) (a n : ℕ) → Leaves m m' (waits_emptied (kernel_of m) a n) → Leaves m' m1 (with_mutex (kernel_of m') a n free_mutex)
    → Leaves m1 m'' (with_condition (kernel_of m1) a n []) → Leaves m m'' (waits_emptied (kernel_of m) a (n + 1))
waits_more m m' m1 m'' a n l l1 l2 =
    let k : Kernel = waits_emptied (kernel_of m) a n in
    leaves_as m m'' (with_condition (with_mutex k a n free_mutex) a n []) (waits_emptied (kernel_of m) a (n + 1))
    (sym (fold_range_more (λ k i. with_condition (with_mutex k a i free_mutex) a i []) (kernel_of m) n))
    (leaves_then (λ j. with_condition j a n []) m m1 m'' (with_mutex k a n free_mutex) (leaves_then (λ j. with_mutex j a n free_mutex) m m' m1 k l l1) l2)

pub waits_all : (m m' : List ℕ) (a : ℕ) → Leaves m m' (waits_emptied (kernel_of m) a 4) → Leaves m m' (waits_ended (kernel_of m) a)
unfolding waits_ended
waits_all m m' a l = l
