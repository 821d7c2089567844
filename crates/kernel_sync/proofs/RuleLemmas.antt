-- What calls leave, by the tests that they made.
use Rattle.std.proofs.Common.{◌≡◌, ◌≢◌, ℕ, ◌+◌, ◌*◌, ◌<◌, Bool, true, false, cond, List, [], ◌∷◌, ◌++◌, length, get_or, remove, take, drop, None, Some, refl, ap, sym, ◌∙◌, subst, arith, All, Contains}
use Rattle.std.specs.List.{slice_get, fold}
use Rattle.std.proofs.lemmas.Bool.{eq-eqb, ne_eqb}
use Rattle.std.proofs.lemmas.List.{get_or-set_same}
use Rattle.std.proofs.lemmas.List.Elements.{All-push, All-drop}
use Rattle.kernel_model.specs.Kernel.{Kernel, thread_at, with_thread, mutex_at, with_mutex, free_mutex, condition_at, with_condition}
use Rattle.kernel_model.specs.Words.{none, on_condition, running, identity, owner_of, waiters_of, none_running}
use Rattle.kernel_model.specs.Layout.{kernel_of}
use Rattle.kernel_model.specs.Locks.{KeepsLocks, RunsOn}
use Rattle.kernel_model.specs.Queues.{Leaves, to_ready_end}
use Rattle.kernel_model.specs.Running.{ThreadRuns}
use Rattle.kernel_model.specs.Sync.{own_app, own_number, with_mutex_row, is_free_mutex, owns, queued, handed_to, handed_over, locked, unlocked, given_up, gone_for, waiting_condition, woken}
use Rattle.kernel_model.specs.declared.rows.MutexRow.{MutexRow}
use Rattle.kernel_threads.proofs.ChainLemmas.{leaves_as, leaves_same, leaves_then}

-- ---- who runs, and what is kept

pub runs_after : (j k : Kernel) → RunsOn j k → ThreadRuns j → ThreadRuns k
runs_after j k x r = record { thread = subst (λ (t : ℕ). t < 32) (sym x.thread) r.thread; no_module = x.in_module ∙ r.no_module }

pub runs_then : (j k l : Kernel) → RunsOn j k → RunsOn k l → RunsOn j l
runs_then j k l x y = record { thread = y.thread ∙ x.thread; in_module = y.in_module ∙ x.in_module }

pub runs_same : (k : Kernel) → RunsOn k k
runs_same k = record { thread = refl; in_module = refl }

-- where the kernel of a rule was left
pub keeps_by : (m m' : List ℕ) (k : Kernel) → Leaves m m' k → KeepsLocks (kernel_of m) k → KeepsLocks (kernel_of m) (kernel_of m')
keeps_by m m' k l h = subst (λ (j : Kernel). KeepsLocks (kernel_of m) j) (sym l.kernel) h

pub runs_by : (m m' : List ℕ) (k : Kernel) → Leaves m m' k → RunsOn (kernel_of m) k → RunsOn (kernel_of m) (kernel_of m')
runs_by m m' k l h = subst (λ (j : Kernel). RunsOn (kernel_of m) j) (sym l.kernel) h

-- ---- lists

pub below_32 : (xs : List ℕ) → All (λ x. x < 4) xs → All (λ x. x < 32) xs
below_32 xs h j d l = let few : get_or xs j d < 4 = h j d l in omega arith

pub pushed_below : (xs ys : List ℕ) (n : ℕ) → All (λ x. x < 4) xs → n < 4 → ys ≡ xs ++ n ∷ [] → All (λ x. x < 32) ys
pushed_below xs ys n h l e = subst (λ (zs : List ℕ). All (λ x. x < 32) zs) (sym e) (below_32 (xs ++ n ∷ []) (All-push (λ x. x < 4) xs n h l))

none_first : (xs : List ℕ) → slice_get xs 0 ≡ None → xs ≡ []
none_first [] e = refl
none_first (x ∷ xs) e = absurd (cc)

some_first : (xs : List ℕ) (n : ℕ) → slice_get xs 0 ≡ Some n → xs ≡ n ∷ remove xs 0
some_first [] n e = absurd (cc)
some_first (x ∷ xs) n e = let same : x ≡ n = cc in ap (λ y. y ∷ xs) same

-- who waits first
pub first_waits : (xs : List ℕ) (n : ℕ) → slice_get xs 0 ≡ Some n → Contains xs n
first_waits xs n e = subst (λ (ys : List ℕ). Contains ys n) (sym (some_first xs n e)) (0, omega arith, refl)

-- those behind
pub behind_below : (xs ys : List ℕ) → All (λ x. x < 4) xs → ys ≡ remove xs 0 → All (λ x. x < 4) ys
behind_below xs ys h e = subst (λ (zs : List ℕ). All (λ x. x < 4) zs) (sym e) (All-drop (λ x. x < 4) 1 xs h)

pub rest_below : (xs ys : List ℕ) (count : ℕ) → All (λ x. x < 4) xs → ys ≡ drop count xs → All (λ x. x < 32) ys
rest_below xs ys count h e = subst (λ (zs : List ℕ). All (λ x. x < 32) zs) (sym e) (below_32 (drop count xs) (All-drop (λ x. x < 4) count xs h))

-- ---- handing over

pub handed_free : (m m' : List ℕ) (a i : ℕ) → slice_get (waiters_of (kernel_of m) a i) 0 ≡ None → Leaves m m' (with_mutex_row (kernel_of m) a i none []) → Leaves m m' (handed_over (kernel_of m) a i)
handed_free m m' a i e l =
    let k : Kernel = kernel_of m in
    leaves_as m m' (handed_to k a i []) (handed_to k a i (waiters_of k a i)) (sym (ap (λ xs. handed_to k a i xs) (none_first (waiters_of k a i) e))) l

pub handed_first : (m m' : List ℕ) (a i n : ℕ) (ns : List ℕ) → slice_get (waiters_of (kernel_of m) a i) 0 ≡ Some n → ns ≡ remove (waiters_of (kernel_of m) a i) 0
    → Leaves m m' (to_ready_end (with_mutex_row (kernel_of m) a i n ns) (identity a n)) → Leaves m m' (handed_over (kernel_of m) a i)
handed_first m m' a i n ns e f l =
    let k : Kernel = kernel_of m in
    leaves_as m m' (handed_to k a i (n ∷ ns)) (handed_to k a i (waiters_of k a i))
    (sym (ap (λ xs. handed_to k a i xs) (some_first (waiters_of k a i) n e ∙ ap (λ xs. n ∷ xs) (sym f)))) l

pub given_then : (m m' : List ℕ) (a i : ℕ) → a ≡ own_app (kernel_of m) → owns (kernel_of m) i ≡ true → Leaves m m' (handed_over (kernel_of m) a i) → Leaves m m' (given_up (kernel_of m) i)
given_then m m' a i ea e l =
    let k : Kernel = kernel_of m in
    leaves_as m m' (unlocked k i) (given_up k i) (sym (ap (λ (b : Bool). cond b (unlocked k i) k) e)) (subst (λ x. Leaves m m' (handed_over k x i)) ea l)

pub given_else : (m : List ℕ) (i : ℕ) → owns (kernel_of m) i ≡ false → Leaves m m (given_up (kernel_of m) i)
given_else m i e =
    let k : Kernel = kernel_of m in
    leaves_as m m k (given_up k i) (sym (ap (λ (b : Bool). cond b (unlocked k i) k) e)) (leaves_same m)

-- ---- locking

free_is : (k : Kernel) (a i : ℕ) (row : MutexRow) → row ≡ mutex_at k a i → row.owner ≡ none → is_free_mutex k a i ≡ true
free_is k a i row e f = eq-eqb (owner_of k a i) none (sym (ap (λ (r : MutexRow). r.owner) e) ∙ f)

owned_is : (k : Kernel) (a i : ℕ) (row : MutexRow) → row ≡ mutex_at k a i → row.owner ≢ none → is_free_mutex k a i ≡ false
owned_is k a i row e f = ne_eqb (owner_of k a i) none (λ q. f (ap (λ (r : MutexRow). r.owner) e ∙ q))

-- the mutex was free, and is the running thread's now
pub takes : (m m' : List ℕ) (a i n : ℕ) (row : MutexRow) → a ≡ own_app (kernel_of m) → n ≡ own_number (kernel_of m) → row ≡ mutex_at (kernel_of m) a i → row.owner ≡ none
    → Leaves m m' (with_mutex (kernel_of m) a i (record row { owner = n })) → Leaves m m' (locked (kernel_of m) i)
takes m m' a i n row ea en e f l =
    let k : Kernel = kernel_of m in
    let l1 : Leaves m m' (with_mutex k a i (record (mutex_at k a i) { owner = n })) = subst (λ (r : MutexRow). Leaves m m' (with_mutex k a i (record r { owner = n }))) e l in
    let l2 : Leaves m m' (with_mutex_row k (own_app k) i (own_number k) (waiters_of k (own_app k) i)) =
    subst (λ x. Leaves m m' (with_mutex_row k (own_app k) i x (waiters_of k (own_app k) i))) en (subst (λ x. Leaves m m' (with_mutex_row k x i n (waiters_of k x i))) ea l1) in
    let is : is_free_mutex k (own_app k) i ≡ true = ap (λ x. is_free_mutex k x i) (sym ea) ∙ free_is k a i row e f in
    leaves_as m m' (with_mutex_row k (own_app k) i (own_number k) (waiters_of k (own_app k) i)) (locked k i)
    (sym (ap (λ (b : Bool). cond b (with_mutex_row k (own_app k) i (own_number k) (waiters_of k (own_app k) i)) (none_running (queued k (own_app k) i (own_number k)))) is)) l2

-- it wasn't, and the running thread waits for it
pub waits : (m m1 m2 : List ℕ) (a i n : ℕ) (row : MutexRow) → a ≡ own_app (kernel_of m) → n ≡ own_number (kernel_of m) → row ≡ mutex_at (kernel_of m) a i → row.owner ≢ none
    → Leaves m m1 (queued (kernel_of m) a i n) → Leaves m1 m2 (none_running (kernel_of m1)) → Leaves m m2 (locked (kernel_of m) i)
waits m m1 m2 a i n row ea en e f x y =
    let k : Kernel = kernel_of m in
    let l1 : Leaves m m2 (none_running (queued k a i n)) = leaves_then none_running m m1 m2 (queued k a i n) x y in
    let l2 : Leaves m m2 (none_running (queued k (own_app k) i (own_number k))) =
    subst (λ z. Leaves m m2 (none_running (queued k (own_app k) i z))) en (subst (λ z. Leaves m m2 (none_running (queued k z i n))) ea l1) in
    let is : is_free_mutex k (own_app k) i ≡ false = ap (λ z. is_free_mutex k z i) (sym ea) ∙ owned_is k a i row e f in
    leaves_as m m2 (none_running (queued k (own_app k) i (own_number k))) (locked k i)
    (sym (ap (λ (b : Bool). cond b (with_mutex_row k (own_app k) i (own_number k) (waiters_of k (own_app k) i)) (none_running (queued k (own_app k) i (own_number k)))) is)) l2

-- the owner of a mutex whose row was replaced
pub owner_now : (m m' : List ℕ) (a i n : ℕ) (row : MutexRow) → a ≡ own_app (kernel_of m) → a < 8 → i < 4 → n ≡ own_number (kernel_of m) → length (kernel_of m).mutexes ≡ 32
    → Leaves m m' (with_mutex (kernel_of m) a i (record row { owner = n })) → owner_of (kernel_of m') (own_app (kernel_of m)) i ≡ own_number (kernel_of m)
owner_now m m' a i n row ea la li en size l =
    let k : Kernel = kernel_of m in
    subst (λ x. owner_of (kernel_of m') x i ≡ own_number k) ea
    (ap (λ (j : Kernel). owner_of j a i) l.kernel ∙ ap (λ (r : MutexRow). r.owner) (get_or-set_same k.mutexes (4 * a + i) (record row { owner = n }) free_mutex (omega arith)) ∙ en)

-- ---- conditions

-- a mutex is handed over, and a thread waits for a condition
abbrev waits_there : Kernel → (a n t c i : ℕ) → Kernel
waits_there k a n t c i =
    let k1 = handed_over k a i in
    let k2 = with_condition k1 a c (condition_at k1 a c ++ n ∷ []) in
    none_running (with_thread k2 t (record (thread_at k2 t) { state = on_condition; object = c; mutex = i }))

pub waited_left : (m m1 m2 m3 m4 : List ℕ) (a n c i : ℕ) (list : List ℕ) → a ≡ own_app (kernel_of m) → n ≡ own_number (kernel_of m) → list ≡ condition_at (kernel_of m1) a c ++ n ∷ []
    → Leaves m m1 (handed_over (kernel_of m) a i) → Leaves m1 m2 (with_condition (kernel_of m1) a c list)
    → Leaves m2 m3 (with_thread (kernel_of m2) (identity a n) (record (thread_at (kernel_of m2) (identity a n)) { state = on_condition; object = c; mutex = i }))
    → Leaves m3 m4 (none_running (kernel_of m3)) → Leaves m m4 (waiting_condition (kernel_of m) c i)
waited_left m m1 m2 m3 m4 a n c i list ea en el x1 x2 x3 x4 =
    let k : Kernel = kernel_of m in
    let t : ℕ = identity a n in
    let k1 : Kernel = handed_over k a i in
    let k2 : Kernel = with_condition k1 a c (condition_at k1 a c ++ n ∷ []) in
    let k3 : Kernel = with_thread k2 t (record (thread_at k2 t) { state = on_condition; object = c; mutex = i }) in
    let l2 : Leaves m m2 k2 = leaves_then (λ j. with_condition j a c (condition_at j a c ++ n ∷ [])) m m1 m2 k1 x1 (subst (λ xs. Leaves m1 m2 (with_condition (kernel_of m1) a c xs)) el x2) in
    let l3 : Leaves m m3 k3 = leaves_then (λ j. with_thread j t (record (thread_at j t) { state = on_condition; object = c; mutex = i })) m m2 m3 k2 l2 x3 in
    let l4 : Leaves m m4 (waits_there k a n t c i) = leaves_then none_running m m3 m4 k3 l3 x4 in
    let et : t ≡ running k = omega arith in
    subst (λ z. Leaves m m4 (waits_there k (own_app k) (own_number k) z c i)) et
    (subst (λ z. Leaves m m4 (waits_there k (own_app k) z t c i)) en (subst (λ z. Leaves m m4 (waits_there k z n t c i)) ea l4))

pub woken_left : (m m1 m2 : List ℕ) (a c count : ℕ) (rest going : List ℕ) → a ≡ own_app (kernel_of m) → rest ≡ drop count (condition_at (kernel_of m) a c) → going ≡ take count (condition_at (kernel_of m) a c)
    → Leaves m m1 (with_condition (kernel_of m) a c rest) → Leaves m1 m2 (fold (λ k n. gone_for k a n) (kernel_of m1) going) → Leaves m m2 (woken (kernel_of m) c count)
unfolding woken
woken_left m m1 m2 a c count rest going ea er eg x y =
    let k : Kernel = kernel_of m in
    let l : Leaves m m2 (fold (λ k n. gone_for k a n) (with_condition k a c rest) going) = leaves_then (λ j. fold (λ k n. gone_for k a n) j going) m m1 m2 (with_condition k a c rest) x y in
    subst (λ z. Leaves m m2 (fold (λ k n. gone_for k z n) (with_condition k z c (drop count (condition_at k z c))) (take count (condition_at k z c)))) ea
    (subst (λ xs. Leaves m m2 (fold (λ k n. gone_for k a n) (with_condition k a c (drop count (condition_at k a c))) xs)) eg
    (subst (λ xs. Leaves m m2 (fold (λ k n. gone_for k a n) (with_condition k a c xs) going)) er l))
