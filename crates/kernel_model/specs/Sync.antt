-- Mutexes and conditions: who owns, who waits, and what the calls on them do.
use Rattle.std.specs.Prelude.{ℕ, Bool, ◌==◌, nat_lt, if◌then◌else◌, ◌||◌, not, List, [], ◌∷◌, ◌++◌, length, drop, take, Option}
use Rattle.std.specs.List.{range_with_len, fold}
use Rattle.kernel_model.specs.Kernel.{Kernel, thread_at, with_thread, with_mutex, condition_at, with_condition}
use Rattle.kernel_model.specs.Words.{none, on_mutex, on_condition, running, app_of, number_of, identity, none_running, owner_of, waiters_of}
use Rattle.kernel_model.specs.Queues.{to_ready_end}
use Rattle.kernel_model.specs.declared.code.Code.{Code}
use Rattle.kernel_model.specs.declared.code.Code.TheVariants.{BadArgument, NotOwner, OwnLock}
use Rattle.kernel_model.specs.Entries.{first_code}

-- the running thread's application, and its number there
abbrev pub own_app : Kernel → ℕ
own_app k = app_of (running k)

abbrev pub own_number : Kernel → ℕ
own_number k = number_of (running k)

-- application a's mutex i has this owner and these waiters
abbrev pub with_mutex_row : Kernel → (a i owner : ℕ) → List ℕ → Kernel
with_mutex_row k a i owner ws = with_mutex k a i (record { owner = owner; waiters = record { items = ws } })

abbrev pub is_free_mutex : Kernel → (a i : ℕ) → Bool
is_free_mutex k a i = owner_of k a i == none

-- the running thread owns mutex i of its application
abbrev pub owns : Kernel → (i : ℕ) → Bool
owns k i = owner_of k (own_app k) i == own_number k

-- ---- the two rules on a mutex that the calls share

-- it goes to the first of those that wait for it, which becomes its owner and ready at the end; where nobody waits it is free
abbrev pub handed_to : Kernel → (a i : ℕ) → List ℕ → Kernel
handed_to k a i [] = with_mutex_row k a i none []
handed_to k a i (n ∷ ns) = to_ready_end (with_mutex_row k a i n ns) (identity a n)

abbrev pub handed_over : Kernel → (a i : ℕ) → Kernel
handed_over k a i = handed_to k a i (waiters_of k a i)

-- thread n of application a waits at the end of the list of mutex i
abbrev pub queued : Kernel → (a i n : ℕ) → Kernel
queued k a i n =
    let k1 = with_mutex_row k a i (owner_of k a i) (waiters_of k a i ++ n ∷ []) in
    with_thread k1 (identity a n) (record (thread_at k1 (identity a n)) { state = on_mutex; object = i; mutex = 0 })

-- thread n of application a, which waited for a condition, goes for the mutex that it is to take again: where that is free it
-- becomes its owner and ready at the end, else it waits at the end of the mutex's list
abbrev pub gone_for : Kernel → (a n : ℕ) → Kernel
gone_for k a n =
    let i = (thread_at k (identity a n)).mutex in
    if is_free_mutex k a i then to_ready_end (with_mutex_row k a i n (waiters_of k a i)) (identity a n) else queued k a i n

-- ---- lock and unlock

abbrev pub lock_code : Kernel → (i : ℕ) → Option Code
lock_code k i = first_code ((nat_lt 3 i, BadArgument) ∷ (owns k i, OwnLock) ∷ [])

-- a free mutex becomes the running thread's; for another it waits, and nothing runs
abbrev pub locked : Kernel → (i : ℕ) → Kernel
locked k i =
    let a = own_app k in
    let n = own_number k in
    if is_free_mutex k a i then with_mutex_row k a i n (waiters_of k a i) else none_running (queued k a i n)

abbrev pub unlock_code : Kernel → (i : ℕ) → Option Code
unlock_code k i = first_code ((nat_lt 3 i, BadArgument) ∷ (not (owns k i), NotOwner) ∷ [])

abbrev pub unlocked : Kernel → (i : ℕ) → Kernel
unlocked k i = handed_over k (own_app k) i

-- handed over where the running thread owns it
abbrev pub given_up : Kernel → (i : ℕ) → Kernel
given_up k i = if owns k i then unlocked k i else k

-- each mutex that the running thread owns is handed over, in rising number
unfoldable pub all_handed_over : Kernel → Kernel
all_handed_over k = fold given_up k (range_with_len 0 4)

-- ---- conditions

abbrev pub wait_code : Kernel → (c i : ℕ) → Option Code
wait_code k c i = first_code ((nat_lt 3 c || nat_lt 3 i, BadArgument) ∷ (not (owns k i), NotOwner) ∷ [])

-- the running thread hands mutex i over, and waits at the end of the list of condition c, to take i again; nothing runs
abbrev pub waiting_condition : Kernel → (c i : ℕ) → Kernel
waiting_condition k c i =
    let t = running k in
    let k1 = unlocked k i in
    let k2 = with_condition k1 (own_app k) c (condition_at k1 (own_app k) c ++ own_number k ∷ []) in
    none_running (with_thread k2 t (record (thread_at k2 t) { state = on_condition; object = c; mutex = i }))

abbrev pub signal_code : (c : ℕ) → Option Code
signal_code c = first_code ((nat_lt 3 c, BadArgument) ∷ [])

-- so many of the first that wait for condition c leave its list and go for their mutexes, in order
unfoldable pub woken : Kernel → (c count : ℕ) → Kernel
woken k c count =
    let a = own_app k in
    let ns = condition_at k a c in
    fold (λ k n. gone_for k a n) (with_condition k a c (drop count ns)) (take count ns)

-- the first, if any
abbrev pub signalled : Kernel → (c : ℕ) → Kernel
signalled k c = woken k c 1

-- all
abbrev pub broadcasted : Kernel → (c : ℕ) → Kernel
broadcasted k c = woken k c (length (condition_at k (own_app k) c))
