-- The chosen thread is the one at the chosen place, and leaves the ready list there.
use Rattle.std.proofs.Common.{◌≡◌, ◌≢◌, ℕ, ◌<◌, Bool, false, eqb, cond, List, length, get_or, remove, Option, refl, sym, ap, ◌∙◌, subst, arith, AllPairs}
use Rattle.std.proofs.lemmas.Bool.{eq-eqb, ne_eqb}
use Rattle.std.proofs.lemmas.List.Sums.{position_or_len_is}
use Rattle.kernel_model.specs.Kernel.{Kernel, with_ready}
use Rattle.kernel_model.specs.Words.{running_state, with_running, with_state}
use Rattle.kernel_model.specs.Queues.{HasQueues, Leaves, without}
use Rattle.kernel_model.specs.Layout.{kernel_of}
use Rattle.kernel_model.proofs.LayoutLemmas.{distinct_front}
use Rattle.kernel_model.specs.Dispatching.{chosen_place, chosen_thread, dispatched, nothing_ready}

-- among distinct members the one at a place is taken out there
without_at : (xs : List ℕ) (i : ℕ) → AllPairs (λ x y. x ≢ y) xs → i < length xs → without xs (get_or xs i 0) ≡ remove xs i
without_at xs i once h =
    ap (λ n. remove xs n)
    (position_or_len_is (λ x. eqb x (get_or xs i 0)) xs i 0 (omega arith)
    (λ k l. ne_eqb (get_or xs k 0) (get_or xs i 0) (once k i 0 l h))
    (λ l. eq-eqb (get_or xs i 0) (get_or xs i 0) refl))

-- the kernel in which thread t was taken out of the ready list and runs
run_of : Kernel → (t : ℕ) → List ℕ → Kernel
run_of k t xs = with_running (with_state (with_ready k xs) t running_state) t

chosen_runs : (k : Kernel) (pick : Option ℕ) → AllPairs (λ x y. x ≢ y) k.ready → chosen_place pick k.ready < length k.ready → nothing_ready k ≡ false
    → run_of k (chosen_thread k pick) (without k.ready (chosen_thread k pick)) ≡ dispatched k pick
unfolding run_of
chosen_runs k pick once h some =
    let i : ℕ = chosen_place pick k.ready in
    ap (λ xs. run_of k (chosen_thread k pick) xs) (without_at k.ready i once h)
    ∙ sym (ap (λ (b : Bool). cond b k (run_of k (chosen_thread k pick) (remove k.ready i))) some)

-- what the code leaves where list is the ready list and i the chosen place in it
pub dispatched_leaves : (m m' : List ℕ) (pick : Option ℕ) (items list : List ℕ) (i : ℕ) → HasQueues (kernel_of m) → items ≡ (kernel_of m).ready → list ≡ items
    → i ≡ chosen_place pick list → i < length list
    → Leaves m m' (with_running (with_state (with_ready (kernel_of m) (without (kernel_of m).ready (get_or list i 0))) (get_or list i 0) running_state) (get_or list i 0))
    → Leaves m m' (dispatched (kernel_of m) pick)
unfolding run_of
dispatched_leaves m m' pick items list i q e f is below l =
    let k : Kernel = kernel_of m in
    let same : list ≡ k.ready = f ∙ e in
    let place : i ≡ chosen_place pick k.ready = is ∙ ap (λ xs. chosen_place pick xs) same in
    let here : get_or list i 0 ≡ chosen_thread k pick = ap (λ xs. get_or xs i 0) same ∙ ap (λ n. get_or k.ready n 0) place in
    let size : length list ≡ length k.ready = ap (λ (xs : List ℕ). length xs) same in
    subst (λ (j : Kernel). Leaves m m' j)
    (chosen_runs k pick (distinct_front k.ready k.sleepers q.once) (omega arith) (ne_eqb (length k.ready) 0 (omega arith)))
    (subst (λ (t : ℕ). Leaves m m' (run_of k t (without k.ready t))) here l)
