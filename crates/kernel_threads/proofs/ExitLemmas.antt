-- What the end of the running thread leaves.
use Rattle.std.proofs.Common.{◌≡◌, ℕ, Bool, true, false, if◌then◌else◌, List, sym, ap, ◌∙◌, subst}
use Rattle.kernel_model.specs.Kernel.{Kernel, with_thread, empty_row}
use Rattle.kernel_model.specs.Words.{app_of, running, none_running}
use Rattle.kernel_model.specs.Layout.{kernel_of}
use Rattle.kernel_model.specs.Queues.{Leaves}
use Rattle.kernel_model.specs.declared.ends.AppEnd.TheVariants.{Done}
use Rattle.kernel_model.specs.Ending.{ended, exited, is_last}
use Rattle.kernel_threads.specs.Leaving.{is_last_thread}
use Rattle.kernel_threads.proofs.ChainLemmas.{leaves_as, leaves_then}

-- the kernel without the running thread t, which isn't the last
without_thread : Kernel → (t : ℕ) → Kernel
without_thread k t = none_running (with_thread k t empty_row)

exited_is : (k : Kernel) (b : Bool) → is_last k ≡ b → (if b then ended k (app_of (running k)) Done else without_thread k (running k)) ≡ exited k
unfolding exited without_thread
exited_is k b e = sym (ap (λ (c : Bool). if c then ended k (app_of (running k)) Done else none_running (with_thread k (running k) empty_row)) e)

pub exited_last : (m m' : List ℕ) (t : ℕ) → t ≡ running (kernel_of m) → true ≡ is_last_thread (kernel_of m) t → Leaves m m' (ended (kernel_of m) (app_of t) Done)
    → Leaves m m' (exited (kernel_of m))
exited_last m m' t e last l =
    let k : Kernel = kernel_of m in
    leaves_as m m' (ended k (app_of (running k)) Done) (exited k) (exited_is k true (sym (last ∙ ap (λ x. is_last_thread k x) e)))
    (subst (λ (x : ℕ). Leaves m m' (ended k (app_of x) Done)) e l)

pub exited_other : (m m' m'' : List ℕ) (t : ℕ) → t ≡ running (kernel_of m) → false ≡ is_last_thread (kernel_of m) t → Leaves m m' (with_thread (kernel_of m) t empty_row)
    → Leaves m' m'' (none_running (kernel_of m')) → Leaves m m'' (exited (kernel_of m))
unfolding without_thread
exited_other m m' m'' t e last l l' =
    let k : Kernel = kernel_of m in
    leaves_as m m'' (without_thread k (running k)) (exited k) (exited_is k false (sym (last ∙ ap (λ x. is_last_thread k x) e)))
    (subst (λ (x : ℕ). Leaves m m'' (without_thread k x)) e (leaves_then none_running m m' m'' (with_thread k t empty_row) l l'))
