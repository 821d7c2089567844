-- Threads and applications that end.
use Rattle.std.specs.Prelude.{◌≢◌, ℕ, ◌<◌, ◌==◌, Bool, not, ◌||◌, if◌then◌else◌, List, [], map}
use Rattle.std.specs.List.{filter, fold, range_with_len, list_all}
use Rattle.kernel_model.specs.declared.states.TheConstants.{DONE, FAULTED}
use Rattle.kernel_model.specs.Kernel.{Kernel, with_thread, app_at, with_app, with_mutex, with_condition, free_mutex, empty_row}
use Rattle.kernel_model.specs.Words.{running, app_of, number_of, identity, owner_of, none_running}
use Rattle.kernel_model.specs.declared.ends.AppEnd.{AppEnd}
use Rattle.kernel_model.specs.declared.ends.AppEnd.TheVariants.{Done, Faulted}
use Rattle.kernel_model.specs.Starting.{is_free_thread, threads_of}

abbrev pub is_of : (a t : ℕ) → Bool
is_of a t = app_of t == a

-- a list without the threads of application a
abbrev pub others : (a : ℕ) → List ℕ → List ℕ
others a ts = filter (λ t. not (is_of a t)) ts

-- the state of the row of an application that ended
abbrev pub end_state : AppEnd → ℕ
end_state Done = DONE
end_state Faulted = FAULTED

-- no thread of the application is live or in a list
unfoldable pub threads_ended : Kernel → (a : ℕ) → Kernel
threads_ended k a =
    let k1 = fold (λ k n. with_thread k (identity a n) empty_row) k (range_with_len 0 4) in
    record k1 { ready = others a k.ready; sleepers = others a k.sleepers; lines = map (others a) k.lines }

-- its mutexes and its conditions are as new
unfoldable pub waits_ended : Kernel → (a : ℕ) → Kernel
waits_ended k a = fold (λ k i. with_condition (with_mutex k a i free_mutex) a i []) k (range_with_len 0 4)

-- an application ends
unfoldable pub ended : Kernel → (a : ℕ) → AppEnd → Kernel
ended k a how =
    let k1 = waits_ended (threads_ended k a) a in
    let k2 = with_app k1 a (record (app_at k1 a) { state = end_state how }) in
    if is_of a (running k) then none_running k2 else k2

-- the running thread is the last of its application
abbrev pub is_last : Kernel → Bool
is_last k = list_all (λ t. (t == running k) || is_free_thread k t) (threads_of k (app_of (running k)))

-- it ends, and its application with it where it is the last
unfoldable pub exited : Kernel → Kernel
exited k = if is_last k then ended k (app_of (running k)) Done else none_running (with_thread k (running k) empty_row)

-- the running thread owns no mutex of its application
abbrev pub OwnsNone : Kernel → Type 0
OwnsNone k = (i : ℕ) → i < 4 → owner_of k (app_of (running k)) i ≢ number_of (running k)
