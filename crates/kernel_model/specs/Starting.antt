-- Threads that begin.
use Rattle.std.specs.Prelude.{◌≡◌, ℕ, ◌<◌, ◌==◌, Bool, List, map, slice_index}
use Rattle.std.specs.List.{filter, range_with_len}
use Rattle.kernel_model.specs.Kernel.{Kernel, thread_at, with_thread, app_at}
use Rattle.kernel_model.specs.Words.{live, free, app_of, identity, stack_high}
use Rattle.kernel_model.specs.Queues.{to_ready_end}
use Rattle.kernel_model.specs.Running.{new_context}

-- a thread gets a new context and a priority, and goes to the end of the ready list
abbrev pub begun : Kernel → (t pc priority r12 : ℕ) → Kernel
begun k t pc p r12 = to_ready_end (with_thread k t (record (thread_at k t) { regs = new_context pc (stack_high k t) r12; priority = p })) t

-- an application's thread 0 begins at the entry that register R0 of its row keeps, with priority 3
abbrev pub started : Kernel → (a : ℕ) → Kernel
started k a = begun k (identity a 0) (slice_index (thread_at k (identity a 0)).regs 0) 3 0

-- ---- free threads

abbrev pub is_free_thread : Kernel → ℕ → Bool
is_free_thread k t = (thread_at k t).state == free

-- the identities of an application's threads
abbrev pub threads_of : Kernel → (a : ℕ) → List ℕ
threads_of k a = map (identity a) (range_with_len 0 (app_at k a).threads)

-- those that are free, the least first
abbrev pub free_threads : Kernel → (a : ℕ) → List ℕ
free_threads k a = filter (is_free_thread k) (threads_of k a)

-- thread t may begin: it is a free one of a live application
pub record MayBegin (k : Kernel) (t : ℕ) : Type 0 where
  pub number : t < 32
  pub app : (app_at k (app_of t)).state ≡ live
  pub within : t < identity (app_of t) (app_at k (app_of t)).threads
  pub free : (thread_at k t).state ≡ free
