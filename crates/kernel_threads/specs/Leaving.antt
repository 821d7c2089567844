-- What the threads of an application leave when it ends.
use Rattle.std.specs.Prelude.{ℕ, ◌==◌, ◌||◌, Bool, List}
use Rattle.std.specs.List.{fold, list_all, range_with_len}
use Rattle.kernel_model.specs.Kernel.{Kernel, with_thread, empty_row}
use Rattle.kernel_model.specs.Words.{app_of, identity}
use Rattle.kernel_model.specs.Starting.{is_free_thread, threads_of}

-- the kernel with other lists of those that wait for lines
abbrev pub with_lines : Kernel → List (List ℕ) → Kernel
with_lines k xs = record k { lines = xs }

-- the first rows of application a's threads are empty
abbrev pub rows_emptied : Kernel → (a count : ℕ) → Kernel
rows_emptied k a count = fold (λ k n. with_thread k (identity a n) empty_row) k (range_with_len 0 count)

-- no other thread of its application is live
abbrev pub is_last_thread : Kernel → (t : ℕ) → Bool
is_last_thread k t = list_all (λ x. (x == t) || is_free_thread k x) (threads_of k (app_of t))
