-- Sleeping, and waiting for a line.
use Rattle.std.specs.Prelude.{ℕ, ◌+◌, ◌/◌, ◌%◌, ◌==◌, nat_lt, nat_le, ◌||◌, List, [], ◌∷◌, ◌++◌, take, drop, slice_index, Option}
use Rattle.std.specs.List.{fold, prefix_len}
use Rattle.kernel_model.specs.Kernel.{Kernel, with_word, thread_at, with_thread, line_at, with_line, with_sleepers}
use Rattle.kernel_model.specs.Words.{asleep, on_line, running, tick_number, wake_time, none_running}
use Rattle.kernel_model.specs.Queues.{among_sleepers, to_ready_end}
use Rattle.kernel_model.specs.declared.rows.SysWord.TheVariants.{TickLow, TickHigh}
use Rattle.kernel_model.specs.declared.code.Code.{Code}
use Rattle.kernel_model.specs.declared.code.Code.TheVariants.{BadArgument}
use Rattle.kernel_model.specs.Entries.{first_code}

-- ---- time

-- the running thread sleeps for as many ticks as R12 says
abbrev pub slept : Kernel → (registers : List ℕ) → Kernel
slept k r =
    let t = running k in
    let wake = tick_number k + slice_index r 12 in
    let k1 = with_thread k t (record (thread_at k t) { state = asleep; wake_low = wake % 65536; wake_high = wake / 65536 }) in
    none_running (with_sleepers k1 (among_sleepers k1 t))

-- threads go to the end of the ready list, one after another
abbrev pub each_to_end : Kernel → List ℕ → Kernel
each_to_end k ts = fold to_ready_end k ts

-- the tick number rises by one, and the sleepers whose time has come go to the end of the ready list
unfoldable pub ticked : Kernel → Kernel
ticked k =
    let now = tick_number k + 1 in
    let k1 = with_word (with_word k TickLow (now % 65536)) TickHigh (now / 65536) in
    let due = prefix_len (λ t. nat_le (wake_time k t) now) k.sleepers in
    each_to_end (with_sleepers k1 (drop due k.sleepers)) (take due k.sleepers)

-- ---- lines

abbrev pub line_code : (registers : List ℕ) → Option Code
line_code r = first_code ((slice_index r 12 == 0 || nat_lt 13 (slice_index r 12), BadArgument) ∷ [])

-- the running thread waits at the end of the list of the line that R12 says
abbrev pub waiting_line : Kernel → (registers : List ℕ) → Kernel
waiting_line k r =
    let t = running k in
    let n = slice_index r 12 in
    let k1 = with_line k n (line_at k n ++ t ∷ []) in
    none_running (with_thread k1 t (record (thread_at k1 t) { state = on_line; object = n }))

-- all that wait for a line go to the end of the ready list, in order
unfoldable pub woken_line : Kernel → (n : ℕ) → Kernel
woken_line k n = each_to_end (with_line k n []) (line_at k n)
