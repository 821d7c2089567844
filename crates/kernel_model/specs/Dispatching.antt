-- Saving, and choosing who runs.
use Rattle.std.specs.Prelude.{ℕ, ◌%◌, ◌==◌, Bool, if◌then◌else◌, List, length, slice_index, remove, Option, None, Some}
use Rattle.kernel_model.specs.Kernel.{Kernel, thread_at, with_ready}
use Rattle.kernel_model.specs.Words.{running_state, running, with_running, none_running, with_state, with_registers}
use Rattle.kernel_model.specs.Queues.{to_ready_end, to_ready_front}
use Rattle.kernel_model.specs.Running.{idle_context}

-- the running thread's row has these registers
abbrev pub saved : Kernel → List ℕ → Kernel
saved k r = with_registers k (running k) r

-- it goes to the front or to the end of the ready list, and nothing runs
abbrev pub moved_to_front : Kernel → Kernel
moved_to_front k = none_running (to_ready_front k (running k))

abbrev pub moved_to_end : Kernel → Kernel
moved_to_end k = none_running (to_ready_end k (running k))

-- the place in the ready list that is chosen: the first, or with a pick the one at it modulo the count
abbrev pub chosen_place : Option ℕ → List ℕ → ℕ
chosen_place None xs = 0
chosen_place (Some pick) xs = pick % length xs

abbrev pub chosen_thread : Kernel → Option ℕ → ℕ
chosen_thread k pick = slice_index k.ready (chosen_place pick k.ready)

abbrev pub nothing_ready : Kernel → Bool
nothing_ready k = length k.ready == 0

-- the chosen thread leaves the ready list and runs; where nothing is ready the kernel stays as it is
abbrev pub dispatched : Kernel → Option ℕ → Kernel
dispatched k pick =
    let t = chosen_thread k pick in
    if nothing_ready k then k else with_running (with_state (with_ready k (remove k.ready (chosen_place pick k.ready))) t running_state) t

-- the registers that run then
abbrev pub dispatched_context : Kernel → Option ℕ → List ℕ
dispatched_context k pick = if nothing_ready k then idle_context else (thread_at k (chosen_thread k pick)).regs
