-- The running thread sleeps, or waits for a line.
use Rattle.std.proofs.Common.{◌≡◌, ◌≢◌, ℕ, ◌+◌, ◌*◌, ◌/◌, ◌%◌, get_or, ap, arith}
use Rattle.kernel_model.specs.Kernel.{Kernel, thread_at, with_thread, app_at}
use Rattle.kernel_model.specs.Words.{free, asleep, on_condition, on_line, running_state, running, app_of, tick_number, wake_time, none_running}
use Rattle.kernel_model.specs.Orderly.{IsThreadRow, IsLiveThread, IsOrderly}
use Rattle.kernel_model.specs.declared.rows.ThreadRow.{ThreadRow}
use Rattle.kernel_model.specs.Running.{ThreadRuns}
use Rattle.thread_laws.specs.Facts.{IsRunning}
use Rattle.thread_laws.specs.Waits.{SleptLaw, WaitingLineLaw}
use Rattle.thread_laws.proofs.Spots.{running_is}
use Rattle.thread_laws.proofs.Moving.{IsOrderlyBut}
use Rattle.thread_laws.proofs.MovingRows.{moving_with_row}
use Rattle.thread_laws.proofs.MovingRules.{row_put, live_row}
use Rattle.thread_laws.proofs.MovingRuns.{stops_running}
use Rattle.thread_laws.proofs.MovingSleepers.{comes_asleep}
use Rattle.thread_laws.proofs.MovingLines.{comes_to_line}

-- the kernel in which the running thread stopped and has another row
abbrev stopped_with : Kernel → ThreadRow → Kernel
stopped_with k row = with_thread (none_running k) (running k) row

stops_with_row : (k : Kernel) (row : ThreadRow) → IsOrderly k → ThreadRuns k → IsThreadRow row → row.state ≢ free → row.state ≢ on_condition → IsOrderlyBut (stopped_with k row) (running k)
stops_with_row k row h r fields on other =
    let is : IsRunning k (running k) = running_is k h r in
    let live : IsLiveThread (app_at k (app_of (running k))) (running k) = record { alive = is.app; number = is.within } in
    moving_with_row (none_running k) (running k) row is.number (stops_running k h r) (live_row k (running k) row live fields on other)

row_of_stopped : (k : Kernel) (row : ThreadRow) → IsOrderly k → ThreadRuns k → thread_at (stopped_with k row) (running k) ≡ row
row_of_stopped k row h r = row_put (none_running k) (running k) row r.thread h.shape.thread_rows

-- ---- sleeping

sleeping_fields : (row : ThreadRow) (low high : ℕ) → IsThreadRow row → row.state ≡ running_state → IsThreadRow (record row { state = asleep; wake_low = low; wake_high = high })
sleeping_fields row low high old e = record {
  registers = old.registers;
  state = omega arith;
  priority = old.priority;
  waits = λ _ _ _. old.waits (omega arith) (omega arith) (omega arith);
  takes = λ _. old.takes (omega arith);
  wakes = λ n. absurd (omega arith);
}

pub slept_stays_settled : SleptLaw
slept_stays_settled k regs h r some =
    let t : ℕ = running k in
    let wake : ℕ = tick_number k + get_or regs 12 0 in
    let row : ThreadRow = record (thread_at k t) { state = asleep; wake_low = wake % 65536; wake_high = wake / 65536 } in
    let fields : IsThreadRow row = sleeping_fields (thread_at k t) (wake % 65536) (wake / 65536) (h.orderly.rows t r.thread) (running_is k h.orderly r).state in
    let put : thread_at (stopped_with k row) t ≡ row = row_of_stopped k row h.orderly r in
    let time : wake_time (stopped_with k row) t ≡ wake % 65536 + 65536 * (wake / 65536) = ap (λ (w : ThreadRow). w.wake_low + 65536 * w.wake_high) put in
    record {
      orderly = comes_asleep (stopped_with k row) t (stops_with_row k row h.orderly r fields (omega arith) (omega arith)) r.thread
          (ap (λ (w : ThreadRow). w.state) put)
          (omega arith);
      inside = h.inside;
      apart = h.apart;
      apps = h.apps;
      functions = h.functions;
    }

-- ---- waiting for a line

waiting_fields : (row : ThreadRow) (n : ℕ) → IsThreadRow row → row.state ≡ running_state → IsThreadRow (record row { state = on_line; object = n })
waiting_fields row n old e = record {
  registers = old.registers;
  state = omega arith;
  priority = old.priority;
  waits = λ _ _ other. absurd (omega arith);
  takes = λ _. old.takes (omega arith);
  wakes = λ _. old.wakes (omega arith);
}

pub waiting_line_stays_settled : WaitingLineLaw
waiting_line_stays_settled k regs h r l =
    let t : ℕ = running k in
    let n : ℕ = get_or regs 12 0 in
    let row : ThreadRow = record (thread_at k t) { state = on_line; object = n } in
    let fields : IsThreadRow row = waiting_fields (thread_at k t) n (h.orderly.rows t r.thread) (running_is k h.orderly r).state in
    let put : thread_at (stopped_with k row) t ≡ row = row_of_stopped k row h.orderly r in
    record {
      orderly = comes_to_line (stopped_with k row) t n (stops_with_row k row h.orderly r fields (omega arith) (omega arith)) r.thread l
          (ap (λ (w : ThreadRow). w.state) put)
          (ap (λ (w : ThreadRow). w.object) put);
      inside = h.inside;
      apart = h.apart;
      apps = h.apps;
      functions = h.functions;
    }
