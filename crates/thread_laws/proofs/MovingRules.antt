-- The running thread's row replaced: saving, and another priority.
use Rattle.std.proofs.Common.{◌≡◌, ◌≢◌, ℕ, ◌<◌, length, get_or, refl, ap, sym, ◌∙◌, subst, arith}
use Rattle.std.proofs.lemmas.List.{get_or-set_same}
use Rattle.kernel_model.specs.Kernel.{Kernel, word_of, thread_at, with_thread, app_at, free_thread}
use Rattle.kernel_model.specs.Words.{free, running_state, on_condition, running, app_of, limit_of, top_of, limited, none_running}
use Rattle.kernel_model.specs.Orderly.{IsThreadRow, IsLiveThread, IsOrderly}
use Rattle.kernel_model.specs.declared.rows.SysWord.TheVariants.{CurLim, CurTop}
use Rattle.kernel_model.specs.declared.rows.ThreadRow.{ThreadRow}
use Rattle.kernel_model.specs.Running.{ThreadRuns}
use Rattle.thread_laws.specs.Facts.{IsRunning}
use Rattle.thread_laws.specs.Laws.{SavedLaw, PriorityLaw}
use Rattle.thread_laws.proofs.Spots.{running_is}
use Rattle.thread_laws.proofs.Moving.{IsOrderlyBut}
use Rattle.thread_laws.proofs.MovingRows.{MayHave, moving_with_row}
use Rattle.thread_laws.proofs.MovingRuns.{stops_running, begins_running}

-- a kernel that has the limits of who runs
limited_already : (k : Kernel) → word_of k CurLim ≡ limit_of k → word_of k CurTop ≡ top_of k → limited k ≡ k
limited_already k l t = ap (λ (v : ℕ). record k { cur_lim = v; cur_top = top_of k }) (sym l) ∙ ap (λ (v : ℕ). record k { cur_top = v }) (sym t)

-- the row that was put in
pub row_put : (k : Kernel) (t : ℕ) (row : ThreadRow) → t < 32 → length k.threads ≡ 32 → thread_at (with_thread k t row) t ≡ row
row_put k t row l size = get_or-set_same k.threads t row free_thread (omega arith)

-- a live thread's row that waits for no condition
pub live_row : (k : Kernel) (t : ℕ) (row : ThreadRow) → IsLiveThread (app_at k (app_of t)) t → IsThreadRow row → row.state ≢ free → row.state ≢ on_condition → MayHave k t row
live_row k t row live fields on other = record { fields = fields; live = λ _. live; stays = λ _. on; waits = λ e. absurd (other e) }

-- the running thread's row replaced
runs_with_row : (k : Kernel) (row : ThreadRow) → IsOrderly k → ThreadRuns k → IsThreadRow row → row.state ≡ running_state → IsOrderly (with_thread k (running k) row)
runs_with_row k row h r fields e =
    let t : ℕ = running k in
    let is : IsRunning k t = running_is k h r in
    let live : IsLiveThread (app_at k (app_of t)) t = record { alive = is.app; number = is.within } in
    let rests : Kernel = with_thread (none_running k) t row in
    let moving : IsOrderlyBut rests t = moving_with_row (none_running k) t row is.number (stops_running k h r) (live_row k t row live fields (omega arith) (omega arith)) in
    let state : (thread_at rests t).state ≡ running_state = ap (λ (w : ThreadRow). w.state) (row_put k t row is.number h.shape.thread_rows) ∙ e in
    subst (λ (j : Kernel). IsOrderly j) (limited_already (with_thread k t row) h.limit h.top)
    (begins_running rests t moving is.number (record { no_thread = refl; no_module = r.no_module }) state)

pub saved_stays_settled : SavedLaw
saved_stays_settled k regs h r e =
    let old : IsThreadRow (thread_at k (running k)) = h.orderly.rows (running k) r.thread in
    let fields : IsThreadRow (record (thread_at k (running k)) { regs = regs }) =
    record { registers = e; state = old.state; priority = old.priority; waits = old.waits; takes = old.takes; wakes = old.wakes } in
    record {
      orderly = runs_with_row k _ h.orderly r fields (running_is k h.orderly r).state;
      inside = h.inside;
      apart = h.apart;
      apps = h.apps;
      functions = h.functions;
    }

pub priority_stays_settled : PriorityLaw
priority_stays_settled k regs h r p =
    let old : IsThreadRow (thread_at k (running k)) = h.orderly.rows (running k) r.thread in
    let fields : IsThreadRow (record (thread_at k (running k)) { priority = get_or regs 12 0 }) =
    record { registers = old.registers; state = old.state; priority = p; waits = old.waits; takes = old.takes; wakes = old.wakes } in
    record {
      orderly = runs_with_row k _ h.orderly r fields (running_is k h.orderly r).state;
      inside = h.inside;
      apart = h.apart;
      apps = h.apps;
      functions = h.functions;
    }
