-- The run of a system under a script, and its end.
use Rattle.std.specs.Prelude.{ℕ, zero, suc, ◌+◌, Bool, ◌==◌, nat_lt, nat_le, if◌then◌else◌, ◌&&◌, ◌||◌, not, List, [], ◌∷◌, length}
use Rattle.std.specs.List.{filter, list_any}
use Rattle.machine_model.specs.Context.{reg}
use Rattle.kernel_model.specs.declared.map.TheConstants.{FIRST_ROUTINE, LAST_ROUTINE}
use Rattle.kernel_model.specs.declared.rows.AppRow.{AppRow}
use Rattle.kernel_model.specs.Words.{none, live, running}
use Rattle.msp_encode.specs.declared.registers.TheConstants.{PC}
use Rattle.trace_model.specs.declared.records.Record.{Record}
use Rattle.trace_model.specs.declared.scripts.At.{At}
use Rattle.trace_model.specs.declared.scripts.Script.{Script}
use Rattle.trace_model.specs.Draws.{raised_at, pick_at}
use Rattle.trace_model.specs.Texts.{is_fault, is_emit}
use Rattle.node_model.specs.Systems.{System}
use Rattle.node_model.specs.Steps.{Next, step, pending}

-- ---- the end

abbrev pub is_live_app : AppRow → Bool
is_live_app row = row.state == live

abbrev pub is_serving : (pc : ℕ) → Bool
is_serving pc = nat_le FIRST_ROUTINE pc && nat_le pc LAST_ROUTINE

-- no thread runs or is ready, no line is pending or being served, and the
-- script does nothing more that a live application could see
unfoldable pub is_quiet : Script → System → Bool
is_quiet t s =
    (running s.kernel == none)
    && (length s.kernel.ready == 0)
    && not (is_serving (reg s.context PC))
    && (pending s.kernel == 0)
    && not (list_any (λ (a : At). nat_lt s.steps a.step) t.ats)
    && ((length t.everys.items == 0) || not (list_any is_live_app s.kernel.apps))

-- the step that a script gives
abbrev pub next : Script → System → Next
next t s = step s (raised_at t (s.steps + 1)) (pick_at t (s.steps + 1))

-- ---- runs

-- the records of a run, and the system at its end
pub record Run : Type 0 where
  pub records : List Record
  pub last : System

abbrev pub after : Record → Run → Run
after r rest = record { records = r ∷ rest.records; last = rest.last }

abbrev pub ended_run : System → Run
ended_run s = record { records = []; last = s }

-- at most so many steps, until it is quiet
unfoldable pub run : (limit : ℕ) → Script → System → Run
run zero t s = ended_run s
run (suc n) t s = if is_quiet t s then ended_run s else after (next t s).shown (run n t (next t s).system)

abbrev pub emits : Run → ℕ
emits r = length (filter is_emit r.records)

abbrev pub faults : Run → ℕ
faults r = length (filter is_fault r.records)
