-- The record of each step has a line: an entry that is recorded has a name.
use Rattle.std.proofs.Common.{ℕ, Bool, true, false, cond, Option, Some, None, refl}
use Rattle.std.specs.Prelude.{◌==◌}
use Rattle.msp_encode.specs.declared.instr.Instr.{Instr}
use Rattle.machine_model.specs.Context.{reg, set_reg}
use Rattle.kernel_model.specs.declared.entries.TheConstants.{MODULE_CALL, TICKS}
use Rattle.kernel_model.specs.declared.code.Code.{Code}
use Rattle.kernel_model.specs.Words.{number_of}
use Rattle.kernel_model.specs.Dispatching.{moved_to_front}
use Rattle.kernel_model.specs.Entries.{spawn_code, spawned, next_thread, priority_code, with_priority}
use Rattle.kernel_model.specs.Waking.{slept, line_code, waiting_line}
use Rattle.kernel_model.specs.Sync.{lock_code, locked, unlock_code, unlocked, wait_code, waiting_condition, signal_code, signalled, broadcasted, is_free_mutex, own_app}
use Rattle.kernel_model.specs.Modules.{enter_code, entered, entered_context}
use Rattle.trace_model.specs.declared.records.FaultKind.TheVariants.{Return, Jump}
use Rattle.trace_print.specs.Named.{HasLine}
use Rattle.node_model.specs.Systems.{System, seen}
use Rattle.node_model.specs.Entries.{Work, Turn, Call, StoreFault, StackFault, Goes, Calls, Exits, Spawn, Yield, Sleep, Priority, Self, Ticks, Lock, Unlock, Wait, Signal, Broadcast, Line, ModuleCall, Emits, Leave, called, entry_address, unless, row, by_call, by_jump, turn_at, returning, work, has_row, module_runs, faults, goes_on, goes_straight, nothing_happens, after, after_giving, after_leaving, saved_zero, yields, locks, with_ticks, r12, r13}
use Rattle.node_model.specs.Steps.{Case, Accepts, IsIdle, Enters, Serves, OverBudget, Runs, by_case, step, case_of, instruction, fetched, with_raised}

record TurnHasLine (t : Turn) : Type 0 where
  line : HasLine t.shown

either : (b : Bool) (t u : Turn) → TurnHasLine t → TurnHasLine u → TurnHasLine (cond b t u)
either true t u h k = h
either false t u h k = k

unless-line : (e : Call) (w : Work) (o : Option Code) (t : Turn) → HasLine (called w (entry_address e)) → TurnHasLine t
    → TurnHasLine (unless e w o t)
unless-line e w None t h k = k
unless-line e w (Some c) t h k = record { line = h }

row-line : (c : Call) (w : Work) → TurnHasLine (row c w)
row-line StoreFault w = record { line = tt }
row-line StackFault w = record { line = tt }
row-line Goes w = record { line = tt }
row-line Calls w = record { line = tt }
row-line Exits w = record { line = tt }
row-line Leave w = record { line = tt }
row-line Spawn w =
    unless-line Spawn w (spawn_code w.kernel w.context (w.is_own (r12 w)))
    (after_giving Spawn w (spawned w.kernel w.context) (number_of (next_thread w.kernel))) refl (record { line = refl })
row-line Yield w = record { line = refl }
row-line Sleep w =
    either (r12 w == 0) (yields Sleep w) (after_leaving Sleep w (slept (saved_zero w) w.context)) (record { line = refl })
    (record { line = refl })
row-line Priority w =
    unless-line Priority w (priority_code w.context) (after Priority w (with_priority w.kernel w.context)) refl (record { line = refl })
row-line Self w = record { line = refl }
row-line Ticks w =
    either (module_runs w.kernel) (goes_straight w.kernel (set_reg (with_ticks w) 12 0) (called w TICKS))
    (goes_on w w.kernel (with_ticks w) 0 (called w TICKS)) (record { line = refl }) (record { line = refl })
row-line Lock w =
    unless-line Lock w (lock_code w.kernel (r12 w)) (locks w (r12 w)) refl
    (either (is_free_mutex w.kernel (own_app w.kernel) (r12 w)) (after_leaving Lock w (moved_to_front (locked (saved_zero w) (r12 w))))
    (after_leaving Lock w (locked (saved_zero w) (r12 w))) (record { line = refl }) (record { line = refl }))
row-line Unlock w =
    unless-line Unlock w (unlock_code w.kernel (r12 w)) (after Unlock w (unlocked w.kernel (r12 w))) refl (record { line = refl })
row-line Wait w =
    unless-line Wait w (wait_code w.kernel (r12 w) (r13 w)) (after_leaving Wait w (waiting_condition (saved_zero w) (r12 w) (r13 w)))
    refl (record { line = refl })
row-line Signal w =
    unless-line Signal w (signal_code (r12 w)) (after Signal w (signalled w.kernel (r12 w))) refl (record { line = refl })
row-line Broadcast w =
    unless-line Broadcast w (signal_code (r12 w)) (after Broadcast w (broadcasted w.kernel (r12 w))) refl (record { line = refl })
row-line Line w =
    unless-line Line w (line_code w.context) (after_leaving Line w (waiting_line (saved_zero w) w.context)) refl
    (record { line = refl })
row-line ModuleCall w =
    unless-line ModuleCall w (enter_code w.kernel (r12 w))
    (goes_straight (entered w.kernel w.context) (entered_context w.kernel w.context) (called w MODULE_CALL)) refl (record { line = refl })
row-line Emits w = record { line = tt }

call-line : (c : Call) (w : Work) → TurnHasLine (by_call c w)
call-line c w =
    either (w.is_own w.stacked) (row c (returning w)) (faults w Return w.stacked) (row-line c (returning w)) (record { line = tt })

jump-line : (c : Call) (w : Work) → HasLine (called w (entry_address c)) → TurnHasLine (by_jump c w)
jump-line c w h =
    either (w.is_own (reg w.context 4))
    (goes_straight w.kernel (set_reg w.context 0 (reg w.context 4)) (called w (entry_address c)))
    (faults w Jump (reg w.context 4)) (record { line = h }) (record { line = tt })

turn-line : (c : Call) (w : Work) → TurnHasLine (turn_at c w)
turn-line StoreFault w = record { line = tt }
turn-line StackFault w = record { line = tt }
turn-line Goes w = jump-line Goes w refl
turn-line Calls w = jump-line Calls w refl
turn-line Exits w = record { line = tt }
turn-line Leave w = record { line = refl }
turn-line Spawn w = call-line Spawn w
turn-line Yield w = call-line Yield w
turn-line Sleep w = call-line Sleep w
turn-line Priority w = call-line Priority w
turn-line Self w = call-line Self w
turn-line Ticks w = call-line Ticks w
turn-line Lock w = call-line Lock w
turn-line Unlock w = call-line Unlock w
turn-line Wait w = call-line Wait w
turn-line Signal w = call-line Signal w
turn-line Broadcast w = call-line Broadcast w
turn-line Line w = call-line Line w
turn-line ModuleCall w = call-line ModuleCall w
turn-line Emits w = call-line Emits w

instr-line : (s : System) (x : Option (Instr × ℕ)) → HasLine (instruction s x).shown
instr-line s None = tt
instr-line s (Some x) = tt

case-line : (s : System) (pick : Option ℕ) (e : Case) → HasLine (by_case s pick e).shown
case-line s pick (Accepts n) = tt
case-line s pick IsIdle = tt
case-line s pick (Enters c) =
    let w : Work = work s pick in
    (either (has_row w.kernel c) (turn_at c w) (nothing_happens w) (turn-line c w) (record { line = tt })).line
case-line s pick (Serves n) = tt
case-line s pick OverBudget = tt
case-line s pick Runs = instr-line s (fetched (seen s) (reg s.context 0))

pub step_has_line : (s : System) (raised : ℕ) (pick : Option ℕ) → HasLine (step s raised pick).shown
unfolding step
step_has_line s raised pick =
    case-line (with_raised s raised) pick (case_of (with_raised s raised).kernel (with_raised s raised).context)
