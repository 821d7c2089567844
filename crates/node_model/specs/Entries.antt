-- What each of the kernel's entries and vector routines does. None writes in memory.
use Rattle.std.specs.Prelude.{ℕ, ◌+◌, ◌*◌, ◌/◌, ◌%◌, Bool, true, false, ◌==◌, if◌then◌else◌, ◌&&◌, not, List, [], ◌∷◌, Option, None, Some}
use Rattle.machine_model.specs.Memory.{word_at}
use Rattle.machine_model.specs.Context.{reg, set_reg}
use Rattle.machine_model.specs.Does.{raised}
use Rattle.kernel_model.specs.declared.entries.TheConstants.{BROADCAST, CALLS, EMITS, EXITS, GOES, IDENTITY, LEAVE, LINE, LOCK, MODULE_CALL, PRIORITY, SIGNAL, SLEEP, SPAWN, STACK_FAULT, STORE_FAULT, TICKS, UNLOCK, WAIT, YIELD}
use Rattle.kernel_model.specs.Kernel.{Kernel}
use Rattle.kernel_model.specs.Words.{none, running, running_module, app_of, number_of, tick_number}
use Rattle.kernel_model.specs.declared.code.Code.{Code}
use Rattle.kernel_model.specs.declared.code.Code.TheVariants.{Full, BadArgument, NotOwner, OwnLock, NoFunction, ModuleEnded}
use Rattle.kernel_model.specs.declared.ends.AppEnd.TheVariants.{Faulted}
use Rattle.kernel_model.specs.Running.{running_domain}
use Rattle.kernel_model.specs.Dispatching.{saved, moved_to_front, moved_to_end, dispatched, dispatched_context}
use Rattle.kernel_model.specs.Entries.{spawn_code, spawned, next_thread, priority_code, with_priority}
use Rattle.kernel_model.specs.Ending.{ended, exited, is_last}
use Rattle.kernel_model.specs.Waking.{slept, ticked, line_code, waiting_line, woken_line}
use Rattle.kernel_model.specs.Sync.{lock_code, locked, unlock_code, unlocked, all_handed_over, wait_code, waiting_condition, signal_code, signalled, broadcasted, is_free_mutex, own_app}
use Rattle.kernel_model.specs.Modules.{enter_code, entered, entered_context, left, module_ended}
use Rattle.msp_encode.specs.declared.registers.TheConstants.{PC, SP, SR, CHECKED}
use Rattle.trace_model.specs.declared.records.Who.{Who}
use Rattle.trace_model.specs.declared.records.Who.TheVariants as who
use Rattle.trace_model.specs.declared.records.FaultKind.{FaultKind}
use Rattle.trace_model.specs.declared.records.FaultKind.TheVariants.{Store, Stack, Jump, Return}
use Rattle.trace_model.specs.declared.records.Record.{Record}
use Rattle.trace_model.specs.declared.records.Record.TheVariants.{Entry, Emit, Exit, Fault, Vector, IdleTurn}
use Rattle.node_model.specs.Systems.{System, seen, is_mark}

-- ---- a routine at work

-- what it is given: kernel and registers, the marks of the running domain, the word at SP, the number of the step, and the pick
pub record Work : Type 0 where
  pub kernel : Kernel
  pub context : List ℕ
  pub is_own : (at : ℕ) → Bool
  pub stacked : ℕ
  pub step : ℕ
  pub pick : Option ℕ

-- what it leaves, and its record
pub record Turn : Type 0 where
  pub kernel : Kernel
  pub context : List ℕ
  pub shown : Record

abbrev pub module_runs : Kernel → Bool
module_runs k = not (running_module k == none)

abbrev pub who_runs : Kernel → Who
who_runs k =
    if module_runs k then who.Module (running_module k)
    else (if running k == none then who.Idle else who.Thread (app_of (running k)) (number_of (running k)))

abbrev pub r12 : Work → ℕ
r12 w = reg w.context 12

abbrev pub r13 : Work → ℕ
r13 w = reg w.context 13

abbrev pub who_calls : Work → Who
who_calls w = who_runs w.kernel

-- the record of a call that prints nothing of its own; PC is the entry's address as long as nothing was popped
abbrev pub called : Work → (entry : ℕ) → Record
called w e = Entry w.step (who_calls w) e

-- ---- how a routine ends

-- nothing runs, and the kernel dispatches
abbrev pub dispatches : Work → Kernel → Record → Turn
dispatches w k r = record { kernel = dispatched k w.pick; context = dispatched_context k w.pick; shown = r }

-- the caller goes on at PC with a code in R12, from the front
abbrev pub goes_on : Work → Kernel → (context : List ℕ) → (code : ℕ) → Record → Turn
goes_on w k c code r = dispatches w (moved_to_front (saved k (set_reg c 12 code))) r

-- no dispatch
abbrev pub goes_straight : Kernel → (context : List ℕ) → Record → Turn
goes_straight k c r = record { kernel = k; context = c; shown = r }

abbrev pub nothing_happens : Work → Turn
nothing_happens w = goes_straight w.kernel w.context (IdleTurn w.step)

abbrev pub code_number : Code → ℕ
code_number Full = 1
code_number BadArgument = 2
code_number NotOwner = 3
code_number OwnLock = 4
code_number NoFunction = 5
code_number ModuleEnded = 6

-- ---- faults

-- the running application ends, or the running module, whose caller goes to the front
abbrev pub fault_kernel : Kernel → Kernel
fault_kernel k = if module_runs k then moved_to_front (module_ended k) else ended k (app_of (running k)) Faulted

abbrev pub faults : Work → FaultKind → (value : ℕ) → Turn
faults w f v = dispatches w (fault_kernel w.kernel) (Fault w.step (who_calls w) f v)

-- ---- the entries

pub data Call : Type 0 where
  StoreFault : Call
  StackFault : Call
  Goes : Call
  Calls : Call
  Exits : Call
  Spawn : Call
  Yield : Call
  Sleep : Call
  Priority : Call
  Self : Call
  Ticks : Call
  Lock : Call
  Unlock : Call
  Wait : Call
  Signal : Call
  Broadcast : Call
  Line : Call
  ModuleCall : Call
  Emits : Call
  Leave : Call

abbrev pub calls : List Call
calls =
    StoreFault ∷ StackFault ∷ Goes ∷ Calls ∷ Exits ∷ Spawn ∷ Yield ∷ Sleep ∷ Priority ∷ Self ∷ Ticks ∷ Lock ∷ Unlock ∷ Wait ∷ Signal
    ∷ Broadcast ∷ Line ∷ ModuleCall ∷ Emits ∷ Leave ∷ []

abbrev pub entry_address : Call → ℕ
entry_address StoreFault = STORE_FAULT
entry_address StackFault = STACK_FAULT
entry_address Goes = GOES
entry_address Calls = CALLS
entry_address Exits = EXITS
entry_address Spawn = SPAWN
entry_address Yield = YIELD
entry_address Sleep = SLEEP
entry_address Priority = PRIORITY
entry_address Self = IDENTITY
entry_address Ticks = TICKS
entry_address Lock = LOCK
entry_address Unlock = UNLOCK
entry_address Wait = WAIT
entry_address Signal = SIGNAL
entry_address Broadcast = BROADCAST
entry_address Line = LINE
entry_address ModuleCall = MODULE_CALL
entry_address Emits = EMITS
entry_address Leave = LEAVE

-- who may reach it
abbrev pub is_for_module : Call → Bool
is_for_module StoreFault = true
is_for_module StackFault = true
is_for_module Goes = true
is_for_module Calls = true
is_for_module Ticks = true
is_for_module Leave = true
is_for_module _ = false

abbrev pub is_for_app : Call → Bool
is_for_app Leave = false
is_for_app _ = true

-- the entry has a row for who runs
abbrev pub has_row : Kernel → Call → Bool
has_row k c = if module_runs k then is_for_module c else (not (running k == none) && is_for_app c)

-- ---- the calls: their return address was popped, into PC

-- the caller's saved registers have code 0
abbrev pub saved_zero : Work → Kernel
saved_zero w = saved w.kernel (set_reg w.context 12 0)

-- the caller goes on with code 0 from the front, after what was done to the kernel
abbrev pub after : Call → Work → Kernel → Turn
after e w k = goes_on w k w.context 0 (called w (entry_address e))

-- the same with a value in R13
abbrev pub after_giving : Call → Work → Kernel → ℕ → Turn
after_giving e w k v = goes_on w k (set_reg w.context 13 v) 0 (called w (entry_address e))

-- the caller doesn't go on at once
abbrev pub after_leaving : Call → Work → Kernel → Turn
after_leaving e w k = dispatches w k (called w (entry_address e))

-- a code other than 0, and nothing else, or the effect
abbrev pub unless : Call → Work → Option Code → Turn → Turn
unless e w None effect = effect
unless e w (Some c) effect = goes_on w w.kernel w.context (code_number c) (called w (entry_address e))

abbrev pub yields : Call → Work → Turn
yields e w = after_leaving e w (moved_to_end (saved_zero w))

-- the caller owns the mutex now, or waits for it
abbrev pub locks : Work → (i : ℕ) → Turn
locks w i =
    let k = locked (saved_zero w) i in
    if is_free_mutex w.kernel (own_app w.kernel) i then after_leaving Lock w (moved_to_front k) else after_leaving Lock w k

abbrev pub with_ticks : Work → List ℕ
with_ticks w = set_reg (set_reg w.context 13 (tick_number w.kernel % 65536)) 14 (tick_number w.kernel / 65536)

abbrev pub gives_ticks : Work → Turn
gives_ticks w =
    if module_runs w.kernel then goes_straight w.kernel (set_reg (with_ticks w) 12 0) (called w TICKS)
    else goes_on w w.kernel (with_ticks w) 0 (called w TICKS)

-- what each does
abbrev pub row : Call → Work → Turn
row Spawn w =
    unless Spawn w (spawn_code w.kernel w.context (w.is_own (r12 w)))
    (after_giving Spawn w (spawned w.kernel w.context) (number_of (next_thread w.kernel)))
row Yield w = yields Yield w
row Sleep w = if r12 w == 0 then yields Sleep w else after_leaving Sleep w (slept (saved_zero w) w.context)
row Priority w = unless Priority w (priority_code w.context) (after Priority w (with_priority w.kernel w.context))
row Self w = after_giving Self w w.kernel (256 * app_of (running w.kernel) + number_of (running w.kernel))
row Ticks w = gives_ticks w
row Lock w = unless Lock w (lock_code w.kernel (r12 w)) (locks w (r12 w))
row Unlock w = unless Unlock w (unlock_code w.kernel (r12 w)) (after Unlock w (unlocked w.kernel (r12 w)))
row Wait w =
    unless Wait w (wait_code w.kernel (r12 w) (r13 w)) (after_leaving Wait w (waiting_condition (saved_zero w) (r12 w) (r13 w)))
row Signal w = unless Signal w (signal_code (r12 w)) (after Signal w (signalled w.kernel (r12 w)))
row Broadcast w = unless Broadcast w (signal_code (r12 w)) (after Broadcast w (broadcasted w.kernel (r12 w)))
row Line w = unless Line w (line_code w.context) (after_leaving Line w (waiting_line (saved_zero w) w.context))
row ModuleCall w =
    unless ModuleCall w (enter_code w.kernel (r12 w))
    (goes_straight (entered w.kernel w.context) (entered_context w.kernel w.context) (called w MODULE_CALL))
row Emits w = goes_on w w.kernel w.context 0 (Emit w.step (who_calls w) (r12 w))
row _ w = nothing_happens w

-- the word at SP was popped into PC
abbrev pub returning : Work → Work
returning w = record w { context = set_reg (raised w.context) PC w.stacked }

-- the return address has to be a mark
abbrev pub by_call : Call → Work → Turn
by_call c w = if w.is_own w.stacked then row c (returning w) else faults w Return w.stacked

-- PC becomes R4, which has to be a mark
abbrev pub by_jump : Call → Work → Turn
by_jump e w =
    let to = reg w.context CHECKED in
    if w.is_own to then goes_straight w.kernel (set_reg w.context PC to) (called w (entry_address e)) else faults w Jump to

abbrev pub exits : Work → Turn
exits w =
    let k = all_handed_over w.kernel in
    dispatches w (exited k) (Exit w.step (who_calls w) (is_last k))

-- each entry's turn
abbrev pub turn_at : Call → Work → Turn
turn_at StoreFault w = faults w Store (reg w.context CHECKED)
turn_at StackFault w = faults w Stack (reg w.context SP)
turn_at Goes w = by_jump Goes w
turn_at Calls w = by_jump Calls w
turn_at Exits w = exits w
turn_at Leave w = after_leaving Leave w (moved_to_front (left w.kernel w.context))
turn_at c w = by_call c w

-- ---- in a system

-- the routine at work in the system's next step. The word at SP is read once
abbrev pub work : System → Option ℕ → Work
work s pick = record {
  kernel = s.kernel;
  context = s.context;
  is_own = is_mark s.placed (running_domain s.kernel);
  stacked = word_at (seen s) (reg s.context SP);
  step = s.steps + 1;
  pick = pick;
}

abbrev pub entry_turn : Call → Work → Turn
entry_turn c w = if has_row w.kernel c then turn_at c w else nothing_happens w

-- ---- vector routines

-- SR and PC are popped
abbrev pub interrupted : (memory context : List ℕ) → List ℕ
interrupted m c =
    let r1 = raised (set_reg c SR (word_at m (reg c SP))) in
    raised (set_reg r1 PC (word_at m (reg r1 SP)))

-- the interrupted thread is saved, unless nothing was interrupted. On line 0 time goes on; on another all that wait for it wake
abbrev pub served : (n : ℕ) → Kernel → (context : List ℕ) → Kernel
served n k c =
    if running k == none then (if n == 0 then ticked k else woken_line k n)
    else (if n == 0 then moved_to_end (ticked (saved k c)) else woken_line (moved_to_front (saved k c)) n)

abbrev pub vector_turn : (n : ℕ) → (memory : List ℕ) → Work → Turn
vector_turn n m w = dispatches w (served n w.kernel (interrupted m w.context)) (Vector w.step n)
