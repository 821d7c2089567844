-- One step of a system.
use Rattle.std.specs.Prelude.{ℕ, ◌+◌, ◌-◌, ◌*◌, ◌%◌, ◌^◌, Bool, ◌==◌, nat_le, if◌then◌else◌, ◌&&◌, List, [], ◌∷◌, bit_or, Option, None, Some}
use Rattle.std.specs.List.{find}
use Rattle.std.specs.Int.{bit_at}
use Rattle.msp_encode.specs.declared.registers.TheConstants.{PC, SR}
use Rattle.msp_encode.specs.declared.instr.Instr.{Instr}
use Rattle.msp_decode.specs.Function.{reading}
use Rattle.machine_model.specs.Memory.{word_at, put_all}
use Rattle.machine_model.specs.Context.{reg}
use Rattle.machine_model.specs.Operands.{sum_of}
use Rattle.machine_model.specs.Does.{does, Effect}
use Rattle.kernel_model.specs.declared.map.TheConstants.{FIRST_ROUTINE, IDLE, MODULE_BUDGET}
use Rattle.kernel_model.specs.Kernel.{Kernel, word_of, with_word}
use Rattle.kernel_model.specs.declared.rows.SysWord.TheVariants.{Pending, Budget}
use Rattle.trace_model.specs.declared.records.FaultKind.TheVariants as fault
use Rattle.trace_model.specs.declared.records.Record.{Record}
use Rattle.trace_model.specs.declared.records.Record.TheVariants as record_of
use Rattle.machine_model.specs.Accepting.{accepted, allows_interrupts}
use Rattle.node_model.specs.Systems.{System, seen}
use Rattle.node_model.specs.Entries.{Turn, Call, calls, entry_address, entry_turn, vector_turn, faults, Work, work, nothing_happens, who_runs, module_runs}

-- the system after a step, and its record
pub record Next : Type 0 where
  pub system : System
  pub shown : Record

-- ---- lines

abbrev pub lines_down : List ℕ
lines_down = 13 ∷ 12 ∷ 11 ∷ 10 ∷ 9 ∷ 8 ∷ 7 ∷ 6 ∷ 5 ∷ 4 ∷ 3 ∷ 2 ∷ 1 ∷ 0 ∷ []

abbrev pub pending : Kernel → ℕ
pending k = word_of k Pending

abbrev pub highest_line : Kernel → Option ℕ
highest_line k = find (λ n. bit_at (pending k) n == 1) lines_down

-- each line of the mask is pending
abbrev pub with_pending : Kernel → (mask : ℕ) → Kernel
with_pending k mask = with_word k Pending (bit_or (pending k) (mask % 2 ^ 14))

abbrev pub without_line : Kernel → (n : ℕ) → Kernel
without_line k n = with_word k Pending (pending k - 2 ^ n)

abbrev pub with_raised : System → (mask : ℕ) → System
with_raised s mask = record s { kernel = with_pending s.kernel mask }

-- ---- which case a step is

pub data Case : Type 0 where
  Accepts : (line : ℕ) → Case
  IsIdle : Case
  Enters : Call → Case
  Serves : (line : ℕ) → Case
  OverBudget : Case
  Runs : Case

abbrev pub most_instructions : ℕ
most_instructions = MODULE_BUDGET

-- the entry at an address, and the line whose routine is at one
abbrev pub entry_at : ℕ → Option Call
entry_at pc = find (λ c. entry_address c == pc) calls

abbrev pub routine_at : ℕ → Option ℕ
routine_at pc = find (λ n. FIRST_ROUTINE + 2 * n == pc) lines_down

abbrev pub is_over_budget : Kernel → Bool
is_over_budget k = module_runs k && nat_le most_instructions (word_of k Budget)

abbrev pub case_in_code : Kernel → Case
case_in_code k = if is_over_budget k then OverBudget else Runs

abbrev pub case_at : Kernel → Option Call → Option ℕ → Case
case_at k (Some c) v = Enters c
case_at k None (Some n) = Serves n
case_at k None None = case_in_code k

abbrev pub case_by_line : Kernel → (pc : ℕ) → Option ℕ → Case
case_by_line k pc (Some n) = Accepts n
case_by_line k pc None = if pc == IDLE then IsIdle else case_at k (entry_at pc) (routine_at pc)

-- the first that applies: an interrupt is accepted, the machine idles, an entry
-- or a routine is at PC, the module's budget is spent,
-- or the instruction at PC runs
unfoldable pub case_of : Kernel → (context : List ℕ) → Case
case_of k c = case_by_line k (reg c PC) (if allows_interrupts (reg c SR) then highest_line k else None)

-- ---- what each case does

abbrev pub by_turn : System → Turn → Next
by_turn s t = record {
  system = record s { context = t.context; kernel = t.kernel; steps = s.steps + 1 };
  shown = t.shown;
}

abbrev pub by_effect : System → Kernel → Effect → Record → Next
by_effect s k e r = record {
  system = record s { memory = put_all s.memory e.written; context = e.context; kernel = k; steps = s.steps + 1 };
  shown = r;
}

abbrev pub acceptance : System → (line : ℕ) → Next
acceptance s n =
    let e = accepted n (seen s) s.context in
    by_effect s (without_line s.kernel n) e (record_of.Accept (s.steps + 1) (who_runs s.kernel) n (reg s.context PC) e.written)

-- a module's instructions are counted
abbrev pub counted : Kernel → Kernel
counted k = if module_runs k then with_word k Budget (word_of k Budget + 1) else k

-- the instruction at an address, and its length in words
unfoldable pub fetched : List ℕ → ℕ → Option (Instr × ℕ)
fetched m pc = reading (word_at m pc) (word_at m (sum_of pc 2)) (word_at m (sum_of pc 4))

abbrev pub instruction : System → Option (Instr × ℕ) → Next
instruction s None = by_turn s (nothing_happens (work s None))
instruction s (Some x) =
    let e = does (seen s) s.context x.0 x.1 in
    let pc = reg s.context PC in
    by_effect s (counted s.kernel) e (record_of.Instr (s.steps + 1) (who_runs s.kernel) pc (word_at (seen s) pc) e.written)

abbrev pub over_budget : Work → Turn
over_budget w = faults w fault.Budget (reg w.context PC)

abbrev pub by_case : System → Option ℕ → Case → Next
by_case s pick (Accepts n) = acceptance s n
by_case s pick IsIdle = by_turn s (nothing_happens (work s pick))
by_case s pick (Enters c) = by_turn s (entry_turn c (work s pick))
by_case s pick (Serves n) = by_turn s (vector_turn n (seen s) (work s pick))
by_case s pick OverBudget = by_turn s (over_budget (work s pick))
by_case s pick Runs = instruction s (fetched (seen s) (reg s.context PC))

abbrev pub step_of : System → Option ℕ → Next
step_of s pick = by_case s pick (case_of s.kernel s.context)

-- lines are raised first
unfoldable pub step : System → (raised : ℕ) → (pick : Option ℕ) → Next
step s raised pick = step_of (with_raised s raised) pick
