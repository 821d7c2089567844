-- What a record may be, by the system before its step.
use Rattle.std.specs.Prelude.{◌≡◌, ◌≢◌, ℕ, ◌+◌, ◌-◌, ◌*◌, ◌<◌, ◌≤◌, ◌⊎◌, false, if◌then◌else◌, List, length, Some}
use Rattle.std.specs.List.{AllByRecursion}
use Rattle.kernel_model.specs.declared.map.TheConstants.{FIRST_ROUTINE, IDLE, KERNEL_STACK, KERNEL_TOP}
use Rattle.kernel_model.specs.declared.entries.TheConstants.{CALLS, EMITS, EXITS, GOES, SPAWN, STACK_FAULT, STORE_FAULT}
use Rattle.kernel_model.specs.declared.kinds.Kind.{Kind}
use Rattle.kernel_model.specs.declared.kinds.Kind.TheVariants.{App, Module}
use Rattle.code_model.specs.Rules.{IsJumpEntry, IsCallEntry}
use Rattle.machine_model.specs.Context.{reg}
use Rattle.machine_model.specs.Memory.{word_at}
use Rattle.machine_model.specs.Does.{does}
use Rattle.kernel_model.specs.Kernel.{Kernel, word_of}
use Rattle.kernel_model.specs.declared.rows.SysWord.TheVariants.{Budget as BudgetWord}
use Rattle.kernel_model.specs.Words.{none, running, running_module}
use Rattle.kernel_model.specs.Running.{ThreadRuns, NoneRuns, running_domain}
use Rattle.msp_encode.specs.declared.registers.TheConstants.{PC, SP, SR, CHECKED}
use Rattle.load_model.specs.Domains.{Domain}
use Rattle.load_model.specs.Images.{code_image}
use Rattle.load_model.specs.Standing.{HasBytes}
use Rattle.trace_model.specs.declared.records.Who.{Who}
use Rattle.trace_model.specs.declared.records.FaultKind.{FaultKind}
use Rattle.trace_model.specs.declared.records.FaultKind.TheVariants.{Store, Stack, Jump, Return, Budget}
use Rattle.trace_model.specs.declared.records.Record.{Record}
use Rattle.trace_model.specs.declared.records.Record.TheVariants.{Instr, Entry, Emit, Exit, Fault, Accept, Vector, IdleTurn}
use Rattle.node_model.specs.Instructions.{StepsAt, StaysInStack}
use Rattle.node_model.specs.Systems.{System, seen, domain_in, is_mark}
use Rattle.node_model.specs.Entries.{who_runs, module_runs}
use Rattle.node_model.specs.Steps.{most_instructions}
use Rattle.node_model.specs.Sound.{low_in, top_in, IsInterrupted, IsIdleInterrupted}

abbrev pub Within : (from to : ℕ) → ℕ × ℕ → Type 0
Within from to w = (from ≤ w.0) × (w.0 < to)

-- what a domain writes: its region, and a module also the kernel's stack
abbrev pub MayWrite : Kind → Domain → ℕ × ℕ → Type 0
MayWrite App d w = Within d.lo d.hi w
MayWrite Module d w = Within d.lo d.hi w ⊎ Within KERNEL_STACK KERNEL_TOP w

-- the domain that runs, and whose step it is
pub record IsRunningDomain (s : System) (w : Who) (d : Domain) : Type 0 where
  pub placed : domain_in s.placed (running_domain s.kernel) ≡ Some d
  pub who : w ≡ who_runs s.kernel

-- the stack of who runs: the running thread's own, or the kernel's while a module runs
abbrev pub stack_low_in : Kernel → ℕ
stack_low_in k = if module_runs k then KERNEL_STACK else low_in k.apps (running k)

abbrev pub stack_top_in : Kernel → ℕ
stack_top_in k = if module_runs k then KERNEL_TOP else top_in k.apps (running k)

-- an instruction of the running domain, at a start of its code, as its words
-- were placed. It writes where the domain may, and what it
-- pushes or pops lies in the stack of who runs
pub record IsOwnInstr (s : System) (w : Who) (pc word : ℕ) (writes : List (ℕ × ℕ)) : Type 0 where
  pub domain : Domain
  pub runs : IsRunningDomain s w domain
  pub at_pc : pc ≡ reg s.context PC
  pub first : word ≡ word_at (seen s) pc
  pub place : StepsAt domain (seen s) s.context
  pub image : HasBytes (seen s) domain.code_lo (code_image domain)
  pub written : writes ≡ (does (seen s) s.context place.instr place.words).written
  pub inside : AllByRecursion (MayWrite domain.object.kind domain) writes
  pub stack : StaysInStack (stack_low_in s.kernel) (stack_top_in s.kernel) s.context place.instr
      (does (seen s) s.context place.instr place.words)

-- PC is at this entry, which the running domain may reach
pub record IsAtEntry (s : System) (w : Who) (entry : ℕ) : Type 0 where
  pub domain : Domain
  pub runs : IsRunningDomain s w domain
  pub at : entry ≡ reg s.context PC
  pub allowed : IsJumpEntry domain.object.kind entry ⊎ IsCallEntry domain.object.kind entry

-- it isn't a mark of the running domain
abbrev pub IsNoMark : System → (address : ℕ) → Type 0
IsNoMark s at = is_mark s.placed (running_domain s.kernel) at ≡ false

-- a jump or a call of the address in R4, which is no mark
pub record IsJumpFault (s : System) (w : Who) (value : ℕ) : Type 0 where
  pub entry : IsAtEntry s w GOES ⊎ IsAtEntry s w CALLS
  pub value_is : value ≡ reg s.context CHECKED
  pub no_mark : IsNoMark s value

-- a call of an entry that pops its return address, which is no mark
pub record IsReturnFault (s : System) (w : Who) (value : ℕ) : Type 0 where
  pub entry : (e : ℕ) × (SPAWN ≤ e) × IsAtEntry s w e
  pub value_is : value ≡ word_at (seen s) (reg s.context SP)
  pub no_mark : IsNoMark s value

-- a module has run as many instructions in this call as it may
pub record IsBudgetFault (s : System) (w : Who) (value : ℕ) : Type 0 where
  pub module_runs : running_module s.kernel ≢ none
  pub who : w ≡ who_runs s.kernel
  pub value_is : value ≡ reg s.context PC
  pub spent : most_instructions ≤ word_of s.kernel BudgetWord

abbrev pub IsConfinedFault : System → Who → FaultKind → (value : ℕ) → Type 0
IsConfinedFault s w Store v = IsAtEntry s w STORE_FAULT × (v ≡ reg s.context CHECKED)
IsConfinedFault s w Stack v = IsAtEntry s w STACK_FAULT × (v ≡ reg s.context SP)
IsConfinedFault s w Jump v = IsJumpFault s w v
IsConfinedFault s w Return v = IsReturnFault s w v
IsConfinedFault s w Budget v = IsBudgetFault s w v

-- in the running thread's own stack, or at the top of the kernel's while nothing runs
abbrev pub IsInOwnStack : System → List (ℕ × ℕ) → Type 0
IsInOwnStack s ws =
    (ThreadRuns s.kernel
    × AllByRecursion (Within (low_in s.kernel.apps (running s.kernel)) (top_in s.kernel.apps (running s.kernel))) ws)
    ⊎ (NoneRuns s.kernel × AllByRecursion (Within (KERNEL_TOP - 4) KERNEL_TOP) ws)

-- the four bytes of an acceptance
pub record IsConfinedAccept (s : System) (w : Who) (line pc : ℕ) (writes : List (ℕ × ℕ)) : Type 0 where
  pub who : w ≡ who_runs s.kernel
  pub number : line < 14
  pub at_pc : pc ≡ reg s.context PC
  pub four : length writes ≡ 4
  pub inside : IsInOwnStack s writes

-- the machine idles: PC is at the idle entry, and nothing runs
pub record IsIdling (s : System) : Type 0 where
  pub at : reg s.context PC ≡ IDLE
  pub none : NoneRuns s.kernel

-- the context of the running thread was pushed, or that of the machine that idled
abbrev pub IsPushed : System → Type 0
IsPushed s =
    (ThreadRuns s.kernel × IsInterrupted s.memory s.context s.kernel.apps s.placed (running s.kernel))
    ⊎ (NoneRuns s.kernel × IsIdleInterrupted s.memory s.context)

-- an interrupt of this line was just accepted: its routine is next, and what it interrupted was pushed
pub record IsJustAccepted (s : System) (line : ℕ) : Type 0 where
  pub number : line < 14
  pub at : reg s.context PC ≡ FIRST_ROUTINE + 2 * line
  pub cleared : reg s.context SR ≡ 0
  pub pushed : IsPushed s

-- so no record is confined of a step at which no instruction is spelled, or at
-- an entry that has no row for who runs: such a step is
-- recorded as an idle turn, and the machine doesn't idle there
abbrev pub IsConfined : System → Record → Type 0
IsConfined s (Instr n w pc word ws) = IsOwnInstr s w pc word ws
IsConfined s (Entry n w e) = IsAtEntry s w e
IsConfined s (Emit n w v) = IsAtEntry s w EMITS × (v ≡ reg s.context 12)
IsConfined s (Exit n w l) = IsAtEntry s w EXITS
IsConfined s (Fault n w f v) = IsConfinedFault s w f v
IsConfined s (Accept n w l pc ws) = IsConfinedAccept s w l pc ws
IsConfined s (Vector n l) = IsJustAccepted s l
IsConfined s (IdleTurn n) = IsIdling s
