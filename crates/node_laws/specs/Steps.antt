-- The law of a step, from the laws of its parts.
use Rattle.std.specs.Prelude.{◌≡◌, ℕ, ◌<◌, true, Option}
use Rattle.machine_model.specs.Context.{reg}
use Rattle.kernel_model.specs.declared.entries.TheConstants.{FIRST_ENTRY}
use Rattle.kernel_model.specs.Words.{running}
use Rattle.kernel_model.specs.Running.{ThreadRuns}
use Rattle.msp_encode.specs.declared.registers.TheConstants.{PC}
use Rattle.node_model.specs.Systems.{System, seen}
use Rattle.node_model.specs.Entries.{Call, entry_address, is_for_app, turn_at, work}
use Rattle.node_model.specs.Steps.{by_turn, instruction, fetched}
use Rattle.node_model.specs.Sound.{IsSound, IsGoodFor}
use Rattle.node_model.specs.Laws.{IsSeen, IsSafe}
use Rattle.node_model.specs.Nodes.{most_steps}

-- a running thread's turn at an entry
abbrev pub TurnLaw : Call → Type 0
TurnLaw e = (s : System) (pick : Option ℕ) → IsSeen s → IsSound s → s.steps < most_steps → ThreadRuns s.kernel
    → IsGoodFor s.kernel.apps s.placed (running s.kernel) s.context
    → reg s.context PC ≡ entry_address e → IsSafe s (by_turn s (turn_at e (work s pick)))

-- each turn of a thread
abbrev pub TurnLaws : Type 0
TurnLaws = (e : Call) → is_for_app e ≡ true → TurnLaw e

-- the instruction that a thread stands at
abbrev pub ThreadStepLaw : Type 0
ThreadStepLaw = (s : System) → IsSeen s → IsSound s → ThreadRuns s.kernel
    → IsGoodFor s.kernel.apps s.placed (running s.kernel) s.context → reg s.context PC < FIRST_ENTRY
    → IsSafe s (instruction s (fetched (seen s) (reg s.context PC)))
