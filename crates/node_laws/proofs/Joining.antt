-- All the laws of a step.
use Rattle.trace_model.specs.declared.scripts.Script.{Script}
use Rattle.node_model.specs.Laws.{StepLaw}
use Rattle.node_model.specs.Nodes.{NextLaw}
use Rattle.node_laws.specs.Facts.{Given}
use Rattle.node_laws.specs.Steps.{TurnLaws}
use Rattle.node_laws.proofs.Casing.{turns}
use Rattle.node_laws.proofs.Waiting.{sleep-turn, line-turn, ticks-turn}
use Rattle.node_laws.proofs.Locking.{lock-turn, unlock-turn, wait-turn, signal-turn, broadcast-turn}
use Rattle.node_laws.proofs.Leaving.{exit-turn}
use Rattle.node_laws.proofs.Composing.{step-safe, next-sound}
use Rattle.node_laws.proofs.Entering.{enter-turn}
use Rattle.node_laws.proofs.Modules.{module-step}

pub each-turn : Given → TurnLaws
each-turn laws =
    turns laws (exit-turn laws) (sleep-turn laws) (ticks-turn laws) (lock-turn laws) (unlock-turn laws) (wait-turn laws)
    (signal-turn laws)
    (broadcast-turn laws) (line-turn laws) (enter-turn laws)

pub each-step : Given → StepLaw
each-step laws = step-safe laws (each-turn laws) (module-step laws)

pub each-next : (t : Script) → Given → NextLaw t
each-next t laws = next-sound (each-step laws) t
