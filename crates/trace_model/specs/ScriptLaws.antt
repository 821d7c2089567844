-- What holds of the scripts that texts give.
use Rattle.std.specs.Prelude.{◌≡◌, ℕ, List, Result, Ok}
use Rattle.trace_model.specs.declared.scripts.Script.{Script}
use Rattle.trace_model.specs.declared.scripts.ScriptFault.{ScriptFault}
use Rattle.trace_model.specs.Scripts.{IsScript}
use Rattle.trace_model.specs.Grammar.{script_of, GivesScript, IsOnlyScript}

-- the script that a text stands for meets the rules
abbrev pub TextsGiveScripts : Type 0
TextsGiveScripts = (text : List ℕ) (t : Script) → script_of text ≡ Ok t → IsScript t

-- an answer that a text gives is the only one
abbrev pub TextsGiveOneScript : Type 0
TextsGiveOneScript = (text : List ℕ) (answer : Result Script ScriptFault) → GivesScript text answer → IsOnlyScript text answer
