-- What a line's reader leaves.
use Rattle.std.specs.Prelude.{◌≡◌, Option, Some, None, Result, Ok, Err}
use Rattle.trace_model.specs.declared.scripts.Script.{Script}
use Rattle.read_script.specs.declared.draft.Stop.{Stop}
use Rattle.read_script.specs.declared.draft.Stop.TheVariants.{Rule, Memory}

-- the wanted script, exactly where there is one; or there was no memory
abbrev pub Gives : Result (Unit {0}) Stop → Option Script → Script → Type 0
Gives (Ok done) wanted after = wanted ≡ Some after
Gives (Err Rule) wanted after = wanted ≡ None
Gives (Err Memory) wanted after = Unit {0}
