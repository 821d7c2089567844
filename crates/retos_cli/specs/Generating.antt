-- What generating an object comes to, and what is then written.
use Rattle.std.specs.Prelude.{◌≡◌, ℕ, List, [], ◌∷◌, length, Ok}
use Rattle.code_model.specs.declared.object.Object.{Object}
use Rattle.code_model.specs.Verdicts.{IsAccepted}
use Rattle.code_model.specs.Marks.{AreMarks}
use Rattle.object_form.specs.Spelling.{object_bytes}
use Rattle.insert_model.specs.Faults.{IsInserted}
use Rattle.load_model.specs.Loading.{Loadable}
use Rattle.trace_model.specs.Grammar.{empty_script}
use Rattle.node_model.specs.Systems.{System}
use Rattle.node_model.specs.Booting.{booted}
use Rattle.retos_node.specs.declared.node.End.{End}
use Rattle.retos_node.specs.Parts.{IsRunEnd}
use Rattle.retos_cli.specs.declared.generating.Made.{Made}
use Rattle.retos_cli.specs.Meaning.{IsGenerated, generated_run}

-- the list has the source object with its guards and its units, and no other
pub record IsGuardedAlone (source : Object) (objects : List Loadable) : Type 0 where
  pub object : Loadable
  pub alone : objects ≡ object ∷ []
  pub gives : IsInserted source object.object
  pub accepted : IsAccepted object.object object.units
  pub bitmap : AreMarks object.units

-- the objects have room, and this is the end of their run
pub record HasRun (objects : List Loadable) (end : End) : Type 0 where
  pub system : System
  pub boots : booted objects ≡ Ok system
  pub ends : IsRunEnd empty_script (generated_run system) end

-- all that is made of a number before anything is written
pub record IsMade (seed : ℕ) (made : Made) : Type 0 where
  pub source : Object
  pub object : Loadable
  pub alone : made.objects ≡ object ∷ []
  pub generated : IsGenerated seed source object
  pub words : made.source_words ≡ length source.code
  pub text : made.text ≡ object_bytes object.object
  pub ran : HasRun made.objects made.end
