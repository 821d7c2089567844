-- The run of objects that are taken is confined.
use Rattle.std.proofs.Common.{◌≡◌, ℕ, zero, suc, List, [], ◌∷◌, Some, None, subst, arith}
use Rattle.std.specs.declared.option.Option.{Option}
use Rattle.edge_io.specs.Known.{Files}
use Rattle.code_model.specs.Verdicts.{IsAccepted}
use Rattle.load_model.specs.Loading.{Loadable}
use Rattle.trace_model.specs.declared.scripts.Script.{Script}
use Rattle.trace_model.specs.Grammar.{empty_script}
use Rattle.node_model.specs.Nodes.{IsFitting, BootedRunLaw}
use Rattle.retos_cli.specs.declared.command.Command.{Command}
use Rattle.retos_cli.specs.declared.command.Command.TheVariants.{Run, Check, Asm, Insert, Gen}
use Rattle.retos_cli.specs.declared.purpose.Purpose.{Purpose}
use Rattle.retos_cli.specs.Bounds.{IsBoundedIfSome}
use Rattle.retos_cli.specs.Commands.{command_of}
use Rattle.retos_cli.specs.Meaning.{AreTaken, form_by, generated_steps}
use Rattle.retos_cli.specs.Ends.{Told}
use Rattle.retos_cli.specs.Clauses.{RunsConfined}
use Rattle.retos_cli.proofs.Bounded.{command_bounded}
use Rattle.retos_cli.proofs.Told.{told_all}

same-accepted : (a b : Loadable) → Some a ≡ Some b → IsAccepted a.object a.units → IsAccepted b.object b.units
same-accepted a b e h = let same : a ≡ b = cc e in let P : Loadable → Type 0 = λ o. IsAccepted o.object o.units in subst P same h

fitting : (purpose : Purpose) (m : Files) (names : List (List ℕ)) (os : List Loadable) → AreTaken purpose m names os → IsFitting os
unfolding AreTaken
fitting purpose m [] [] h i o e = absurd (cc e)
fitting purpose m [] (x ∷ os) h i o e = absurd h
fitting purpose m (name ∷ names) [] h i o e = absurd h
fitting purpose m (name ∷ names) (x ∷ os) h zero o e = same-accepted x o e h.0.fit.accepted
fitting purpose m (name ∷ names) (x ∷ os) h (suc i) o e = fitting purpose m names os h.1 i o e

alone-fits : (o : Loadable) → IsAccepted o.object o.units → IsFitting (o ∷ [])
alone-fits o h zero x e = same-accepted o x e h
alone-fits o h (suc i) x e = absurd (cc e)

runs-confined : ((t : Script) → BootedRunLaw t) → (m : Files) (c : Option Command) → IsBoundedIfSome c → RunsConfined c m
runs-confined law m None b = tt
runs-confined law m (Some (Run job)) b = λ t os s supplied boots. law t os job.steps s (fitting (form_by job.script) m job.names os supplied.objects) b.steps boots
runs-confined law m (Some (Check names)) b = tt
runs-confined law m (Some (Asm from to)) b = tt
runs-confined law m (Some (Insert from to)) b = tt
runs-confined law m (Some (Gen seed to)) b = λ source o s g boots. law empty_script (o ∷ []) generated_steps s (alone-fits o g.accepted) (omega arith) boots

pub confined_clause : ((t : Script) → BootedRunLaw t) → (files : Option Files) (words : List (List ℕ)) → Told files (RunsConfined (command_of words))
confined_clause law files words = told_all files (RunsConfined (command_of words)) (λ m s. runs-confined law m (command_of words) (command_bounded words))
