-- What taking an input comes to.
use Rattle.std.specs.Prelude.{ℕ, List, Some, Ok, Err}
use Rattle.std.specs.declared.result.Result.{Result}
use Rattle.code_model.specs.declared.object.Object.{Object}
use Rattle.trace_model.specs.declared.scripts.Script.{Script}
use Rattle.retos_cli.specs.declared.purpose.Purpose.{Purpose}
use Rattle.retos_cli.specs.declared.purpose.Purpose.TheVariants.{Plain, Script as Scripted}
use Rattle.retos_cli.specs.declared.input.Judged.{Judged}
use Rattle.retos_cli.specs.declared.input.Judged.TheVariants.{Refused, NoMemory}
use Rattle.edge_io.specs.declared.whole.InputFault.{InputFault}
use Rattle.edge_io.specs.declared.whole.InputFault.TheVariants as fault
use Rattle.retos_cli.specs.declared.outcome.Why.TheVariants as why
use Rattle.retos_cli.specs.declared.outcome.Stop.{Stop}
use Rattle.retos_cli.specs.declared.outcome.Stop.TheVariants.{Refuse, ReadFault, NoMemory as Unserved}
use Rattle.retos_cli.specs.Meaning.{Taken, Guards, Scripts, Refuses}

-- why a whole read that gave nothing ends a command
abbrev pub stop_of : List ℕ → InputFault → Stop
stop_of name fault.Absent = Refuse (record { name = name; why = why.Absent })
stop_of name fault.TooLong = Refuse (record { name = name; why = why.TooLong })
stop_of name fault.Failed = ReadFault name
stop_of name fault.Memory = Unserved

-- the object of a text, or why the text is refused
abbrev pub IsJudged : Purpose → List ℕ → Result (Object × List ℕ) Judged → Type 0
IsJudged purpose text (Ok x) = Taken purpose (Some text) x.0 x.1
IsJudged purpose text (Err (Refused why)) = Refuses purpose (Some text) why
IsJudged purpose text (Err NoMemory) = Unit {0}

-- the object of a text with its guards, or why the text is refused
abbrev pub IsGuarded : List ℕ → Result Object Judged → Type 0
IsGuarded text (Ok q) = (o : Object) × Guards (Some text) o q
IsGuarded text (Err (Refused why)) = Refuses Plain (Some text) why
IsGuarded text (Err NoMemory) = Unit {0}

-- the script of a text, or why the text is refused
abbrev pub IsRead : List ℕ → Result Script Judged → Type 0
IsRead text (Ok t) = Scripts (Some text) t
IsRead text (Err (Refused why)) = Refuses Scripted (Some text) why
IsRead text (Err NoMemory) = Unit {0}
