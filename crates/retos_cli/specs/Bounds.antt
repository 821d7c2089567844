-- The numbers of a command are in their ranges.
use Rattle.std.specs.Prelude.{◌≤◌, length, None, Some}
use Rattle.std.specs.declared.option.Option.{Option}
use Rattle.retos_cli.specs.declared.command.Job.{Job}
use Rattle.retos_cli.specs.declared.command.Command.{Command}
use Rattle.retos_cli.specs.declared.command.Command.TheVariants.{Run, Check, Asm, Insert, Gen}

-- at most 10,000,000 steps of at most 16 objects
pub record IsBoundedJob (job : Job) : Type 0 where
  pub steps : job.steps ≤ 10000000
  pub few : length job.names ≤ 16

abbrev pub IsBounded : Command → Type 0
IsBounded (Run job) = IsBoundedJob job
IsBounded (Check names) = length names ≤ 16
IsBounded (Asm from to) = Unit {0}
IsBounded (Insert from to) = Unit {0}
IsBounded (Gen seed to) = Unit {0}

abbrev pub IsBoundedIfSome : Option Command → Type 0
IsBoundedIfSome None = Unit {0}
IsBoundedIfSome (Some command) = IsBounded command
