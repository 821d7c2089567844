-- The numbers of statuses.
use Rattle.std.specs.Prelude.{ℕ}
use Rattle.retos_cli.specs.declared.outcome.Status.{Status}
use Rattle.retos_cli.specs.declared.outcome.Status.TheVariants.{Done, Refused, BadWords, ReadFault, WriteFault, NoMemory, Faulted}

abbrev pub status_number : Status → ℕ
status_number Done = 0
status_number Refused = 1
status_number BadWords = 2
status_number ReadFault = 3
status_number WriteFault = 4
status_number NoMemory = 5
status_number Faulted = 6
