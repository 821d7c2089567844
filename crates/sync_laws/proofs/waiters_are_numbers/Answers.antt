use Rattle.sync_laws.proofs.WaiterRules.{numbers_are_below}
use Rattle.sync_laws.proofs.waiters_are_numbers.Goals as goal

pub returns : goal.returns
returns c = numbers_are_below
