use Rattle.sync_laws.proofs.KeptWoken.{woken_keeps, woken_runs_rule}
use Rattle.sync_laws.proofs.waking_keeps_locks.Goals as goal

pub returns-clause-keeps : goal.returns-clause-keeps
returns-clause-keeps c = woken_keeps

pub returns-clause-runs : goal.returns-clause-runs
returns-clause-runs c = woken_runs_rule
