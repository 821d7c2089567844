use Rattle.std.proofs.Common.{ℕ, ◌<◌, subst, rules}
use Rattle.kernel_model.specs.Layout.{kernel_of}
use Rattle.kernel_modules.proofs.LeavingLemmas.{caller_runs}
use Rattle.kernel_modules.proofs.leaving.end_call.Goals as goal

pub returns-clause-leaves : goal.returns-clause-leaves
returns-clause-leaves c = search rules

pub returns-clause-runs : goal.returns-clause-runs
returns-clause-runs c =
    caller_runs c.args.m.now c.put-4.new.m (kernel_of c.args.m.now) (subst (λ (t : ℕ). t < 32) c.requires.caller c.requires.number) (returns-clause-leaves c)
