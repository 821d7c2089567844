use Rattle.std.proofs.Common.{◌≡◌, arith, subst, sym}
use Rattle.kernel_model.specs.Ending.{OwnsNone}
use Rattle.kernel_model.specs.Kernel.{Kernel}
use Rattle.kernel_model.specs.Layout.{kernel_of}
use Rattle.kernel_model.specs.Sync.{all_handed_over}
use Rattle.kernel_threads.proofs.ChainLemmas.{leaves_same}
use Rattle.kernel_sync.proofs.RuleLemmas.{keeps_by, runs_after, runs_same, runs_then}
use Rattle.kernel_sync.proofs.LoopLemmas.{more_given, all_given, owns_none_now}
use Rattle.kernel_sync.proofs.mutexes.hand_over_all.Goals as goal

pub loop-i-init : goal.loop-i-init
loop-i-init c = record { settled = c.requires.settled; runs = runs_same (kernel_of c.args.m.now); left = leaves_same c.args.m.now }

pub give_up-requires-clause-runs : goal.give_up-requires-clause-runs
give_up-requires-clause-runs c = runs_after (kernel_of c.args.m.now) (kernel_of c.loop-i.m) c.loop-i.invariant.runs c.requires.runs

pub loop-i-preserved : goal.loop-i-preserved
loop-i-preserved c = record {
  settled = c.give_up.ensures.settled;
  runs = runs_then (kernel_of c.args.m.now) (kernel_of c.loop-i.m) (kernel_of c.give_up.new.m) c.loop-i.invariant.runs c.give_up.ensures.runs;
  left = more_given c.args.m.now c.loop-i.m c.give_up.new.m c.loop-i.i c.loop-i.invariant.left c.give_up.ensures.leaves;
}

pub returns-clause-leaves : goal.returns-clause-leaves
returns-clause-leaves c =
    let all : c.loop-i.i ≡ 4 = omega arith in
    all_given c.args.m.now c.loop-i.m c.loop-i.i all c.loop-i.invariant.left

pub returns-clause-owns_none : goal.returns-clause-owns_none
returns-clause-owns_none c =
    let k : Kernel = kernel_of c.args.m.now in
    subst (λ (j : Kernel). OwnsNone j) (sym (returns-clause-leaves c).kernel) (owns_none_now k (all_handed_over k) (c.all_handed_are_settled.ensures k c.requires.settled.kernel c.requires.runs))

pub returns-clause-locks : goal.returns-clause-locks
returns-clause-locks c =
    keeps_by c.args.m.now c.loop-i.m (all_handed_over (kernel_of c.args.m.now)) (returns-clause-leaves c)
    (c.handing_over_keeps_locks.ensures.all (kernel_of c.args.m.now) c.requires.settled.kernel c.requires.runs)
