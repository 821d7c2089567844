use Rattle.std.proofs.Common.{◌≡◌, ℕ, List, subst, arith}
use Rattle.kernel_model.specs.Kernel.{with_mutex, with_condition}
use Rattle.kernel_model.specs.Layout.{kernel_of}
use Rattle.kernel_model.specs.Queues.{Leaves}
use Rattle.kernel_threads.proofs.FoldLemmas.{waits_emptied, waits_more, waits_all}
use Rattle.kernel_threads.proofs.ending.end_waits.Goals as goal

pub loop-i-preserved : goal.loop-i-preserved
loop-i-preserved c =
    waits_more c.args.m.now c.loop-i.m c.set_mutex.new.m c.set_cond.new.m c.args.a c.loop-i.i c.loop-i.invariant
    (subst (λ (xs : List ℕ). Leaves c.loop-i.m c.set_mutex.new.m (with_mutex (kernel_of c.loop-i.m) c.args.a c.loop-i.i (record { owner = 65535; waiters = record { items = xs } }))) c.new.ensures
    c.set_mutex.ensures)
    (subst (λ (xs : List ℕ). Leaves c.set_mutex.new.m c.set_cond.new.m (with_condition (kernel_of c.set_mutex.new.m) c.args.a c.loop-i.i xs)) c.new-in-loop-i.ensures c.set_cond.ensures)

pub returns : goal.returns
returns c =
    let all : c.loop-i.i ≡ 4 = omega arith in
    waits_all c.args.m.now c.loop-i.m c.args.a (subst (λ (n : ℕ). Leaves c.args.m.now c.loop-i.m (waits_emptied (kernel_of c.args.m.now) c.args.a n)) all c.loop-i.invariant)
