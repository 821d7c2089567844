use Rattle.std.proofs.Common.{List, ℕ}
use Rattle.kernel_model.specs.declared.entries.TheConstants.{LEAVE}
use Rattle.kernel_model.specs.Kernel.{Kernel}
use Rattle.kernel_model.specs.Layout.{kernel_of}
use Rattle.kernel_model.specs.Dispatching.{moved_to_front}
use Rattle.kernel_model.specs.Modules.{left}
use Rattle.node_model.specs.Entries.{called}
use Rattle.retos_node.specs.Turns.{work_of}
use Rattle.retos_node.proofs.AnswerLemmas.{dispatched_turn}
use Rattle.retos_node.proofs.TurnLemmas.{dispatches_by}
use Rattle.retos_node.proofs.modules.leaves.Goals as goal

pub returns : goal.returns
returns c own at marks =
    let m : List ℕ = c.args.m.now in
    let m1 : List ℕ = c.leave.new.m in
    let m' : List ℕ = c.run_next.new.m in
    let r : List ℕ = c.args.r.now in
    let r' : List ℕ = c.run_next.new.r in
    let k : Kernel = left (kernel_of m) r in
    dispatched_turn m m' r r' c.args.moment c.called-told.result (called (work_of m r c.args.moment own at) LEAVE) own at (moved_to_front k)
    (dispatches_by moved_to_front m m1 m' r' c.args.moment k c.leave.ensures.leaves
    (dispatches_by (λ j. j) m1 c.to_front.new.m m' r' c.args.moment (moved_to_front (kernel_of m1)) c.to_front.ensures.leaves c.run_next.ensures))
    c.called-told.ensures
