use Rattle.std.proofs.Common.{ℕ, subst}
use Rattle.machine_model.specs.Context.{reg}
use Rattle.kernel_model.specs.Kernel.{Kernel}
use Rattle.kernel_model.specs.Layout.{kernel_of}
use Rattle.kernel_model.specs.Sync.{signal_code, broadcasted}
use Rattle.kernel_threads.specs.Entries.{AnswersBy}
use Rattle.node_model.specs.Entries.{Broadcast}
use Rattle.retos_node.proofs.AnswerLemmas.{answered_turn}
use Rattle.retos_node.proofs.locks.broadcasts.Goals as goal

pub returns : goal.returns
returns c own at marks =
    let k : Kernel = kernel_of c.args.m.now in
    let i : ℕ = reg c.args.r.now 12 in
    answered_turn c.args.m.now c.broadcast-answer.new.m c.go_on.new.m c.args.r.now c.go_on.new.r c.args.moment c.called-told.result own at Broadcast (signal_code i)
    (broadcasted k i) c.broadcast-answer.result c.answer_number.result
    (subst (λ (i : ℕ). AnswersBy c.args.m.now c.broadcast-answer.new.m (signal_code i) (broadcasted k i) tt c.broadcast-answer.result) c.get.ensures c.broadcast-answer.ensures.answer)
    c.answer_number.ensures c.called-told.ensures c.go_on.ensures
