use Rattle.kernel_model.specs.Kernel.{Kernel}
use Rattle.kernel_model.specs.Layout.{kernel_of}
use Rattle.kernel_model.specs.Entries.{priority_code, with_priority}
use Rattle.node_model.specs.Entries.{Priority}
use Rattle.retos_node.proofs.AnswerLemmas.{answered_turn}
use Rattle.retos_node.proofs.calls.gives_priority.Goals as goal

pub returns : goal.returns
returns c own at marks =
    let k : Kernel = kernel_of c.args.m.now in
    answered_turn c.args.m.now c.set_priority-answer.new.m c.go_on.new.m c.args.r.now c.go_on.new.r c.args.moment c.called-told.result own at Priority (priority_code c.args.r.now)
    (with_priority k c.args.r.now) c.set_priority-answer.result c.answer_number.result
    c.set_priority-answer.ensures.answer c.answer_number.ensures c.called-told.ensures c.go_on.ensures
