use Rattle.std.proofs.Common.{ℕ, subst}
use Rattle.machine_model.specs.Context.{reg}
use Rattle.kernel_model.specs.Kernel.{Kernel}
use Rattle.kernel_model.specs.Layout.{kernel_of}
use Rattle.kernel_model.specs.Sync.{signal_code, signalled}
use Rattle.kernel_threads.specs.Entries.{AnswersBy}
use Rattle.node_model.specs.Entries.{Signal}
use Rattle.retos_node.proofs.AnswerLemmas.{answered_turn}
use Rattle.retos_node.proofs.locks.signals.Goals as goal

pub returns : goal.returns
returns c own at marks =
    let k : Kernel = kernel_of c.args.m.now in
    let i : ℕ = reg c.args.r.now 12 in
    answered_turn c.args.m.now c.signal-answer.new.m c.go_on.new.m c.args.r.now c.go_on.new.r c.args.moment c.called-told.result own at Signal (signal_code i)
    (signalled k i) c.signal-answer.result c.answer_number.result
    (subst (λ (i : ℕ). AnswersBy c.args.m.now c.signal-answer.new.m (signal_code i) (signalled k i) tt c.signal-answer.result) c.get.ensures c.signal-answer.ensures.answer)
    c.answer_number.ensures c.called-told.ensures c.go_on.ensures
