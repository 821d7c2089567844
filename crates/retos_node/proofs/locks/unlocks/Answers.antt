use Rattle.std.proofs.Common.{ℕ, subst}
use Rattle.machine_model.specs.Context.{reg}
use Rattle.kernel_model.specs.Kernel.{Kernel}
use Rattle.kernel_model.specs.Layout.{kernel_of}
use Rattle.kernel_model.specs.Sync.{unlock_code, unlocked}
use Rattle.kernel_threads.specs.Entries.{AnswersBy}
use Rattle.node_model.specs.Entries.{Unlock}
use Rattle.retos_node.proofs.AnswerLemmas.{answered_turn}
use Rattle.retos_node.proofs.locks.unlocks.Goals as goal

pub returns : goal.returns
returns c own at marks =
    let k : Kernel = kernel_of c.args.m.now in
    let i : ℕ = reg c.args.r.now 12 in
    answered_turn c.args.m.now c.unlock-answer.new.m c.go_on.new.m c.args.r.now c.go_on.new.r c.args.moment c.called-told.result own at Unlock (unlock_code k i)
    (unlocked k i) c.unlock-answer.result c.answer_number.result
    (subst (λ (i : ℕ). AnswersBy c.args.m.now c.unlock-answer.new.m (unlock_code k i) (unlocked k i) tt c.unlock-answer.result) c.get.ensures c.unlock-answer.ensures.answer)
    c.answer_number.ensures c.called-told.ensures c.go_on.ensures
