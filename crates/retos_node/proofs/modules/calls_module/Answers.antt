use Rattle.std.proofs.Common.{ℕ, List, subst}
use Rattle.machine_model.specs.Context.{reg, set_reg}
use Rattle.kernel_model.specs.declared.entries.TheConstants.{MODULE_CALL}
use Rattle.kernel_model.specs.Kernel.{Kernel}
use Rattle.kernel_model.specs.Layout.{kernel_of}
use Rattle.kernel_model.specs.Modules.{enter_code, entered, entered_context}
use Rattle.kernel_model.specs.Dispatching.{moved_to_front, saved}
use Rattle.node_model.specs.Entries.{ModuleCall, goes_straight, called}
use Rattle.retos_node.specs.Turns.{DispatchesFrom, work_of}
use Rattle.retos_node.proofs.AnswerLemmas.{IsRefused, refused_by, refused_turn, stays_by}
use Rattle.retos_node.proofs.modules.calls_module.Goals as goal

pub returns-in-Err : goal.returns-in-Err
returns-in-Err c own at marks =
    let k : Kernel = kernel_of c.args.m.now in
    let r : List ℕ = c.args.r.now in
    let m1 : List ℕ = c.enter.new.m in
    let n : ℕ = c.code_number.result in
    let why : IsRefused c.args.m.now m1 (enter_code k (reg r 12)) c.in-Err.code =
    refused_by c.args.m.now m1 (enter_code k (reg r 12)) (entered k r) tt c.in-Err.code c.in-Err.ensures.answer in
    refused_turn c.args.m.now c.go_on.new.m r c.go_on.new.r c.args.moment c.called-told.result own at ModuleCall (enter_code k (reg r 12)) c.in-Err.code n
    (goes_straight (entered k r) (entered_context k r) (called (work_of c.args.m.now r c.args.moment own at) MODULE_CALL))
    why.code_is c.code_number.ensures c.called-told.ensures
    (subst (λ (x : List ℕ). DispatchesFrom x c.go_on.new.m c.go_on.new.r c.args.moment (moved_to_front (saved (kernel_of x) (set_reg r 12 n)))) why.same
    (subst (λ (x : List ℕ). DispatchesFrom m1 c.go_on.new.m c.go_on.new.r c.args.moment (moved_to_front (saved (kernel_of m1) (set_reg x 12 n))))
    (stays_by r c.enter.new.r (enter_code k (reg r 12)) (entered_context k r) c.in-Err.code why.code_is c.in-Err.ensures.registers) c.go_on.ensures))
