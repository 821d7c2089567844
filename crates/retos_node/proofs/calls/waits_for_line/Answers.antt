use Rattle.std.proofs.Common.{ℕ, List, Ok, Err, subst, arith}
use Rattle.machine_model.specs.Context.{set_reg}
use Rattle.kernel_model.specs.Kernel.{Kernel}
use Rattle.kernel_model.specs.Layout.{kernel_of}
use Rattle.kernel_model.specs.Waking.{line_code, waiting_line}
use Rattle.kernel_model.specs.Dispatching.{moved_to_front, saved}
use Rattle.kernel_threads.specs.Entries.{AnswersBy}
use Rattle.node_model.specs.Entries.{Line, after_leaving}
use Rattle.retos_node.specs.Turns.{DispatchesFrom, work_of}
use Rattle.retos_node.proofs.AnswerLemmas.{allowed_by, refused_by, left_turn, undone_turn}
use Rattle.retos_node.proofs.calls.waits_for_line.Goals as goal

pub returns-in-Ok : goal.returns-in-Ok
returns-in-Ok c own at marks =
    let r : List ℕ = c.args.r.now in
    let m1 : List ℕ = c.save_zero.new.m in
    let m2 : List ℕ = c.wait_line.new.m in
    left_turn c.args.m.now m1 m2 c.run_next.new.m r c.run_next.new.r c.args.moment c.called-told.result own at Line (line_code r) (λ j. waiting_line j r)
    c.save_zero.ensures.leaves
    (allowed_by m1 m2 (line_code r) (waiting_line (kernel_of m1) r) tt tt
    (subst (λ (x : List ℕ). AnswersBy m1 m2 (line_code x) (waiting_line (kernel_of m1) x) tt (Ok tt)) c.save_zero.ensures.same c.in-Ok.ensures.answer))
    c.called-told.ensures c.run_next.ensures

pub returns-in-Err : goal.returns-in-Err
returns-in-Err c own at marks =
    let k : Kernel = kernel_of c.args.m.now in
    let r : List ℕ = c.args.r.now in
    let m1 : List ℕ = c.save_zero.new.m in
    let m2 : List ℕ = c.wait_line.new.m in
    undone_turn c.args.m.now m1 m2 c.go_on.new.m r c.go_on.new.r c.args.moment c.called-told.result own at Line (line_code r) c.in-Err.code c.code_number.result
    (after_leaving Line (work_of c.args.m.now r c.args.moment own at) (waiting_line (saved k (set_reg r 12 0)) r))
    (let rows = c.requires.settled.kernel.orderly.shape.thread_rows in let below = c.requires.runs.thread in omega arith)
    c.save_zero.ensures.leaves
    (refused_by m1 m2 (line_code r) (waiting_line (kernel_of m1) r) tt c.in-Err.code
    (subst (λ (x : List ℕ). AnswersBy m1 m2 (line_code x) (waiting_line (kernel_of m1) x) tt (Err c.in-Err.code)) c.save_zero.ensures.same c.in-Err.ensures.answer))
    c.code_number.ensures c.called-told.ensures
    (subst (λ (x : List ℕ). DispatchesFrom m2 c.go_on.new.m c.go_on.new.r c.args.moment (moved_to_front (saved (kernel_of m2) (set_reg x 12 c.code_number.result)))) c.save_zero.ensures.same c.go_on.ensures)
