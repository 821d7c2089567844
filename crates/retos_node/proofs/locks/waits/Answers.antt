use Rattle.std.proofs.Common.{◌≡◌, ℕ, List, Ok, Err, subst, ap, sym, arith}
use Rattle.machine_model.specs.Context.{reg, set_reg}
use Rattle.kernel_model.specs.Kernel.{Kernel}
use Rattle.kernel_model.specs.Layout.{kernel_of}
use Rattle.kernel_model.specs.Sync.{wait_code, waiting_condition}
use Rattle.kernel_model.specs.Dispatching.{moved_to_front, saved}
use Rattle.kernel_model.specs.Running.{NoneRuns}
use Rattle.kernel_threads.specs.Entries.{AnswersBy}
use Rattle.node_model.specs.Entries.{Wait, after_leaving}
use Rattle.retos_node.specs.Turns.{DispatchesFrom, work_of}
use Rattle.retos_node.proofs.AnswerLemmas.{allowed_as, refused_as, allowed_by, refused_by, left_turn, undone_turn}
use Rattle.retos_node.proofs.RunnerLemmas.{none_after_waiting}
use Rattle.retos_node.proofs.locks.waits.Goals as goal

pub returns-in-Ok : goal.returns-in-Ok
returns-in-Ok c own at marks =
    let k : Kernel = kernel_of c.args.m.now in
    let r : List ℕ = c.args.r.now in
    let n : ℕ = reg r 12 in
    let i : ℕ = reg r 13 in
    let m1 : List ℕ = c.save_zero.new.m in
    let m2 : List ℕ = c.wait.new.m in
    let k1 : Kernel = kernel_of m1 in
    let same : wait_code k1 n i ≡ wait_code k n i = ap (λ j. wait_code j n i) c.save_zero.ensures.leaves.kernel in
    left_turn c.args.m.now m1 m2 c.run_next.new.m r c.run_next.new.r c.args.moment c.called-told.result own at Wait (wait_code k n i) (λ j. waiting_condition j n i)
    c.save_zero.ensures.leaves
    (allowed_as m1 m2 (wait_code k1 n i) (wait_code k n i) (waiting_condition k1 n i) same
    (allowed_by m1 m2 (wait_code k1 n i) (waiting_condition k1 n i) tt tt
    (subst (λ (x : ℕ). AnswersBy m1 m2 (wait_code k1 n x) (waiting_condition k1 n x) tt (Ok tt)) c.get-mutex.ensures
    (subst (λ (x : ℕ). AnswersBy m1 m2 (wait_code k1 x c.get-mutex.result) (waiting_condition k1 x c.get-mutex.result) tt (Ok tt)) c.get-condition.ensures c.in-Ok.ensures.answer))))
    c.called-told.ensures c.run_next.ensures

pub returns-in-Err : goal.returns-in-Err
returns-in-Err c own at marks =
    let k : Kernel = kernel_of c.args.m.now in
    let r : List ℕ = c.args.r.now in
    let n : ℕ = reg r 12 in
    let i : ℕ = reg r 13 in
    let m1 : List ℕ = c.save_zero.new.m in
    let m2 : List ℕ = c.wait.new.m in
    let k1 : Kernel = kernel_of m1 in
    let same : wait_code k1 n i ≡ wait_code k n i = ap (λ j. wait_code j n i) c.save_zero.ensures.leaves.kernel in
    undone_turn c.args.m.now m1 m2 c.go_on.new.m r c.go_on.new.r c.args.moment c.called-told.result own at Wait (wait_code k n i) c.in-Err.code c.code_number.result
    (after_leaving Wait (work_of c.args.m.now r c.args.moment own at) (waiting_condition (saved k (set_reg r 12 0)) n i))
    (let rows = c.requires.settled.kernel.orderly.shape.thread_rows in let below = c.requires.runs.thread in omega arith)
    c.save_zero.ensures.leaves
    (refused_as m1 m2 (wait_code k1 n i) (wait_code k n i) c.in-Err.code same
    (refused_by m1 m2 (wait_code k1 n i) (waiting_condition k1 n i) tt c.in-Err.code
    (subst (λ (x : ℕ). AnswersBy m1 m2 (wait_code k1 n x) (waiting_condition k1 n x) tt (Err c.in-Err.code)) c.get-mutex.ensures
    (subst (λ (x : ℕ). AnswersBy m1 m2 (wait_code k1 x c.get-mutex.result) (waiting_condition k1 x c.get-mutex.result) tt (Err c.in-Err.code)) c.get-condition.ensures c.in-Err.ensures.answer))))
    c.code_number.ensures c.called-told.ensures
    (subst (λ (x : List ℕ). DispatchesFrom m2 c.go_on.new.m c.go_on.new.r c.args.moment (moved_to_front (saved (kernel_of m2) (set_reg x 12 c.code_number.result)))) c.save_zero.ensures.same c.go_on.ensures)

pub run_next-requires-clause-none_runs : goal.run_next-requires-clause-none_runs
run_next-requires-clause-none_runs c =
    let m1 : List ℕ = c.save_zero.new.m in
    let a = allowed_by m1 c.wait.new.m (wait_code (kernel_of m1) c.get-condition.result c.get-mutex.result)
    (waiting_condition (kernel_of m1) c.get-condition.result c.get-mutex.result) tt tt c.in-Ok.ensures.answer in
    subst (λ (j : Kernel). NoneRuns j) (sym a.leaves.kernel)
    (none_after_waiting (kernel_of m1) c.get-condition.result c.get-mutex.result c.save_zero.ensures.runs.no_module)
