use Rattle.std.proofs.Common.{◌≡◌, ℕ, List, Bool, true, false, Ok, Err, subst, ap, ◌∙◌, sym, arith}
use Rattle.machine_model.specs.Context.{reg, set_reg}
use Rattle.kernel_model.specs.declared.entries.TheConstants.{LOCK}
use Rattle.kernel_model.specs.Kernel.{Kernel}
use Rattle.kernel_model.specs.Layout.{kernel_of}
use Rattle.kernel_model.specs.Sync.{lock_code, locked, is_free_mutex, own_app}
use Rattle.kernel_model.specs.Dispatching.{moved_to_front, saved}
use Rattle.kernel_threads.specs.Entries.{AnswersBy}
use Rattle.node_model.specs.Entries.{Work, Lock, after_leaving, locks, called}
use Rattle.retos_node.specs.Turns.{DispatchesFrom, work_of}
use Rattle.retos_node.proofs.AnswerLemmas.{IsAllowed, allowed_as, refused_as, allowed_by, refused_by, value_by, allowed_turn, dispatched_turn, undone_turn}
use Rattle.retos_node.proofs.EntryLemmas.{marked_turn, false_turn}
use Rattle.retos_node.proofs.TurnLemmas.{dispatches_by}
use Rattle.retos_node.proofs.locks.locks.Goals as goal

pub returns-in-Ok-true : goal.returns-in-Ok-true
returns-in-Ok-true c own at marks =
    let k : Kernel = kernel_of c.args.m.now in
    let r : List ℕ = c.args.r.now in
    let i : ℕ = reg r 12 in
    let m : List ℕ = c.args.m.now in
    let m1 : List ℕ = c.save_zero.new.m in
    let m2 : List ℕ = c.lock.new.m in
    let k1 : Kernel = kernel_of m1 in
    let w : Work = work_of m r c.args.moment own at in
    let z : Kernel = saved k (set_reg r 12 0) in
    let same : lock_code k1 i ≡ lock_code k i = ap (λ j. lock_code j i) c.save_zero.ensures.leaves.kernel in
    let x : AnswersBy m1 m2 (lock_code k1 i) (locked k1 i) (is_free_mutex k1 (own_app k1) i) (Ok c.in-Ok-true.field-0) =
    subst (λ (x : ℕ). AnswersBy m1 m2 (lock_code k1 x) (locked k1 x) (is_free_mutex k1 (own_app k1) x) (Ok c.in-Ok-true.field-0)) c.get-mutex.ensures c.in-Ok-true.ensures.answer in
    let a : IsAllowed m1 m2 (lock_code k i) (locked k1 i) =
    allowed_as m1 m2 (lock_code k1 i) (lock_code k i) (locked k1 i) same
    (allowed_by m1 m2 (lock_code k1 i) (locked k1 i) (is_free_mutex k1 (own_app k1) i) c.in-Ok-true.field-0 x) in
    let free : is_free_mutex k (own_app k) i ≡ true =
    sym (ap (λ j. is_free_mutex j (own_app j) i) c.save_zero.ensures.leaves.kernel)
    ∙ sym (value_by m1 m2 (lock_code k1 i) (locked k1 i) (is_free_mutex k1 (own_app k1) i) c.in-Ok-true.field-0 x) ∙ c.in-Ok-true.field-0-test in
    allowed_turn m c.run_next.new.m c.run_next.new.r c.called-told.result Lock w (lock_code k i) (locks w i) a.code
    (marked_turn m c.run_next.new.m c.run_next.new.r c.called-told.result (is_free_mutex k (own_app k) i) (after_leaving Lock w (moved_to_front (locked z i))) (after_leaving Lock w (locked z i)) free
    (dispatched_turn m c.run_next.new.m r c.run_next.new.r c.args.moment c.called-told.result (called w LOCK) own at (moved_to_front (locked z i))
    (dispatches_by (λ j. moved_to_front (locked j i)) m m1 c.run_next.new.m c.run_next.new.r c.args.moment z c.save_zero.ensures.leaves
    (dispatches_by moved_to_front m1 m2 c.run_next.new.m c.run_next.new.r c.args.moment (locked k1 i) a.leaves
    (dispatches_by (λ j. j) m2 c.to_front.new.m c.run_next.new.m c.run_next.new.r c.args.moment (moved_to_front (kernel_of m2)) c.to_front.ensures.leaves c.run_next.ensures)))
    c.called-told.ensures))

pub returns-in-Ok-false : goal.returns-in-Ok-false
returns-in-Ok-false c own at marks =
    let k : Kernel = kernel_of c.args.m.now in
    let r : List ℕ = c.args.r.now in
    let i : ℕ = reg r 12 in
    let m : List ℕ = c.args.m.now in
    let m1 : List ℕ = c.save_zero.new.m in
    let m2 : List ℕ = c.lock.new.m in
    let k1 : Kernel = kernel_of m1 in
    let w : Work = work_of m r c.args.moment own at in
    let z : Kernel = saved k (set_reg r 12 0) in
    let same : lock_code k1 i ≡ lock_code k i = ap (λ j. lock_code j i) c.save_zero.ensures.leaves.kernel in
    let x : AnswersBy m1 m2 (lock_code k1 i) (locked k1 i) (is_free_mutex k1 (own_app k1) i) (Ok c.in-Ok-false.field-0) =
    subst (λ (x : ℕ). AnswersBy m1 m2 (lock_code k1 x) (locked k1 x) (is_free_mutex k1 (own_app k1) x) (Ok c.in-Ok-false.field-0)) c.get-mutex.ensures c.in-Ok-false.ensures.answer in
    let a : IsAllowed m1 m2 (lock_code k i) (locked k1 i) =
    allowed_as m1 m2 (lock_code k1 i) (lock_code k i) (locked k1 i) same
    (allowed_by m1 m2 (lock_code k1 i) (locked k1 i) (is_free_mutex k1 (own_app k1) i) c.in-Ok-false.field-0 x) in
    let free : is_free_mutex k (own_app k) i ≡ false =
    sym (ap (λ j. is_free_mutex j (own_app j) i) c.save_zero.ensures.leaves.kernel)
    ∙ sym (value_by m1 m2 (lock_code k1 i) (locked k1 i) (is_free_mutex k1 (own_app k1) i) c.in-Ok-false.field-0 x) ∙ c.in-Ok-false.field-0-test in
    let m' : List ℕ = c.run_next-in-Ok-false.new.m in
    let r' : List ℕ = c.run_next-in-Ok-false.new.r in
    allowed_turn m m' r' c.called-told.result Lock w (lock_code k i) (locks w i) a.code
    (false_turn m m' r' c.called-told.result (is_free_mutex k (own_app k) i) (after_leaving Lock w (moved_to_front (locked z i))) (after_leaving Lock w (locked z i)) free
    (dispatched_turn m m' r r' c.args.moment c.called-told.result (called w LOCK) own at (locked z i)
    (dispatches_by (λ j. locked j i) m m1 m' r' c.args.moment z c.save_zero.ensures.leaves
    (dispatches_by (λ j. j) m1 m2 m' r' c.args.moment (locked k1 i) a.leaves c.run_next-in-Ok-false.ensures))
    c.called-told.ensures))

pub returns-in-Err : goal.returns-in-Err
returns-in-Err c own at marks =
    let k : Kernel = kernel_of c.args.m.now in
    let r : List ℕ = c.args.r.now in
    let i : ℕ = reg r 12 in
    let m : List ℕ = c.args.m.now in
    let m1 : List ℕ = c.save_zero.new.m in
    let m2 : List ℕ = c.lock.new.m in
    let k1 : Kernel = kernel_of m1 in
    let w : Work = work_of m r c.args.moment own at in
    let z : Kernel = saved k (set_reg r 12 0) in
    let same : lock_code k1 i ≡ lock_code k i = ap (λ j. lock_code j i) c.save_zero.ensures.leaves.kernel in
    let free : Bool = is_free_mutex k1 (own_app k1) i in
    undone_turn m m1 m2 c.go_on.new.m r c.go_on.new.r c.args.moment c.called-told.result own at Lock (lock_code k i) c.in-Err.code c.code_number.result (locks w i)
    (let rows = c.requires.settled.kernel.orderly.shape.thread_rows in let below = c.requires.runs.thread in omega arith)
    c.save_zero.ensures.leaves
    (refused_as m1 m2 (lock_code k1 i) (lock_code k i) c.in-Err.code same
    (refused_by m1 m2 (lock_code k1 i) (locked k1 i) free c.in-Err.code
    (subst (λ (x : ℕ). AnswersBy m1 m2 (lock_code k1 x) (locked k1 x) (is_free_mutex k1 (own_app k1) x) (Err c.in-Err.code)) c.get-mutex.ensures c.in-Err.ensures.answer)))
    c.code_number.ensures c.called-told.ensures
    (subst (λ (x : List ℕ). DispatchesFrom m2 c.go_on.new.m c.go_on.new.r c.args.moment (moved_to_front (saved (kernel_of m2) (set_reg x 12 c.code_number.result)))) c.save_zero.ensures.same c.go_on.ensures)
