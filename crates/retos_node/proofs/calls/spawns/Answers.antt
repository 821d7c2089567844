use Rattle.std.proofs.Common.{ℕ, Bool, List, Ok, Err, ap, ◌∙◌, subst}
use Rattle.machine_model.specs.Context.{reg, set_reg}
use Rattle.kernel_model.specs.Kernel.{Kernel}
use Rattle.kernel_model.specs.Words.{number_of}
use Rattle.kernel_model.specs.Layout.{kernel_of}
use Rattle.kernel_model.specs.Entries.{spawn_code, spawned, next_thread}
use Rattle.kernel_model.specs.Dispatching.{moved_to_front, saved}
use Rattle.kernel_threads.specs.Entries.{SpawnedBy}
use Rattle.node_model.specs.Entries.{Spawn, after_giving}
use Rattle.retos_node.specs.Turns.{DispatchesFrom, work_of}
use Rattle.retos_node.proofs.AnswerLemmas.{IsRefused, refused_by, refused_turn, spawned_turn}
use Rattle.retos_node.proofs.calls.spawns.Goals as goal

pub returns-in-Ok : goal.returns-in-Ok
returns-in-Ok c own at marks =
    let k : Kernel = kernel_of c.args.m.now in
    let r : List ℕ = c.args.r.now in
    let m1 : List ℕ = c.spawn.new.m in
    let n : ℕ = c.in-Ok.number in
    spawned_turn c.args.m.now m1 c.go_on.new.m r c.set.new.self c.go_on.new.r c.args.moment c.called-told.result own at (spawn_code k r (own (reg r 12))) n
    (subst (λ (b : Bool). SpawnedBy c.args.m.now m1 r (spawn_code k r b) (Ok n))
    (c.mark_answers_agree.ensures c.args.m.now (reg r 12) c.in-Ok.ensures.answer.0 (own (reg r 12)) c.in-Ok.ensures.answer.1.marked (let f = marks (reg r 12) in (f.1, f.0)))
    c.in-Ok.ensures.answer.1.by_code)
    (c.set.ensures ∙ ap (λ v. set_reg r 13 v) c.from.ensures) c.called-told.ensures c.go_on.ensures

pub returns-in-Err : goal.returns-in-Err
returns-in-Err c own at marks =
    let k : Kernel = kernel_of c.args.m.now in
    let r : List ℕ = c.args.r.now in
    let m1 : List ℕ = c.spawn.new.m in
    let n : ℕ = c.code_number.result in
    let why : IsRefused c.args.m.now m1 (spawn_code k r (own (reg r 12))) c.in-Err.code =
    refused_by c.args.m.now m1 (spawn_code k r (own (reg r 12))) (spawned k r) (number_of (next_thread k)) c.in-Err.code
    (subst (λ (b : Bool). SpawnedBy c.args.m.now m1 r (spawn_code k r b) (Err c.in-Err.code))
    (c.mark_answers_agree.ensures c.args.m.now (reg r 12) c.in-Err.ensures.answer.0 (own (reg r 12)) c.in-Err.ensures.answer.1.marked (let f = marks (reg r 12) in (f.1, f.0)))
    c.in-Err.ensures.answer.1.by_code) in
    refused_turn c.args.m.now c.go_on-in-Err.new.m r c.go_on-in-Err.new.r c.args.moment c.called-told.result own at Spawn (spawn_code k r (own (reg r 12))) c.in-Err.code n
    (after_giving Spawn (work_of c.args.m.now r c.args.moment own at) (spawned k r) (number_of (next_thread k)))
    why.code_is c.code_number.ensures c.called-told.ensures
    (subst (λ (x : List ℕ). DispatchesFrom x c.go_on-in-Err.new.m c.go_on-in-Err.new.r c.args.moment (moved_to_front (saved (kernel_of x) (set_reg r 12 n)))) why.same c.go_on-in-Err.ensures)
