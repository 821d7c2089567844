use Rattle.std.proofs.Common.{ℕ, List, sym, subst}
use Rattle.machine_model.specs.Memory.{word_at}
use Rattle.machine_model.specs.Context.{reg}
use Rattle.trace_model.specs.declared.records.FaultKind.TheVariants.{Return}
use Rattle.node_model.specs.Entries.{Work, Call, Turn, faults, returning, row}
use Rattle.retos_node.specs.EntryPoints.{kernel_call}
use Rattle.retos_node.specs.Turns.{Turned, work_of}
use Rattle.retos_node.proofs.EntryLemmas.{call_turn, marked_turn, unmarked_turn}
use Rattle.retos_node.proofs.entries.returns.Goals as goal

pub returns-in-Ok : goal.returns-in-Ok
returns-in-Ok c own marks =
    let m : List ℕ = c.args.m.now in
    let m' : List ℕ = c.calls.new.m in
    let r : List ℕ = c.args.r.now in
    let r' : List ℕ = c.calls.new.r in
    let at : ℕ = word_at m (reg r 1) in
    let w : Work = work_of m r c.args.moment own at in
    let e : Call = kernel_call c.args.call in
    subst (λ (t : Turn). Turned m m' r' c.calls.result t) (sym (call_turn c.args.call w))
    (marked_turn m m' r' c.calls.result (own at) (row e (returning w)) (faults w Return at)
    ((marks at).0 c.in-Ok.ensures.0)
    (subst (λ (x : List ℕ). Turned m m' r' c.calls.result (row e (work_of m x c.args.moment own at))) c.in-Ok.ensures.1 (c.calls.ensures own at marks)))

pub returns-in-Err : goal.returns-in-Err
returns-in-Err c own marks =
    let m : List ℕ = c.args.m.now in
    let m' : List ℕ = c.faults.new.m in
    let r : List ℕ = c.args.r.now in
    let r' : List ℕ = c.faults.new.r in
    let at : ℕ = word_at m (reg r 1) in
    let w : Work = work_of m r c.args.moment own at in
    let e : Call = kernel_call c.args.call in
    subst (λ (t : Turn). Turned m m' r' c.faults.result t) (sym (call_turn c.args.call w))
    (unmarked_turn m m' r' c.faults.result (own at) (row e (returning w)) (faults w Return at)
    (λ marked. c.in-Err.ensures.1 ((marks at).1 marked))
    (subst (λ (x : List ℕ). Turned m m' r' c.faults.result (faults (work_of m x c.args.moment own at) Return at)) c.in-Err.ensures.2
    (subst (λ (v : ℕ). Turned m m' r' c.faults.result (faults (work_of m c.take_return.new.r c.args.moment own at) Return v)) c.in-Err.ensures.0
    (c.faults.ensures own at marks))))
