use Rattle.std.proofs.Common.{ℕ, List, refl, sym, subst}
use Rattle.machine_model.specs.Memory.{word_at}
use Rattle.machine_model.specs.Context.{reg}
use Rattle.trace_model.specs.declared.records.FaultKind.TheVariants.{Store, Stack}
use Rattle.node_model.specs.Entries.{Goes, Calls, faults}
use Rattle.retos_node.specs.EntryPoints.{call_of}
use Rattle.retos_node.specs.Turns.{Turned, DoesCall, work_of}
use Rattle.retos_node.specs.declared.entries.EntryPoint.{EntryPoint}
use Rattle.retos_node.proofs.entries.enter.Goals as goal

pub returns-in-StoreFault : goal.returns-in-StoreFault
returns-in-StoreFault c =
    let m : List ℕ = c.args.m.now in
    let r : List ℕ = c.args.r.now in
    let m' : List ℕ = c.faults.new.m in
    let r' : List ℕ = c.faults.new.r in
    subst (λ (x : EntryPoint). DoesCall m m' r r' c.args.moment c.faults.result (call_of x)) (sym c.in-StoreFault.is)
    (λ own marks. let at : ℕ = word_at m (reg r 1) in
    subst (λ (v : ℕ). Turned m m' r' c.faults.result (faults (work_of m r c.args.moment own at) Store v)) c.get-address.ensures (c.faults.ensures own at marks))

pub returns-in-StackFault : goal.returns-in-StackFault
returns-in-StackFault c =
    let m : List ℕ = c.args.m.now in
    let r : List ℕ = c.args.r.now in
    let m' : List ℕ = c.faults-in-StackFault.new.m in
    let r' : List ℕ = c.faults-in-StackFault.new.r in
    subst (λ (x : EntryPoint). DoesCall m m' r r' c.args.moment c.faults-in-StackFault.result (call_of x)) (sym c.in-StackFault.is)
    (λ own marks. let at : ℕ = word_at m (reg r 1) in
    subst (λ (v : ℕ). Turned m m' r' c.faults-in-StackFault.result (faults (work_of m r c.args.moment own at) Stack v)) c.get-stack.ensures (c.faults-in-StackFault.ensures own at marks))

pub returns-in-Goes : goal.returns-in-Goes
returns-in-Goes c =
    subst (λ (x : EntryPoint). DoesCall c.args.m.now c.jumps.new.m c.args.r.now c.jumps.new.r c.args.moment c.jumps.result (call_of x)) (sym c.in-Goes.is)
    (λ own marks. c.jumps.ensures Goes refl own (word_at c.args.m.now (reg c.args.r.now 1)) marks)

pub returns-in-Calls : goal.returns-in-Calls
returns-in-Calls c =
    subst (λ (x : EntryPoint). DoesCall c.args.m.now c.jumps-in-Calls.new.m c.args.r.now c.jumps-in-Calls.new.r c.args.moment c.jumps-in-Calls.result (call_of x)) (sym c.in-Calls.is)
    (λ own marks. c.jumps-in-Calls.ensures Calls refl own (word_at c.args.m.now (reg c.args.r.now 1)) marks)

pub returns-in-Exits : goal.returns-in-Exits
returns-in-Exits c =
    subst (λ (x : EntryPoint). DoesCall c.args.m.now c.exits.new.m c.args.r.now c.exits.new.r c.args.moment c.exits.result (call_of x)) (sym c.in-Exits.is)
    (λ own marks. c.exits.ensures own (word_at c.args.m.now (reg c.args.r.now 1)) marks)

pub returns-in-Leave : goal.returns-in-Leave
returns-in-Leave c =
    subst (λ (x : EntryPoint). DoesCall c.args.m.now c.leaves.new.m c.args.r.now c.leaves.new.r c.args.moment c.leaves.result (call_of x)) (sym c.in-Leave.is)
    (λ own marks. c.leaves.ensures own (word_at c.args.m.now (reg c.args.r.now 1)) marks)

pub returns-in-Call : goal.returns-in-Call
returns-in-Call c =
    subst (λ (x : EntryPoint). DoesCall c.args.m.now c.returns.new.m c.args.r.now c.returns.new.r c.args.moment c.returns.result (call_of x)) (sym c.in-Call.is) c.returns.ensures
