use Rattle.std.proofs.Common.{ℕ, subst}
use Rattle.node_model.specs.Entries.{faults}
use Rattle.node_model.specs.Steps.{over_budget}
use Rattle.trace_model.specs.declared.records.FaultKind.TheVariants.{Budget}
use Rattle.retos_node.specs.Turns.{Turned, work_of}
use Rattle.machine_model.specs.Memory.{word_at}
use Rattle.machine_model.specs.Context.{reg}
use Rattle.retos_node.proofs.TurnLemmas.{turns_by}
use Rattle.retos_node.proofs.turns.budget_fault.Goals as goal

pub returns : goal.returns
returns c =
    turns_by c.args.m.now c.faults.new.m c.args.r.now c.faults.new.r c.args.moment c.faults.result over_budget
    (λ own marks. let at : ℕ = word_at c.args.m.now (reg c.args.r.now 1) in
    subst (λ (v : ℕ). Turned c.args.m.now c.faults.new.m c.faults.new.r c.faults.result (faults (work_of c.args.m.now c.args.r.now c.args.moment own at) Budget v))
    c.get-at.ensures (c.faults.ensures own at marks))
