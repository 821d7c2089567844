use Rattle.std.proofs.Common.{List, ℕ, refl, subst}
use Rattle.machine_model.specs.Memory.{word_at}
use Rattle.machine_model.specs.Context.{reg}
use Rattle.kernel_model.specs.Layout.{kernel_of}
use Rattle.kernel_model.specs.Queues.{Leaves}
use Rattle.trace_model.specs.declared.records.Record.{Record}
use Rattle.trace_model.specs.declared.records.Record.TheVariants as told
use Rattle.node_model.specs.Entries.{interrupted, served, vector_turn}
use Rattle.retos_node.proofs.AnswerLemmas.{dispatched_turn}
use Rattle.retos_node.proofs.TurnLemmas.{dispatches_by, turns_by}
use Rattle.retos_node.proofs.routines.vector.Goals as goal

pub returns : goal.returns
returns c =
    let m : List ℕ = c.args.m.now in
    let m1 : List ℕ = c.serve.new.m in
    let m' : List ℕ = c.run_next.new.m in
    let r : List ℕ = c.args.r.now in
    let r' : List ℕ = c.run_next.new.r in
    let n : ℕ = c.args.line in
    let shown : Record = told.Vector c.args.moment.step n in
    turns_by m m' r r' c.args.moment shown (vector_turn n m)
    (λ own marks. dispatched_turn m m' r r' c.args.moment shown shown own (word_at m (reg r 1)) (served n (kernel_of m) (interrupted m r))
    (dispatches_by (λ j. j) m m1 m' r' c.args.moment (served n (kernel_of m) (interrupted m r))
    (subst (λ (x : List ℕ). Leaves m m1 (served n (kernel_of m) x)) c.pop_context.ensures c.serve.ensures.leaves) c.run_next.ensures) refl)
