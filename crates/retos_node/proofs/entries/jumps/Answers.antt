use Rattle.std.proofs.Common.{ℕ, List, ap, sym, subst, ◌∙◌}
use Rattle.machine_model.specs.Context.{reg, set_reg}
use Rattle.kernel_model.specs.Layout.{kernel_of}
use Rattle.kernel_threads.proofs.ChainLemmas.{leaves_same}
use Rattle.trace_model.specs.declared.records.Record.TheVariants as told
use Rattle.trace_model.specs.declared.records.FaultKind.TheVariants.{Jump}
use Rattle.node_model.specs.Entries.{Work, called, entry_address, faults, goes_straight, who_runs}
use Rattle.retos_node.specs.Turns.{Turned, work_of}
use Rattle.retos_node.proofs.EntryLemmas.{marked_turn, unmarked_turn}
use Rattle.retos_node.proofs.entries.jumps.Goals as goal

pub returns-in-Ok : goal.returns-in-Ok
returns-in-Ok c e is own at marks =
    let m : List ℕ = c.args.m.now in
    let r : List ℕ = c.args.r.now in
    let to : ℕ = reg r 4 in
    let w : Work = work_of m r c.args.moment own at in
    marked_turn m m c.jump.new.r c.called.result (own to) (goes_straight (kernel_of m) (set_reg r 0 to) (called w (entry_address e))) (faults w Jump to)
    ((marks to).0 c.in-Ok.ensures.0)
    record {
      leaves = leaves_same m;
      registers_are = λ _. c.in-Ok.ensures.1;
      shown = c.called.ensures ∙ ap (λ x. told.Entry c.args.moment.step (who_runs (kernel_of m)) x) (sym is);
    }

pub returns-in-Err : goal.returns-in-Err
returns-in-Err c e is own at marks =
    let m : List ℕ = c.args.m.now in
    let m' : List ℕ = c.faults.new.m in
    let r : List ℕ = c.args.r.now in
    let r' : List ℕ = c.faults.new.r in
    let to : ℕ = reg r 4 in
    let w : Work = work_of m r c.args.moment own at in
    unmarked_turn m m' r' c.faults.result (own to) (goes_straight (kernel_of m) (set_reg r 0 to) (called w (entry_address e))) (faults w Jump to)
    (λ marked. c.in-Err.ensures.1 ((marks to).1 marked))
    (subst (λ (x : List ℕ). Turned m m' r' c.faults.result (faults (work_of m x c.args.moment own at) Jump to)) c.in-Err.ensures.2
    (subst (λ (v : ℕ). Turned m m' r' c.faults.result (faults (work_of m c.jump.new.r c.args.moment own at) Jump v)) c.in-Err.ensures.0
    (c.faults.ensures own at marks)))
