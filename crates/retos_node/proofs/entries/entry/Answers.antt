use Rattle.std.proofs.Common.{◌≡◌, true, sym, subst, ◌∙◌}
use Rattle.kernel_model.specs.Layout.{kernel_of}
use Rattle.node_model.specs.Entries.{Call, has_row, turn_at}
use Rattle.retos_node.specs.EntryPoints.{call_of}
use Rattle.retos_node.specs.Turns.{DoesCall}
use Rattle.retos_node.proofs.EntryLemmas.{same_call}
use Rattle.retos_node.proofs.TurnLemmas.{turns_by}
use Rattle.retos_node.proofs.entries.entry.Goals as goal

pub enter-requires-clause-row : goal.enter-requires-clause-row
enter-requires-clause-row c =
    subst (λ (x : Call). has_row (kernel_of c.args.m.now) x ≡ true) (same_call c.requires.row.call (call_of c.in-Some.entry) (sym c.requires.row.at ∙ sym c.in-Some.ensures)) c.requires.row.row

pub returns : goal.returns
returns c e at =
    turns_by c.args.m.now c.enter.new.m c.args.r.now c.enter.new.r c.args.moment c.enter.result (turn_at e)
    (subst (λ (x : Call). DoesCall c.args.m.now c.enter.new.m c.args.r.now c.enter.new.r c.args.moment c.enter.result x)
    (same_call (call_of c.in-Some.entry) e (c.in-Some.ensures ∙ at)) c.enter.ensures)
