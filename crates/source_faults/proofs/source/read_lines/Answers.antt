use Rattle.std.proofs.Common.{◌≡◌, ◌+◌, ℕ, List, arith, sym, subst, refl, ap, ◌∙◌}
use Rattle.insert_model.specs.declared.line.Line.{Line}
use Rattle.insert_model.specs.Source.{line_at}
use Rattle.source_faults.proofs.Reading.{IsReadTo, read_begins, read_steps, read_ends}
use Rattle.source_faults.proofs.source.read_lines.Goals as goal

pub loop-at-init : goal.loop-at-init
loop-at-init c = subst (λ (ls : List Line). IsReadTo c.args.o.now ls 0) (sym c.new-lines.ensures.items) (read_begins c.args.o.now)

pub loop-at-preserved : goal.loop-at-preserved
loop-at-preserved c =
    let same : c.line_of.result ≡ line_at c.args.o.now.relocs c.loop-at.at c.in-Some.spot.instr =
    c.line_of.ensures ∙ ap (λ (n : ℕ). line_at c.args.o.now.relocs n c.in-Some.spot.instr) c.in-Some.ensures.place in
    subst (λ (ls : List Line). IsReadTo c.args.o.now ls (c.loop-at.at + c.in-Some.spot.words)) (sym c.in_ok-push_line-in-Some.ensures)
    (read_steps c.args.o.now c.loop-at.lines.items c.loop-at.at (c.loop-at.at + c.in-Some.spot.words) c.line_of.result c.in-Some.spot c.legal_by_cases.ensures c.instruction_size.ensures c.line_stands.ensures c.starts_apart.ensures
    c.loop-at.invariant (omega arith) c.in-Some.ensures refl same)

pub returns : goal.returns
returns c = read_ends _ _ c.loop-at.at c.loop-at.invariant (omega arith)
