use Rattle.std.proofs.Common.{◌≡◌, List, ℕ, [], ◌∷◌, ◌++◌, ◌+◌, ◌<◌, Some, None, map, drop, length, slice_get, subst, sym, ap, ◌∙◌, arith}
use Rattle.std.specs.Prelude.{codes}
use Rattle.std.specs.Option.{option_map}
use Rattle.trace_model.specs.Texts.{record_text, tail_line}
use Rattle.retos_node.specs.Printing.{Printed}
use Rattle.retos_node.proofs.Writing.{printed_none, printed_then, cut_after, cut_within, tail_to, tail_more, tail_rest, tail_within, tail_all}
use Rattle.retos_node.proofs.tails.print_tail.Goals as goal

pub loop-line-init : goal.loop-line-init
loop-line-init g c = record {
  printed = printed_none g.S.Sink.called g.S.Sink.state c.args.out.now;
  within = omega arith;
  later = omega arith;
}

pub loop-line-preserved : goal.loop-line-preserved
loop-line-preserved g c =
    let here : option_map record_text (slice_get c.args.tail.now c.loop-line.at) ≡ Some c.as_slice.result.now = sym c.lines.ensures.line ∙ c.in-Some.is ∙ ap (λ (x : List ℕ). Some x) (sym c.as_slice.ensures.bytes) in
    let more : c.loop-line.at < length c.args.tail.now = tail_within c.args.tail.now c.loop-line.at c.as_slice.result.now here in
    record {
      printed =
          subst (λ (l : List (List ℕ)). Printed g.S.Sink.called g.S.Sink.state c.args.out.now c.print_barred.new.out l)
          (tail_more c.args.tail.now c.loop-line.at c.as_slice.result.now here)
          (printed_then g.S.Sink.called g.S.Sink.state c.args.out.now c.loop-line.out c.print_barred.new.out (tail_to c.args.tail.now c.loop-line.at)
          ((codes "| " ++ c.as_slice.result.now) ∷ []) c.loop-line.invariant.printed c.in-Ok.ensures.whole);
      within = omega (arith, more);
      later = omega (arith, c.loop-line.invariant.later, c.in-Ok.ensures.cause.later);
    }

pub loop-line-smaller : goal.loop-line-smaller
loop-line-smaller g c =
    let here : option_map record_text (slice_get c.args.tail.now c.loop-line.at) ≡ Some c.in-Some.line = sym c.lines.ensures.line ∙ c.in-Some.is in
    omega (arith, tail_within c.args.tail.now c.loop-line.at c.in-Some.line here)

pub returns-in-Err-clause-prefix : goal.returns-in-Err-clause-prefix
returns-in-Err-clause-prefix g c =
    let here : option_map record_text (slice_get c.args.tail.now c.loop-line.at) ≡ Some c.as_slice.result.now = sym c.lines.ensures.line ∙ c.in-Some.is ∙ ap (λ (x : List ℕ). Some x) (sym c.as_slice.ensures.bytes) in
    let line : List (List ℕ) = (codes "| " ++ c.as_slice.result.now) ∷ [] in
    cut_within g.S.Sink.called g.S.Sink.state c.args.out.now c.print_barred.new.out (tail_to c.args.tail.now c.loop-line.at ++ line)
    (map tail_line (drop (c.loop-line.at + 1) c.args.tail.now)) (map tail_line c.args.tail.now) c.in-Err.fault
    (cut_after g.S.Sink.called g.S.Sink.state c.args.out.now c.loop-line.out c.print_barred.new.out (tail_to c.args.tail.now c.loop-line.at) line c.in-Err.fault
    c.loop-line.invariant.printed c.in-Err.ensures.prefix)
    (tail_rest c.args.tail.now c.loop-line.at c.as_slice.result.now here)

pub returns-clause-whole : goal.returns-clause-whole
returns-clause-whole g c =
    let past : option_map record_text (slice_get c.args.tail.now c.loop-line.at) ≡ None = sym c.lines.ensures.line ∙ c.in_default.is in
    subst (λ (l : List (List ℕ)). Printed g.S.Sink.called g.S.Sink.state c.args.out.now c.loop-line.out l)
    (tail_all c.args.tail.now c.loop-line.at past) c.loop-line.invariant.printed
