use Rattle.std.proofs.Common.{◌≡◌, ℕ, Some, None, arith, slice_get}
use Rattle.std.proofs.lemmas.Option.{slice_get_within}
use Rattle.trace_model.specs.Texts.{write_text}
use Rattle.trace_print.proofs.WriteLemmas.{one_more, no_more}
use Rattle.trace_print.proofs.parts.push_writes.Goals as goal

pub loop-address-preserved : goal.loop-address-preserved
loop-address-preserved c =
    let writes = c.args.writes.now in
    let at = c.loop-address.at in
    let pair : ℕ × ℕ = (c.in-Some.address, c.in-Some.byte) in
    let here : slice_get writes at ≡ Some pair = grind (arith, c.get.ensures, c.in-Some.is) in
    let line = c.loop-address.line in
    record {
      text = one_more write_text line c.push_write.new.line _ writes at pair here c.loop-address.invariant.text c.push_write.ensures.text;
      size = omega (arith, c.loop-address.invariant.size, c.push_write.ensures.size);
      within = omega (arith, slice_get_within writes at pair here);
    }

pub returns-clause-text : goal.returns-clause-text
returns-clause-text c =
    let writes = c.args.writes.now in
    let at = c.loop-address.at in
    let past : slice_get writes at ≡ None = grind (arith, c.get.ensures, c.in_default.is) in
    no_more write_text c.loop-address.line _ writes at past c.loop-address.invariant.text
