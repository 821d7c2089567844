use Rattle.std.proofs.Common.{◌≡◌, true, false, arith, ap, sym, ◌∙◌}
use Rattle.std.specs.Prelude.{Some}
use Rattle.std.specs.Str.{bytes_eq}
use Rattle.edge_io.proofs.Entries.{found_here, found_past}
use Rattle.edge_io.proofs.mem_folder.find.Goals as goal

pub returns-then-eq : goal.returns-then-eq
returns-then-eq c =
    let same : bytes_eq c.args.name.now c.loop-key-item.result.0 ≡ true = cc (c.if-eq.true, c.eq.ensures, c.as_slice.ensures.bytes, c.as_slice-in-loop-key.ensures.bytes) in
    ap Some c.as_slice-then-eq.ensures ∙ sym (found_here c.args.others.now c.loop-key.key-index c.loop-key-item.result c.args.name.now (omega arith) c.loop-key-item.is same) ∙ sym c.loop-key.invariant

pub loop-key-preserved : goal.loop-key-preserved
loop-key-preserved c =
    let other : bytes_eq c.args.name.now c.loop-key-item.result.0 ≡ false = cc (c.if-eq.false, c.eq.ensures, c.as_slice.ensures.bytes, c.as_slice-in-loop-key.ensures.bytes) in
    c.loop-key.invariant ∙ found_past c.args.others.now c.loop-key.key-index c.loop-key-item.result c.args.name.now (omega arith) c.loop-key-item.is other
