use Rattle.std.proofs.Common.{ap, length, arith}
use Rattle.source_faults.proofs.WordKinds.{kinds_end}
use Rattle.source_faults.proofs.source.kinds.Goals as goal

pub returns : goal.returns
returns c = record {
  size = c.loop-reloc.invariant.size;
  each = λ k h. kinds_end c.args.o.now _ c.loop-reloc.reloc-index k (omega (arith, ap length c.as_slice-reloc-items.ensures)) (c.loop-reloc.invariant.each k h);
}
