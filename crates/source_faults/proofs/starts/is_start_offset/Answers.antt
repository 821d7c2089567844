use Rattle.source_faults.proofs.Startings.{iff_false, start_offset, odd_offset, far_offset}
use Rattle.source_faults.proofs.starts.is_start_offset.Goals as goal

pub returns-then-word-eq1 : goal.returns-then-word-eq1
returns-then-word-eq1 c = iff_false _ (odd_offset c.args.o.now.code _ c.if-word-eq1.true)

pub returns-then-word-ge-CODE_BYTES_MAX : goal.returns-then-word-ge-CODE_BYTES_MAX
returns-then-word-ge-CODE_BYTES_MAX c = iff_false _ (far_offset c.args.o.now _ c.if-word-ge-CODE_BYTES_MAX.true)

pub returns : goal.returns
returns c = start_offset c.args.o.now.code c.args.starts.now _ _ c.requires c.if-word-eq1.false c.has.ensures
