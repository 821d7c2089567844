use Rattle.check_inserter.proofs.Growing.{relocs_more}
use Rattle.check_inserter.proofs.moving.put_code_relocs.Goals as goal

pub loop-at-preserved : goal.loop-at-preserved
loop-at-preserved c = relocs_more _ _ _ c.args.words.now c.loop-at.at _ c.loop-at-test.true c.loop-at.invariant c.in_ok-put_code_reloc.ensures
