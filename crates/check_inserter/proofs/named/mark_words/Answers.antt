use Rattle.code_model.specs.Fields.{fields}
use Rattle.check_inserter.proofs.Naming.{no_relocs, more_relocs}
use Rattle.check_inserter.proofs.named.mark_words.Goals as goal

pub loop-reloc-init : goal.loop-reloc-init
loop-reloc-init c = no_relocs (fields c.args.o.now) _ c.args.o.now.relocs

pub loop-reloc-preserved : goal.loop-reloc-preserved
loop-reloc-preserved c =
    more_relocs (fields c.args.o.now) _ _ _ c.args.o.now.relocs c.as_slice-reloc-items.result.now c.loop-reloc.reloc-index _ c.as_slice-reloc-items.ensures c.loop-reloc-test.true c.loop-reloc.invariant c.mark_word.ensures
