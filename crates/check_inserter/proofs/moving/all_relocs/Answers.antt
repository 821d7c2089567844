use Rattle.std.proofs.Common.{ap, length, arith}
use Rattle.insert_model.specs.Faults.{most_words}
use Rattle.check_inserter.proofs.moving.all_relocs.Goals as goal

pub put_code_relocs-requires : goal.put_code_relocs-requires
unfolding most_words
put_code_relocs-requires c = omega (arith, ap length c.deref.ensures.value, c.requires.fits)
