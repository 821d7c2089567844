use Rattle.kernel_tables.proofs.ClearLemmas.{flat_fits}
use Rattle.kernel_tables.proofs.laws.kernel_fits.Goals as goal

pub returns : goal.returns
returns c = flat_fits c.args.m.now c.is_flat.ensures.size c.is_flat.ensures.small
