use Rattle.kernel_model.proofs.SmallLemmas.{layout_size, layout_small}
use Rattle.kernel_model.proofs.laws.memory_kernel_bytes.Goals as goal

pub returns-clause-length : goal.returns-clause-length
returns-clause-length c = layout_size

pub returns-clause-small : goal.returns-clause-small
returns-clause-small c = layout_small
