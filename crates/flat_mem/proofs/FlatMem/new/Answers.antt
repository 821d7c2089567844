use Rattle.std.proofs.Common.{◌∙◌}
use Rattle.flat_mem.proofs.FlatMem.new.Goals as goal

pub returns : goal.returns
returns c = c.from_box.ensures ∙ c.in_ok-zeroes.ensures.zero
