use Rattle.std.proofs.Common.{◌∙◌, refl, rules}
use Rattle.check_inserter.proofs.Limits.{no_offsets}
use Rattle.check_inserter.proofs.jumps.long_jumps.Goals as goal

pub returns : goal.returns
returns c = c.in_ok-offsets.ensures.items_if_clones_equal (search rules) ∙ no_offsets c.args.lines.now _ refl
