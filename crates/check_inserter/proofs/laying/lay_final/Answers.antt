use Rattle.std.proofs.Common.{◌∙◌}
use Rattle.check_inserter.proofs.Limits.{long_offsets, first_final}
use Rattle.check_inserter.proofs.laying.lay_final.Goals as goal

pub lay_units-requires : goal.lay_units-requires
lay_units-requires c =
    (c.requires, (c.targets-targets.ensures, (c.deref.ensures.value ∙ c.in_ok-offsets.ensures, long_offsets c.args.lines.now _ (c.deref.ensures.value ∙ c.in_ok-offsets.ensures))))

pub returns-then-o-lt2 : goal.returns-then-o-lt2
returns-then-o-lt2 c = first_final c.args.o.now _ c.sizes_alike.ensures c.if-o-lt2.true c.in_ok-long.ensures
