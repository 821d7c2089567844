use Rattle.std.proofs.Common.{◌∙◌}
use Rattle.code_model.specs.Fields.{fields}
use Rattle.check_inserter.proofs.Limits.{sized_offsets}
use Rattle.check_inserter.proofs.laying.lay_shorter.Goals as goal

pub lay_units-requires : goal.lay_units-requires
lay_units-requires c =
    (c.requires.source, (c.requires.targets, (c.deref.ensures.value ∙ c.in_ok-short.ensures, sized_offsets (fields c.args.o.now) c.args.lines.now _ (c.deref.ensures.value ∙ c.in_ok-short.ensures))))
