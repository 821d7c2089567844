use Rattle.std.proofs.Common.{◌∙◌}
use Rattle.code_model.specs.Fields.{fields}
use Rattle.check_inserter.proofs.Limits.{final_offsets, placed_final}
use Rattle.check_inserter.proofs.laying.lay_placed.Goals as goal

pub lay_units-requires : goal.lay_units-requires
lay_units-requires c =
    (c.requires.source, (c.requires.targets, (c.deref.ensures.value ∙ c.in_ok-offsets.ensures, final_offsets (fields c.args.o.now) c.args.lines.now _ c.short_jumps_fit.ensures (c.deref.ensures.value ∙ c.in_ok-offsets.ensures))))

pub returns : goal.returns
returns c = placed_final c.args.o.now _ c.sizes_alike.ensures c.in_ok-laid.ensures
