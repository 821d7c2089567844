use Rattle.std.proofs.Common.{ap, ◌∙◌}
use Rattle.object_form.specs.Spelling.{object_bytes}
use Rattle.retos_cli.proofs.Generated.{object_alone}
use Rattle.retos_cli.proofs.generating.make.Goals as goal

pub returns : goal.returns
returns c =
    let g = c.in_ok-objects.ensures in
    record {
      source = c.in_ok-source.source;
      object = g.object;
      alone = g.alone;
      generated = record { source_is = c.in_ok-source.ensures; gives = g.gives; accepted = g.accepted; bitmap = g.bitmap };
      words = c.len.ensures;
      text = c.in_ok-text.ensures ∙ ap object_bytes (object_alone c.in_ok-objects.objects g.object c.object.result.now c.object.ensures.0 g.alone c.object.ensures.1);
      ran = c.in_ok-end.ensures;
    }
