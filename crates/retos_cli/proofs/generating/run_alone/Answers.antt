use Rattle.retos_node.specs.Parts.{parts}
use Rattle.retos_cli.proofs.Generated.{has_run}
use Rattle.retos_cli.proofs.generating.run_alone.Goals as goal

pub returns : goal.returns
returns c =
    has_run (parts c.in-Ok.node) c.args.objects.now c.no_script.result c.in-Ok-run.end c.in-Ok.ensures.booted c.no_script.ensures.empty (λ s r h. (c.in-Ok-run.ensures.whole s r h).0)
