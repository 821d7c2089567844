use Rattle.std.proofs.Common.{sym, ◌∙◌}
use Rattle.retos_cli.proofs.Bounded.{bounded_by}
use Rattle.retos_cli.proofs.top.run.Goals as goal

pub carry_out-requires-clause-bounded : goal.carry_out-requires-clause-bounded
carry_out-requires-clause-bounded g c = bounded_by c.args.words.now c.in-Ok-Some.command (sym c.in-Ok-Some.field-0-is ∙ c.in-Ok-Some.ensures)
