use Rattle.std.proofs.Common.{length, ap, ◌∙◌}
use Rattle.kernel_tables.proofs.PieceLemmas.{filled_is}
use Rattle.kernel_tables.proofs.pieces.list_bytes.Goals as goal

pub returns-clause-value : goal.returns-clause-value
returns-clause-value g c =
    filled_is g.row.N c.copy_from_slice.new.self c.args.list.now.items (length c.as_slice-items.result.now)
    (c.copy_from_slice.ensures.after ∙ c.as_slice-items.ensures.value) (ap (λ xs. length xs) c.as_slice-items.ensures.value)
