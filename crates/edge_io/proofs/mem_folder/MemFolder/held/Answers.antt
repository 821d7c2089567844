use Rattle.std.proofs.Common.{sym, ◌∙◌}
use Rattle.edge_io.specs.contracts.mem_folder.MemFolder.{the_view}
use Rattle.edge_io.proofs.Entries.{found_created, found_other, held-found}
use Rattle.edge_io.proofs.mem_folder.MemFolder.held.Goals as goal

pub returns-then-is_created-clause-listed : goal.returns-then-is_created-clause-listed
returns-then-is_created-clause-listed c =
    rw (← c.self.view_is) (found_created (the_view c.self.inside) _ _ c.as_slice.ensures.value (sym c.is_created.ensures ∙ c.if-is_created.true))

pub returns-clause-listed : goal.returns-clause-listed
returns-clause-listed c =
    rw (← c.self.view_is) (found_other (the_view c.self.inside) _ _ (cc (c.find.ensures, c.deref.ensures.value)) (sym c.is_created.ensures ∙ c.if-is_created.false))

pub returns-then-is_created-clause-told : goal.returns-then-is_created-clause-told
returns-then-is_created-clause-told c = returns-then-is_created-clause-listed c ∙ sym (held-found _ _)

pub returns-clause-told : goal.returns-clause-told
returns-clause-told c = returns-clause-listed c ∙ sym (held-found _ _)
