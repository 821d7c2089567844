use Rattle.load_model.proofs.Apart.{tables_first, tables_last}
use Rattle.load_model.proofs.tables_stand_apart.Goals as goal

pub returns-clause-first : goal.returns-clause-first
returns-clause-first c = tables_first c.outside_bytes.ensures

pub returns-clause-last : goal.returns-clause-last
returns-clause-last c = tables_last c.outside_bytes.ensures
