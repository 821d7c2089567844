use Rattle.node_model.proofs.Fetched.{fetched-spelled}
use Rattle.node_model.proofs.laws.fetched_where_spelled.Goals as goal

pub returns : goal.returns
returns c = fetched-spelled c.reading_law.ensures c.one_instruction.ensures c.no_proper_prefix.ensures
