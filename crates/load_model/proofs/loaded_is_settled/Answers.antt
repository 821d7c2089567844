use Rattle.load_model.proofs.Settling.{placed_settled, loaded_settled}
use Rattle.load_model.proofs.loaded_is_settled.Goals as goal

pub returns-clause-row : goal.returns-clause-row
returns-clause-row c = placed_settled

pub returns-clause-whole : goal.returns-clause-whole
returns-clause-whole c = loaded_settled
