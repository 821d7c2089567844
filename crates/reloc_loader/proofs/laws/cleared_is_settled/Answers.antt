use Rattle.reloc_loader.proofs.Cleared.{cleared_settled}
use Rattle.reloc_loader.proofs.laws.cleared_is_settled.Goals as goal

pub returns : goal.returns
returns c = cleared_settled c.empty_is_orderly.ensures
