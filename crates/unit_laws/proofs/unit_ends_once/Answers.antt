use Rattle.unit_laws.proofs.Running.{once}
use Rattle.unit_laws.proofs.unit_ends_once.Goals as goal

pub returns : goal.returns
returns c = once c.one_instruction.ensures c.first_word_decides.ensures
