use Rattle.machine_laws.proofs.Memory.{word-stays}
use Rattle.machine_laws.proofs.word_stays.Goals as goal

pub returns : goal.returns
returns c = word-stays
