use Rattle.unit_laws.proofs.Frame.{frame}
use Rattle.unit_laws.proofs.others_kept.Goals as goal

pub returns : goal.returns
returns c = frame
