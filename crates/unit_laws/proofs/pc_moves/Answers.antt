use Rattle.unit_laws.proofs.GoingOn.{pc-set}
use Rattle.unit_laws.proofs.GuardedUnits.{context-at}
use Rattle.unit_laws.proofs.pc_moves.Goals as goal

pub returns : goal.returns
returns c = λ r pc h b. record { context = context-at r pc h b; there = pc-set r pc h.words }
