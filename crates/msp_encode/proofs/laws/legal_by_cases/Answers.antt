use Rattle.msp_encode.proofs.Cases.{legal-by-cases}
use Rattle.msp_encode.proofs.laws.legal_by_cases.Goals as goal

pub returns : goal.returns
returns c = legal-by-cases
