use Rattle.code_laws.proofs.Refusing.{one_verdict}
use Rattle.code_laws.proofs.one_verdict.Goals as goal

pub returns : goal.returns
returns c = one_verdict
