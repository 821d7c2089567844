use Rattle.msp_encode.proofs.Tests.{tests-tell}
use Rattle.msp_encode.proofs.laws.tests_tell.Goals as goal

pub returns : goal.returns
returns c = tests-tell
