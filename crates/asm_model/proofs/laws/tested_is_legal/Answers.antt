use Rattle.asm_model.proofs.LegalLaw.{legal_fits}
use Rattle.asm_model.proofs.laws.tested_is_legal.Goals as goal

pub returns : goal.returns
returns c = λ i h. (c.legal_by_cases.ensures i).1 (legal_fits c.tests_tell.ensures i h)
