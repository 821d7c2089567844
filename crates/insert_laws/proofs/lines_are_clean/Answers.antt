use Rattle.insert_laws.proofs.LineUnits.{all_lines_clean}
use Rattle.insert_laws.proofs.lines_are_clean.Goals as goal

pub returns : goal.returns
returns c = all_lines_clean c.reading_law.ensures c.legal_by_cases.ensures
