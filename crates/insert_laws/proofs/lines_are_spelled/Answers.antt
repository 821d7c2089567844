use Rattle.insert_laws.proofs.SourceLines.{lines_stand}
use Rattle.insert_laws.proofs.lines_are_spelled.Goals as goal

pub returns : goal.returns
returns c = lines_stand c.instruction_size.ensures c.line_stands.ensures c.starts_apart.ensures
