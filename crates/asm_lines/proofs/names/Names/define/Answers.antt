use Rattle.asm_lines.proofs.Defining.{defined_last}
use Rattle.asm_lines.proofs.names.Names.define.Goals as goal

pub returns : goal.returns
returns c = defined_last c.args.self.now c.self.inside.map.entries c.insert.new.self.entries c.args.name c.args.value c.self.view_is c.in_ok-insert.ensures.entries c.requires
