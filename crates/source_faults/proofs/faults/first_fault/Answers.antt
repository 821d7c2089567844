use Rattle.source_faults.proofs.Faulty.{first_of_all}
use Rattle.source_faults.proofs.faults.first_fault.Goals as goal

pub returns : goal.returns
returns c =
    first_of_all c.args.o.now c.args.lines.now _ _ _ _ _ _ _ c.requires.source.are c.first_of_lines-inside.ensures c.entry_fault.ensures c.first_of_exports-exported.ensures c.first_of_data.ensures
    c.lesser-behind.ensures c.lesser-outside.ensures c.lesser.ensures
