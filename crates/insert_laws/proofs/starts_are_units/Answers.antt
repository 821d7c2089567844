use Rattle.insert_laws.proofs.Targets.{starts_units}
use Rattle.insert_laws.proofs.starts_are_units.Goals as goal

pub returns : goal.returns
returns c =
    starts_units (record { one = c.one_stands.ensures; reads = c.reading_law.ensures; legal = c.legal_by_cases.ensures; groups = c.groups_stand.ensures; short = c.short_jumps_fit.ensures })
    c.one_instruction.ensures c.first_word_decides.ensures c.guards_apart.ensures c.starts_apart.ensures c.instruction_size.ensures c.line_stands.ensures c.sizes_alike.ensures
