use Rattle.insert_laws.proofs.LoadGuards.{no_loads}
use Rattle.insert_laws.proofs.no_load_guards.Goals as goal

pub returns : goal.returns
returns c =
    no_loads (record { one = c.one_stands.ensures; reads = c.reading_law.ensures; legal = c.legal_by_cases.ensures; groups = c.groups_stand.ensures; short = c.short_jumps_fit.ensures })
    c.one_instruction.ensures c.first_word_decides.ensures c.guards_apart.ensures
