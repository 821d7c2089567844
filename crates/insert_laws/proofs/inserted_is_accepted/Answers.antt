use Rattle.insert_laws.proofs.Accepted.{accepted}
use Rattle.insert_laws.proofs.inserted_is_accepted.Goals as goal

pub returns : goal.returns
returns c =
    accepted (record { one = c.one_stands.ensures; reads = c.reading_law.ensures; legal = c.legal_by_cases.ensures; groups = c.groups_stand.ensures; short = c.short_jumps_fit.ensures })
    c.one_instruction.ensures c.first_word_decides.ensures c.guards_apart.ensures c.next_start.ensures c.starts_apart.ensures c.nothing_refused.ensures
