use Rattle.insert_laws.proofs.StoreGroups.{groups_store}
use Rattle.insert_laws.proofs.groups_store.Goals as goal

pub returns : goal.returns
returns c =
    groups_store (record { one = c.one_stands.ensures; reads = c.reading_law.ensures; legal = c.legal_by_cases.ensures; groups = c.groups_stand.ensures; short = c.short_jumps_fit.ensures })
