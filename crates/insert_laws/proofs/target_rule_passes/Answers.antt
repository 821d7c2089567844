use Rattle.insert_laws.proofs.Landing.{target_passes}
use Rattle.insert_laws.proofs.target_rule_passes.Goals as goal

pub returns : goal.returns
returns c =
    target_passes (record { one = c.one_stands.ensures; reads = c.reading_law.ensures; legal = c.legal_by_cases.ensures; groups = c.groups_stand.ensures; short = c.short_jumps_fit.ensures })
    c.starts_are_units.ensures
