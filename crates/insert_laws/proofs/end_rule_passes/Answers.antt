use Rattle.insert_laws.proofs.Ending.{end_passes}
use Rattle.insert_laws.proofs.end_rule_passes.Goals as goal

pub returns : goal.returns
returns c =
    end_passes (record { one = c.one_stands.ensures; reads = c.reading_law.ensures; legal = c.legal_by_cases.ensures; groups = c.groups_stand.ensures; short = c.short_jumps_fit.ensures })
    c.instruction_size.ensures c.line_stands.ensures
