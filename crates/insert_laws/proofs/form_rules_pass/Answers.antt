use Rattle.insert_laws.proofs.FormRules.{form_rules}
use Rattle.insert_laws.proofs.form_rules_pass.Goals as goal

pub returns : goal.returns
returns c =
    form_rules (record { one = c.one_stands.ensures; reads = c.reading_law.ensures; legal = c.legal_by_cases.ensures; groups = c.groups_stand.ensures; short = c.short_jumps_fit.ensures })
    c.one_instruction.ensures c.first_word_decides.ensures
