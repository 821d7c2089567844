use Rattle.insert_laws.proofs.Accepting.{nothing}
use Rattle.insert_laws.proofs.nothing_refused.Goals as goal

pub returns : goal.returns
returns c = nothing c.form_rules_pass.ensures c.entry_rule_passes.ensures c.target_rule_passes.ensures c.end_rule_passes.ensures c.jump_rule_passes.ensures
