use Rattle.std.proofs.Common.{◌+◌, sym, ◌∙◌}
use Rattle.read_script.proofs.Whole.{whole}
use Rattle.read_script.proofs.reading.read_script.Goals as goal

pub returns-clause-rules : goal.returns-clause-rules
returns-clause-rules c =
    c.texts_give_scripts.ensures c.args.text.now c.lines.draft.script (whole c.args.text.now c.lines.rest.now (c.lines.line + 1) c.lines.draft.script (sym c.is_empty.ensures ∙ c.lines-test.false) c.lines.invariant.0)
