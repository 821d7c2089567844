use Rattle.std.proofs.Common.{ap, ◌∙◌, ◌++◌, codes, decimal, List, ℕ}
use Rattle.line_text.specs.Hexadecimal.{hex_word}
use Rattle.retos_cli.proofs.Joined.{joined_four}
use Rattle.retos_cli.proofs.lines.push_check.Goals as goal

pub returns-clause-text : goal.returns-clause-text
returns-clause-text c =
    c.push_word.ensures.text
    ∙ ap (λ (x : List ℕ). x ++ hex_word c.args.place) (c.push_text-2.ensures.text
    ∙ ap (λ (x : List ℕ). x ++ codes " at ") (c.push_decimal.ensures.text
    ∙ ap (λ (x : List ℕ). x ++ decimal c.args.rule) c.push_text.ensures.text))
    ∙ joined_four c.args.line.now (codes ": check rule ") (decimal c.args.rule) (codes " at ") (hex_word c.args.place)
