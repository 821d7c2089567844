use Rattle.std.proofs.Common.{◌∙◌, sym}
use Rattle.read_script.proofs.Cutting.{no_words, next_word_cut}
use Rattle.read_script.proofs.text.next_word.Goals as goal

pub returns-then-is_empty : goal.returns-then-is_empty
returns-then-is_empty c = no_words c.args.line.now c.skip_blanks-text.result.now c.skip_blanks-text.ensures.words (sym c.is_empty.ensures ∙ c.if-is_empty.true)

pub returns : goal.returns
returns c =
    next_word_cut c.args.line.now c.skip_blanks-text.result.now c.word_end-end.result c.skip_blanks-text.ensures.words (sym c.is_empty.ensures ∙ c.if-is_empty.false) c.skip_blanks-text.ensures.word c.word_end-end.ensures.place
