use Rattle.std.proofs.Common.{ap, ◌∙◌, slice_index}
use Rattle.msp_encode.specs.Spelled.{spelling}
use Rattle.check_inserter.proofs.words.first_word.Goals as goal

pub returns : goal.returns
unfolding spelling
returns c =
    let i = c.args.i.now in
    let spelled = c.one_spelling.ensures i c.encode-words.result.items (spelling i) c.encode-words.ensures.spelled (c.spelling_spells.ensures i c.requires) in
    ap (λ ws. slice_index ws 0) (c.deref.ensures.0 ∙ spelled)
