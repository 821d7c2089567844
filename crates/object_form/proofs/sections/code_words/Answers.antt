use Rattle.std.proofs.Common.{◌+◌, ◌*◌}
use Rattle.object_form.specs.Reading.{word_at, listed}
use Rattle.object_form.proofs.FaultLemmas.{listed-next}
use Rattle.object_form.proofs.sections.code_words.Goals as goal

pub loop-k-init : goal.loop-k-init
unfolding listed
loop-k-init c = c.in_ok-words.ensures

pub loop-k-preserved : goal.loop-k-preserved
loop-k-preserved c = rw (c.in_ok-push.ensures.pushed, c.word_in.ensures, listed-next c.loop-k.k (λ k. word_at c.args.text.now (20 + 2 * k)), ← c.loop-k.invariant)
