use Rattle.std.proofs.Common.{◌≡◌, ◌≢◌, ◌+◌, ◌*◌, ◌<◌, length, get_or, refl, ◌∙◌, arith, length-set, get_or-set_other, get_or-set_same, below_more}
use Rattle.kernel_model.specs.Bytes.{part, words_of}
use Rattle.kernel_tables.proofs.PieceLemmas.{sixteen_are}
use Rattle.kernel_tables.proofs.WordLemmas.{word_in}
use Rattle.kernel_tables.proofs.pieces.sixteen_words.Goals as goal

pub loop-i-preserved : goal.loop-i-preserved
loop-i-preserved c =
    let here : c.loop-i.i < length c.loop-i.words = omega (arith, c.loop-i.invariant.size) in
    let word : c.word.result ≡ get_or (words_of (part c.args.m.now c.args.at 32)) c.loop-i.i 0 =
    c.word.ensures ∙ word_in c.args.m.now c.args.at 32 c.loop-i.i (c.args.at + 2 * c.loop-i.i) c.requires.aligned refl (omega arith) (omega arith) in
    record {
      size = length-set c.loop-i.words c.loop-i.i c.word.result ∙ c.loop-i.invariant.size;
      read = below_more _ _
          (λ k h. let ne : k ≢ c.loop-i.i = omega arith in rw get_or-set_other (c.loop-i.invariant.read k h))
          (rw get_or-set_same word);
    }

pub returns : goal.returns
returns c =
    sixteen_are c.args.m.now c.loop-i.words c.args.at (omega arith) c.loop-i.invariant.size (λ k h. c.loop-i.invariant.read k (omega arith))
