use Rattle.std.proofs.Common.{◌+◌, ◌*◌, ◌≤◌, ℕ, length, get_or, refl, ap, ◌∙◌, arith}
use Rattle.std.proofs.lemmas.List.{take_all}
use Rattle.flat_mem.specs.Bytes.{patch, even, word_bytes}
use Rattle.kernel_model.specs.Bytes.{bytes_of}
use Rattle.kernel_tables.proofs.PieceLemmas.{patch_none, words_more}
use Rattle.kernel_tables.proofs.pieces.put_words.Goals as goal

pub loop-i-init : goal.loop-i-init
loop-i-init c = patch_none c.args.m.now c.args.at

pub loop-i-preserved : goal.loop-i-preserved
loop-i-preserved c =
    let v : ℕ = get_or c.args.words.now c.loop-i.i 0 in
    let room : c.args.at + 2 * length c.args.words.now ≤ length c.args.m.now = omega arith in
    c.set_word.ensures.patched
    ∙ ap (λ m. patch m (even (c.args.at + 2 * c.loop-i.i)) (word_bytes v)) c.loop-i.invariant
    ∙ words_more c.args.m.now c.args.words.now c.args.at c.loop-i.i v c.loop-i-test.true refl c.requires.aligned room

pub returns : goal.returns
returns c =
    c.loop-i.invariant ∙ ap (λ ws. patch c.args.m.now c.args.at (bytes_of ws)) (take_all c.loop-i.i c.args.words.now (omega arith))
