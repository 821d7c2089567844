use Rattle.std.proofs.Common.{ap, ◌∙◌}
use Rattle.flat_mem.specs.Bytes.{patch, even, word_bytes}
use Rattle.kernel_tables.proofs.SystemLemmas.{leaves_word}
use Rattle.kernel_tables.proofs.words.put.Goals as goal

pub returns : goal.returns
returns c =
    leaves_word c.args.m.now c.set_word.new.self c.args.w c.args.value c.is_flat.ensures.size
    (c.set_word.ensures.patched ∙ ap (λ a. patch c.args.m.now (even a) (word_bytes c.args.value)) c.place.ensures)
