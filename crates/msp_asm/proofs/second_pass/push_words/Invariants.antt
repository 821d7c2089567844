use Rattle.std.proofs.Common.{◌≡◌, ◌++◌, drop}
use Rattle.msp_encode.specs.Spelled.{spelling}
use Rattle.msp_asm.proofs.second_pass.push_words.Given as goal

abbrev pub invariant-loop-word : goal.invariant-loop-word
invariant-loop-word l = l.fn.code ++ spelling l.i ≡ l.code ++ drop l.word-index l.word-items
