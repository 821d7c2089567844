use Rattle.std.proofs.Common.{◌≤◌}
use Rattle.code_rows.proofs.decoder.each_first_word_is_encoded_again.Given as goal

abbrev pub invariant-loop-word : goal.invariant-loop-word
invariant-loop-word g l = l.count ≤ l.word
