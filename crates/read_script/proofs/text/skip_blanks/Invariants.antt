use Rattle.std.proofs.Common.{◌≡◌, drop}
use Rattle.trace_model.specs.Grammar.{words_of}
use Rattle.read_script.proofs.text.skip_blanks.Given as goal

abbrev pub invariant-loop-i : goal.invariant-loop-i
invariant-loop-i l = words_of (drop l.i l.text) ≡ words_of l.text
