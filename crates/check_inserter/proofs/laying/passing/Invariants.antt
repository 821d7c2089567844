use Rattle.std.proofs.Common.{◌≤◌, slice_index}
use Rattle.code_model.specs.declared.object.TheConstants.{CODE_WORDS_MAX}
use Rattle.check_inserter.proofs.laying.passing.Given as goal

abbrev pub invariant-loop-at : goal.invariant-loop-at
invariant-loop-at l = slice_index l.laid.places.items l.at ≤ CODE_WORDS_MAX
