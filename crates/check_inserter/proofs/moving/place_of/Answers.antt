use Rattle.std.proofs.Common.{◌≤◌, arith}
use Rattle.check_inserter.proofs.Placing.{before_small, map_is}
use Rattle.check_inserter.proofs.moving.place_of.Goals as goal
use Rattle.code_model.specs.declared.object.TheConstants.{CODE_WORDS_MAX}

pub overflow_cast-result : goal.overflow_cast-result
overflow_cast-result c = let h : c.words_before.result ≤ CODE_WORDS_MAX = before_small c.args.o.now c.args.laid.now c.args.offset _ c.requires c.words_before.ensures in omega arith

pub overflow_mul-result : goal.overflow_mul-result
overflow_mul-result c = let h : c.words_before.result ≤ CODE_WORDS_MAX = before_small c.args.o.now c.args.laid.now c.args.offset _ c.requires c.words_before.ensures in omega arith

pub returns : goal.returns
returns c = map_is c.args.o.now c.args.offset _ c.words_before.ensures
