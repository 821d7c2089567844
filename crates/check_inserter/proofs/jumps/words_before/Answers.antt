use Rattle.std.proofs.Common.{arith}
use Rattle.code_model.specs.Fields.{fields}
use Rattle.check_inserter.proofs.Placing.{value_before}
use Rattle.check_inserter.proofs.jumps.words_before.Goals as goal

pub returns : goal.returns
returns g c = value_before g.js (fields c.args.o.now) c.args.places.now c.args.offset c.min-place.result c.requires (omega arith)
