use Rattle.std.proofs.Common.{w16, SFits, rules, arith}
use Rattle.code_model.specs.Fields.{fields}
use Rattle.insert_model.specs.Layout.{longest}
use Rattle.check_inserter.proofs.Jumping.{aim_is, near_jump}
use Rattle.check_inserter.proofs.Placing.{value_at}
use Rattle.check_inserter.proofs.jumps.is_near_line.Goals as goal

pub returns-in-Jump : goal.returns-in-Jump
returns-in-Jump c =
    let f : SFits w16 c.in-Jump.offset = search rules in
    near_jump (fields c.args.o.now) c.args.line.now _ _ _ _ _ _ c.in-Jump.is (aim_is c.args.line.now.at _ c.in-Jump.offset f c.target_offset-target.ensures) (value_at longest (fields c.args.o.now) c.args.long.now c.args.line.now.at c.requires.places (omega arith))
    c.words_before.ensures c.is_near.ensures
