use Rattle.std.proofs.Common.{◌∙◌, w16, SFits, rules, arith}
use Rattle.std.proofs.lemmas.Int.{to_z-of_z}
use Rattle.code_model.specs.Fields.{fields}
use Rattle.insert_model.specs.Layout.{sized}
use Rattle.check_inserter.proofs.Jumping.{aim_is, jump_near, offset_is}
use Rattle.check_inserter.proofs.Placing.{value_at}
use Rattle.check_inserter.proofs.jumps.final_offset.Goals as goal

pub span_between-requires-clause-ahead : goal.span_between-requires-clause-ahead
span_between-requires-clause-ahead c =
    let f : SFits w16 c.in-Jump.offset = search rules in
    (jump_near (fields c.args.o.now) c.args.line.now _ _ _ _ _ c.short_jumps_fit.ensures c.in-Jump.is c.requires.short (aim_is c.args.line.now.at _ c.in-Jump.offset f c.target_offset-target.ensures)
    (value_at (sized (fields c.args.o.now)) (fields c.args.o.now) c.args.places.now c.args.line.now.at c.requires.places (omega arith)) c.words_before.ensures).ahead

pub span_between-requires-clause-back : goal.span_between-requires-clause-back
span_between-requires-clause-back c =
    let f : SFits w16 c.in-Jump.offset = search rules in
    (jump_near (fields c.args.o.now) c.args.line.now _ _ _ _ _ c.short_jumps_fit.ensures c.in-Jump.is c.requires.short (aim_is c.args.line.now.at _ c.in-Jump.offset f c.target_offset-target.ensures)
    (value_at (sized (fields c.args.o.now)) (fields c.args.o.now) c.args.places.now c.args.line.now.at c.requires.places (omega arith)) c.words_before.ensures).back

pub returns-in-Jump : goal.returns-in-Jump
returns-in-Jump c =
    let f : SFits w16 c.in-Jump.offset = search rules in
    let s : SFits w16 c.span_between.result = search rules in
    to_z-of_z w16 c.span_between.result s
    ∙ offset_is (fields c.args.o.now) c.args.line.now _ _ _ _ _ _ c.in-Jump.is (aim_is c.args.line.now.at _ c.in-Jump.offset f c.target_offset-target.ensures)
    (value_at (sized (fields c.args.o.now)) (fields c.args.o.now) c.args.places.now c.args.line.now.at c.requires.places (omega arith)) c.words_before.ensures c.span_between.ensures
