use Rattle.std.proofs.Common.{◌∙◌, sym, w16, SFits, rules}
use Rattle.std.proofs.lemmas.Int.{to_z-of_z}
use Rattle.code_model.specs.Fields.{fields}
use Rattle.check_inserter.proofs.Jumping.{short_by, final_none, final_some}
use Rattle.check_inserter.proofs.jumps.final_jump.Goals as goal

pub final_offset-requires-clause-short : goal.final_offset-requires-clause-short
final_offset-requires-clause-short c = short_by (fields c.args.o.now) c.args.line.now _ (sym c.in-Some.is ∙ c.requires.short)

pub returns-in-None : goal.returns-in-None
returns-in-None c = final_none (fields c.args.o.now) c.args.line.now (sym c.in-None.is ∙ c.requires.short)

pub returns-in-Some : goal.returns-in-Some
returns-in-Some c =
    let f : SFits w16 c.final_offset.result = search rules in
    final_some (fields c.args.o.now) c.args.line.now _ _ (sym c.in-Some.is ∙ c.requires.short) (to_z-of_z w16 c.final_offset.result f ∙ c.final_offset.ensures)
