use Rattle.std.proofs.Common.{refl}
use Rattle.code_model.specs.Fields.{fields}
use Rattle.check_inserter.proofs.Forming.{meets, answer_is}
use Rattle.check_inserter.proofs.inserter.assembled.Goals as goal

pub invariant_of-result : goal.invariant_of-result
invariant_of-result c = record {
  form = meets c.args.o.now c.args.laid.now c.requires.laid (c.groups_stand.ensures (fields c.args.o.now)) c.requires.source c.requires.clean c.in_ok-code.code c.in_ok-init.init c.place_of.result c.in_ok-relocs.relocs c.in_ok-exports.exports
      c.in_ok-code.ensures.moved c.in_ok-code.ensures.small c.in_ok-init.ensures.moved c.in_ok-init.ensures.small c.in_ok-relocs.ensures c.in_ok-exports.ensures c.place_of.ensures;
}

pub returns : goal.returns
returns c =
    answer_is c.args.o.now c.args.laid.now c.requires.laid (c.groups_stand.ensures (fields c.args.o.now)) c.requires.source c.requires.clean c.in_ok-code.code c.in_ok-init.init c.place_of.result c.in_ok-relocs.relocs c.in_ok-exports.exports
    c.in_ok-code.ensures.moved c.in_ok-code.ensures.small c.in_ok-init.ensures.moved c.in_ok-init.ensures.small c.in_ok-relocs.ensures c.in_ok-exports.ensures c.place_of.ensures _ refl
