use Rattle.std.proofs.Common.{◌∙◌}
use Rattle.kernel_model.specs.Layout.{kernel_of}
use Rattle.place_model.specs.Placing.{domain_rows, with_places, first_number, number_count}
use Rattle.region_table.proofs.PlaceLemmas.{placing_from}
use Rattle.region_table.proofs.SettledLemmas.{left_settled}
use Rattle.region_table.proofs.placing.place.Goals as goal

pub returns-in-Ok-clause-lowest : goal.returns-in-Ok-clause-lowest
returns-in-Ok-clause-lowest c =
    c.placings_are_lowest.ensures.lowest (kernel_of c.args.m.now) c.args.kind c.args.code_len c.args.region_len c.in-Ok.r
    (placing_from (kernel_of c.args.m.now) c.as_slice.result.now c.args.kind c.args.code_len c.args.region_len c.in-Ok.r (c.as_slice.ensures.value ∙ c.domain_rows-rows.ensures.value) c.in-Ok.ensures.answer)

pub returns-in-Ok-clause-number : goal.returns-in-Ok-clause-number
returns-in-Ok-clause-number c =
    let lowest = c.placings_are_lowest.ensures.lowest (kernel_of c.args.m.now) c.args.kind c.args.code_len c.args.region_len c.in-Ok.r
    (placing_from (kernel_of c.args.m.now) c.as_slice.result.now c.args.kind c.args.code_len c.args.region_len c.in-Ok.r (c.as_slice.ensures.value ∙ c.domain_rows-rows.ensures.value) c.in-Ok.ensures.answer) in
    c.numbers_are_least.ensures (domain_rows (kernel_of c.args.m.now)) (first_number c.args.kind) (number_count c.args.kind) c.in-Ok.r.dom lowest.number

pub returns-in-Ok-clause-keeps : goal.returns-in-Ok-clause-keeps
returns-in-Ok-clause-keeps c = λ s.
    left_settled c.args.m.now c.fill.new.m (with_places (kernel_of c.args.m.now) c.in-Ok.r) c.fill.ensures s.laid_out
    (c.placings_keep_settled.ensures.settled (kernel_of c.args.m.now) c.args.kind c.args.code_len c.args.region_len c.in-Ok.r s.kernel
    c.requires.code_even c.requires.region_even
    (placing_from (kernel_of c.args.m.now) c.as_slice.result.now c.args.kind c.args.code_len c.args.region_len c.in-Ok.r (c.as_slice.ensures.value ∙ c.domain_rows-rows.ensures.value) c.in-Ok.ensures.answer))
