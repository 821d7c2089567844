use Rattle.std.proofs.Common.{◌≡◌, ◌+◌, ◌<◌, slice_index, arith}
use Rattle.std.proofs.lemmas.List.{get_or_read}
use Rattle.code_model.specs.declared.object.TheConstants.{CODE_WORDS_MAX}
use Rattle.code_model.specs.Fields.{fields}
use Rattle.insert_model.specs.Layout.{sized}
use Rattle.check_inserter.proofs.Limits.{first_place_small, passes_at, all_fit}
use Rattle.check_inserter.proofs.laying.passing.Goals as goal

pub loop-at-init : goal.loop-at-init
loop-at-init c = first_place_small (sized (fields c.args.o.now)) (fields c.args.o.now) c.args.laid.now.places.items c.requires.laid.places

pub returns-then-index-gt-CODE_WORDS_MAX : goal.returns-then-index-gt-CODE_WORDS_MAX
returns-then-index-gt-CODE_WORDS_MAX c =
    let read : c.index.result.now ≡ slice_index c.args.laid.now.places.items (c.loop-at.at + 1) = get_or_read c.args.laid.now.places.items (c.loop-at.at + 1) _ (omega (arith, c.requires.laid.places.count)) c.index.ensures 0 in
    let big : CODE_WORDS_MAX < slice_index c.args.laid.now.places.items (c.loop-at.at + 1) = omega arith in
    (omega (arith, c.args.o.now.form.code_most), passes_at c.args.o.now c.args.laid.now c.loop-at.at c.sizes_alike.ensures c.requires.row c.requires.laid (omega arith) c.loop-at.invariant big)

pub returns : goal.returns
returns c = all_fit c.args.o.now c.args.laid.now c.loop-at.at c.requires.laid (omega arith) c.loop-at.invariant
