use Rattle.std.proofs.Common.{ℕ, ◌<◌, List, slice_index, subst}
use Rattle.object_gen.proofs.Going.{Lists, lists_made, lists_formed}
use Rattle.object_gen.proofs.generating.generate.Goals as goal

pub invariant_of-result : goal.invariant_of-result
invariant_of-result c =
    let lists : Lists c.args.n c.put_blocks.new.source.code c.new.result c.put_blocks.new.source.relocs c.new-2.result =
    record { code_is = c.in_ok-put_blocks.ensures.code; relocs_are = c.in_ok-put_blocks.ensures.relocs; no_init = c.new.ensures; no_exports = c.new-2.ensures } in
    let small : (k : ℕ) → slice_index c.put_blocks.new.source.code k < 65536 =
    subst (λ (ws : List ℕ). (k : ℕ) → slice_index ws k < 65536) c.as_slice.ensures c.words_fit.ensures in
    record { form = lists_formed c.generated_meets_the_form.ensures c.args.n c.put_blocks.new.source.code c.new.result c.put_blocks.new.source.relocs c.new-2.result lists small }

pub returns : goal.returns
returns c =
    let lists : Lists c.args.n c.put_blocks.new.source.code c.new.result c.put_blocks.new.source.relocs c.new-2.result =
    record { code_is = c.in_ok-put_blocks.ensures.code; relocs_are = c.in_ok-put_blocks.ensures.relocs; no_init = c.new.ensures; no_exports = c.new-2.ensures } in
    lists_made c.args.n c.put_blocks.new.source.code c.new.result c.put_blocks.new.source.relocs c.new-2.result lists
