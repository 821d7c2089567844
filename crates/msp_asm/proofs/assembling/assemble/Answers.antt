use Rattle.std.proofs.Common.{◌∙◌, sym, Ok}
use Rattle.asm_model.specs.Drafts.{draft_by}
use Rattle.msp_asm.specs.Given.{output_of}
use Rattle.msp_asm.proofs.Whole.{first_is, meets_is}
use Rattle.msp_asm.proofs.assembling.assemble.Goals as goal

pub second-requires : goal.second-requires
second-requires c =
    c.drafts_are_sound.ensures c.args.source.now (draft_by c.in-Ok.p c.first.new.names c.first.new.pieces)
    (first_is c.args.source.now c.new-names.result c.new-pieces.result (Ok (draft_by c.in-Ok.p c.first.new.names c.first.new.pieces)) c.new-names.ensures c.new-pieces.ensures c.in-Ok.ensures)

pub object-requires : goal.object-requires
object-requires c = λ words bytes.
    meets_is c.results_meet_the_form.ensures c.args.source.now c.in-Ok.p c.first.new.names c.first.new.pieces (output_of c.in-Ok-second.out)
    (first_is c.args.source.now c.new-names.result c.new-pieces.result (Ok (draft_by c.in-Ok.p c.first.new.names c.first.new.pieces)) c.new-names.ensures c.new-pieces.ensures c.in-Ok.ensures)
    (sym c.whole.ensures ∙ c.if-not-whole.false)
    c.in-Ok-second.ensures words bytes
