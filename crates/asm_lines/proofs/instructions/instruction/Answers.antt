use Rattle.std.proofs.Common.{ap, sym, ◌∙◌, ◌∷◌, ◌≡◌, false}
use Rattle.asm_model.specs.Lines.{is_nil}
use Rattle.asm_lines.proofs.Listing.{many}
use Rattle.asm_lines.proofs.instructions.instruction.Goals as goal

pub returns-in-Some-behind : goal.returns-in-Some-behind
returns-in-Some-behind c =
    let full : is_nil c.args.rest.now ≡ false = sym c.is_empty.ensures ∙ c.if-is_empty.false in
    let one = rw c.in-Some.is at c.cut.ensures.parts in
    let two = rw c.in-Some-behind.is at c.cut-2.ensures.parts in
    many c.args.names.now c.args.form c.args.width c.args.rest.now _ _ c.in-Some-behind.field-0.now full (one ∙ ap (λ parts. c.cut.result.0.now ∷ parts) two)
