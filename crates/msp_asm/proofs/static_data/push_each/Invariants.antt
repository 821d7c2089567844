use Rattle.std.proofs.Common.{◌≡◌, ◌++◌, map}
use Rattle.asm_model.specs.Drafts.{placed}
use Rattle.asm_model.specs.Directives.{datum_of, datum_piece}
use Rattle.msp_asm.specs.Parts.{parts_of}
use Rattle.msp_asm.proofs.Rests.{parts_left, size_left}
use Rattle.msp_asm.proofs.static_data.push_each.Given as goal

abbrev pub invariant-parts : goal.invariant-parts
invariant-parts l = l.fn.pieces ++ map (placed l.line) (map (λ o. datum_piece l.unit (datum_of l.unit l.names o)) (parts_of l.rest)) ≡ l.pieces ++ map (placed l.line) (map (λ o. datum_piece l.unit (datum_of l.unit l.names o)) (parts_left l.next))

abbrev pub decreases-parts : goal.decreases-parts
decreases-parts l = size_left l.next
