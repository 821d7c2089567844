use Rattle.std.proofs.Common.{◌≡◌, is_some}
use Rattle.std.specs.List.{list_all}
use Rattle.asm_model.specs.Directives.{datum_of}
use Rattle.msp_asm.specs.Parts.{parts_of}
use Rattle.msp_asm.proofs.Rests.{parts_left, size_left}
use Rattle.msp_asm.proofs.static_data.each_formed.Given as goal

abbrev pub invariant-parts : goal.invariant-parts
invariant-parts l = list_all (λ o. is_some (datum_of l.unit l.names o)) (parts_of l.rest) ≡ list_all (λ o. is_some (datum_of l.unit l.names o)) (parts_left l.next)

abbrev pub decreases-parts : goal.decreases-parts
decreases-parts l = size_left l.next
