use Rattle.std.proofs.Common.{◌≡◌, ◌+◌, ◌≤◌, length, min}
use Rattle.msp_asm.specs.Parts.{parts_of}
use Rattle.msp_asm.proofs.Rests.{parts_left, size_left}
use Rattle.msp_asm.proofs.static_data.count.Given as goal

abbrev pub invariant-parts : goal.invariant-parts
invariant-parts l = (l.count ≤ 32768) × (min (length (parts_of l.rest)) 32768 ≡ min (l.count + length (parts_left l.next)) 32768)

abbrev pub decreases-parts : goal.decreases-parts
decreases-parts l = size_left l.next
