use Rattle.std.proofs.Common.{◌≡◌, ◌+◌, ◌≤◌, length, drop}
use Rattle.asm_model.specs.Sound.{code_total, initialised_total}
use Rattle.asm_model.specs.SecondPass.{empty_output, known_from, second_pass}
use Rattle.msp_asm.specs.Given.{output_of}
use Rattle.msp_asm.proofs.Sounding.{AreLegal}
use Rattle.msp_asm.proofs.assembling.second.Given as goal
use Rattle.code_model.specs.declared.object.TheConstants.{CODE_WORDS_MAX, STATIC_BYTES_MAX}

abbrev pub invariant-loop-placed : goal.invariant-loop-placed
invariant-loop-placed l =
    (second_pass (known_from l.names l.p) l.pieces empty_output ≡ second_pass (known_from l.names l.p) (drop l.placed-index l.pieces) (output_of l.out))
    × AreLegal (drop l.placed-index l.pieces)
    × (length l.out.code + code_total (drop l.placed-index l.pieces) ≤ CODE_WORDS_MAX)
    × (length l.out.initialised + initialised_total (drop l.placed-index l.pieces) ≤ STATIC_BYTES_MAX)
