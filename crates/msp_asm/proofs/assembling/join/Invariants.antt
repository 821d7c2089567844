use Rattle.std.proofs.Common.{◌≡◌, ◌++◌, drop}
use Rattle.msp_asm.proofs.assembling.join.Given as goal

abbrev pub invariant-loop-reloc : goal.invariant-loop-reloc
invariant-loop-reloc l = l.fn.code ++ l.others ≡ l.relocs ++ drop l.reloc-index l.others
