use Rattle.std.proofs.Common.{◌≡◌, ◌≤◌, drop}
use Rattle.asm_model.specs.Numbers.{number_from, capped}
use Rattle.asm_lines.proofs.numbers.size.Given as goal

abbrev pub invariant-loop-i : goal.invariant-loop-i
invariant-loop-i l = (l.size ≤ 65536) × (capped (number_from l.base 0 l.digits) ≡ capped (number_from l.base l.size (drop l.i l.digits)))
