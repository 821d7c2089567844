use Rattle.std.proofs.Common.{◌≡◌, ◌+◌, drop}
use Rattle.std.specs.List.{position_or_len}
use Rattle.asm_lines.specs.Classes.{passes}
use Rattle.asm_lines.proofs.bytes.position.Given as goal

abbrev pub invariant-loop-i : goal.invariant-loop-i
invariant-loop-i l = position_or_len (passes l.class) l.text ≡ l.i + position_or_len (passes l.class) (drop l.i l.text)
