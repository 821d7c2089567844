use Rattle.std.proofs.Common.{◌≡◌, ◌+◌, ◌-◌, length, take}
use Rattle.std.specs.List.{suffix_len}
use Rattle.asm_lines.specs.Classes.{passes}
use Rattle.asm_lines.proofs.bytes.count_at_end.Given as goal

abbrev pub invariant-loop-i : goal.invariant-loop-i
invariant-loop-i l = suffix_len (passes l.class) l.text ≡ l.i + suffix_len (passes l.class) (take (length l.text - l.i) l.text)
