use Rattle.std.proofs.Common.{◌≡◌, drop, map, nat_eq}
use Rattle.std.specs.Cmp.Lexicographic.{pointwise}
use Rattle.std.specs.Char.{to_ascii_uppercase}
use Rattle.asm_lines.proofs.text.is_word.Given as goal

abbrev pub invariant-loop-i : goal.invariant-loop-i
invariant-loop-i l = pointwise nat_eq (map to_ascii_uppercase l.word) l.keyword ≡ pointwise nat_eq (map to_ascii_uppercase (drop l.i l.word)) (drop l.i l.keyword)
