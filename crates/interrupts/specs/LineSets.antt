-- Sets of interrupt lines, and the words that keep them: line n is in a word's set where bit n of the word is 1. Bits 14 and 15
-- are no line's.
use Rattle.std.specs.Prelude.{ℕ, zero, suc, List, [], ◌∷◌, filter, ◌==◌}
use Rattle.std.specs.List.{range_with_len}
use Rattle.std.specs.Int.{bit_at}
use Rattle.std.specs.Ordering.{nat_cmp}
use Rattle.std.specs.FinSet as set

abbrev pub LineSet : Type 0
LineSet = set.FinSet nat_cmp

-- the lines, 0 to 13
abbrev pub every_line : List ℕ
every_line = range_with_len 0 14

unfoldable pub lines_of : (word : ℕ) → LineSet
lines_of w = set.from_list (filter (λ n. bit_at w n == 1) every_line)

-- the numbers below k, highest first
abbrev pub numbers_down : (k : ℕ) → List ℕ
numbers_down zero = []
numbers_down (suc k) = k ∷ numbers_down k

-- the lines, 13 to 0
abbrev pub highest_first : List ℕ
highest_first = numbers_down 14
