-- The numbers that are drawn.
use Rattle.std.specs.Prelude.{ℕ, zero, suc, ◌+◌, ◌*◌, ◌/◌, ◌%◌, ◌^◌}

-- the 32 bits behind a state
abbrev pub stepped : ℕ → ℕ
stepped x = (1664525 * x + 1013904223) % 2 ^ 32

-- the state after so many steps
unfoldable pub state : (seed steps : ℕ) → ℕ
state seed zero = seed
state seed (suc steps) = stepped (state seed steps)

-- draw k, counted from 0: the upper 16 bits of the state behind it
unfoldable pub draw : (seed k : ℕ) → ℕ
draw seed k = state seed (k + 1) / 65536
