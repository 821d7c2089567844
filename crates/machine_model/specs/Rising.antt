-- Pairs of an address and a byte in rising address.
use Rattle.std.specs.Prelude.{◌≢◌, ℕ, ◌+◌, ◌≤◌, List, [], ◌∷◌, nat_lt, Bool}

-- no pair has this address
abbrev pub Lacks : ℕ → List (ℕ × ℕ) → Type 0
Lacks a [] = Unit {0}
Lacks a (p ∷ ps) = (p.0 ≢ a) × Lacks a ps

-- the addresses rise, from a on
abbrev pub RisesFrom : ℕ → List (ℕ × ℕ) → Type 0
RisesFrom a [] = Unit {0}
RisesFrom a (p ∷ ps) = (a ≤ p.0) × RisesFrom (p.0 + 1) ps

abbrev pub IsRising : List (ℕ × ℕ) → Type 0
IsRising ps = RisesFrom 0 ps

-- whether a pair has a higher address
abbrev pub is_above : ℕ → ℕ × ℕ → Bool
is_above a p = nat_lt a p.0
