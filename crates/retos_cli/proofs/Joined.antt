-- Pieces of text that are appended one by one.
use Rattle.std.proofs.Common.{◌≡◌, ℕ, List, ◌++◌, append_assoc, arith}

pub joined_four : (l a b c d : List ℕ) → l ++ a ++ b ++ c ++ d ≡ l ++ (a ++ b ++ c ++ d)
joined_four l a b c d = grind (arith, append_assoc)
