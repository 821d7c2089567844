-- Lists of at most two words, and what they are the front of.
use Rattle.std.proofs.Common.{◌≡◌, ℕ, ◌≤◌, List, [], ◌∷◌, ◌++◌, length, take, get_or, cond, eqb, refl, ap, arith}
use Rattle.msp_decode.specs.Reading.{Leads}

-- a list of at most two words is the front of its first two
pub leads-itself : (ws : List ℕ) → length ws ≤ 2 → Leads ws (get_or ws 0 0 ∷ get_or ws 1 0 ∷ [])
leads-itself [] h = refl
leads-itself (a ∷ []) h = refl
leads-itself (a ∷ b ∷ []) h = refl
leads-itself (a ∷ b ∷ c ∷ ws) h = absurd (omega arith)

-- a list of at most one word that is the front of two
pub leads-one : (ws : List ℕ) (x y : ℕ) → length ws ≤ 1 → Leads ws (x ∷ y ∷ []) → Leads ws (x ∷ [])
leads-one [] x y h e = refl
leads-one (a ∷ []) x y h e = e
leads-one (a ∷ b ∷ ws) x y h e = absurd (omega arith)

-- two such lists joined: the second begins behind the first
pub leads-second : (ws xs : List ℕ) (x y : ℕ) → length ws ≤ 1 → length xs ≤ 1 → Leads (ws ++ xs) (x ∷ y ∷ []) → Leads ws (x ∷ []) × Leads xs (cond (eqb (length ws) 0) x y ∷ [])
leads-second [] xs x y h k e = (refl, leads-one xs x y k e)
leads-second (a ∷ []) [] x y h k e = (e, refl)
leads-second (a ∷ []) (b ∷ []) x y h k e = (ap (take 1) e, cc)
leads-second (a ∷ []) (b ∷ c ∷ xs) x y h k e = absurd (omega arith)
leads-second (a ∷ b ∷ ws) xs x y h k e = absurd (omega arith)

-- a list that is the front of one word is the front of that word and another
pub longer : (ws : List ℕ) (x y : ℕ) → Leads ws (x ∷ []) → Leads ws (x ∷ y ∷ [])
longer [] x y e = refl
longer (a ∷ []) x y e = e
longer (a ∷ b ∷ ws) x y e = absurd (cc)

-- two such lists joined are the front of two words, if the second is the front of those behind the first
pub leads-join : (ws xs : List ℕ) (x y : ℕ) → Leads ws (x ∷ []) → Leads xs (cond (eqb (length ws) 0) x y ∷ []) → Leads (ws ++ xs) (x ∷ y ∷ [])
leads-join [] xs x y e f = longer xs x y f
leads-join (a ∷ []) xs x y e f = let head : a ≡ x = cc in cc
leads-join (a ∷ b ∷ ws) xs x y e f = absurd (cc)
