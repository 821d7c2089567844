-- Sizes from 65,536 on count as one.
use Rattle.std.proofs.Common.{◌≡◌, ℕ, ◌+◌, ◌*◌, ◌≤◌, ◌<◌, inl, inr, List, [], ◌∷◌, min, ap, sym, ◌∙◌, arith, length, drop, get_or, add-one, drop-cons}
use Rattle.std.specs.Char.{digit_value}
use Rattle.asm_model.specs.Numbers.{capped, number_from}
use Rattle.std.proofs.lemmas.Bool.{cases_lt}

more : (base n d : ℕ) → 1 ≤ base → 65536 ≤ n → 65536 ≤ n * base + d
more base n d b h = grind arith

capped_one : (base n d : ℕ) → 1 ≤ base → capped (capped n * base + d) ≡ capped (n * base + d)
capped_one base n d b =
    let large : 65536 ≤ n → capped (capped n * base + d) ≡ capped (n * base + d) = λ h.
    let low : 65536 ≤ n * base + d = more base n d b h in
    let same : capped n ≡ 65536 = omega (arith, h) in
    let capped_low : 65536 ≤ capped n * base + d = rw same (omega (arith, b)) in
    omega (arith, low, capped_low) in
    let small : n < 65536 → capped (capped n * base + d) ≡ capped (n * base + d) = λ h.
    let same : capped n ≡ n = omega (arith, h) in
    ap (λ m. capped (m * base + d)) same in
    elim (cases_lt n 65536) [ inl h ↦ small h | inr h ↦ large h ]

-- a size that is capped on the way
capped_from : (base n : ℕ) (ds : List ℕ) → 1 ≤ base → capped (number_from base (capped n) ds) ≡ capped (number_from base n ds)
capped_from base n [] b = omega arith
capped_from base n (d ∷ ds) b =
    let first : capped (number_from base (capped (capped n * base + digit_value d)) ds) ≡ capped (number_from base (capped n * base + digit_value d) ds) = capped_from base (capped n * base + digit_value d) ds b in
    let second : capped (number_from base (capped (n * base + digit_value d)) ds) ≡ capped (number_from base (n * base + digit_value d) ds) = capped_from base (n * base + digit_value d) ds b in
    let one : capped (capped n * base + digit_value d) ≡ capped (n * base + digit_value d) = capped_one base n (digit_value d) b in
    sym first ∙ ap (λ m. capped (number_from base m ds)) one ∙ second

pub capped_step : (base n : ℕ) (ds : List ℕ) → 1 ≤ base → capped (number_from base (min n 65536) ds) ≡ capped (number_from base n ds)
capped_step base n ds b = capped_from base n ds b

-- one digit more
pub capped_more : (base n s : ℕ) (ds : List ℕ) (i d all : ℕ) → 1 ≤ base → i < length ds → d ≡ digit_value (get_or ds i 0) → s ≡ min (n * base + d) 65536 → all ≡ capped (number_from base n (drop i ds)) → all ≡ capped (number_from base s (drop (i + 1) ds))
capped_more base n s ds i d all b below e f g =
    let split : drop i ds ≡ get_or ds i 0 ∷ drop (i + 1) ds = rw add-one (drop-cons ds i 0 below) in
    let whole : all ≡ capped (number_from base (n * base + digit_value (get_or ds i 0)) (drop (i + 1) ds)) = rw split at g in
    let cut : capped (number_from base (min (n * base + d) 65536) (drop (i + 1) ds)) ≡ capped (number_from base (n * base + d) (drop (i + 1) ds)) = capped_step base (n * base + d) (drop (i + 1) ds) b in
    whole ∙ sym (ap (λ m. capped (number_from base m (drop (i + 1) ds))) f ∙ cut ∙ ap (λ m. capped (number_from base (n * base + m) (drop (i + 1) ds))) e)
