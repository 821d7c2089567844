-- Numbers that are counted up to a bound.
use Rattle.std.proofs.Common.{◌≡◌, ℕ, ◌+◌, ◌-◌, ◌*◌, ◌≤◌, ◌<◌, ◌&&◌, Bool, true, false, cond, leb, List, [], ◌∷◌, length, drop, get_or, Some, None, refl, arith, add-one, drop-cons}
use Rattle.std.specs.Char.{digit_value, is_ascii_digit}
use Rattle.std.specs.List.{list_all}
use Rattle.std.specs.Str.Parse.{digits_value, digits_value_after}
use Rattle.std.proofs.lemmas.Bool.Decides.{nat_tests}

pub digit_value-digit : (c : ℕ) → is_ascii_digit c ≡ true → digit_value c ≡ c - 48
digit_value-digit c e = grind (arith, nat_tests)

-- digits behind a number never make it less
pub at_least : (n : ℕ) (ds : List ℕ) → n ≤ digits_value_after 10 n ds
at_least n [] = omega arith
at_least n (d ∷ ds) = let more = at_least (n * 10 + digit_value d) ds in omega arith

front_true : (b c : Bool) → (b && c) ≡ true → b ≡ true
front_true true c e = refl
front_true false c e = cc

-- a number that is over the most on the way is over it at the end
pub over_most : (most value i : ℕ) (digits : List ℕ) → i < length digits → list_all is_ascii_digit (drop i digits) ≡ true → digits_value 10 digits ≡ digits_value_after 10 value (drop i digits) →
    most < value * 10 + (get_or digits i 0 - 48) → None ≡ cond (leb (digits_value 10 digits) most) (Some (digits_value 10 digits)) None
over_most most value i digits below all same over =
    let split : drop i digits ≡ get_or digits i 0 ∷ drop (i + 1) digits = rw add-one (drop-cons digits i 0 below) in
    let tested : (is_ascii_digit (get_or digits i 0) && list_all is_ascii_digit (drop (i + 1) digits)) ≡ true = rw split at all in
    let digit : digit_value (get_or digits i 0) ≡ get_or digits i 0 - 48 = digit_value-digit (get_or digits i 0) (front_true _ _ tested) in
    let whole : digits_value 10 digits ≡ digits_value_after 10 (value * 10 + digit_value (get_or digits i 0)) (drop (i + 1) digits) = rw split at same in
    let least : value * 10 + digit_value (get_or digits i 0) ≤ digits_value_after 10 (value * 10 + digit_value (get_or digits i 0)) (drop (i + 1) digits) = at_least (value * 10 + digit_value (get_or digits i 0)) (drop (i + 1) digits) in
    let much : most < digits_value 10 digits = omega arith in
    let test : leb (digits_value 10 digits) most ≡ false = grind (arith, nat_tests) in
    rw test refl
