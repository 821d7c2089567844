-- What holds of each of two answers holds of the one that a test picks.
use Rattle.std.proofs.Common.{◌≡◌, ℕ, ◌≤◌, ◌<◌, nat_le, nat_lt, Bool, true, false, not, ◌&&◌, cond, refl, arith}
use Rattle.std.proofs.lemmas.Bool.Decides.{nat_tests}

pub if_true : {R : Type 0} (Q : R → Type 0) (b : Bool) (x y : R) → (b ≡ true → Q x) → (b ≡ false → Q y) → Q (cond b x y)
if_true {R} Q b x y f g =
    let P : Bool → Type 0 = λ t. b ≡ t → Q (cond t x y) in
    let each : (t : Bool) → P t = λ t. elim t as P [ true ↦ f | false ↦ g ] in
    each b refl

pub if_not : {R : Type 0} (Q : R → Type 0) (b : Bool) (x y : R) → (b ≡ false → Q x) → (b ≡ true → Q y) → Q (cond (not b) x y)
if_not {R} Q b x y f g =
    let P : Bool → Type 0 = λ t. b ≡ t → Q (cond (not t) x y) in
    let each : (t : Bool) → P t = λ t. elim t as P [ true ↦ g | false ↦ f ] in
    each b refl

pub le_of : (a m : ℕ) → nat_le a m ≡ true → a ≤ m
le_of a m h = grind (arith, nat_tests)

pub lt_of : (a m : ℕ) → nat_lt a m ≡ true → a < m
lt_of a m h = grind (arith, nat_tests)

pub both_of : (a b : Bool) → (a && b) ≡ true → (a ≡ true) × (b ≡ true)
both_of a b h = grind arith
