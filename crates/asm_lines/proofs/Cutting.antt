-- A text that is cut at a byte.
use Rattle.std.proofs.Common.{◌≡◌, ℕ, ◌+◌, ◌-◌, not, ◌≤◌, ◌<◌, Bool, true, false, List, [], ◌∷◌, length, take, drop, refl, ap, arith, cond}
use Rattle.std.specs.List.{slice_split, position_or_len, onto_first}
use Rattle.std.proofs.lemmas.List.Splits.{slice_split_first}
use Rattle.std.proofs.lemmas.Grind.{common_steps}

-- where no byte passes there is one part
pub cut_nowhere : (p : ℕ → Bool) (xs : List ℕ) → length xs ≤ position_or_len p xs → slice_split p xs ≡ xs ∷ []
cut_nowhere p [] h = refl
cut_nowhere p (x ∷ xs) h =
    let P : Bool → Type 0 = λ b. length (x ∷ xs) ≤ cond (not b) (1 + position_or_len p xs) 0 → cond b ([] ∷ slice_split p xs) (onto_first x (slice_split p xs)) ≡ (x ∷ xs) ∷ [] in
    let each : (b : Bool) → P b = λ b. elim b as P [ true ↦ λ k. absurd (omega (arith, k)) | false ↦ λ k. ap (onto_first x) (cut_nowhere p xs (omega (arith, k))) ] in
    each (p x) h

pub cut_there : (p : ℕ → Bool) (xs : List ℕ) (at : ℕ) → at ≡ position_or_len p xs → at < length xs → slice_split p xs ≡ take at xs ∷ slice_split p (take (length xs - (at + 1)) (drop (at + 1) xs))
cut_there p xs at e h = grind (arith, common_steps, slice_split_first p xs 0)
