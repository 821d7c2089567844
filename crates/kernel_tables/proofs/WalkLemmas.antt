-- The loop that walks.
use Rattle.std.proofs.Common.{◌≡◌, ℕ, ◌+◌, ◌-◌, ◌*◌, ◌<◌, ◌≤◌, zero, suc, List, [], ◌∷◌, ◌++◌, length, get_or, refl, sym, ap, ◌∙◌, arith, append_assoc, length-append, ltb, false, ◌⊎◌, ⊎_elim}
use Rattle.kernel_model.specs.Links.{walk, gathered}
use Rattle.kernel_model.specs.Standing.{next_place}
use Rattle.kernel_tables.specs.Linking.{walk_in}
use Rattle.kernel_model.proofs.LinkLemmas.{if_true, if_false, true_below}

not_below : (t : ℕ) → 33 ≤ suc t → ltb t 32 ≡ false
not_below t l = grind arith

walk_on : (f : ℕ → ℕ) (k t : ℕ) → t < 32 → walk f (suc k) (suc t) ≡ t ∷ walk f k (f t)
walk_on f k t l = if_true _ (t ∷ walk f k (f t)) [] (true_below t l)

walk_step : (f : ℕ → ℕ) (n b : ℕ) → n < 32 → 1 ≤ b → b ≤ 32 → walk f (32 - n) b ≡ (b - 1) ∷ walk f (32 - (n + 1)) (f (b - 1))
walk_step f n b l h w =
    let more : 32 - n ≡ suc (32 - (n + 1)) = omega arith in let one : b ≡ suc (b - 1) = omega arith in let below : b - 1 < 32 = omega arith in
    ap (λ k. walk f k b) more ∙ ap (λ c. walk f (suc (32 - (n + 1))) c) one ∙ walk_on f (32 - (n + 1)) (b - 1) below

-- from a list on, what was walk_in and what is left of the walk
pub record Walks (m : List ℕ) (q : ℕ) (start now : List ℕ) (n b : ℕ) : Type 0 where
  pub whole : now ++ walk (λ t. get_or m (1100 + 48 * t) 0) (32 - n) b ≡ start ++ walk_in m q
  pub size : length now ≡ length start + n

pub walk_starts : (m : List ℕ) (q b : ℕ) (xs : List ℕ) → b ≡ get_or m (544 + 2 * q) 0 → Walks m q xs xs 0 b
unfolding walk_in
walk_starts m q b xs is = record { whole = ap (λ c. xs ++ walk (λ t. get_or m (1100 + 48 * t) 0) 32 c) is; size = omega arith }

pub walk_goes : (m : List ℕ) (q n b c : ℕ) (start xs ys : List ℕ) → Walks m q start xs n b → n < 32 → 1 ≤ b → b ≤ 32 → ys ≡ xs ++ (b - 1) ∷ [] → c ≡ get_or m (1100 + 48 * (b - 1)) 0 → Walks m q start ys (n + 1) c
walk_goes m q n b c start xs ys h l p w e is =
    let f : ℕ → ℕ = λ t. get_or m (1100 + 48 * t) 0 in let rest : List ℕ = walk f (32 - (n + 1)) (f (b - 1)) in
    let long : length ys ≡ length xs + 1 = ap length e ∙ length-append xs ((b - 1) ∷ []) in record {
      whole = ap (λ zs. zs ++ walk f (32 - (n + 1)) c) e ∙ ap (λ k. (xs ++ (b - 1) ∷ []) ++ walk f (32 - (n + 1)) k) is ∙ append_assoc xs ((b - 1) ∷ []) rest
          ∙ sym (ap (λ zs. xs ++ zs) (walk_step f n b l p w)) ∙ h.whole;
      size = omega (arith, long, h.size);
    }

nil_end : (xs : List ℕ) → xs ++ [] ≡ xs
nil_end [] = refl
nil_end (x ∷ xs) = ap (λ ys. x ∷ ys) (nil_end xs)

-- a walk ends at 0, above 32, or after 32 threads
walk_none : (f : ℕ → ℕ) (n b : ℕ) → (b ≡ 0) ⊎ (33 ≤ b) → walk f n b ≡ []
walk_none f zero b e = refl
walk_none f (suc n) zero e = refl
walk_none f (suc n) (suc t) e = if_false (ltb t 32) (t ∷ walk f n (f t)) [] (⊎_elim (λ z. absurd (omega arith)) (λ l. not_below t l) e)

pub walk_stops : (m : List ℕ) (q n b : ℕ) (start xs : List ℕ) → Walks m q start xs n b → (b ≡ 0) ⊎ (33 ≤ b) → xs ≡ start ++ walk_in m q
walk_stops m q n b start xs h e = sym (nil_end xs) ∙ sym (ap (λ ys. xs ++ ys) (walk_none (λ t. get_or m (1100 + 48 * t) 0) (32 - n) b e)) ∙ h.whole

pub walk_is_full : (m : List ℕ) (q n b : ℕ) (start xs : List ℕ) → Walks m q start xs n b → 32 ≤ n → xs ≡ start ++ walk_in m q
walk_is_full m q n b start xs h l = let none : 32 - n ≡ 0 = omega arith in sym (nil_end xs) ∙ sym (ap (λ k. xs ++ walk (λ t. get_or m (1100 + 48 * t) 0) k b) none) ∙ h.whole

-- there is room for one more
pub walk_room : (m : List ℕ) (q n b : ℕ) (start xs : List ℕ) → Walks m q start xs n b → n < 32 → 1 ≤ b → b ≤ 32 → length start + length (walk_in m q) ≤ 32 → length xs < 32
walk_room m q n b start xs h l p w room =
    let f : ℕ → ℕ = λ t. get_or m (1100 + 48 * t) 0 in let rest : List ℕ = walk f (32 - (n + 1)) (f (b - 1)) in
    let e : xs ++ (b - 1) ∷ rest ≡ start ++ walk_in m q = sym (ap (λ zs. xs ++ zs) (walk_step f n b l p w)) ∙ h.whole in
    let left = length-append xs ((b - 1) ∷ rest) in let right = length-append start (walk_in m q) in let both : length (xs ++ (b - 1) ∷ rest) ≡ length (start ++ walk_in m q) = ap length e in
    let more : length ((b - 1) ∷ rest) ≡ suc (length rest) = refl in
    omega arith

-- ---- the queues, one after the other

pub one_queue : (f : ℕ → List ℕ) (i : ℕ) (xs ys : List ℕ) → i < 8 → ys ≡ xs ++ f (7 - i) → xs ++ gathered f (8 - i) ≡ gathered f 8 → ys ++ gathered f (8 - (i + 1)) ≡ gathered f 8
one_queue f i xs ys l e h =
    let here : 8 - i ≡ suc (7 - i) = omega arith in let rest : 8 - (i + 1) ≡ 7 - i = omega arith in
    ap (λ zs. zs ++ gathered f (8 - (i + 1))) e ∙ ap (λ k. (xs ++ f (7 - i)) ++ gathered f k) rest ∙ append_assoc xs (f (7 - i)) (gathered f (7 - i)) ∙ sym (ap (λ k. xs ++ gathered f k) here) ∙ h

-- where the link behind a thread lies
pub behind_place : (q b : ℕ) → 1 ≤ b → next_place q b ≡ 1100 + 48 * (b - 1)
behind_place q b l = grind arith
