-- Where a pair is put among pairs in rising address.
use Rattle.std.proofs.Common.{not, ◌≡◌, ◌≢◌, ℕ, ◌+◌, ◌<◌, ◌≤◌, suc, Bool, true, false, cond, nat_lt, List, [], ◌∷◌, length, Some, None, refl, ap, ◌∙◌, arith}
use Rattle.std.specs.Option.{unwrap_or}
use Rattle.std.specs.List.{insert, position, position_or_len}
use Rattle.std.proofs.lemmas.List.Sums.{prefix_len-le-length}
use borrow.Author.Tests.{ltb-true, ltb-false}
use Rattle.machine_model.specs.Pairs.{put_pair}
use Rattle.machine_model.specs.Rising.{Lacks, RisesFrom, is_above}

picked : (n l : ℕ) → n ≤ l → unwrap_or (cond (nat_lt n l) (Some n) None) l ≡ n
picked n l h =
    let T : Bool → Type 0 = λ b. nat_lt n l ≡ b → unwrap_or (cond b (Some n) None) l ≡ n in
    elim (nat_lt n l) as T [ true ↦ λ e. refl | false ↦ λ e. let past : l ≤ n = ltb-false n l e in omega arith ] refl

insert-more : (x : ℕ × ℕ) (xs : List (ℕ × ℕ)) (n : ℕ) (p : ℕ × ℕ) → insert (x ∷ xs) (1 + n) p ≡ x ∷ insert xs n p
insert-more x xs n p = let e : 1 + n ≡ suc n = omega arith in ap (λ k. insert (x ∷ xs) k p) e

insert-place : (p : ℕ × ℕ) (ps : List (ℕ × ℕ)) → insert ps (position_or_len (is_above p.0) ps) p ≡ put_pair p ps
insert-place p [] = refl
insert-place p (q ∷ qs) =
    let n : ℕ = position_or_len (is_above p.0) qs in
    elim (nat_lt p.0 q.0) as (λ b. insert (q ∷ qs) (cond (not b) (1 + n) 0) p ≡ cond b (p ∷ q ∷ qs) (q ∷ put_pair p qs))
    [ true ↦ refl | false ↦ insert-more q qs n p ∙ ap (λ r. q ∷ r) (insert-place p qs) ]

-- a pair before the first of a higher address
pub placed : (p : ℕ × ℕ) (ps : List (ℕ × ℕ)) → insert ps (unwrap_or (position (is_above p.0) ps) (length ps)) p ≡ put_pair p ps
placed p ps =
    let e : unwrap_or (position (is_above p.0) ps) (length ps) ≡ position_or_len (is_above p.0) ps = picked _ _ (prefix_len-le-length _ ps) in
    ap (λ k. insert ps k p) e ∙ insert-place p ps

pub place-le : (a : ℕ) (ps : List (ℕ × ℕ)) → unwrap_or (position (is_above a) ps) (length ps) ≤ length ps
place-le a ps =
    let h : position_or_len (is_above a) ps ≤ length ps = prefix_len-le-length _ ps in
    let e : unwrap_or (position (is_above a) ps) (length ps) ≡ position_or_len (is_above a) ps = picked _ _ h in
    omega arith

pub put-rises : (p : ℕ × ℕ) (ps : List (ℕ × ℕ)) (a : ℕ) → a ≤ p.0 → RisesFrom a ps → Lacks p.0 ps → RisesFrom a (put_pair p ps)
put-rises p [] a h r l = (h, tt)
put-rises p (q ∷ qs) a h r l =
    let T : Bool → Type 0 = λ b. nat_lt p.0 q.0 ≡ b → RisesFrom a (cond b (p ∷ q ∷ qs) (q ∷ put_pair p qs)) in
    elim (nat_lt p.0 q.0) as T [
      | true ↦ λ e. (h, (let lt : p.0 < q.0 = ltb-true p.0 q.0 e in omega arith, r.1))
      | false ↦ λ e. let le : q.0 ≤ p.0 = ltb-false p.0 q.0 e in let ne : q.0 ≢ p.0 = l.0 in let next : q.0 + 1 ≤ p.0 = omega arith in (r.0, put-rises p qs (q.0 + 1) next r.1 l.1)
    ] refl

pub ruleset placing = (placed, place-le, put-rises)
