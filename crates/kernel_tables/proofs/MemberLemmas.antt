-- A list's links, member by member.
use Rattle.std.proofs.Common.{◌≡◌, ℕ, ◌+◌, ◌-◌, ◌<◌, ◌≤◌, zero, suc, false, eqb, List, [], ◌∷◌, ◌++◌, length, take, drop, get_or, refl, sym, ap, ◌∙◌, subst, arith, append_assoc, length-append, All}
use Rattle.std.proofs.lemmas.Bool.{eq-eqb}
use Rattle.std.proofs.lemmas.List.{drop_all, take_all, length-drop}
use Rattle.std.proofs.lemmas.List.Elements.{All-nil, All-append, All-cons}
use Rattle.kernel_model.specs.Links.{first, last, last_after, next_of, prev_of, prev_after, queue}
use Rattle.kernel_model.specs.Members.{Out}
use Rattle.kernel_model.proofs.LinkLemmas.{if_true, if_false, next_out, prev_out}
use Rattle.kernel_tables.proofs.LinkedQueues.{append_none}

last_from : (p : ℕ) (xs : List ℕ) → 1 ≤ length xs → get_or xs (length xs - 1) 0 + 1 ≡ last_after p xs
last_from p [] l = absurd (omega arith)
last_from p (x ∷ []) l = omega arith
last_from p (x ∷ y ∷ ys) l =
    let down : suc (suc (length ys)) - 1 ≡ suc (suc (length ys) - 1) = omega arith in
    ap (λ n. get_or (x ∷ y ∷ ys) n 0 + 1) down ∙ last_from (suc x) (y ∷ ys) (omega arith)

pub last_is : (xs : List ℕ) → 1 ≤ length xs → get_or xs (length xs - 1) 0 + 1 ≡ last xs
last_is xs l = last_from 0 xs l

out_all : (xs : List ℕ) (t : ℕ) → ((k : ℕ) → k < length xs → eqb (get_or xs k 0) t ≡ false) → Out t xs
out_all [] t h = tt
out_all (x ∷ xs) t h = (h 0 (omega arith), out_all xs t (λ k l. h (suc k) (omega arith)))

pub next_found : (xs : List ℕ) (i t : ℕ) → i < length xs → ((k : ℕ) → k < i → eqb (get_or xs k 0) t ≡ false) → get_or xs i 0 ≡ t → first (drop (i + 1) xs) ≡ next_of xs t
next_found [] i t l h e = absurd (omega arith)
next_found (x ∷ xs) zero t l h e = sym (if_true (eqb x t) (first xs) (next_of xs t) (eq-eqb x t e))
next_found (x ∷ xs) (suc i) t l h e =
    let up : suc i + 1 ≡ suc (i + 1) = omega arith in
    ap (λ n. first (drop n (x ∷ xs))) up ∙ next_found xs i t (omega arith) (λ k lk. h (suc k) (omega arith)) e ∙ sym (if_false (eqb x t) (first xs) (next_of xs t) (h 0 (omega arith)))

pub next_missing : (xs : List ℕ) (t : ℕ) → ((k : ℕ) → k < length xs → eqb (get_or xs k 0) t ≡ false) → 0 ≡ next_of xs t
next_missing xs t h = sym (next_out xs t (out_all xs t h))

prev_from : (p : ℕ) (xs : List ℕ) (i t : ℕ) → i < length xs → ((k : ℕ) → k < i → eqb (get_or xs k 0) t ≡ false) → get_or xs i 0 ≡ t → last_after p (take i xs) ≡ prev_after p xs t
prev_from p [] i t l h e = absurd (omega arith)
prev_from p (x ∷ xs) zero t l h e = sym (if_true (eqb x t) p (prev_after (suc x) xs t) (eq-eqb x t e))
prev_from p (x ∷ xs) (suc i) t l h e =
    prev_from (suc x) xs i t (omega arith) (λ k lk. h (suc k) (omega arith)) e ∙ sym (if_false (eqb x t) p (prev_after (suc x) xs t) (h 0 (omega arith)))

pub prev_found : (xs : List ℕ) (i t : ℕ) → i < length xs → ((k : ℕ) → k < i → eqb (get_or xs k 0) t ≡ false) → get_or xs i 0 ≡ t → last (take i xs) ≡ prev_of xs t
prev_found xs i t l h e = prev_from 0 xs i t l h e

pub prev_missing : (xs : List ℕ) (t : ℕ) → ((k : ℕ) → k < length xs → eqb (get_or xs k 0) t ≡ false) → 0 ≡ prev_of xs t
prev_missing xs t h = sym (prev_out 0 xs t (out_all xs t h))

-- ---- the members with a priority

-- what was gathered of the first i members, and what is left
pub record Gathers (f : ℕ → ℕ) (p : ℕ) (list : List ℕ) (i : ℕ) (own : List ℕ) : Type 0 where
  pub whole : own ++ queue f (drop i list) p ≡ queue f list p
  pub room : length own ≤ i
  pub below : All (λ t. t < 32) own

pub gathers_none : (f : ℕ → ℕ) (p : ℕ) (list own : List ℕ) → own ≡ [] → Gathers f p list 0 own
gathers_none f p list own e = record {
  whole = ap (λ xs. xs ++ queue f list p) e;
  room = (let none : length own ≡ 0 = ap (λ xs. length xs) e in omega arith);
  below = subst (λ xs. All (λ t. t < 32) xs) (sym e) (All-nil (λ t. t < 32));
}

drop_one : (list : List ℕ) (i : ℕ) → i < length list → drop i list ≡ get_or list i 0 ∷ drop (i + 1) list
drop_one [] i l = absurd (omega arith)
drop_one (x ∷ xs) zero l = refl
drop_one (x ∷ xs) (suc i) l = let up : suc i + 1 ≡ suc (i + 1) = omega arith in drop_one xs i (omega arith) ∙ ap (λ n. get_or xs i 0 ∷ drop n (x ∷ xs)) (sym up)

pub gathers_more : (f : ℕ → ℕ) (p : ℕ) (list : List ℕ) (i : ℕ) (own own' : List ℕ) → All (λ t. t < 32) list → i < length list → Gathers f p list i own → f (get_or list i 0) ≡ p → own' ≡ own ++ get_or list i 0 ∷ []
    → Gathers f p list (i + 1) own'
gathers_more f p list i own own' b l g e is =
    let x : ℕ = get_or list i 0 in let rest : List ℕ = queue f (drop (i + 1) list) p in
    let here : queue f (drop i list) p ≡ x ∷ rest = ap (λ xs. queue f xs p) (drop_one list i l) ∙ if_true (eqb (f x) p) (x ∷ rest) rest (eq-eqb (f x) p e) in
    record {
      whole = ap (λ xs. xs ++ rest) is ∙ append_assoc own (x ∷ []) rest ∙ ap (λ xs. own ++ xs) (sym here) ∙ g.whole;
      room = (let long : length own' ≡ length own + 1 = ap (λ xs. length xs) is ∙ length-append own (x ∷ []) in let r = g.room in omega arith);
      below = subst (λ xs. All (λ t. t < 32) xs) (sym is) (All-append (λ t. t < 32) own (x ∷ []) g.below (All-cons (λ t. t < 32) x [] (b i 0 l) (All-nil (λ t. t < 32))));
    }

pub gathers_past : (f : ℕ → ℕ) (p : ℕ) (list : List ℕ) (i : ℕ) (own : List ℕ) → i < length list → Gathers f p list i own → eqb (f (get_or list i 0)) p ≡ false → Gathers f p list (i + 1) own
gathers_past f p list i own l g e =
    let x : ℕ = get_or list i 0 in let rest : List ℕ = queue f (drop (i + 1) list) p in
    let here : queue f (drop i list) p ≡ rest = ap (λ xs. queue f xs p) (drop_one list i l) ∙ if_false (eqb (f x) p) (x ∷ rest) rest e in
    record {
      whole = ap (λ xs. own ++ xs) (sym here) ∙ g.whole;
      room = (let r = g.room in omega arith);
      below = g.below;
    }

pub gathers_all : (f : ℕ → ℕ) (p : ℕ) (list : List ℕ) (i : ℕ) (own : List ℕ) → length list ≤ i → Gathers f p list i own → own ≡ queue f list p
gathers_all f p list i own l g = sym (ap (λ xs. own ++ queue f xs p) (drop_all i list l) ∙ append_none own) ∙ g.whole

-- what a slice from a place on is
pub from_place : (n : ℕ) (xs : List ℕ) → take (length xs - n) (drop n xs) ≡ drop n xs
from_place n xs = take_all (length xs - n) (drop n xs) (let left : length (drop n xs) ≡ length xs - n = length-drop n xs in omega arith)
