-- What the loops leave: threads that go for their mutexes, mutexes that are handed over, and the end of a list.
use Rattle.std.proofs.Common.{◌≡◌, ℕ, ◌+◌, ◌-◌, ◌<◌, ◌≤◌, List, [], ◌∷◌, ◌++◌, length, get_or, take, drop, ap, sym, ◌∙◌, subst, arith, add-one, drop-cons, length-drop}
use Rattle.std.specs.List.{fold, range_with_len}
use Rattle.std.proofs.lemmas.List.{take_more, take_all, get_or-drop}
use Rattle.std.proofs.lemmas.List.Sums.{fold-append}
use Rattle.kernel_model.specs.Ending.{OwnsNone}
use Rattle.kernel_model.specs.Kernel.{Kernel}
use Rattle.kernel_model.specs.Words.{app_of, number_of, owner_of}
use Rattle.kernel_model.specs.Layout.{kernel_of}
use Rattle.kernel_model.specs.Queues.{Leaves}
use Rattle.kernel_model.specs.Sync.{gone_for, given_up, all_handed_over}
use Rattle.sync_laws.specs.Laws.{IsHandedOver}
use Rattle.sync_laws.specs.Waiters.{MayGo, AllMayGo}
use Rattle.kernel_threads.proofs.ChainLemmas.{leaves_as, leaves_then}
use Rattle.kernel_threads.proofs.FoldLemmas.{fold_range_more}

-- ---- threads that go for their mutexes

next_is : (xs : List ℕ) (i : ℕ) → i < length xs → drop i xs ≡ get_or xs i 0 ∷ drop (i + 1) xs
next_is xs i h = drop-cons xs i 0 h ∙ ap (λ n. get_or xs i 0 ∷ drop n xs) (sym (add-one i))

pub next_may : (k : Kernel) (a i : ℕ) (xs : List ℕ) → i < length xs → AllMayGo k a (drop i xs) → MayGo k a (get_or xs i 0)
next_may k a i xs h may =
    let both : AllMayGo k a (get_or xs i 0 ∷ drop (i + 1) xs) = subst (λ (ys : List ℕ). AllMayGo k a ys) (next_is xs i h) may in
    both.0

pub rest_may : (m m' : List ℕ) (a i : ℕ) (xs : List ℕ) → i < length xs → AllMayGo (kernel_of m) a (drop i xs) → Leaves m m' (gone_for (kernel_of m) a (get_or xs i 0))
    → AllMayGo (kernel_of m') a (drop (i + 1) xs)
rest_may m m' a i xs h may l =
    let both : AllMayGo (kernel_of m) a (get_or xs i 0 ∷ drop (i + 1) xs) = subst (λ (ys : List ℕ). AllMayGo (kernel_of m) a ys) (next_is xs i h) may in
    subst (λ (j : Kernel). AllMayGo j a (drop (i + 1) xs)) (sym l.kernel) both.1

pub more_gone : (m m1 m2 : List ℕ) (a i : ℕ) (xs : List ℕ) → i < length xs → Leaves m m1 (fold (λ k n. gone_for k a n) (kernel_of m) (take i xs))
    → Leaves m1 m2 (gone_for (kernel_of m1) a (get_or xs i 0)) → Leaves m m2 (fold (λ k n. gone_for k a n) (kernel_of m) (take (i + 1) xs))
more_gone m m1 m2 a i xs h x y =
    let k : Kernel = fold (λ k n. gone_for k a n) (kernel_of m) (take i xs) in
    leaves_as m m2 (gone_for k a (get_or xs i 0)) (fold (λ k n. gone_for k a n) (kernel_of m) (take (i + 1) xs))
    (sym (ap (λ ys. fold (λ k n. gone_for k a n) (kernel_of m) ys) (take_more xs i 0 h) ∙ fold-append (λ k n. gone_for k a n) (kernel_of m) (take i xs) (get_or xs i 0 ∷ [])))
    (leaves_then (λ j. gone_for j a (get_or xs i 0)) m m1 m2 k x y)

pub all_gone : (m m' : List ℕ) (a i : ℕ) (xs : List ℕ) → length xs ≤ i → Leaves m m' (fold (λ k n. gone_for k a n) (kernel_of m) (take i xs)) → Leaves m m' (fold (λ k n. gone_for k a n) (kernel_of m) xs)
all_gone m m' a i xs h l = subst (λ (ys : List ℕ). Leaves m m' (fold (λ k n. gone_for k a n) (kernel_of m) ys)) (take_all i xs h) l

-- ---- mutexes that are handed over

pub more_given : (m m1 m2 : List ℕ) (i : ℕ) → Leaves m m1 (fold given_up (kernel_of m) (range_with_len 0 i)) → Leaves m1 m2 (given_up (kernel_of m1) i)
    → Leaves m m2 (fold given_up (kernel_of m) (range_with_len 0 (i + 1)))
more_given m m1 m2 i x y =
    let k : Kernel = fold given_up (kernel_of m) (range_with_len 0 i) in
    leaves_as m m2 (given_up k i) (fold given_up (kernel_of m) (range_with_len 0 (i + 1))) (sym (fold_range_more given_up (kernel_of m) i)) (leaves_then (λ j. given_up j i) m m1 m2 k x y)

pub all_given : (m m' : List ℕ) (i : ℕ) → i ≡ 4 → Leaves m m' (fold given_up (kernel_of m) (range_with_len 0 i)) → Leaves m m' (all_handed_over (kernel_of m))
unfolding all_handed_over
all_given m m' i e l = subst (λ (n : ℕ). Leaves m m' (fold given_up (kernel_of m) (range_with_len 0 n))) e l

pub owns_none_now : (k j : Kernel) → IsHandedOver k j 4 → OwnsNone j
owns_none_now k j h i l q = h.given i l (ap (λ (t : ℕ). owner_of j (app_of t) i) (sym h.running) ∙ q ∙ ap (λ (t : ℕ). number_of t) h.running)

-- ---- the end of a list

pub more_behind : (xs : List ℕ) (count i : ℕ) → count ≤ i → i < length xs → take (i - count) (drop count xs) ++ get_or xs i 0 ∷ [] ≡ take (i + 1 - count) (drop count xs)
more_behind xs count i h l =
    let size : length (drop count xs) ≡ length xs - count = length-drop count xs in
    let there : get_or (drop count xs) (i - count) 0 ≡ get_or xs i 0 = get_or-drop count xs (i - count) 0 ∙ ap (λ n. get_or xs n 0) (let e : count + (i - count) ≡ i = omega arith in e) in
    ap (λ x. take (i - count) (drop count xs) ++ x ∷ []) (sym there) ∙ sym (take_more (drop count xs) (i - count) 0 (omega arith))
    ∙ ap (λ n. take n (drop count xs)) (let e : i - count + 1 ≡ i + 1 - count = omega arith in e)

pub all_behind : (xs : List ℕ) (count i : ℕ) → length xs ≤ i → take (i - count) (drop count xs) ≡ drop count xs
all_behind xs count i h = let size : length (drop count xs) ≡ length xs - count = length-drop count xs in take_all (i - count) (drop count xs) (omega arith)
