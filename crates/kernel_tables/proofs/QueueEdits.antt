-- The two lists in order, after a thread was put into one of them or taken out.
use Rattle.std.proofs.Common.{◌≡◌, ◌≢◌, ℕ, ◌+◌, ◌-◌, ◌<◌, ◌≤◌, Bool, false, not, eqb, leb, ltb, suc, List, ◌∷◌, ◌++◌, length, take, drop, get_or, refl, ap, sym, ◌∙◌, subst, ⊎_elim, arith, length-append, insert, remove, All, AllPairs, Contains}
use Rattle.std.specs.List.{position_or_len, prefix_len}
use Rattle.std.proofs.lemmas.List.Edits.{length-insert, get_or-insert_below, get_or-insert_at, get_or-insert_above, insert-append_left, insert-append_right, remove-append_left, remove-append_right}
use Rattle.std.proofs.lemmas.List.Elements.{All-append, All-take, All-drop, All-cons, Contains-get_or, Contains-append_cases}
use Rattle.std.proofs.lemmas.List.Quantifiers.{all_pairs_remove}
use Rattle.std.proofs.lemmas.List.Sums.{fails_before_first, passes_at_first, prefix_len_passes, prefix_len_stops, prefix_len-le-length}
use Rattle.std.proofs.lemmas.Bool.{cases_eq, cases_lt, leb-true, leb-false, ltb-true, ltb-false, eq-eqb, both_ways}
use Rattle.kernel_model.proofs.OrderlyLemmas.{distinct_below}
use Rattle.kernel_model.specs.Kernel.{Kernel, with_ready, with_sleepers}
use Rattle.kernel_model.specs.Words.{priority_of, wake_time}
use Rattle.kernel_model.specs.Queues.{AreQueues, HasQueues, priority_in, wake_time_in, at_front, at_end, among_sleepers, without}
use Rattle.kernel_model.specs.declared.rows.ThreadRow.{ThreadRow}

-- ---- lists

-- an insert between what stands before and what stands behind
all_pairs_insert : (R : ℕ → ℕ → Type 0) (xs : List ℕ) (i y : ℕ) → i ≤ length xs → AllPairs R xs
    → ((k d : ℕ) → k < i → R (get_or xs k d) y) → ((k d : ℕ) → i ≤ k → k < length xs → R y (get_or xs k d)) → AllPairs R (insert xs i y)
all_pairs_insert R xs i y h pairs before behind a b d lt l =
    let zs : List ℕ = insert xs i y in
    let size : length zs ≡ length xs + 1 = length-insert xs i y h in
    let moved : (u v u' v' : ℕ) → u' ≡ u → v' ≡ v → R u v → R u' v' = λ u v u' v' e f r. subst (λ (x : ℕ). R x v') (sym e) (subst (λ (x : ℕ). R u x) (sym f) r) in
    ⊎_elim
    (λ (b_below : b < i).
    moved (get_or xs a d) (get_or xs b d) (get_or zs a d) (get_or zs b d)
    (get_or-insert_below xs i y d a (omega arith) h) (get_or-insert_below xs i y d b b_below h) (pairs a b d lt (omega arith)))
    (λ (b_on : i ≤ b). ⊎_elim
    (λ (b_at : b ≡ i).
    let here : get_or zs b d ≡ y = ap (λ n. get_or zs n d) b_at ∙ get_or-insert_at xs i y d h in
    moved (get_or xs a d) y (get_or zs a d) (get_or zs b d)
    (get_or-insert_below xs i y d a (omega arith) h) here (before a d (omega arith)))
    (λ (b_not : b ≢ i).
    let c : ℕ = b - 1 in
    let next : b ≡ c + 1 = omega arith in
    let there : get_or zs b d ≡ get_or xs c d = ap (λ n. get_or zs n d) next ∙ get_or-insert_above xs i y d c (omega arith) h in
    ⊎_elim
    (λ (a_below : a < i).
    moved (get_or xs a d) (get_or xs c d) (get_or zs a d) (get_or zs b d)
    (get_or-insert_below xs i y d a a_below h) there (pairs a c d (omega arith) (omega arith)))
    (λ (a_on : i ≤ a). ⊎_elim
    (λ (a_at : a ≡ i).
    let here : get_or zs a d ≡ y = ap (λ n. get_or zs n d) a_at ∙ get_or-insert_at xs i y d h in
    moved y (get_or xs c d) (get_or zs a d) (get_or zs b d) here there (behind c d (omega arith) (omega arith)))
    (λ (a_not : a ≢ i).
    let e : ℕ = a - 1 in
    let next_a : a ≡ e + 1 = omega arith in
    let there_a : get_or zs a d ≡ get_or xs e d = ap (λ n. get_or zs n d) next_a ∙ get_or-insert_above xs i y d e (omega arith) h in
    moved (get_or xs e d) (get_or xs c d) (get_or zs a d) (get_or zs b d) there_a there (pairs e c d (omega arith) (omega arith)))
    (cases_eq a i))
    (cases_lt a i))
    (cases_eq b i))
    (cases_lt b i)

all_insert : (P : ℕ → Type 0) (xs : List ℕ) (i y : ℕ) → P y → All P xs → All P (insert xs i y)
all_insert P xs i y p h = All-append P (take i xs) (y ∷ drop i xs) (All-take P i xs h) (All-cons P y (drop i xs) p (All-drop P i xs h))

all_remove : (P : ℕ → Type 0) (xs : List ℕ) (i : ℕ) → All P xs → All P (remove xs i)
all_remove P xs i h = All-append P (take i xs) (drop (suc i) xs) (All-take P i xs h) (All-drop P (suc i) xs h)

-- what isn't in a list is none of its members
not_member : (xs : List ℕ) (t : ℕ) → (Contains xs t → ⊥) → (k d : ℕ) → k < length xs → get_or xs k d ≢ t
not_member xs t none k d h e = none (subst (λ (x : ℕ). Contains xs x) e (Contains-get_or xs k d h))

-- ---- room

-- a list of distinct identities that lacks one has room
pub room_for : (xs : List ℕ) (t : ℕ) → AllPairs (λ x y. x ≢ y) xs → All (λ x. x < 32) xs → t < 32 → (Contains xs t → ⊥) → length xs < 32
room_for xs t h below l none =
    let more : AllPairs (λ x y. x ≢ y) (t ∷ xs) =
    all_pairs_insert (λ x y. x ≢ y) xs 0 t (omega arith) h (λ k d less. absurd (omega arith)) (λ k d on in' e. not_member xs t none k d in' (sym e)) in
    let all : length (t ∷ xs) ≤ 32 = distinct_below (t ∷ xs) 32 more (All-cons (λ x. x < 32) t xs l below) in
    omega arith

-- ---- put into the lists

not_in_both : (xs ys : List ℕ) (t : ℕ) → (Contains xs t → ⊥) → (Contains ys t → ⊥) → Contains (xs ++ ys) t → ⊥
not_in_both xs ys t a b c = ⊎_elim a b (Contains-append_cases xs ys t c)

once_insert : (xs : List ℕ) (i t : ℕ) → i ≤ length xs → AllPairs (λ x y. x ≢ y) xs → (Contains xs t → ⊥) → AllPairs (λ x y. x ≢ y) (insert xs i t)
once_insert xs i t h once none =
    all_pairs_insert (λ x y. x ≢ y) xs i t h once (λ k d l. not_member xs t none k d (omega arith)) (λ k d on l e. not_member xs t none k d l (sym e))

ready_insert : (threads : List ThreadRow) (ready sleepers : List ℕ) (t i : ℕ) → AreQueues threads ready sleepers → t < 32 → (Contains ready t → ⊥) → (Contains sleepers t → ⊥)
    → priority_in threads t ≤ 7 → i ≤ length ready
    → ((k d : ℕ) → k < i → priority_in threads t ≤ priority_in threads (get_or ready k d))
    → ((k d : ℕ) → i ≤ k → k < length ready → priority_in threads (get_or ready k d) ≤ priority_in threads t)
    → AreQueues threads (insert ready i t) sleepers
ready_insert threads ready sleepers t i q l none none' p h before behind =
    let both : length (ready ++ sleepers) ≡ length ready + length sleepers = length-append ready sleepers in
    record {
      ready_below = all_insert (λ x. x < 32) ready i t l q.ready_below;
      sleepers_below = q.sleepers_below;
      once = subst (λ (zs : List ℕ). AllPairs (λ x y. x ≢ y) zs) (insert-append_left ready sleepers i t h)
          (once_insert (ready ++ sleepers) i t (omega arith) q.once (not_in_both ready sleepers t none none'));
      priorities = all_insert (λ x. priority_in threads x ≤ 7) ready i t p q.priorities;
      by_priority = all_pairs_insert (λ x y. priority_in threads y ≤ priority_in threads x) ready i t h q.by_priority before behind;
      by_wake_time = q.by_wake_time;
    }

sleepers_insert : (threads : List ThreadRow) (ready sleepers : List ℕ) (t i : ℕ) → AreQueues threads ready sleepers → t < 32 → (Contains ready t → ⊥) → (Contains sleepers t → ⊥)
    → i ≤ length sleepers
    → ((k d : ℕ) → k < i → wake_time_in threads (get_or sleepers k d) ≤ wake_time_in threads t)
    → ((k d : ℕ) → i ≤ k → k < length sleepers → wake_time_in threads t ≤ wake_time_in threads (get_or sleepers k d))
    → AreQueues threads ready (insert sleepers i t)
sleepers_insert threads ready sleepers t i q l none none' h before behind =
    let both : length (ready ++ sleepers) ≡ length ready + length sleepers = length-append ready sleepers in
    let place : length ready + i - length ready ≡ i = omega arith in
    record {
      ready_below = q.ready_below;
      sleepers_below = all_insert (λ x. x < 32) sleepers i t l q.sleepers_below;
      once = subst (λ (zs : List ℕ). AllPairs (λ x y. x ≢ y) zs)
          (insert-append_right ready sleepers (length ready) (length ready + i) t refl (omega arith) ∙ ap (λ n. ready ++ insert sleepers n t) place)
          (once_insert (ready ++ sleepers) (length ready + i) t (omega arith) q.once (not_in_both ready sleepers t none none'));
      priorities = q.priorities;
      by_priority = q.by_priority;
      by_wake_time = all_pairs_insert (λ x y. wake_time_in threads x ≤ wake_time_in threads y) sleepers i t h q.by_wake_time before behind;
    }

-- ---- taken out of the lists

pub ready_remove : (threads : List ThreadRow) (ready sleepers : List ℕ) (i : ℕ) → AreQueues threads ready sleepers → i < length ready → AreQueues threads (remove ready i) sleepers
ready_remove threads ready sleepers i q h =
    let both : length (ready ++ sleepers) ≡ length ready + length sleepers = length-append ready sleepers in
    record {
      ready_below = all_remove (λ x. x < 32) ready i q.ready_below;
      sleepers_below = q.sleepers_below;
      once = subst (λ (zs : List ℕ). AllPairs (λ x y. x ≢ y) zs) (remove-append_left ready sleepers i h)
          (all_pairs_remove (λ x y. x ≢ y) (ready ++ sleepers) i (omega arith) q.once);
      priorities = all_remove (λ x. priority_in threads x ≤ 7) ready i q.priorities;
      by_priority = all_pairs_remove (λ x y. priority_in threads y ≤ priority_in threads x) ready i h q.by_priority;
      by_wake_time = q.by_wake_time;
    }

pub sleepers_remove : (threads : List ThreadRow) (ready sleepers : List ℕ) (i : ℕ) → AreQueues threads ready sleepers → i < length sleepers → AreQueues threads ready (remove sleepers i)
sleepers_remove threads ready sleepers i q h =
    let both : length (ready ++ sleepers) ≡ length ready + length sleepers = length-append ready sleepers in
    let place : length ready + i - length ready ≡ i = omega arith in
    record {
      ready_below = q.ready_below;
      sleepers_below = all_remove (λ x. x < 32) sleepers i q.sleepers_below;
      once = subst (λ (zs : List ℕ). AllPairs (λ x y. x ≢ y) zs)
          (remove-append_right ready sleepers (length ready) (length ready + i) refl (omega arith) ∙ ap (λ n. ready ++ remove sleepers n) place)
          (all_pairs_remove (λ x y. x ≢ y) (ready ++ sleepers) (length ready + i) (omega arith) q.once);
      priorities = q.priorities;
      by_priority = q.by_priority;
      by_wake_time = all_pairs_remove (λ x y. wake_time_in threads x ≤ wake_time_in threads y) sleepers i h q.by_wake_time;
    }

-- where a member stands
pub member_stands : (xs : List ℕ) (t : ℕ) → Contains xs t → position_or_len (λ x. eqb x t) xs < length xs
member_stands xs t c =
    let n : ℕ = position_or_len (λ x. eqb x t) xs in
    ⊎_elim
    (λ (in' : n < length xs). in')
    (λ (past : length xs ≤ n).
    let fails : eqb (get_or xs c.0 t) t ≡ false = fails_before_first (λ x. eqb x t) xs c.0 t (omega (arith, c.1)) in
    absurd (both_ways (eqb (get_or xs c.0 t) t) fails (eq-eqb (get_or xs c.0 t) t c.2)))
    (cases_lt n (length xs))

-- ---- the calls on the kernel

-- what a thread that goes into a list is
pub record GoesIn (k : Kernel) (t : ℕ) : Type 0 where
  pub number : t < 32
  pub not_ready : Contains k.ready t → ⊥
  pub not_asleep : Contains k.sleepers t → ⊥

pub front_queues : (k : Kernel) (t : ℕ) → HasQueues k → GoesIn k t → priority_of k t ≤ 7 → HasQueues (with_ready k (at_front k t))
front_queues k t q g p =
    let test : ℕ → Bool = λ x. leb (priority_of k x) (priority_of k t) in
    let i : ℕ = position_or_len test k.ready in
    let within : i ≤ length k.ready = prefix_len-le-length (λ x. not (test x)) k.ready in
    ready_insert k.threads k.ready k.sleepers t i q g.number g.not_ready g.not_asleep p within
    (λ n d l. let above = leb-false (priority_of k (get_or k.ready n d)) (priority_of k t) (fails_before_first test k.ready n d l) in omega arith)
    (λ n d on l.
    let first = leb-true (priority_of k (get_or k.ready i d)) (priority_of k t) (passes_at_first test k.ready d (omega arith)) in
    ⊎_elim
    (λ (same : n ≡ i). subst (λ (j : ℕ). priority_of k (get_or k.ready j d) ≤ priority_of k t) (sym same) first)
    (λ (other : n ≢ i). let order : priority_of k (get_or k.ready n d) ≤ priority_of k (get_or k.ready i d) = q.by_priority i n d (omega arith) l in omega arith)
    (cases_eq n i))

pub end_queues : (k : Kernel) (t : ℕ) → HasQueues k → GoesIn k t → priority_of k t ≤ 7 → HasQueues (with_ready k (at_end k t))
end_queues k t q g p =
    let test : ℕ → Bool = λ x. ltb (priority_of k x) (priority_of k t) in
    let i : ℕ = position_or_len test k.ready in
    let within : i ≤ length k.ready = prefix_len-le-length (λ x. not (test x)) k.ready in
    ready_insert k.threads k.ready k.sleepers t i q g.number g.not_ready g.not_asleep p within
    (λ n d l. ltb-false (priority_of k (get_or k.ready n d)) (priority_of k t) (fails_before_first test k.ready n d l))
    (λ n d on l.
    let first = ltb-true (priority_of k (get_or k.ready i d)) (priority_of k t) (passes_at_first test k.ready d (omega arith)) in
    ⊎_elim
    (λ (same : n ≡ i). subst (λ (j : ℕ). priority_of k (get_or k.ready j d) ≤ priority_of k t) (sym same) (omega arith))
    (λ (other : n ≢ i). let order : priority_of k (get_or k.ready n d) ≤ priority_of k (get_or k.ready i d) = q.by_priority i n d (omega arith) l in omega arith)
    (cases_eq n i))

pub sleep_queues : (k : Kernel) (t : ℕ) → HasQueues k → GoesIn k t → HasQueues (with_sleepers k (among_sleepers k t))
sleep_queues k t q g =
    let test : ℕ → Bool = λ x. leb (wake_time k x) (wake_time k t) in
    let i : ℕ = prefix_len test k.sleepers in
    let within : i ≤ length k.sleepers = prefix_len-le-length test k.sleepers in
    sleepers_insert k.threads k.ready k.sleepers t i q g.number g.not_ready g.not_asleep within
    (λ n d l. leb-true (wake_time k (get_or k.sleepers n d)) (wake_time k t) (prefix_len_passes test k.sleepers n d l))
    (λ n d on l.
    let first = leb-false (wake_time k (get_or k.sleepers i d)) (wake_time k t) (prefix_len_stops test k.sleepers d (omega arith)) in
    ⊎_elim
    (λ (same : n ≡ i). subst (λ (j : ℕ). wake_time k t ≤ wake_time k (get_or k.sleepers j d)) (sym same) (omega arith))
    (λ (other : n ≢ i). let order : wake_time k (get_or k.sleepers i d) ≤ wake_time k (get_or k.sleepers n d) = q.by_wake_time i n d (omega arith) l in omega arith)
    (cases_eq n i))

pub take_queues : (k : Kernel) (t : ℕ) → HasQueues k → Contains k.ready t → HasQueues (with_ready k (without k.ready t))
take_queues k t q c = ready_remove k.threads k.ready k.sleepers (position_or_len (λ x. eqb x t) k.ready) q (member_stands k.ready t c)

pub wake_queues : (k : Kernel) (t : ℕ) → HasQueues k → Contains k.sleepers t → HasQueues (with_sleepers k (without k.sleepers t))
wake_queues k t q c = sleepers_remove k.threads k.ready k.sleepers (position_or_len (λ x. eqb x t) k.sleepers) q (member_stands k.sleepers t c)
