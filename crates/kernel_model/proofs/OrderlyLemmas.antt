-- Laid-out memory with an orderly kernel has its two lists in order.
use Rattle.std.proofs.Common.{◌≡◌, ◌≢◌, ℕ, ◌+◌, ◌-◌, ◌<◌, ◌≤◌, List, ◌++◌, length, get_or, refl, ap, sym, ◌∙◌, subst, ⊎_elim, length-append, arith, All, AllPairs, Contains}
use Rattle.std.proofs.lemmas.List.{get_or_append_left, get_or-append_right}
use Rattle.std.proofs.lemmas.List.Elements.{All-contains, Contains-get_or}
use Rattle.std.proofs.lemmas.Bool.{cases_lt, eqb-true}
use Rattle.std.proofs.lemmas.Bool.Decides.{Decides-eqb}
use Rattle.std.proofs.lemmas.Map.Made.{IsDistinct-from_AllPairs}
use Rattle.std.proofs.lemmas.Map.Views.{Contains-from_any}
use Rattle.std.proofs.lemmas.Map.Steps.{length-le_from_distinct_below}
use Rattle.kernel_model.specs.Kernel.{Kernel}
use Rattle.kernel_model.specs.Layout.{tables, nth, kernel_in, kernel_of, IsLaidOut}
use Rattle.kernel_model.specs.Queues.{HasQueues, HasQueueBytes, QueuesHold}
use Rattle.kernel_model.specs.Orderly.{IsOrderly}
use Rattle.kernel_model.specs.Orderly.Spot.{Ready, Asleep}

-- a list without repeats has no more members than there are numbers
pub distinct_below : (xs : List ℕ) (n : ℕ) → AllPairs (λ x y. x ≢ y) xs → All (λ x. x < n) xs → length xs ≤ n
distinct_below xs n h below =
    length-le_from_distinct_below xs n (IsDistinct-from_AllPairs Decides-eqb xs h)
    (λ q e. All-contains (λ x. x < n) xs q below (Contains-from_any eqb-true q xs e))

-- two lists without repeats that share nothing
pub pairs_apart : (xs ys : List ℕ) → AllPairs (λ x y. x ≢ y) xs → AllPairs (λ x y. x ≢ y) ys → ((t : ℕ) → Contains xs t → Contains ys t → ⊥) → AllPairs (λ x y. x ≢ y) (xs ++ ys)
pairs_apart xs ys h k apart i j d lt within e =
    let both : length (xs ++ ys) ≡ length xs + length ys = length-append xs ys in
    ⊎_elim
    (λ (in' : j < length xs).
    let left_i : get_or (xs ++ ys) i d ≡ get_or xs i d = get_or_append_left xs ys d i (omega arith) in
    let left_j : get_or (xs ++ ys) j d ≡ get_or xs j d = get_or_append_left xs ys d j in' in
    h i j d lt in' (sym left_i ∙ e ∙ left_j))
    (λ (past : length xs ≤ j).
    let right_j : get_or (xs ++ ys) j d ≡ get_or ys (j - length xs) d = get_or-append_right xs ys (length xs) j d refl past in
    ⊎_elim
    (λ (in' : i < length xs).
    let left_i : get_or (xs ++ ys) i d ≡ get_or xs i d = get_or_append_left xs ys d i in' in
    let same : get_or ys (j - length xs) d ≡ get_or xs i d = sym right_j ∙ sym e ∙ left_i in
    let there : Contains ys (get_or ys (j - length xs) d) = Contains-get_or ys (j - length xs) d (omega arith) in
    let P : ℕ → Type 0 = λ t. Contains ys t in
    apart (get_or xs i d) (Contains-get_or xs i d in') (subst P same there))
    (λ (past_i : length xs ≤ i).
    let right_i : get_or (xs ++ ys) i d ≡ get_or ys (i - length xs) d = get_or-append_right xs ys (length xs) i d refl past_i in
    k (i - length xs) (j - length xs) d (omega arith) (omega arith) (sym right_i ∙ e ∙ right_j))
    (cases_lt i (length xs)))
    (cases_lt j (length xs))

pub orderly_has_queues : (k : Kernel) → IsOrderly k → HasQueues k
orderly_has_queues k h =
    let spots = h.placed.nowhere_else in
    record {
      ready_below = λ i d in'. (spots Ready (get_or k.ready i d) (Contains-get_or k.ready i d in')).0;
      sleepers_below = λ i d in'. (spots Asleep (get_or k.sleepers i d) (Contains-get_or k.sleepers i d in')).0;
      once = pairs_apart k.ready k.sleepers (h.placed.once Ready) (h.placed.once Asleep)
          (λ t a b. let same : Ready ≡ Asleep = sym (spots Ready t a).1 ∙ (spots Asleep t b).1 in cc);
      priorities = λ i d in'. (h.rows (get_or k.ready i d) (spots Ready (get_or k.ready i d) (Contains-get_or k.ready i d in')).0).priority;
      by_priority = h.by_priority;
      by_wake_time = h.by_wake_time;
    }

pub laid_out_queue_bytes : (m : List ℕ) → IsLaidOut m → HasQueueBytes m
unfolding IsLaidOut HasQueueBytes kernel_of kernel_in tables
laid_out_queue_bytes m h = (ap (λ ps. nth ps 2) h, (ap (λ ps. nth ps 3) h, ap (λ ps. nth ps 7) h))

pub queues_from_orderly : (m : List ℕ) → IsLaidOut m → IsOrderly (kernel_of m) → QueuesHold m
queues_from_orderly m l h = record { bytes = laid_out_queue_bytes m l; lists = orderly_has_queues (kernel_of m) h }
