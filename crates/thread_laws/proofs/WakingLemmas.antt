-- Threads that go to the end of the ready list one after another, and who they are.
use Rattle.std.proofs.Common.{◌≡◌, ◌≢◌, ◌⊎◌, ℕ, zero, suc, ◌+◌, ◌-◌, ◌<◌, ◌≤◌, Bool, true, false, not, cond, eqb, ltb, List, [], ◌∷◌, ◌++◌, length, get_or, take, drop, min, refl, ap, sym, ◌∙◌, subst, ⊎_elim, arith, length-drop, length-set, inl, inr, append_assoc, All, AllPairs, Contains}
use Rattle.std.specs.List.{filter, position_or_len, prefix_len}
use Rattle.std.proofs.lemmas.Bool.{cases_eq, cases_lt, ne_eqb, eqb-true}
use Rattle.std.proofs.lemmas.List.{append-nil, take-append-drop, get_or-take, get_or-drop, get_or-set_same, get_or-set_other, set_past, length-take}
use Rattle.std.proofs.lemmas.List.Elements.{filter-append, All-contains, All-head, All-tail}
use Rattle.std.proofs.lemmas.List.Sums.{prefix_len-le-length, prefix_len_passes}
use Rattle.kernel_model.specs.Kernel.{Kernel, thread_at, with_thread, free_thread}
use Rattle.kernel_model.specs.Words.{priority_of, ready_row}
use Rattle.kernel_model.specs.Queues.{at_end, to_ready_end}
use Rattle.kernel_model.specs.declared.rows.ThreadRow.{ThreadRow}
use Rattle.kernel_model.specs.Waking.{each_to_end}
use Rattle.thread_laws.specs.Wakings.{of_priority, Wakes, NextLaw}
use Rattle.thread_laws.proofs.Filtered.{filter_whole, filter_nothing}
use Rattle.thread_laws.proofs.ListEdits.{insert_from, all_pairs_insert, none_in}
use Rattle.thread_laws.proofs.MovingReady.{before_end, behind_end}

-- ---- who passes a test

-- where the first pass and the rest don't, those that pass are the first
pub first_pass : (p : ℕ → Bool) (xs : List ℕ) (n : ℕ) → All (λ x. p x ≡ true) (take n xs) → All (λ x. p x ≡ false) (drop n xs) → filter p xs ≡ take n xs
first_pass p xs n a b =
    ap (λ ys. filter p ys) (sym (take-append-drop n xs)) ∙ filter-append p (take n xs) (drop n xs)
    ∙ ap (λ ys. ys ++ filter p (drop n xs)) (filter_whole p (take n xs) (λ t c. All-contains (λ x. p x ≡ true) (take n xs) t a c))
    ∙ ap (λ ys. take n xs ++ ys) (filter_nothing p (drop n xs) (λ t c. All-contains (λ x. p x ≡ false) (drop n xs) t b c))
    ∙ append-nil (take n xs)

-- and those that don't are the rest
pub rest_fails : (p : ℕ → Bool) (xs : List ℕ) (n : ℕ) → All (λ x. p x ≡ true) (take n xs) → All (λ x. p x ≡ false) (drop n xs)
    → filter (λ x. not (p x)) xs ≡ drop n xs
rest_fails p xs n a b =
    let q : ℕ → Bool = λ x. not (p x) in
    ap (λ ys. filter q ys) (sym (take-append-drop n xs)) ∙ filter-append q (take n xs) (drop n xs)
    ∙ ap (λ ys. ys ++ filter q (drop n xs)) (filter_nothing q (take n xs) (λ t c. ap not (All-contains (λ x. p x ≡ true) (take n xs) t a c)))
    ∙ filter_whole q (drop n xs) (λ t c. ap not (All-contains (λ x. p x ≡ false) (drop n xs) t b c))

-- the first that pass do
pub prefix_passes : (p : ℕ → Bool) (xs : List ℕ) → All (λ x. p x ≡ true) (take (prefix_len p xs) xs)
prefix_passes p xs i d l =
    let n : ℕ = prefix_len p xs in
    let size : length (take n xs) ≡ min n (length xs) = length-take n xs in
    subst (λ x. p x ≡ true) (sym (get_or-take n xs i d (omega arith))) (prefix_len_passes p xs i d (omega arith))

-- ---- one thread goes to the end

-- the threads of each priority stand as they stood, and the new one behind them
end_in_order : (k : Kernel) (t p : ℕ) → AllPairs (λ x y. priority_of k y ≤ priority_of k x) k.ready
    → of_priority k p (at_end k t) ≡ of_priority k p (k.ready ++ t ∷ [])
end_in_order k t p h =
    let q : ℕ → Bool = λ x. eqb (priority_of k x) p in
    let i : ℕ = position_or_len (λ x. ltb (priority_of k x) (priority_of k t)) k.ready in
    let front : List ℕ = filter q (take i k.ready) in
    let back : List ℕ = filter q (drop i k.ready) in
    let none : q t ≡ true → back ≡ [] =
    λ own. filter_nothing q (drop i k.ready)
    (λ u c.
    let low : All (λ x. priority_of k x < priority_of k t) (drop i k.ready) =
    λ j d l.
    let size : length (drop i k.ready) ≡ length k.ready - i = length-drop i k.ready in
    subst (λ x. priority_of k x < priority_of k t) (sym (get_or-drop i k.ready j d)) (behind_end k t h (i + j) d (omega arith) (omega arith)) in
    let below : priority_of k u < priority_of k t = All-contains (λ x. priority_of k x < priority_of k t) (drop i k.ready) u low c in
    let same : priority_of k t ≡ p = eqb-true (priority_of k t) p own in
    ne_eqb (priority_of k u) p (λ e. omega arith)) in
    let seam : (b : Bool) → q t ≡ b → front ++ cond b (t ∷ back) back ≡ (front ++ back) ++ cond b (t ∷ []) [] =
    λ b. elim b as (λ (v : Bool). q t ≡ v → front ++ cond v (t ∷ back) back ≡ (front ++ back) ++ cond v (t ∷ []) []) [
      | true ↦ λ own.
          ap (λ ys. front ++ (t ∷ ys)) (none own) ∙ ap (λ ys. ys ++ t ∷ []) (sym (ap (λ ys. front ++ ys) (none own) ∙ append-nil front))
      | false ↦ λ own. sym (append-nil (front ++ back))
    ] in
    filter-append q (take i k.ready) (t ∷ drop i k.ready)
    ∙ seam (q t) refl
    ∙ ap (λ ys. ys ++ cond (q t) (t ∷ []) []) (sym (filter-append q (take i k.ready) (drop i k.ready)) ∙ ap (λ ys. filter q ys) (take-append-drop i k.ready))
    ∙ sym (filter-append q k.ready (t ∷ []))

end_by_priority : (k : Kernel) (t : ℕ) → AllPairs (λ x y. priority_of k y ≤ priority_of k x) k.ready
    → AllPairs (λ x y. priority_of k y ≤ priority_of k x) (at_end k t)
end_by_priority k t h =
    let test : ℕ → Bool = λ x. ltb (priority_of k x) (priority_of k t) in
    all_pairs_insert (λ x y. priority_of k y ≤ priority_of k x) k.ready (position_or_len test k.ready) t (prefix_len-le-length (λ x. not (test x)) k.ready) h
    (before_end k t)
    (λ n d on l. let low = behind_end k t h n d on l in omega arith)

-- a row that wakes keeps its priority
priority_same : (k : Kernel) (t u : ℕ) → priority_of (with_thread k t (ready_row (thread_at k t))) u ≡ priority_of k u
priority_same k t u =
    let row : ThreadRow = ready_row (thread_at k t) in
    ⊎_elim
    (λ (e : u ≡ t). ⊎_elim
    (λ (within : t < length k.threads).
    ap (λ i. priority_of (with_thread k t row) i) e ∙ ap (λ (r : ThreadRow). r.priority) (get_or-set_same k.threads t row free_thread within) ∙ ap (λ i. priority_of k i) (sym e))
    (λ (past : length k.threads ≤ t). ap (λ (ts : List ThreadRow). (get_or ts u free_thread).priority) (set_past k.threads t row past))
    (cases_lt t (length k.threads)))
    (λ (ne : u ≢ t). ap (λ (r : ThreadRow). r.priority) (get_or-set_other k.threads t u row free_thread ne))
    (cases_eq u t)

-- ---- threads go to the end one after another

-- distinct threads that have rows, and a ready list in order
pub record MayJoin (k : Kernel) (ts : List ℕ) : Type 0 where
  pub within : All (λ t. t < length k.threads) ts
  pub once : AllPairs (λ x y. x ≢ y) ts
  pub by_priority : AllPairs (λ x y. priority_of k y ≤ priority_of k x) k.ready

-- the kernel in which thread t's row is ready
abbrev awake : Kernel → (t : ℕ) → Kernel
awake k t = with_thread k t (ready_row (thread_at k t))

still_by_priority : (k : Kernel) (t : ℕ) (xs : List ℕ) → AllPairs (λ x y. priority_of k y ≤ priority_of k x) xs
    → AllPairs (λ x y. priority_of (awake k t) y ≤ priority_of (awake k t) x) xs
still_by_priority k t xs h i j d lt lj =
    let first : priority_of (awake k t) (get_or xs i d) ≡ priority_of k (get_or xs i d) = priority_same k t (get_or xs i d) in
    let second : priority_of (awake k t) (get_or xs j d) ≡ priority_of k (get_or xs j d) = priority_same k t (get_or xs j d) in
    let old : priority_of k (get_or xs j d) ≤ priority_of k (get_or xs i d) = h i j d lt lj in
    omega arith

-- the first has joined
joined : (k : Kernel) (t : ℕ) (ts : List ℕ) → MayJoin k (t ∷ ts) → MayJoin (to_ready_end k t) ts
joined k t ts h =
    let here : t < length k.threads = All-head (λ u. u < length k.threads) t ts h.within in
    let size : length (awake k t).threads ≡ length k.threads = length-set k.threads t (ready_row (thread_at k t)) in
    record {
      within = λ i d l. let old : get_or ts i d < length k.threads = All-tail (λ u. u < length k.threads) t ts h.within i d l in omega arith;
      once = λ i j d lt l. h.once (suc i) (suc j) d (omega arith) (omega arith);
      by_priority = end_by_priority (awake k t) t (still_by_priority k t k.ready h.by_priority);
    }

head_or_tail_at : (t u : ℕ) (ts : List ℕ) (i : ℕ) → i < length (t ∷ ts) → get_or (t ∷ ts) i u ≡ u → (u ≡ t) ⊎ Contains ts u
head_or_tail_at t u ts zero l e = inl (sym e)
head_or_tail_at t u ts (suc i) l e = inr (i, omega arith, e)

head_or_tail : (t u : ℕ) (ts : List ℕ) → Contains (t ∷ ts) u → (u ≡ t) ⊎ Contains ts u
head_or_tail t u ts c = head_or_tail_at t u ts c.0 c.1 c.2

-- who stands behind the first
behind : (t u : ℕ) (ts : List ℕ) → Contains ts u → Contains (t ∷ ts) u
behind t u ts c = (suc c.0, let l : c.0 < length ts = c.1 in omega arith, c.2)

-- the first stands nowhere behind
not_behind : (t : ℕ) (ts : List ℕ) → AllPairs (λ x y. x ≢ y) (t ∷ ts) → Contains ts t → ⊥
not_behind t ts once c = once 0 (suc c.0) t (omega arith) (let l : c.0 < length ts = c.1 in omega arith) (sym c.2)

filter_agrees : (p q : ℕ → Bool) (xs : List ℕ) → ((u : ℕ) → p u ≡ q u) → filter p xs ≡ filter q xs
filter_agrees p q [] h = refl
filter_agrees p q (x ∷ xs) h = ap (λ b. cond b (x ∷ filter p xs) (filter p xs)) (h x) ∙ ap (λ ys. cond (q x) (x ∷ ys) ys) (filter_agrees p q xs h)

-- which of a list have a priority
same_priority : (k : Kernel) (t p : ℕ) (xs : List ℕ) → of_priority (awake k t) p xs ≡ of_priority k p xs
same_priority k t p xs =
    filter_agrees (λ u. eqb (priority_of (awake k t) u) p) (λ u. eqb (priority_of k u) p) xs (λ u. ap (λ n. eqb n p) (priority_same k t u))

joins_in_order : (k : Kernel) (t p : ℕ) (ts : List ℕ) → MayJoin k (t ∷ ts)
    → of_priority k p ((to_ready_end k t).ready ++ ts) ≡ of_priority k p (k.ready ++ (t ∷ ts))
joins_in_order k t p ts h =
    let q : ℕ → Bool = λ u. eqb (priority_of k u) p in
    let one : filter q (at_end (awake k t) t) ≡ filter q (k.ready ++ t ∷ []) =
    sym (same_priority k t p (at_end (awake k t) t)) ∙ end_in_order (awake k t) t p (still_by_priority k t k.ready h.by_priority) ∙ same_priority k t p (k.ready ++ t ∷ []) in
    filter-append q (at_end (awake k t) t) ts
    ∙ ap (λ ys. ys ++ filter q ts) one
    ∙ sym (filter-append q (k.ready ++ t ∷ []) ts)
    ∙ ap (λ ys. filter q ys) (append_assoc k.ready (t ∷ []) ts)

pub each_wakes : (ts : List ℕ) (k : Kernel) → MayJoin k ts → Wakes k (each_to_end k ts) ts
each_wakes [] k h = record {
  rows = λ t c. absurd (none_in t c);
  other_rows = λ t out. refl;
  in_order = λ p. ap (λ ys. of_priority k p ys) (sym (append-nil k.ready));
  by_priority = h.by_priority;
}
each_wakes (t ∷ ts) k h =
    let j : Kernel = to_ready_end k t in
    let after : Kernel = each_to_end j ts in
    let row : ThreadRow = ready_row (thread_at k t) in
    let here : t < length k.threads = All-head (λ u. u < length k.threads) t ts h.within in
    let out : Contains ts t → ⊥ = not_behind t ts h.once in
    let rest : Wakes j after ts = each_wakes ts j (joined k t ts h) in
    let first : thread_at after t ≡ row = rest.other_rows t out ∙ get_or-set_same k.threads t row free_thread here in
    record {
      rows = λ u c. ⊎_elim
          (λ (e : u ≡ t). subst (λ v. thread_at after v ≡ ready_row (thread_at k v)) (sym e) first)
          (λ (c' : Contains ts u).
          rest.rows u c' ∙ ap (λ (r : ThreadRow). ready_row r) (get_or-set_other k.threads t u row free_thread (λ e. out (subst (λ v. Contains ts v) e c'))))
          (head_or_tail t u ts c);
      other_rows = λ u away.
          rest.other_rows u (λ c. away (behind t u ts c))
          ∙ get_or-set_other k.threads t u row free_thread (λ e. away (0, omega arith, sym e));
      in_order = λ p.
          sym (same_priority k t p after.ready) ∙ rest.in_order p ∙ same_priority k t p (j.ready ++ ts) ∙ joins_in_order k t p ts h;
      by_priority = λ a b d lt l.
          let first : priority_of j (get_or after.ready a d) ≡ priority_of k (get_or after.ready a d) = priority_same k t (get_or after.ready a d) in
          let second : priority_of j (get_or after.ready b d) ≡ priority_of k (get_or after.ready b d) = priority_same k t (get_or after.ready b d) in
          let old : priority_of j (get_or after.ready b d) ≤ priority_of j (get_or after.ready a d) = rest.by_priority a b d lt l in
          omega arith;
    }

-- nothing but rows and the ready list changes
pub each_others : (ts : List ℕ) (k : Kernel) → each_to_end k ts ≡ record k { threads = (each_to_end k ts).threads; ready = (each_to_end k ts).ready }
each_others [] k = refl
each_others (t ∷ ts) k = each_others ts (to_ready_end k t)

-- ---- who may wake next

pub next_unlisted : NextLaw
next_unlisted k t ts h =
    let test : ℕ → Bool = λ x. ltb (priority_of (awake k t) x) (priority_of (awake k t) t) in
    record {
      numbers = All-tail (λ u. u < 32) t ts h.numbers;
      once = λ i j d lt l. h.once (suc i) (suc j) d (omega arith) (omega arith);
      not_ready = λ u c r. ⊎_elim
          (λ (e : u ≡ t). not_behind t ts h.once (subst (λ v. Contains ts v) e c))
          (λ (r' : Contains k.ready u). h.not_ready u (behind t u ts c) r')
          (insert_from k.ready (position_or_len test k.ready) t u (prefix_len-le-length (λ x. not (test x)) k.ready) r);
      not_asleep = λ u c r. h.not_asleep u (behind t u ts c) r;
      priorities = λ i d l.
          let same : priority_of (awake k t) (get_or ts i d) ≡ priority_of k (get_or ts i d) = priority_same k t (get_or ts i d) in
          let old : priority_of k (get_or ts i d) ≤ 7 = All-tail (λ u. priority_of k u ≤ 7) t ts h.priorities i d l in
          omega arith;
    }
