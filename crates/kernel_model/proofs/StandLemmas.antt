-- A memory whose lists hold has their queues.
use Rattle.std.proofs.Common.{◌≡◌, ℕ, ◌+◌, ◌*◌, ◌<◌, ◌≤◌, zero, suc, true, false, cond, eqb, List, [], ◌∷◌, ◌++◌, length, ◌⊎◌, ⊎_elim, inl, inr, get_or, drop, refl, sym, ap, ◌∙◌, subst, arith, All, get_or-take, get_or-drop, ext_get_or, ltb, ltb-true, replicate, ◌/◌, ◌%◌, ◌-◌}
use Rattle.std.proofs.lemmas.Bool.{eqb-true, eq-eqb}
use Rattle.std.specs.List.{flat_map}
use Rattle.std.proofs.lemmas.List.{get_or-append-add}
use Rattle.std.proofs.lemmas.List.Elements.{All-head, All-tail}
use Rattle.kernel_model.specs.Bytes.{part}
use Rattle.kernel_model.specs.Kernel.{Kernel, free_thread}
use Rattle.kernel_model.specs.Links.{first, last, next_of, prev_of, queue}
use Rattle.kernel_model.specs.Members.{In, Out, Once, Below}
use Rattle.kernel_model.specs.Layout.{tables, nth, kernel_of, Fits, queue_of, priority_in, written, links_of, thread_bytes, queue_ends}
use Rattle.kernel_model.specs.Queues.{QueuesHold, HasQueueBytes}
use Rattle.kernel_model.specs.Standing.{next_place, prev_place, next_in, prev_in, HasQueue}
use Rattle.kernel_model.proofs.FitLemmas.{Small, memory_fits_lem}
use Rattle.kernel_model.proofs.LinkLemmas.{by_bool, if_true, if_false, not_eq, next_out, prev_out}
use Rattle.kernel_model.proofs.ReadLemmas.{below_of, once_of, not_right, out_queue, in_queue, own_link, sleeping_link, own_prev, sleeping_prev, low}
use Rattle.kernel_model.proofs.LayoutLemmas.{end_at, last_at, next_laid, prev_laid, rows_laid, front_laid, link_laid, linked_size}
use Rattle.kernel_model.proofs.BytesLemmas.{length-part}

part_byte : (m : List ℕ) (a n i : ℕ) → i < n → get_or (part m a n) i 0 ≡ get_or m (a + i) 0
unfolding part
part_byte m a n i l = get_or-take n (drop a m) i 0 l ∙ get_or-drop a m i 0

end_byte : (m : List ℕ) (i : ℕ) → i < 32 → get_or (nth (tables m) 2) i 0 ≡ get_or m (544 + i) 0
unfolding tables
end_byte m i l = part_byte m 544 32 i l

pub table_row_byte : (m : List ℕ) (i : ℕ) → i < 1536 → get_or (nth (tables m) 7) i 0 ≡ get_or m (1056 + i) 0
unfolding tables
table_row_byte m i l = part_byte m 1056 1536 i l

rows_size : (m : List ℕ) → length m ≡ 65536 → length (nth (tables m) 7) ≡ 1536
unfolding tables
rows_size m e = length-part m 1056 1536 (let within : 1056 + 1536 ≤ length m = omega (arith, e) in within)

pub next_at : (q t : ℕ) → next_place q (t + 1) ≡ 1056 + (48 * t + 44)
next_at q t = grind arith

pub prev_at : (q t : ℕ) → prev_place q (t + 1) ≡ 1056 + (48 * t + 45)
prev_at q t = grind arith

-- the queue of a priority, where q is one
ready_of : (k : Kernel) (q : ℕ) → eqb q 8 ≡ false → queue_of k.threads k.ready k.sleepers q ≡ queue (priority_in k.threads) k.ready q
ready_of k q e = if_false (eqb q 8) k.sleepers (queue (priority_in k.threads) k.ready q) e

sleepers_of : (k : Kernel) (q : ℕ) → eqb q 8 ≡ true → queue_of k.threads k.ready k.sleepers q ≡ k.sleepers
sleepers_of k q e = if_true (eqb q 8) k.sleepers (queue (priority_in k.threads) k.ready q) e

-- the bytes of the ends
abbrev zeroes_of : ℕ → List ℕ
zeroes_of n = replicate n 0

get_or-zeroes : (n i : ℕ) → get_or (zeroes_of n) i 0 ≡ 0
get_or-zeroes zero i = refl
get_or-zeroes (suc n) zero = refl
get_or-zeroes (suc n) (suc i) = get_or-zeroes n i

no_end : (k : Kernel) (j : ℕ) → get_or (queue_ends k.threads k.ready k.sleepers) (18 + j) 0 ≡ 0
unfolding queue_ends
no_end k j =
    let ends : List ℕ = flat_map (λ q. first (queue_of k.threads k.ready k.sleepers q) ∷ last (queue_of k.threads k.ready k.sleepers q) ∷ []) (0 ∷ 1 ∷ 2 ∷ 3 ∷ 4 ∷ 5 ∷ 6 ∷ 7 ∷ 8 ∷ []) in
    get_or-append-add ends (zeroes_of 14) j 0 ∙ get_or-zeroes 14 j

module _ (m : List ℕ) (e : length m ≡ 65536) (s : All Small m) (h : QueuesHold m) where
  abbrev k : Kernel
  k = kernel_of m

  abbrev f : ℕ → ℕ
  f = priority_in (kernel_of m).threads

  fits : Fits (kernel_of m)
  fits = memory_fits_lem m e s

  once : Once ((kernel_of m).ready ++ (kernel_of m).sleepers)
  once = once_of (k.ready ++ k.sleepers) h.lists.once

  -- the bytes of a thread's row, and of its links
  pub front_byte : (t o : ℕ) → t < 32 → o < 44 → get_or m (1056 + (48 * t + o)) 0 ≡ get_or (thread_bytes (get_or k.threads t free_thread)) o 0
  unfolding HasQueueBytes
  front_byte t o l lo = sym (table_row_byte m (48 * t + o) (omega arith)) ∙ ap (λ bs. get_or bs (48 * t + o) 0) (sym h.bytes.1.1) ∙ front_laid k fits t o l lo

  pub link_byte : (t j : ℕ) → t < 32 → j < 4 → get_or m (1056 + (48 * t + (44 + j))) 0 ≡ get_or (links_of k.threads k.ready k.sleepers t) j 0
  unfolding HasQueueBytes
  link_byte t j l lj = sym (table_row_byte m (48 * t + (44 + j)) (omega arith)) ∙ ap (λ bs. get_or bs (48 * t + (44 + j)) 0) (sym h.bytes.1.1) ∙ link_laid k fits t j l lj

  -- a byte behind the queues' ends
  pub unused_byte : (j : ℕ) → j < 14 → get_or m (562 + j) 0 ≡ 0
  unfolding HasQueueBytes
  unused_byte j l =
      let place : 562 + j ≡ 544 + (18 + j) = omega arith in
      ap (λ a. get_or m a 0) place ∙ sym (end_byte m (18 + j) (omega arith)) ∙ ap (λ bs. get_or bs (18 + j) 0) (sym h.bytes.0) ∙ no_end k j

  next_byte : (t : ℕ) → t < 32 → get_or m (1056 + (48 * t + 44)) 0 ≡ next_of (queue f k.ready (f t)) t + next_of k.sleepers t
  unfolding HasQueueBytes
  next_byte t l = sym (table_row_byte m (48 * t + 44) (omega arith)) ∙ ap (λ bs. get_or bs (48 * t + 44) 0) (sym h.bytes.1.1) ∙ next_laid k fits t l

  prev_byte : (t : ℕ) → t < 32 → get_or m (1056 + (48 * t + 45)) 0 ≡ prev_of (queue f k.ready (f t)) t + prev_of k.sleepers t
  unfolding HasQueueBytes
  prev_byte t l = sym (table_row_byte m (48 * t + 45) (omega arith)) ∙ ap (λ bs. get_or bs (48 * t + 45) 0) (sym h.bytes.1.1) ∙ prev_laid k fits t l

  stands_with : (q : ℕ) (xs : List ℕ) → q < 9 → queue_of k.threads k.ready k.sleepers q ≡ xs
      → ((x : ℕ) → In x xs → get_or m (1056 + (48 * x + 44)) 0 ≡ next_of xs x) → ((x : ℕ) → In x xs → get_or m (1056 + (48 * x + 45)) 0 ≡ prev_of xs x) → HasQueue m q xs
  unfolding HasQueueBytes
  stands_with q xs l is nexts prevs = record {
    starts = sym (end_byte m (2 * q) (omega arith)) ∙ ap (λ bs. get_or bs (2 * q) 0) (sym h.bytes.0) ∙ end_at k q l ∙ ap first is;
    ends = (let place : 545 + 2 * q ≡ 544 + (2 * q + 1) = omega arith in ap (λ a. get_or m a 0) place) ∙ sym (end_byte m (2 * q + 1) (omega arith)) ∙ ap (λ bs. get_or bs (2 * q + 1) 0) (sym h.bytes.0) ∙ last_at k q l ∙ ap last is;
    nexts = λ x i. ap (λ a. get_or m a 0) (next_at q x) ∙ nexts x i;
    prevs = λ x i. ap (λ a. get_or m a 0) (prev_at q x) ∙ prevs x i;
  }

  pub queues_stand : (q : ℕ) → q < 9 → HasQueue m q (queue_of k.threads k.ready k.sleepers q)
  queues_stand q l = by_bool (eqb q 8)
      (λ t. subst (λ xs. HasQueue m q xs) (sym (sleepers_of k q t))
      (let b : Below k.sleepers = below_of k.sleepers h.lists.sleepers_below in
      stands_with q k.sleepers l (sleepers_of k q t)
      (λ x i. let less = low x k.sleepers b i in sleeping_link f (λ y. get_or m (1056 + (48 * y + 44)) 0) k.ready k.sleepers x once (next_byte x less) i)
      (λ x i. let less = low x k.sleepers b i in sleeping_prev f (get_or m (1056 + (48 * x + 45)) 0) k.ready k.sleepers x once (prev_byte x less) i)))
      (λ t. subst (λ xs. HasQueue m q xs) (sym (ready_of k q t))
      (let b : Below k.ready = below_of k.ready h.lists.ready_below in
      stands_with q (queue f k.ready q) l (ready_of k q t)
      (λ x i. let less = low x k.ready b (in_queue f q x k.ready i).0 in own_link f (λ y. get_or m (1056 + (48 * y + 44)) 0) k.ready k.sleepers q x once (next_byte x less) i)
      (λ x i. let less = low x k.ready b (in_queue f q x k.ready i).0 in own_prev f (get_or m (1056 + (48 * x + 45)) 0) k.ready k.sleepers q x once (prev_byte x less) i)))

-- ---- and back

pub in_or_not : (t : ℕ) (xs : List ℕ) → In t xs ⊎ Out t xs
in_or_not t [] = inr tt
in_or_not t (x ∷ xs) = by_bool (eqb x t) (λ e. inl (inl e)) (λ e. ⊎_elim (λ i. inl (inr i)) (λ o. inr (e, o)) (in_or_not t xs))

pub in_own : (f : ℕ → ℕ) (p t : ℕ) (xs : List ℕ) → f t ≡ p → In t xs → In t (queue f xs p)
in_own f p t [] e i = absurd i
in_own f p t (x ∷ xs) e i =
    let rest : List ℕ = queue f xs p in
    ⊎_elim
    (λ h. let mine : eqb (f x) p ≡ true = eq-eqb (f x) p (ap f (eqb-true x t h) ∙ e) in subst (λ ys. In t ys) (sym (if_true (eqb (f x) p) (x ∷ rest) rest mine)) (inl h))
    (λ j. by_bool (eqb (f x) p)
    (λ h. subst (λ ys. In t ys) (sym (if_true (eqb (f x) p) (x ∷ rest) rest h)) (inr (in_own f p t xs e j)))
    (λ h. subst (λ ys. In t ys) (sym (if_false (eqb (f x) p) (x ∷ rest) rest h)) (in_own f p t xs e j)))
    i

-- the nine queues stand in a memory, and the links of all others are 0
pub record Stands (m : List ℕ) (f : ℕ → ℕ) (rs ss : List ℕ) : Type 0 where
  pub once : Once (rs ++ ss)
  pub priorities : (t : ℕ) → In t rs → f t < 8
  pub ready : (q : ℕ) → q < 8 → HasQueue m q (queue f rs q)
  pub sleepers : HasQueue m 8 ss
  pub next_none : (t : ℕ) → t < 32 → Out t rs → Out t ss → get_or m (1056 + (48 * t + 44)) 0 ≡ 0
  pub prev_none : (t : ℕ) → t < 32 → Out t rs → Out t ss → get_or m (1056 + (48 * t + 45)) 0 ≡ 0

module _ (m : List ℕ) (f : ℕ → ℕ) (rs ss : List ℕ) (h : Stands m f rs ss) where
  sum_right : (a b c : ℕ) → a ≡ b → c ≡ 0 → a ≡ b + c
  sum_right a b c e z = omega (arith, e, z)

  sum_left : (a b c : ℕ) → a ≡ c → b ≡ 0 → a ≡ b + c
  sum_left a b c e z = omega (arith, e, z)

  pub next_back : (t : ℕ) → t < 32 → get_or m (1056 + (48 * t + 44)) 0 ≡ next_of (queue f rs (f t)) t + next_of ss t
  next_back t l =
      let byte = get_or m (1056 + (48 * t + 44)) 0 in let own = next_of (queue f rs (f t)) t in let other = next_of ss t in
      let place : (q : ℕ) → get_or m (1056 + (48 * t + 44)) 0 ≡ next_in m q (t + 1) = λ q. ap (λ a. get_or m a 0) (sym (next_at q t)) in
      ⊎_elim
      (λ i. sum_right byte own other (place (f t) ∙ (h.ready (f t) (h.priorities t i)).nexts t (in_own f (f t) t rs refl i)) (next_out ss t (not_right t rs ss h.once i)))
      (λ o. ⊎_elim
      (λ i. sum_left byte own other (place 8 ∙ h.sleepers.nexts t i) (next_out (queue f rs (f t)) t (out_queue f (f t) t rs o)))
      (λ p. sum_left byte own other (h.next_none t l o p ∙ sym (next_out ss t p)) (next_out (queue f rs (f t)) t (out_queue f (f t) t rs o)))
      (in_or_not t ss))
      (in_or_not t rs)

  pub prev_back : (t : ℕ) → t < 32 → get_or m (1056 + (48 * t + 45)) 0 ≡ prev_of (queue f rs (f t)) t + prev_of ss t
  prev_back t l =
      let byte = get_or m (1056 + (48 * t + 45)) 0 in let own = prev_of (queue f rs (f t)) t in let other = prev_of ss t in
      let place : (q : ℕ) → get_or m (1056 + (48 * t + 45)) 0 ≡ prev_in m q (t + 1) = λ q. ap (λ a. get_or m a 0) (sym (prev_at q t)) in
      ⊎_elim
      (λ i. sum_right byte own other (place (f t) ∙ (h.ready (f t) (h.priorities t i)).prevs t (in_own f (f t) t rs refl i)) (prev_out 0 ss t (not_right t rs ss h.once i)))
      (λ o. ⊎_elim
      (λ i. sum_left byte own other (place 8 ∙ h.sleepers.prevs t i) (prev_out 0 (queue f rs (f t)) t (out_queue f (f t) t rs o)))
      (λ p. sum_left byte own other (h.prev_none t l o p ∙ sym (prev_out 0 ss t p)) (prev_out 0 (queue f rs (f t)) t (out_queue f (f t) t rs o)))
      (in_or_not t ss))
      (in_or_not t rs)

-- the bytes of the threads' rows, from those of each row
below_or : (o : ℕ) → (o < 44) ⊎ (44 ≤ o)
below_or o = by_bool (ltb o 44) (λ e. inl (ltb-true o 44 e)) (λ e. inr (grind (arith, e)))

pub rows_back : (m : List ℕ) (k : Kernel) → length m ≡ 65536 → Fits k
    → ((t o : ℕ) → t < 32 → o < 44 → get_or m (1056 + (48 * t + o)) 0 ≡ get_or (thread_bytes (get_or k.threads t free_thread)) o 0)
    → ((t j : ℕ) → t < 32 → j < 4 → get_or m (1056 + (48 * t + (44 + j))) 0 ≡ get_or (links_of k.threads k.ready k.sleepers t) j 0)
    → nth (written k) 7 ≡ nth (tables m) 7
rows_back m k e fits front links =
    let laid : List ℕ = rows_laid k fits in
    let size : length laid ≡ 1536 = linked_size (links_of k.threads k.ready k.sleepers) k.threads (λ t. refl) fits.threads fits.thread_rows in
    let whole : length (nth (tables m) 7) ≡ 1536 = rows_size m e in
    let row : (t o : ℕ) → t < 32 → o < 48 → get_or laid (48 * t + o) 0 ≡ get_or m (1056 + (48 * t + o)) 0 = λ t o l lo.
    ⊎_elim
    (λ less. front_laid k fits t o l less ∙ sym (front t o l less))
    (λ past. let j = o - 44 in let at : 44 + j ≡ o = omega arith in
    ap (λ n. get_or laid (48 * t + n) 0) (sym at) ∙ link_laid k fits t j l (omega (arith, at)) ∙ sym (links t j l (omega (arith, at))) ∙ ap (λ n. get_or m (1056 + (48 * t + n)) 0) at)
    (below_or o) in
    ext_get_or 0 laid (nth (tables m) 7) (size ∙ sym whole)
    (λ i l. let cut : 48 * (i / 48) + i % 48 ≡ i = omega arith in let inside : i < 1536 = omega (arith, size) in
    ap (λ n. get_or laid n 0) (sym cut) ∙ row (i / 48) (i % 48) (omega (arith, inside)) (omega arith) ∙ ap (λ n. get_or m (1056 + n) 0) cut ∙ sym (table_row_byte m i inside))

ends_size : (k : Kernel) → length (queue_ends k.threads k.ready k.sleepers) ≡ 32
unfolding queue_ends
ends_size k = refl

ends_part : (m : List ℕ) → length m ≡ 65536 → length (nth (tables m) 2) ≡ 32
unfolding tables
ends_part m e = length-part m 544 32 (let within : 544 + 32 ≤ length m = omega (arith, e) in within)

low_or : (i : ℕ) → (i < 18) ⊎ (18 ≤ i)
low_or i = by_bool (ltb i 18) (λ e. inl (ltb-true i 18 e)) (λ e. inr (grind (arith, e)))

even_or : (i : ℕ) → (i ≡ 2 * (i / 2)) ⊎ (i ≡ 2 * (i / 2) + 1)
even_or i = by_bool (eqb (i % 2) 0) (λ e. inl (grind (arith, e))) (λ e. inr (grind (arith, e)))

pub ends_back : (m : List ℕ) (k : Kernel) → length m ≡ 65536
    → ((q : ℕ) → q < 9 → get_or m (544 + 2 * q) 0 ≡ first (queue_of k.threads k.ready k.sleepers q))
    → ((q : ℕ) → q < 9 → get_or m (545 + 2 * q) 0 ≡ last (queue_of k.threads k.ready k.sleepers q))
    → ((j : ℕ) → j < 14 → get_or m (562 + j) 0 ≡ 0) → nth (written k) 2 ≡ nth (tables m) 2
ends_back m k e firsts lasts zeroes =
    let laid : List ℕ = queue_ends k.threads k.ready k.sleepers in
    let byte : (i : ℕ) → i < 32 → get_or laid i 0 ≡ get_or m (544 + i) 0 = λ i l.
    ⊎_elim
    (λ less. let q = i / 2 in let low : q < 9 = omega (arith, less) in ⊎_elim
    (λ is. ap (λ n. get_or laid n 0) is ∙ end_at k q low ∙ sym (firsts q low) ∙ ap (λ n. get_or m (544 + n) 0) (sym is))
    (λ is. ap (λ n. get_or laid n 0) is ∙ last_at k q low ∙ sym (lasts q low) ∙ (let place : 545 + 2 * q ≡ 544 + i = omega (arith, is) in ap (λ a. get_or m a 0) place))
    (even_or i))
    (λ past. let j = i - 18 in let at : 18 + j ≡ i = omega (arith, past) in let here : 562 + j ≡ 544 + i = omega (arith, at) in
    ap (λ n. get_or laid n 0) (sym at) ∙ no_end k j ∙ sym (zeroes j (omega (arith, at, l))) ∙ ap (λ a. get_or m a 0) here)
    (low_or i) in
    ext_get_or 0 laid (nth (tables m) 2) (ends_size k ∙ sym (ends_part m e))
    (λ i l. let inside : i < 32 = (let s : length laid ≡ 32 = ends_size k in omega (arith, s, l)) in byte i inside ∙ sym (end_byte m i inside))

-- members of a list
pub all_in : (P : ℕ → Type 0) (xs : List ℕ) → All P xs → (t : ℕ) → In t xs → P t
all_in P [] h t i = absurd i
all_in P (x ∷ xs) h t i = ⊎_elim (λ e. subst P (eqb-true x t e) (All-head P x xs h)) (λ j. all_in P xs (All-tail P x xs h) t j) i

pub below_eight : (a : ℕ) → a ≤ 7 → a < 8
below_eight a l = omega arith

zero_sum : (a b : ℕ) → a ≡ 0 → b ≡ 0 → a + b ≡ 0
zero_sum a b e f = omega (arith, e, f)

-- the nine queues by number
abbrev pub numbered : (f : ℕ → ℕ) (ready sleepers : List ℕ) (q : ℕ) → List ℕ
numbered f ready sleepers q = cond (eqb q 8) sleepers (queue f ready q)

pub numbered_ready : (f : ℕ → ℕ) (rs ss : List ℕ) (q : ℕ) → eqb q 8 ≡ false → numbered f rs ss q ≡ queue f rs q
numbered_ready f rs ss q e = if_false (eqb q 8) ss (queue f rs q) e

pub numbered_sleepers : (f : ℕ → ℕ) (rs ss : List ℕ) (q : ℕ) → eqb q 8 ≡ true → numbered f rs ss q ≡ ss
numbered_sleepers f rs ss q e = if_true (eqb q 8) ss (queue f rs q) e

pub not_eight : (q : ℕ) → q < 9 → eqb q 8 ≡ false → q < 8
not_eight q l e = grind (arith, l, e)

pub queues_of : (m : List ℕ) (f : ℕ → ℕ) (rs ss : List ℕ) → Stands m f rs ss → (q : ℕ) → q < 9 → HasQueue m q (numbered f rs ss q)
queues_of m f rs ss s q l = by_bool (eqb q 8)
    (λ t. subst (λ xs. HasQueue m q xs) (sym (numbered_sleepers f rs ss q t)) (subst (λ p. HasQueue m p ss) (sym (eqb-true q 8 t)) s.sleepers))
    (λ t. subst (λ xs. HasQueue m q xs) (sym (numbered_ready f rs ss q t)) (s.ready q (not_eight q l t)))

-- a memory whose lists hold has the nine queues
pub holds_stands : (m : List ℕ) → length m ≡ 65536 → All Small m → QueuesHold m → Stands m (priority_in (kernel_of m).threads) (kernel_of m).ready (kernel_of m).sleepers
holds_stands m e small h =
    let k : Kernel = kernel_of m in let f : ℕ → ℕ = priority_in k.threads in
    let stand : (q : ℕ) → q < 9 → HasQueue m q (numbered f k.ready k.sleepers q) = queues_stand m e small h in
    record {
      once = once m e small h;
      priorities = λ t i. below_eight (f t) (all_in (λ x. f x ≤ 7) k.ready h.lists.priorities t i);
      ready = λ q l. subst (λ xs. HasQueue m q xs) (numbered_ready f k.ready k.sleepers q (not_eq q 8 (λ same. absurd (omega arith)))) (stand q (omega arith));
      sleepers = stand 8 (omega arith);
      next_none = λ t l o p. link_byte m e small h t 0 l (omega arith)
          ∙ zero_sum (next_of (queue f k.ready (f t)) t) (next_of k.sleepers t) (next_out (queue f k.ready (f t)) t (out_queue f (f t) t k.ready o)) (next_out k.sleepers t p);
      prev_none = λ t l o p. link_byte m e small h t 1 l (omega arith)
          ∙ zero_sum (prev_of (queue f k.ready (f t)) t) (prev_of k.sleepers t) (prev_out 0 (queue f k.ready (f t)) t (out_queue f (f t) t k.ready o)) (prev_out 0 k.sleepers t p);
    }
