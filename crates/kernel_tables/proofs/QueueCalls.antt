-- What each call on the queues leaves.
use Rattle.std.proofs.Common.{◌≡◌, ℕ, ◌+◌, ◌<◌, ◌≤◌, Bool, false, cond, eqb, leb, ltb, List, [], ◌∷◌, ◌++◌, length, take, drop, refl, sym, ap, ◌∙◌, subst, arith, ◌⊎◌, ⊎_elim, inl, inr, All, Contains, insert}
use Rattle.std.specs.List.{prefix_len}
use Rattle.std.proofs.lemmas.Bool.{eqb-true, eq-eqb}
use Rattle.std.proofs.lemmas.List.{take-append-drop}
use Rattle.kernel_model.specs.Kernel.{Kernel, with_ready, with_sleepers}
use Rattle.kernel_model.specs.Links.{first, last, queue, put_before, taken}
use Rattle.kernel_model.specs.Members.{In, Out, Once, Below}
use Rattle.kernel_model.specs.Standing.{HasQueue, next_in, prev_in}
use Rattle.kernel_model.specs.Words.{priority_of, wake_time}
use Rattle.kernel_model.specs.Layout.{kernel_of, priority_in}
use Rattle.kernel_model.specs.Queues.{HasQueues, QueuesHold, Leaves, at_front, at_end, among_sleepers, without}
use Rattle.kernel_model.proofs.FitLemmas.{Small}
use Rattle.kernel_model.proofs.LinkLemmas.{by_bool, if_true, if_false, not_eq, both_values}
use Rattle.kernel_model.proofs.ReadLemmas.{below_of, once_of, once_right, once_queue, once_left, below_queue}
use Rattle.kernel_model.proofs.RunLemmas.{end_queue, front_queue, taken_queue, put_before-insert, taken-remove, cut_at}
use Rattle.kernel_model.proofs.ReadLemmas.{falls_of}
use Rattle.kernel_model.proofs.StandLemmas.{Stands, numbered, numbered_ready, numbered_sleepers, holds_stands, in_own, all_in}
use Rattle.kernel_tables.specs.Linking.{linked, unlinked}
use Rattle.kernel_tables.proofs.LinkedQueues.{neighbours, link_room, end_room, out_of, out_less, append_none}
use Rattle.kernel_tables.proofs.QueueEdits.{GoesIn, front_queues, end_queues, sleep_queues, take_queues, wake_queues}
use Rattle.kernel_tables.proofs.QueueLemmas.{in_contains, out_lacks}
use Rattle.kernel_tables.proofs.Relinked.{Edit, leaves_edit, link_edit, unlink_edit}

-- ---- lists with a thread put in or taken out

differs : (x t : ℕ) → eqb t x ≡ false → x ≡ t → ⊥
differs x t e same = both_values (eqb t x) (eq-eqb t x (sym same)) e

abbrev OutBoth : (x t : ℕ) → List ℕ → Type 0
OutBoth x t xs = (x ≡ t → ⊥) × Out x xs

out_put : (test : ℕ → Bool) (xs : List ℕ) (t x : ℕ) → Out x (put_before test xs t) → OutBoth x t xs
out_put test [] t x o = (differs x t o.0, tt)
out_put test (y ∷ ys) t x o = by_bool (test y)
    (λ e. let p : Out x (t ∷ y ∷ ys) = subst (λ l. Out x l) (if_true (test y) (t ∷ y ∷ ys) (y ∷ put_before test ys t) e) o in (differs x t p.0, p.1))
    (λ e. let p : Out x (y ∷ put_before test ys t) = subst (λ l. Out x l) (if_false (test y) (t ∷ y ∷ ys) (y ∷ put_before test ys t) e) o in
    let rest = out_put test ys t x p.1 in (rest.0, (p.0, rest.1)))

out_taken : (xs : List ℕ) (t x : ℕ) → Out x (taken xs t) → (x ≡ t) ⊎ Out x xs
out_taken [] t x o = inr tt
out_taken (y ∷ ys) t x o = by_bool (eqb y t)
    (λ e. let p : Out x ys = subst (λ l. Out x l) (if_true (eqb y t) ys (y ∷ taken ys t) e) o in
    by_bool (eqb y x) (λ g. inl (sym (eqb-true y x g) ∙ eqb-true y t e)) (λ g. inr (g, p)))
    (λ e. let p : Out x (y ∷ taken ys t) = subst (λ l. Out x l) (if_false (eqb y t) ys (y ∷ taken ys t) e) o in
    ⊎_elim (λ same. inl same) (λ rest. inr (p.0, rest)) (out_taken ys t x p.1))

out_split : (ys zs : List ℕ) (t x : ℕ) → Out x (ys ++ t ∷ zs) → OutBoth x t (ys ++ zs)
out_split ys zs t x o = (λ same. both_values (eqb x t) (eq-eqb x t same) (out_of x t ys zs o), out_less x t ys zs o)

module _ (f : ℕ → ℕ) (rs ss : List ℕ) (t : ℕ) where
  others_ready : (rs' : List ℕ) → ((p : ℕ) → eqb (f t) p ≡ false → queue f rs' p ≡ queue f rs p) → (p : ℕ) → p < 9 → (p ≡ f t → ⊥) → numbered f rs' ss p ≡ numbered f rs ss p
  others_ready rs' h p l n = by_bool (eqb p 8)
      (λ e. numbered_sleepers f rs' ss p e ∙ sym (numbered_sleepers f rs ss p e))
      (λ e. numbered_ready f rs' ss p e ∙ h p (not_eq (f t) p (λ same. n (sym same))) ∙ sym (numbered_ready f rs ss p e))

  others_sleep : (ss' : List ℕ) (p : ℕ) → p < 9 → (p ≡ 8 → ⊥) → numbered f rs ss' p ≡ numbered f rs ss p
  others_sleep ss' p l n = let e : eqb p 8 ≡ false = not_eq p 8 n in numbered_ready f rs ss' p e ∙ sym (numbered_ready f rs ss p e)

-- ---- the calls

module _ (m : List ℕ) (t : ℕ) (size : length m ≡ 65536) (small : All Small m) (hold : QueuesHold m) where
  abbrev k : Kernel
  k = kernel_of m

  abbrev f : ℕ → ℕ
  f = priority_in (kernel_of m).threads

  stand : Stands m f (kernel_of m).ready (kernel_of m).sleepers
  stand = holds_stands m size small hold

  ready_below : Below (kernel_of m).ready
  ready_below = below_of k.ready hold.lists.ready_below

  sleepers_below : Below (kernel_of m).sleepers
  sleepers_below = below_of k.sleepers hold.lists.sleepers_below

  pub ready_number : Contains (kernel_of m).ready t → t < 32
  ready_number c = all_in (λ x. x < 32) k.ready hold.lists.ready_below t (in_contains k.ready t c)

  pub sleeper_number : Contains (kernel_of m).sleepers t → t < 32
  sleeper_number c = all_in (λ x. x < 32) k.sleepers hold.lists.sleepers_below t (in_contains k.sleepers t c)

  pub ready_priority : Contains (kernel_of m).ready t → priority_of (kernel_of m) t ≤ 7
  ready_priority c = all_in (λ x. f x ≤ 7) k.ready hold.lists.priorities t (in_contains k.ready t c)

  -- a ready queue
  own_queue : priority_of (kernel_of m) t ≤ 7 → HasQueue m (f t) (queue f (kernel_of m).ready (f t))
  own_queue l = stand.ready (f t) (omega arith)

  own_below : Below (queue f (kernel_of m).ready (f t))
  own_below = below_queue f (f t) k.ready ready_below

  own_once : Once (queue f (kernel_of m).ready (f t))
  own_once = once_queue f (f t) k.ready (once_left k.ready k.sleepers stand.once)

  numbered_own : (rs : List ℕ) → priority_of (kernel_of m) t ≤ 7 → numbered f rs (kernel_of m).sleepers (f t) ≡ queue f rs (f t)
  numbered_own rs l = numbered_ready f rs k.sleepers (f t) (not_eq (f t) 8 (λ same. (let e : priority_of k t ≡ 8 = same in absurd (omega arith))))

  pub ready_room : priority_of (kernel_of m) t ≤ 7 → (prev_in m (f t) 0 ≤ 32) × (next_in m (f t) 0 ≤ 32)
  ready_room l = end_room m (f t) (queue f k.ready (f t)) (own_queue l) own_below

  pub take_room : Contains (kernel_of m).ready t → (prev_in m (f t) (t + 1) ≤ 32) × (next_in m (f t) (t + 1) ≤ 32)
  take_room c =
      link_room m (f t) t (queue f k.ready (f t)) (own_queue (ready_priority c)) own_once own_below (in_own f (f t) t k.ready refl (in_contains k.ready t c))

  pub wake_room : Contains (kernel_of m).sleepers t → (prev_in m 8 (t + 1) ≤ 32) × (next_in m 8 (t + 1) ≤ 32)
  wake_room c = link_room m 8 t k.sleepers stand.sleepers (once_right k.ready k.sleepers stand.once) sleepers_below (in_contains k.sleepers t c)

  pub front_leaves : (m' : List ℕ) (q h : ℕ) → GoesIn (kernel_of m) t → priority_of (kernel_of m) t ≤ 7 → q ≡ f t → h ≡ next_in m q 0 → m' ≡ linked m q t 0 h
      → Leaves m m' (with_ready (kernel_of m) (at_front (kernel_of m) t))
  front_leaves m' q h g l eq eh is =
      let rs : List ℕ = at_front k t in let own : List ℕ = queue f k.ready (f t) in
      let test : ℕ → Bool = λ x. leb (f x) (f t) in
      let as_put : rs ≡ put_before test k.ready t = sym (put_before-insert test k.ready t) in
      let lists : HasQueues (with_ready k rs) = front_queues k t hold.lists g l in
      let queues : (p : ℕ) → queue f rs p ≡ cond (eqb (f t) p) (t ∷ queue f k.ready p) (queue f k.ready p) = λ p. ap (λ xs. queue f xs p) as_put ∙ front_queue f k.ready t p in
      let edit : Edit m (linked m (f t) t 0 (first own)) f k.ready k.sleepers rs k.sleepers (f t) t 0 (first own) =
      link_edit m f k.ready k.sleepers rs k.sleepers (f t) t [] own size (omega arith) stand (numbered_own k.ready l)
      (numbered_own rs l ∙ queues (f t) ∙ if_true (eqb (f t) (f t)) (t ∷ own) own (eq-eqb (f t) (f t) refl))
      (others_ready f k.ready k.sleepers t rs (λ p e. queues p ∙ if_false (eqb (f t) p) (t ∷ queue f k.ready p) (queue f k.ready p) e))
      (out_lacks k.ready t g.not_ready) (out_lacks k.sleepers t g.not_asleep) (once_of (rs ++ k.sleepers) lists.once) (below_of rs lists.ready_below) sleepers_below
      (λ x a c. let r = out_put test k.ready t x (subst (λ xs. Out x xs) as_put a) in (r.0, (r.1, c))) in
      let same : m' ≡ linked m (f t) t 0 (first own) =
      is ∙ ap (λ p. linked m p t 0 h) eq ∙ ap (λ c. linked m (f t) t 0 c) (eh ∙ ap (λ p. next_in m p 0) eq ∙ (own_queue l).starts) in
      subst (λ n. Leaves m n (with_ready k rs)) (sym same) (leaves_edit m (linked m (f t) t 0 (first own)) rs k.sleepers (f t) t 0 (first own) size small hold (omega arith) g.number lists edit)

  pub end_leaves : (m' : List ℕ) (q b : ℕ) → GoesIn (kernel_of m) t → priority_of (kernel_of m) t ≤ 7 → q ≡ f t → b ≡ prev_in m q 0 → m' ≡ linked m q t b 0
      → Leaves m m' (with_ready (kernel_of m) (at_end (kernel_of m) t))
  end_leaves m' q b g l eq eb is =
      let rs : List ℕ = at_end k t in let own : List ℕ = queue f k.ready (f t) in
      let test : ℕ → Bool = λ x. ltb (f x) (f t) in
      let as_put : rs ≡ put_before test k.ready t = sym (put_before-insert test k.ready t) in
      let lists : HasQueues (with_ready k rs) = end_queues k t hold.lists g l in
      let queues : (p : ℕ) → queue f rs p ≡ cond (eqb (f t) p) (queue f k.ready p ++ t ∷ []) (queue f k.ready p) = λ p.
      ap (λ xs. queue f xs p) as_put ∙ end_queue f k.ready t p (falls_of f k.ready hold.lists.by_priority) in
      let edit : Edit m (linked m (f t) t (last own) 0) f k.ready k.sleepers rs k.sleepers (f t) t (last own) 0 =
      link_edit m f k.ready k.sleepers rs k.sleepers (f t) t own [] size (omega arith) stand (numbered_own k.ready l ∙ sym (append_none own))
      (numbered_own rs l ∙ queues (f t) ∙ if_true (eqb (f t) (f t)) (own ++ t ∷ []) own (eq-eqb (f t) (f t) refl))
      (others_ready f k.ready k.sleepers t rs (λ p e. queues p ∙ if_false (eqb (f t) p) (queue f k.ready p ++ t ∷ []) (queue f k.ready p) e))
      (out_lacks k.ready t g.not_ready) (out_lacks k.sleepers t g.not_asleep) (once_of (rs ++ k.sleepers) lists.once) (below_of rs lists.ready_below) sleepers_below
      (λ x a c. let r = out_put test k.ready t x (subst (λ xs. Out x xs) as_put a) in (r.0, (r.1, c))) in
      let same : m' ≡ linked m (f t) t (last own) 0 =
      is ∙ ap (λ p. linked m p t b 0) eq ∙ ap (λ c. linked m (f t) t c 0) (eb ∙ ap (λ p. prev_in m p 0) eq ∙ (own_queue l).ends) in
      subst (λ n. Leaves m n (with_ready k rs)) (sym same) (leaves_edit m (linked m (f t) t (last own) 0) rs k.sleepers (f t) t (last own) 0 size small hold (omega arith) g.number lists edit)

  pub sleep_leaves : (m' : List ℕ) (n b h : ℕ) → GoesIn (kernel_of m) t → n ≡ prefix_len (λ x. leb (wake_time (kernel_of m) x) (wake_time (kernel_of m) t)) (kernel_of m).sleepers
      → b ≡ last (take n (kernel_of m).sleepers) → h ≡ first (drop n (kernel_of m).sleepers) → m' ≡ linked m 8 t b h
      → Leaves m m' (with_sleepers (kernel_of m) (among_sleepers (kernel_of m) t))
  sleep_leaves m' n b h g en eb eh is =
      let ss : List ℕ = insert k.sleepers n t in let ys : List ℕ = take n k.sleepers in let zs : List ℕ = drop n k.sleepers in
      let right : ss ≡ among_sleepers k t = ap (λ i. insert k.sleepers i t) en in
      let lists : HasQueues (with_sleepers k ss) = subst (λ xs. HasQueues (with_sleepers k xs)) (sym right) (sleep_queues k t hold.lists g) in
      let cut : ys ++ zs ≡ k.sleepers = take-append-drop n k.sleepers in
      let edit : Edit m (linked m 8 t (last ys) (first zs)) f k.ready k.sleepers k.ready ss 8 t (last ys) (first zs) =
      link_edit m f k.ready k.sleepers k.ready ss 8 t ys zs size (omega arith) stand (sym cut) refl
      (others_sleep f k.ready k.sleepers t ss)
      (out_lacks k.ready t g.not_ready) (out_lacks k.sleepers t g.not_asleep) (once_of (k.ready ++ ss) lists.once) ready_below (below_of ss lists.sleepers_below)
      (λ x a c. let r = out_split ys zs t x c in (r.0, (a, subst (λ xs. Out x xs) cut r.1))) in
      let same : m' ≡ linked m 8 t (last ys) (first zs) = is ∙ ap (λ c. linked m 8 t c h) eb ∙ ap (λ c. linked m 8 t (last ys) c) eh in
      subst (λ xs. Leaves m m' (with_sleepers k xs)) right
      (subst (λ a. Leaves m a (with_sleepers k ss)) (sym same) (leaves_edit m (linked m 8 t (last ys) (first zs)) k.ready ss 8 t (last ys) (first zs) size small hold (omega arith) g.number lists edit))

  pub take_leaves : (m' : List ℕ) (q : ℕ) → Contains (kernel_of m).ready t → q ≡ f t → m' ≡ unlinked m q t (prev_in m q (t + 1)) (next_in m q (t + 1))
      → Leaves m m' (with_ready (kernel_of m) (without (kernel_of m).ready t))
  take_leaves m' q c eq is =
      let rs : List ℕ = without k.ready t in let own : List ℕ = queue f k.ready (f t) in
      let l : priority_of k t ≤ 7 = ready_priority c in
      let i : In t k.ready = in_contains k.ready t c in
      let cut = cut_at own t (in_own f (f t) t k.ready refl i) in let ys : List ℕ = cut.0.0 in let zs : List ℕ = cut.0.1 in
      let near = neighbours m (f t) t ys zs (subst (λ xs. HasQueue m (f t) xs) cut.1.0 (own_queue l)) (subst (λ xs. Once xs) cut.1.0 own_once) in
      let as_taken : rs ≡ taken k.ready t = sym (taken-remove k.ready t) in
      let lists : HasQueues (with_ready k rs) = take_queues k t hold.lists c in
      let queues : (p : ℕ) → queue f rs p ≡ cond (eqb (f t) p) (taken (queue f k.ready p) t) (queue f k.ready p) = λ p. ap (λ xs. queue f xs p) as_taken ∙ taken_queue f k.ready t p in
      let edit : Edit m (unlinked m (f t) t (last ys) (first zs)) f k.ready k.sleepers rs k.sleepers (f t) t (last ys) (first zs) =
      unlink_edit m f k.ready k.sleepers rs k.sleepers (f t) t ys zs size (omega arith) stand (numbered_own k.ready l ∙ cut.1.0)
      (numbered_own rs l ∙ queues (f t) ∙ if_true (eqb (f t) (f t)) (taken own t) own (eq-eqb (f t) (f t) refl) ∙ cut.1.1)
      (others_ready f k.ready k.sleepers t rs (λ p e. queues p ∙ if_false (eqb (f t) p) (taken (queue f k.ready p) t) (queue f k.ready p) e))
      ready_below sleepers_below
      (λ x a d. ⊎_elim (λ same. inl same) (λ o. inr (o, d)) (out_taken k.ready t x (subst (λ xs. Out x xs) as_taken a))) in
      let same : m' ≡ unlinked m (f t) t (last ys) (first zs) =
      is ∙ ap (λ p. unlinked m p t (prev_in m p (t + 1)) (next_in m p (t + 1))) eq ∙ ap (λ b. unlinked m (f t) t b (next_in m (f t) (t + 1))) near.0 ∙ ap (λ h. unlinked m (f t) t (last ys) h) near.1 in
      subst (λ n. Leaves m n (with_ready k rs)) (sym same)
      (leaves_edit m (unlinked m (f t) t (last ys) (first zs)) rs k.sleepers (f t) t (last ys) (first zs) size small hold (omega arith) (ready_number c) lists edit)

  pub wake_leaves : (m' : List ℕ) → Contains (kernel_of m).sleepers t → m' ≡ unlinked m 8 t (prev_in m 8 (t + 1)) (next_in m 8 (t + 1))
      → Leaves m m' (with_sleepers (kernel_of m) (without (kernel_of m).sleepers t))
  wake_leaves m' c is =
      let ss : List ℕ = without k.sleepers t in
      let i : In t k.sleepers = in_contains k.sleepers t c in
      let cut = cut_at k.sleepers t i in let ys : List ℕ = cut.0.0 in let zs : List ℕ = cut.0.1 in
      let near = neighbours m 8 t ys zs (subst (λ xs. HasQueue m 8 xs) cut.1.0 stand.sleepers) (subst (λ xs. Once xs) cut.1.0 (once_right k.ready k.sleepers stand.once)) in
      let as_taken : ss ≡ taken k.sleepers t = sym (taken-remove k.sleepers t) in
      let lists : HasQueues (with_sleepers k ss) = wake_queues k t hold.lists c in
      let edit : Edit m (unlinked m 8 t (last ys) (first zs)) f k.ready k.sleepers k.ready ss 8 t (last ys) (first zs) =
      unlink_edit m f k.ready k.sleepers k.ready ss 8 t ys zs size (omega arith) stand cut.1.0 (as_taken ∙ cut.1.1)
      (others_sleep f k.ready k.sleepers t ss) ready_below sleepers_below
      (λ x a d. ⊎_elim (λ same. inl same) (λ o. inr (a, o)) (out_taken k.sleepers t x (subst (λ xs. Out x xs) as_taken d))) in
      let same : m' ≡ unlinked m 8 t (last ys) (first zs) =
      is ∙ ap (λ b. unlinked m 8 t b (next_in m 8 (t + 1))) near.0 ∙ ap (λ h. unlinked m 8 t (last ys) h) near.1 in
      subst (λ n. Leaves m n (with_sleepers k ss)) (sym same)
      (leaves_edit m (unlinked m 8 t (last ys) (first zs)) k.ready ss 8 t (last ys) (first zs) size small hold (omega arith) (sleeper_number c) lists edit)
