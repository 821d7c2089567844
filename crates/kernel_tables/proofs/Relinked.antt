-- A memory that holds, after a thread was linked into a queue or out of one.
use Rattle.std.proofs.Common.{◌≡◌, ℕ, ◌+◌, ◌*◌, ◌<◌, ◌≤◌, zero, suc, true, false, cond, eqb, List, [], ◌∷◌, ◌++◌, length, get_or, refl, sym, ap, ◌∙◌, subst, arith, ◌⊎◌, ⊎_elim, inl, inr, All}
use Rattle.std.proofs.lemmas.Bool.{eqb-true, eq-eqb}
use Rattle.kernel_model.specs.Kernel.{Kernel}
use Rattle.kernel_model.specs.Links.{first, last}
use Rattle.kernel_model.specs.Members.{In, Out, Once, Below}
use Rattle.kernel_model.specs.Standing.{HasQueue, next_place, prev_place, next_in, prev_in}
use Rattle.kernel_model.specs.Layout.{kernel_of, priority_in, links_of, Fits}
use Rattle.kernel_model.specs.Queues.{HasQueues, QueuesHold, Leaves}
use Rattle.kernel_model.proofs.FitLemmas.{Small, memory_fits_lem}
use Rattle.kernel_model.proofs.LinkLemmas.{by_bool, if_true, not_eq, both_values, in_or_out, first_low, last_low}
use Rattle.kernel_model.proofs.ReadLemmas.{once_of, once_left, once_right, once_queue, below_queue, out_queue, in_queue, not_right}
use Rattle.kernel_model.proofs.StandLemmas.{Stands, numbered, numbered_ready, numbered_sleepers, queues_of, holds_stands, ends_back, rows_back, next_back, prev_back, front_byte, link_byte, unused_byte, all_in, below_eight, next_at, prev_at}
use Rattle.kernel_tables.specs.Linking.{linked, unlinked}
use Rattle.kernel_tables.proofs.LinkBytes.{next_unlinked, prev_unlinked}
use Rattle.kernel_tables.proofs.LinkedQueues.{linked_queue, unlinked_queue, in_front, in_back, last_in, below_front, below_back}
use Rattle.kernel_tables.proofs.OtherQueues.{Stays, Apart, linked_stays, unlinked_stays, length-linked, length-unlinked, next_stays, prev_stays, queue_stays}
use Rattle.kernel_tables.proofs.Relaid.{Elsewhere, Relaid, relisted, leaves_relaid}

-- ---- members of the nine queues

pub out_in : (t : ℕ) (xs : List ℕ) → Out t xs → In t xs → ⊥
out_in t xs o i = both_values (eqb t t) (eq-eqb t t refl) (in_or_out t t xs o i)

last_member : (ys : List ℕ) (x : ℕ) → x + 1 ≡ last ys → In x ys
last_member [] x e = absurd (omega arith)
last_member (y ∷ ys) x e = last_in y ys x (let one : suc x ≡ x + 1 = omega arith in one ∙ e)

first_member : (zs : List ℕ) (x : ℕ) → x + 1 ≡ first zs → In x zs
first_member [] x e = absurd (omega arith)
first_member (z ∷ zs) x e = inl (eq-eqb z x (omega arith))

next_to : (x t : ℕ) (ys zs : List ℕ) → (x ≡ t → ⊥) → (In x (ys ++ zs) → ⊥) → Apart x t (last ys) (first zs)
next_to x t ys zs n o = record {
  thread = λ e. n (omega arith);
  before = λ e. o (in_front x ys zs (last_member ys x e));
  behind = λ e. o (in_back x ys zs (first_member zs x e));
}

module _ (f : ℕ → ℕ) (rs ss : List ℕ) where
  pub out_numbered : (x q : ℕ) → Out x rs → Out x ss → Out x (numbered f rs ss q)
  out_numbered x q a b = by_bool (eqb q 8)
      (λ e. subst (λ xs. Out x xs) (sym (numbered_sleepers f rs ss q e)) b)
      (λ e. subst (λ xs. Out x xs) (sym (numbered_ready f rs ss q e)) (out_queue f q x rs a))

  pub once_numbered : (q : ℕ) → Once (rs ++ ss) → Once (numbered f rs ss q)
  once_numbered q o = by_bool (eqb q 8)
      (λ e. subst (λ xs. Once xs) (sym (numbered_sleepers f rs ss q e)) (once_right rs ss o))
      (λ e. subst (λ xs. Once xs) (sym (numbered_ready f rs ss q e)) (once_queue f q rs (once_left rs ss o)))

  pub below_numbered : (q : ℕ) → Below rs → Below ss → Below (numbered f rs ss q)
  below_numbered q a b = by_bool (eqb q 8)
      (λ e. subst (λ xs. Below xs) (sym (numbered_sleepers f rs ss q e)) b)
      (λ e. subst (λ xs. Below xs) (sym (numbered_ready f rs ss q e)) (below_queue f q rs a))

  of_sleepers : (x q : ℕ) → eqb q 8 ≡ true → In x (numbered f rs ss q) → In x ss
  of_sleepers x q e i = subst (λ xs. In x xs) (numbered_sleepers f rs ss q e) i

  of_ready : (x q : ℕ) → eqb q 8 ≡ false → In x (numbered f rs ss q) → In x rs × (f x ≡ q)
  of_ready x q e i = in_queue f q x rs (subst (λ xs. In x xs) (numbered_ready f rs ss q e) i)

  pub one_alone : (x p q : ℕ) → Once (rs ++ ss) → (p ≡ q → ⊥) → In x (numbered f rs ss p) → In x (numbered f rs ss q) → ⊥
  one_alone x p q o n i j = by_bool (eqb p 8)
      (λ e. by_bool (eqb q 8)
      (λ g. n (eqb-true p 8 e ∙ sym (eqb-true q 8 g)))
      (λ g. out_in x ss (not_right x rs ss o (of_ready x q g j).0) (of_sleepers x p e i)))
      (λ e. by_bool (eqb q 8)
      (λ g. out_in x ss (not_right x rs ss o (of_ready x p e i).0) (of_sleepers x q g j))
      (λ g. n (sym (of_ready x p e i).1 ∙ (of_ready x q g j).1)))

-- ---- one queue of the nine changed

-- what an edit of queue q leaves: t's links, and those of its neighbours b and h, are all that is written
pub record Edit (m m' : List ℕ) (f : ℕ → ℕ) (rs ss rs' ss' : List ℕ) (q t b h : ℕ) : Type 0 where
  pub size : length m' ≡ 65536
  pub room : (b ≤ 32) × (h ≤ 32)
  pub stays : Stays m m' q t b h
  pub queue : HasQueue m' q (numbered f rs' ss' q)
  pub others : (p : ℕ) → p < 9 → (p ≡ q → ⊥) → numbered f rs' ss' p ≡ numbered f rs ss p
  pub apart : (p x : ℕ) → p < 9 → (p ≡ q → ⊥) → In x (numbered f rs ss p) → Apart x t b h
  pub free : (x : ℕ) → x < 32 → Out x rs' → Out x ss' → ((next_in m' q (x + 1) ≡ 0) × (prev_in m' q (x + 1) ≡ 0)) ⊎ (Apart x t b h × (Out x rs × Out x ss))

edit_queue : (m m' : List ℕ) (f : ℕ → ℕ) (rs ss rs' ss' : List ℕ) (q t b h : ℕ) → q < 9 → Stands m f rs ss → Edit m m' f rs ss rs' ss' q t b h
    → (p : ℕ) → p < 9 → HasQueue m' p (numbered f rs' ss' p)
edit_queue m m' f rs ss rs' ss' q t b h lq s d p lp = by_bool (eqb p q)
    (λ e. subst (λ n. HasQueue m' n (numbered f rs' ss' n)) (sym (eqb-true p q e)) d.queue)
    (λ e. let n : p ≡ q → ⊥ = λ same. both_values (eqb p q) (eq-eqb p q same) e in
    subst (λ xs. HasQueue m' p xs) (sym (d.others p lp n))
    (queue_stays m m' p q t b h (numbered f rs ss p) lp lq n d.stays (queues_of m f rs ss s p lp) (λ x i. d.apart p x lp n i)))

edit_stands : (m m' : List ℕ) (f : ℕ → ℕ) (rs ss rs' ss' : List ℕ) (q t b h : ℕ) → q < 9 → Once (rs' ++ ss') → ((x : ℕ) → In x rs' → f x < 8) → Stands m f rs ss → Edit m m' f rs ss rs' ss' q t b h
    → Stands m' f rs' ss'
edit_stands m m' f rs ss rs' ss' q t b h lq o eight s d =
    let stand : (p : ℕ) → p < 9 → HasQueue m' p (numbered f rs' ss' p) = edit_queue m m' f rs ss rs' ss' q t b h lq s d in
    record {
      once = o;
      priorities = eight;
      ready = λ p l. subst (λ xs. HasQueue m' p xs) (numbered_ready f rs' ss' p (not_eq p 8 (λ same. absurd (omega arith)))) (stand p (omega arith));
      sleepers = stand 8 (omega arith);
      next_none = λ x l a c. ap (λ n. get_or m' n 0) (sym (next_at q x)) ∙ ⊎_elim
          (λ z. z.0)
          (λ r. next_stays m m' q q t b h x lq d.stays r.0 ∙ ap (λ n. get_or m n 0) (next_at q x) ∙ s.next_none x l r.1.0 r.1.1)
          (d.free x l a c);
      prev_none = λ x l a c. ap (λ n. get_or m' n 0) (sym (prev_at q x)) ∙ ⊎_elim
          (λ z. z.1)
          (λ r. prev_stays m m' q q t b h x lq d.stays r.0 ∙ ap (λ n. get_or m n 0) (prev_at q x) ∙ s.prev_none x l r.1.0 r.1.1)
          (d.free x l a c);
    }

-- ---- the bytes that stay

elsewhere_next : (a q c : ℕ) → q < 9 → c ≤ 32 → Elsewhere a → a ≡ next_place q c → ⊥
elsewhere_next a q c lq lc w e = ⊎_elim (λ (l : a < 544). grind arith) (λ r. ⊎_elim (λ (p : (576 ≤ a) × (a < 1056)). let u = p.0 in let v = p.1 in grind arith) (λ (h : 2592 ≤ a). grind arith) r) w

elsewhere_prev : (a q c : ℕ) → q < 9 → c ≤ 32 → Elsewhere a → a ≡ prev_place q c → ⊥
elsewhere_prev a q c lq lc w e = ⊎_elim (λ (l : a < 544). grind arith) (λ r. ⊎_elim (λ (p : (576 ≤ a) × (a < 1056)). let u = p.0 in let v = p.1 in grind arith) (λ (h : 2592 ≤ a). grind arith) r) w

unused_next : (j q c : ℕ) → q < 9 → j < 14 → 562 + j ≡ next_place q c → ⊥
unused_next j q c lq lj e = grind arith

unused_prev : (j q c : ℕ) → q < 9 → j < 14 → 562 + j ≡ prev_place q c → ⊥
unused_prev j q c lq lj e = grind arith

row_next : (t o q c : ℕ) → q < 9 → o < 48 → (o ≡ 44 → ⊥) → (o ≡ 45 → ⊥) → 1056 + (48 * t + o) ≡ next_place q c → ⊥
row_next t o q c lq lo n n' e = grind arith

row_prev : (t o q c : ℕ) → q < 9 → o < 48 → (o ≡ 44 → ⊥) → (o ≡ 45 → ⊥) → 1056 + (48 * t + o) ≡ prev_place q c → ⊥
row_prev t o q c lq lo n n' e = grind arith

row_stays : (m m' : List ℕ) (q t b h s o : ℕ) → q < 9 → o < 48 → (o ≡ 44 → ⊥) → (o ≡ 45 → ⊥) → Stays m m' q t b h → get_or m' (1056 + (48 * s + o)) 0 ≡ get_or m (1056 + (48 * s + o)) 0
row_stays m m' q t b h s o lq lo n n' st =
    st (1056 + (48 * s + o)) (row_next s o q (t + 1) lq lo n n') (row_prev s o q (t + 1) lq lo n n') (row_next s o q b lq lo n n') (row_prev s o q h lq lo n n')

-- ---- what a call leaves

by_four : (P : ℕ → Type 0) → P 0 → P 1 → P 2 → P 3 → (j : ℕ) → j < 4 → P j
by_four P a b c d zero l = a
by_four P a b c d (suc zero) l = b
by_four P a b c d (suc (suc zero)) l = c
by_four P a b c d (suc (suc (suc zero))) l = d
by_four P a b c d (suc (suc (suc (suc j)))) l = absurd (omega arith)

relisted_fits : (m : List ℕ) (rs ss : List ℕ) → Fits (kernel_of m) → Fits (relisted m (kernel_of m).threads rs ss)
relisted_fits m rs ss f = record {
  app_rows = f.app_rows;
  module_rows = f.module_rows;
  function_rows = f.function_rows;
  thread_rows = f.thread_rows;
  threads = f.threads;
  mutex_rows = f.mutex_rows;
  mutexes = f.mutexes;
  condition_lists = f.condition_lists;
  conditions = f.conditions;
  line_lists = f.line_lists;
  lines = f.lines;
}

edit_relaid : (m m' : List ℕ) (rs' ss' : List ℕ) (q t b h : ℕ) → length m ≡ 65536 → All Small m → QueuesHold m → q < 9 → t < 32
    → Edit m m' (priority_in (kernel_of m).threads) (kernel_of m).ready (kernel_of m).sleepers rs' ss' q t b h → Stands m' (priority_in (kernel_of m).threads) rs' ss'
    → Relaid m m' (relisted m (kernel_of m).threads rs' ss')
edit_relaid m m' rs' ss' q t b h e small hold lq lt d st =
    let k : Kernel = kernel_of m in let k' : Kernel = relisted m k.threads rs' ss' in let f : ℕ → ℕ = priority_in k.threads in
    let stand : (p : ℕ) → p < 9 → HasQueue m' p (numbered f rs' ss' p) = queues_of m' f rs' ss' st in
    let lt' : t + 1 ≤ 32 = omega arith in
    let zero_at : (s o : ℕ) → 46 ≤ o → o < 48 → get_or m' (1056 + (48 * s + o)) 0 ≡ get_or m (1056 + (48 * s + o)) 0 = λ s o l lo.
    row_stays m m' q t b h s o lq lo (λ z. absurd (omega arith)) (λ z. absurd (omega arith)) d.stays in
    record {
      size = d.size;
      same = λ a w. d.stays a (elsewhere_next a q (t + 1) lq lt' w) (elsewhere_prev a q (t + 1) lq lt' w) (elsewhere_next a q b lq d.room.0 w) (elsewhere_prev a q h lq d.room.1 w);
      ends = ends_back m' k' d.size (λ p l. (stand p l).starts) (λ p l. (stand p l).ends)
          (λ j l. d.stays (562 + j) (unused_next j q (t + 1) lq l) (unused_prev j q (t + 1) lq l) (unused_next j q b lq l) (unused_prev j q h lq l) ∙ unused_byte m e small hold j l);
      rows = rows_back m' k' d.size (relisted_fits m rs' ss' (memory_fits_lem m e small))
          (λ s o l lo. row_stays m m' q t b h s o lq (omega arith) (λ z. absurd (omega arith)) (λ z. absurd (omega arith)) d.stays ∙ front_byte m e small hold s o l lo)
          (λ s j l lj. by_four (λ i. get_or m' (1056 + (48 * s + (44 + i))) 0 ≡ get_or (links_of k'.threads rs' ss' s) i 0)
          (next_back m' f rs' ss' st s l) (prev_back m' f rs' ss' st s l)
          (zero_at s 46 (omega arith) (omega arith) ∙ link_byte m e small hold s 2 l (omega arith))
          (zero_at s 47 (omega arith) (omega arith) ∙ link_byte m e small hold s 3 l (omega arith)) j lj);
    }

pub leaves_edit : (m m' : List ℕ) (rs' ss' : List ℕ) (q t b h : ℕ) → length m ≡ 65536 → All Small m → QueuesHold m → q < 9 → t < 32
    → HasQueues (relisted m (kernel_of m).threads rs' ss') → Edit m m' (priority_in (kernel_of m).threads) (kernel_of m).ready (kernel_of m).sleepers rs' ss' q t b h
    → Leaves m m' (relisted m (kernel_of m).threads rs' ss')
leaves_edit m m' rs' ss' q t b h e small hold lq lt lists d =
    let k : Kernel = kernel_of m in let f : ℕ → ℕ = priority_in k.threads in
    let st : Stands m' f rs' ss' = edit_stands m m' f k.ready k.sleepers rs' ss' q t b h lq (once_of (rs' ++ ss') lists.once)
    (λ x i. below_eight (f x) (all_in (λ y. f y ≤ 7) rs' lists.priorities x i)) (holds_stands m e small hold) d in
    leaves_relaid m m' k.threads rs' ss' e (relisted_fits m rs' ss' (memory_fits_lem m e small)) lists (edit_relaid m m' rs' ss' q t b h e small hold lq lt d st)

-- ---- the two edits

pub link_edit : (m : List ℕ) (f : ℕ → ℕ) (rs ss rs' ss' : List ℕ) (q t : ℕ) (ys zs : List ℕ) → length m ≡ 65536 → q < 9 → Stands m f rs ss
    → numbered f rs ss q ≡ ys ++ zs → numbered f rs' ss' q ≡ ys ++ t ∷ zs → ((p : ℕ) → p < 9 → (p ≡ q → ⊥) → numbered f rs' ss' p ≡ numbered f rs ss p)
    → Out t rs → Out t ss → Once (rs' ++ ss') → Below rs' → Below ss' → ((x : ℕ) → Out x rs' → Out x ss' → (x ≡ t → ⊥) × (Out x rs × Out x ss))
    → Edit m (linked m q t (last ys) (first zs)) f rs ss rs' ss' q t (last ys) (first zs)
link_edit m f rs ss rs' ss' q t ys zs e lq s old new others o1 o2 once b1 b2 free =
    let once' : Once (ys ++ t ∷ zs) = subst (λ xs. Once xs) new (once_numbered f rs' ss' q once) in
    let below : Below (ys ++ t ∷ zs) = subst (λ xs. Below xs) new (below_numbered f rs' ss' q b1 b2) in
    let back : Below (t ∷ zs) = below_back ys (t ∷ zs) below in
    record {
      size = length-linked m q t (last ys) (first zs) ∙ e;
      room = (last_low 0 ys (omega arith) (below_front ys (t ∷ zs) below), first_low zs back.1);
      stays = linked_stays m q t (last ys) (first zs);
      queue = subst (λ xs. HasQueue (linked m q t (last ys) (first zs)) q xs) (sym new)
          (linked_queue m q t ys zs e lq (subst (λ xs. HasQueue m q xs) old (queues_of m f rs ss s q lq)) once' below);
      others = others;
      apart = λ p x lp n i. next_to x t ys zs
          (λ same. out_in x (numbered f rs ss p) (subst (λ y. Out y (numbered f rs ss p)) (sym same) (out_numbered f rs ss t p o1 o2)) i)
          (λ j. one_alone f rs ss x p q s.once n i (subst (λ xs. In x xs) (sym old) j));
      free = λ x l a c. let r = free x a c in
          inr (next_to x t ys zs r.0 (λ j. out_in x (numbered f rs ss q) (out_numbered f rs ss x q r.1.0 r.1.1) (subst (λ xs. In x xs) (sym old) j)), r.1);
    }

in_both : (x t : ℕ) (ys zs : List ℕ) → In x (ys ++ zs) → In x (ys ++ t ∷ zs)
in_both x t [] zs i = inr i
in_both x t (y ∷ ys) zs i = ⊎_elim (λ e. inl e) (λ j. inr (in_both x t ys zs j)) i

pub unlink_edit : (m : List ℕ) (f : ℕ → ℕ) (rs ss rs' ss' : List ℕ) (q t : ℕ) (ys zs : List ℕ) → length m ≡ 65536 → q < 9 → Stands m f rs ss
    → numbered f rs ss q ≡ ys ++ t ∷ zs → numbered f rs' ss' q ≡ ys ++ zs → ((p : ℕ) → p < 9 → (p ≡ q → ⊥) → numbered f rs' ss' p ≡ numbered f rs ss p)
    → Below rs → Below ss → ((x : ℕ) → Out x rs' → Out x ss' → (x ≡ t) ⊎ (Out x rs × Out x ss))
    → Edit m (unlinked m q t (last ys) (first zs)) f rs ss rs' ss' q t (last ys) (first zs)
unlink_edit m f rs ss rs' ss' q t ys zs e lq s old new others b1 b2 free =
    let once' : Once (ys ++ t ∷ zs) = subst (λ xs. Once xs) old (once_numbered f rs ss q s.once) in
    let below : Below (ys ++ t ∷ zs) = subst (λ xs. Below xs) old (below_numbered f rs ss q b1 b2) in
    let back : Below (t ∷ zs) = below_back ys (t ∷ zs) below in let lt : t < 32 = back.0 in
    let lb : last ys ≤ 32 = last_low 0 ys (omega arith) (below_front ys (t ∷ zs) below) in let lh : first zs ≤ 32 = first_low zs back.1 in
    let m' : List ℕ = unlinked m q t (last ys) (first zs) in
    let mine : (x : ℕ) → In x (ys ++ zs) → In x (numbered f rs ss q) = λ x j. subst (λ xs. In x xs) (sym old) (in_both x t ys zs j) in
    let own : In t (numbered f rs ss q) = subst (λ xs. In t xs) (sym old) (in_back t ys (t ∷ zs) (inl (eq-eqb t t refl))) in
    let at : eqb (t + 1) (t + 1) ≡ true = eq-eqb (t + 1) (t + 1) refl in
    record {
      size = length-unlinked m q t (last ys) (first zs) ∙ e;
      room = (lb, lh);
      stays = unlinked_stays m q t (last ys) (first zs);
      queue = subst (λ xs. HasQueue m' q xs) (sym new) (unlinked_queue m q t ys zs e lq (subst (λ xs. HasQueue m q xs) old (queues_of m f rs ss s q lq)) once' below);
      others = others;
      apart = λ p x lp n i. next_to x t ys zs
          (λ same. one_alone f rs ss x p q s.once n i (subst (λ y. In y (numbered f rs ss q)) (sym same) own))
          (λ j. one_alone f rs ss x p q s.once n i (mine x j));
      free = λ x l a c. ⊎_elim
          (λ same. inl (
            ap (λ y. next_in m' q (y + 1)) same ∙ next_unlinked m q t (last ys) (first zs) (t + 1) e lq lt lb (omega arith)
                ∙ if_true (eqb (t + 1) (t + 1)) 0 (cond (eqb (t + 1) (last ys)) (first zs) (next_in m q (t + 1))) at,
            ap (λ y. prev_in m' q (y + 1)) same ∙ prev_unlinked m q t (last ys) (first zs) (t + 1) e lq lt lh (omega arith)
                ∙ if_true (eqb (t + 1) (t + 1)) 0 (cond (eqb (t + 1) (first zs)) (last ys) (prev_in m q (t + 1))) at,
          ))
          (λ r. inr (
            next_to x t ys zs
                (λ same. out_in x (numbered f rs ss q) (out_numbered f rs ss x q r.0 r.1) (subst (λ y. In y (numbered f rs ss q)) (sym same) own))
                (λ j. out_in x (numbered f rs ss q) (out_numbered f rs ss x q r.0 r.1) (mine x j)),
            r,
          ))
          (free x a c);
    }
