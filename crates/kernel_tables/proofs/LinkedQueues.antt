-- A queue in memory: what is walked, a thread linked in, a thread linked out.
use Rattle.std.proofs.Common.{◌≡◌, ℕ, ◌+◌, ◌*◌, ◌<◌, ◌≤◌, suc, true, false, cond, eqb, List, [], ◌∷◌, ◌++◌, length, get_or, refl, sym, ap, ◌∙◌, subst, arith, ⊎_elim, inl, inr, append_assoc}
use Rattle.std.proofs.lemmas.Bool.{eqb-true, eq-eqb}
use Rattle.kernel_model.specs.Links.{taken, first, last_after, last, next_of, prev_of, walk}
use Rattle.kernel_model.specs.Members.{Out, In, Once, Below}
use Rattle.kernel_model.specs.Standing.{HasQueue, next_place, next_in, prev_in}
use Rattle.kernel_tables.specs.Linking.{linked, unlinked, walk_in}
use Rattle.kernel_model.proofs.LinkLemmas.{by_bool, if_true, if_false, not_eq, both_values, walk_back, linked_from, next_new, next_others, prev_new, prev_others, last_new, last_others, first_low, last_low}
use Rattle.kernel_model.proofs.ReadLemmas.{low}
use Rattle.kernel_model.proofs.RunLemmas.{cut_at}
use Rattle.kernel_tables.proofs.LinkBytes.{next_linked, prev_linked, next_unlinked, prev_unlinked}

-- ---- the walk

place_of : (q t : ℕ) → next_place q (t + 1) ≡ 1100 + 48 * t
place_of q t = grind arith

turned : (a b : ℕ) → eqb a b ≡ false → eqb b a ≡ false
turned a b e = grind arith

suc_same : (y x : ℕ) → suc x ≡ suc y → y ≡ x
suc_same y x e = omega arith

pub out_of : (y t : ℕ) (ys zs : List ℕ) → Out y (ys ++ t ∷ zs) → eqb y t ≡ false
out_of y t [] zs o = turned t y o.0
out_of y t (z ∷ ys) zs o = out_of y t ys zs o.1

differs : (y x z : ℕ) → eqb z y ≡ false → eqb z x ≡ true → eqb y x ≡ false
differs y x z o e = grind arith

out_member : (y x : ℕ) (xs : List ℕ) → Out y xs → In x xs → eqb y x ≡ false
out_member y x [] o i = absurd i
out_member y x (z ∷ xs) o i = ⊎_elim (λ e. differs y x z o.0 e) (λ j. out_member y x xs o.1 j) i

pub last_in : (y : ℕ) (ys : List ℕ) (x : ℕ) → suc x ≡ last (y ∷ ys) → In x (y ∷ ys)
last_in y [] x e = inl (eq-eqb y x (suc_same y x e))
last_in y (z ∷ ys) x e = inr (last_in z ys x e)

pub walked_queue : (m : List ℕ) (q : ℕ) (xs : List ℕ) → HasQueue m q xs → Once xs → Below xs → length xs ≤ 32 → walk_in m q ≡ xs
unfolding walk_in
walked_queue m q xs h o b l =
    let next : ℕ → ℕ = λ t. get_or m (1100 + 48 * t) 0 in
    ap (λ c. walk next 32 c) h.starts ∙ walk_back next xs 32 l b (linked_from next xs o (λ t i. ap (λ a. get_or m a 0) (sym (place_of q t)) ∙ h.nexts t i))

-- ---- members of a list with t in it

pub in_front : (x : ℕ) (ys zs : List ℕ) → In x ys → In x (ys ++ zs)
in_front x [] zs i = absurd i
in_front x (y ∷ ys) zs i = ⊎_elim (λ e. inl e) (λ j. inr (in_front x ys zs j)) i

pub in_back : (x : ℕ) (ys zs : List ℕ) → In x zs → In x (ys ++ zs)
in_back x [] zs i = i
in_back x (y ∷ ys) zs i = inr (in_back x ys zs i)

in_rest : (x t : ℕ) (ys zs : List ℕ) → eqb t x ≡ false → In x (ys ++ t ∷ zs) → In x (ys ++ zs)
in_rest x t [] zs n i = ⊎_elim (λ e. absurd (both_values (eqb t x) e n)) (λ j. j) i
in_rest x t (y ∷ ys) zs n i = ⊎_elim (λ e. inl e) (λ j. inr (in_rest x t ys zs n j)) i

in_more : (x t : ℕ) (ys zs : List ℕ) → In x (ys ++ zs) → In x (ys ++ t ∷ zs)
in_more x t [] zs i = inr i
in_more x t (y ∷ ys) zs i = ⊎_elim (λ e. inl e) (λ j. inr (in_more x t ys zs j)) i

-- t stands in neither part
pub out_front : (t : ℕ) (ys zs : List ℕ) → Once (ys ++ t ∷ zs) → Out t ys
out_front t [] zs o = tt
out_front t (y ∷ ys) zs o = (out_of y t ys zs o.0, out_front t ys zs o.1)

-- ---- the neighbours of t

-- the last of ys leads to t
next_last : (ys zs : List ℕ) (t x : ℕ) → Once (ys ++ t ∷ zs) → suc x ≡ last ys → next_of (ys ++ t ∷ zs) x ≡ suc t
next_last [] zs t x o e = absurd (omega arith)
next_last (y ∷ []) zs t x o e = if_true (eqb y x) (suc t) (next_of (t ∷ zs) x) (eq-eqb y x (suc_same y x e))
next_last (y ∷ y' ∷ ys) zs t x o e =
    if_false (eqb y x) (suc y') (next_of (y' ∷ ys ++ t ∷ zs) x) (out_member y x (y' ∷ ys ++ t ∷ zs) o.0 (in_front x (y' ∷ ys) (t ∷ zs) (last_in y' ys x e)))
    ∙ next_last (y' ∷ ys) zs t x o.1 e

-- ---- linked in

same_of : (x t : ℕ) → eqb (x + 1) (t + 1) ≡ true → x ≡ t
same_of x t g = grind arith

not_of : (x t : ℕ) → eqb (x + 1) (t + 1) ≡ false → eqb t x ≡ false
not_of x t g = grind arith

last_more : (p : ℕ) (ys : List ℕ) → 1 ≤ p → 1 ≤ last_after p ys
last_more p [] h = h
last_more p (y ∷ ys) h = last_more (suc y) ys (omega arith)

starts_in : (m m' : List ℕ) (q t h : ℕ) (ys zs : List ℕ) → next_in m q 0 ≡ first (ys ++ zs) → next_in m' q 0 ≡ cond (eqb 0 (last ys)) (t + 1) (cond (eqb 0 (t + 1)) h (next_in m q 0)) → next_in m' q 0 ≡ first (ys ++ t ∷ zs)
starts_in m m' q t h [] zs s e = e ∙ (let one : t + 1 ≡ suc t = omega arith in one)
starts_in m m' q t h (y ∷ ys) zs s e =
    let some : 1 ≤ last (y ∷ ys) = last_more (suc y) ys (omega arith) in
    e ∙ if_false (eqb 0 (last (y ∷ ys))) (t + 1) (cond (eqb 0 (t + 1)) h (next_in m q 0)) (not_eq 0 (last (y ∷ ys)) (λ z. (let n : 0 ≡ last (y ∷ ys) = z in absurd (omega arith))))
    ∙ if_false (eqb 0 (t + 1)) h (next_in m q 0) (not_eq 0 (t + 1) (λ z. absurd (omega arith))) ∙ s

nexts_in : (m m' : List ℕ) (q t x : ℕ) (ys zs : List ℕ) → HasQueue m q (ys ++ zs) → Once (ys ++ t ∷ zs) → In x (ys ++ t ∷ zs)
    → next_in m' q (x + 1) ≡ cond (eqb (x + 1) (last ys)) (t + 1) (cond (eqb (x + 1) (t + 1)) (first zs) (next_in m q (x + 1))) → next_in m' q (x + 1) ≡ next_of (ys ++ t ∷ zs) x
nexts_in m m' q t x ys zs h o i e = by_bool (eqb (x + 1) (last ys))
    (λ f. let at : x + 1 ≡ last ys = eqb-true (x + 1) (last ys) f in let one : t + 1 ≡ suc t = omega arith in let same : suc x ≡ last ys = omega (arith, at) in
    e ∙ if_true (eqb (x + 1) (last ys)) (t + 1) (cond (eqb (x + 1) (t + 1)) (first zs) (next_in m q (x + 1))) f ∙ one ∙ sym (next_last ys zs t x o same))
    (λ f. e ∙ if_false (eqb (x + 1) (last ys)) (t + 1) (cond (eqb (x + 1) (t + 1)) (first zs) (next_in m q (x + 1))) f ∙
    by_bool (eqb (x + 1) (t + 1))
    (λ g. let is : x ≡ t = same_of x t g in
    if_true (eqb (x + 1) (t + 1)) (first zs) (next_in m q (x + 1)) g ∙ sym (ap (λ z. next_of (ys ++ t ∷ zs) z) is ∙ next_new ys zs t (out_front t ys zs o)))
    (λ g. let not : eqb t x ≡ false = not_of x t g in
    if_false (eqb (x + 1) (t + 1)) (first zs) (next_in m q (x + 1)) g ∙ h.nexts x (in_rest x t ys zs not i)
    ∙ sym (next_others ys zs t x not (λ z. both_values (eqb (x + 1) (last ys)) (eq-eqb (x + 1) (last ys) (let w : suc x ≡ last ys = z in omega arith)) f))))

-- the head of zs leads back to t
prev_head : (ys zs : List ℕ) (t z : ℕ) → Once (ys ++ t ∷ z ∷ zs) → prev_of (ys ++ t ∷ z ∷ zs) z ≡ suc t
prev_head ys zs t z o =
    let split : (ys ++ t ∷ []) ++ z ∷ zs ≡ ys ++ t ∷ z ∷ zs = append_assoc ys (t ∷ []) (z ∷ zs) in
    let none : Out z (ys ++ t ∷ []) = out_front z (ys ++ t ∷ []) zs (subst (λ l. Once l) (sym split) o) in
    ap (λ l. prev_of l z) (sym split) ∙ prev_new 0 (ys ++ t ∷ []) zs z none ∙ last_new 0 ys t

prev_first : (ys zs : List ℕ) (t x : ℕ) → Once (ys ++ t ∷ zs) → suc x ≡ first zs → prev_of (ys ++ t ∷ zs) x ≡ suc t
prev_first ys [] t x o e = absurd (omega arith)
prev_first ys (z ∷ zs) t x o e = ap (λ w. prev_of (ys ++ t ∷ z ∷ zs) w) (sym (suc_same z x e)) ∙ prev_head ys zs t z o

ends_in : (m m' : List ℕ) (q t b : ℕ) (ys zs : List ℕ) → prev_in m q 0 ≡ last (ys ++ zs) → prev_in m' q 0 ≡ cond (eqb 0 (first zs)) (t + 1) (cond (eqb 0 (t + 1)) b (prev_in m q 0)) → prev_in m' q 0 ≡ last (ys ++ t ∷ zs)
ends_in m m' q t b ys [] s e = e ∙ (let one : t + 1 ≡ suc t = omega arith in one) ∙ sym (last_new 0 ys t)
ends_in m m' q t b ys (z ∷ zs) s e =
    e ∙ if_false (eqb 0 (suc z)) (t + 1) (cond (eqb 0 (t + 1)) b (prev_in m q 0)) (not_eq 0 (suc z) (λ w. absurd (omega arith)))
    ∙ if_false (eqb 0 (t + 1)) b (prev_in m q 0) (not_eq 0 (t + 1) (λ w. absurd (omega arith))) ∙ s ∙ sym (last_others 0 ys t z zs)

prevs_in : (m m' : List ℕ) (q t x : ℕ) (ys zs : List ℕ) → HasQueue m q (ys ++ zs) → Once (ys ++ t ∷ zs) → In x (ys ++ t ∷ zs)
    → prev_in m' q (x + 1) ≡ cond (eqb (x + 1) (first zs)) (t + 1) (cond (eqb (x + 1) (t + 1)) (last ys) (prev_in m q (x + 1))) → prev_in m' q (x + 1) ≡ prev_of (ys ++ t ∷ zs) x
prevs_in m m' q t x ys zs h o i e = by_bool (eqb (x + 1) (first zs))
    (λ f. let at : x + 1 ≡ first zs = eqb-true (x + 1) (first zs) f in let one : t + 1 ≡ suc t = omega arith in let same : suc x ≡ first zs = omega (arith, at) in
    e ∙ if_true (eqb (x + 1) (first zs)) (t + 1) (cond (eqb (x + 1) (t + 1)) (last ys) (prev_in m q (x + 1))) f ∙ one ∙ sym (prev_first ys zs t x o same))
    (λ f. e ∙ if_false (eqb (x + 1) (first zs)) (t + 1) (cond (eqb (x + 1) (t + 1)) (last ys) (prev_in m q (x + 1))) f ∙
    by_bool (eqb (x + 1) (t + 1))
    (λ g. let is : x ≡ t = same_of x t g in
    if_true (eqb (x + 1) (t + 1)) (last ys) (prev_in m q (x + 1)) g ∙ sym (ap (λ z. prev_of (ys ++ t ∷ zs) z) is ∙ prev_new 0 ys zs t (out_front t ys zs o)))
    (λ g. let not : eqb t x ≡ false = not_of x t g in
    if_false (eqb (x + 1) (t + 1)) (last ys) (prev_in m q (x + 1)) g ∙ h.prevs x (in_rest x t ys zs not i)
    ∙ sym (prev_others 0 ys zs t x not (λ z. both_values (eqb (x + 1) (first zs)) (eq-eqb (x + 1) (first zs) (let w : suc x ≡ first zs = z in omega arith)) f))))

pub below_front : (ys zs : List ℕ) → Below (ys ++ zs) → Below ys
below_front [] zs b = tt
below_front (y ∷ ys) zs b = (b.0, below_front ys zs b.1)

pub below_back : (ys zs : List ℕ) → Below (ys ++ zs) → Below zs
below_back [] zs b = b
below_back (y ∷ ys) zs b = below_back ys zs b.1

-- t linked in between ys and zs
pub linked_queue : (m : List ℕ) (q t : ℕ) (ys zs : List ℕ) → length m ≡ 65536 → q < 9 → HasQueue m q (ys ++ zs) → Once (ys ++ t ∷ zs) → Below (ys ++ t ∷ zs)
    → HasQueue (linked m q t (last ys) (first zs)) q (ys ++ t ∷ zs)
linked_queue m q t ys zs size l h o b =
    let back : Below (t ∷ zs) = below_back ys (t ∷ zs) b in let lt : t < 32 = back.0 in
    let lb : last ys ≤ 32 = last_low 0 ys (omega arith) (below_front ys (t ∷ zs) b) in let lh : first zs ≤ 32 = first_low zs back.1 in
    let m' : List ℕ = linked m q t (last ys) (first zs) in
    let member : (x : ℕ) → In x (ys ++ t ∷ zs) → x + 1 ≤ 32 = λ x i. (let w : x < 32 = low x (ys ++ t ∷ zs) b i in omega arith) in
    record {
      starts = starts_in m m' q t (first zs) ys zs h.starts (next_linked m q t (last ys) (first zs) 0 size l lt lb (omega arith));
      ends = ends_in m m' q t (last ys) ys zs h.ends (prev_linked m q t (last ys) (first zs) 0 size l lt lh (omega arith));
      nexts = λ x i. nexts_in m m' q t x ys zs h o i (next_linked m q t (last ys) (first zs) (x + 1) size l lt lb (member x i));
      prevs = λ x i. prevs_in m m' q t x ys zs h o i (prev_linked m q t (last ys) (first zs) (x + 1) size l lt lh (member x i));
    }

-- ---- linked out

-- in a list without t, the last of ys leads to the first of zs
next_joined : (ys zs : List ℕ) (x : ℕ) → Once (ys ++ zs) → suc x ≡ last ys → next_of (ys ++ zs) x ≡ first zs
next_joined [] zs x o e = absurd (omega arith)
next_joined (y ∷ []) zs x o e = if_true (eqb y x) (first zs) (next_of zs x) (eq-eqb y x (suc_same y x e))
next_joined (y ∷ y' ∷ ys) zs x o e =
    if_false (eqb y x) (suc y') (next_of (y' ∷ ys ++ zs) x) (out_member y x (y' ∷ ys ++ zs) o.0 (in_front x (y' ∷ ys) zs (last_in y' ys x e)))
    ∙ next_joined (y' ∷ ys) zs x o.1 e

prev_joined : (ys zs : List ℕ) (x : ℕ) → Once (ys ++ zs) → suc x ≡ first zs → prev_of (ys ++ zs) x ≡ last ys
prev_joined ys [] x o e = absurd (omega arith)
prev_joined ys (z ∷ zs) x o e = ap (λ w. prev_of (ys ++ z ∷ zs) w) (sym (suc_same z x e)) ∙ prev_new 0 ys zs z (out_front z ys zs o)

pub out_less : (x t : ℕ) (ys zs : List ℕ) → Out x (ys ++ t ∷ zs) → Out x (ys ++ zs)
out_less x t [] zs o = o.1
out_less x t (y ∷ ys) zs o = (o.0, out_less x t ys zs o.1)

once_less : (t : ℕ) (ys zs : List ℕ) → Once (ys ++ t ∷ zs) → Once (ys ++ zs)
once_less t [] zs o = o.1
once_less t (y ∷ ys) zs o = (out_less y t ys zs o.0, once_less t ys zs o.1)

pub out_back : (t : ℕ) (ys zs : List ℕ) → Once (ys ++ t ∷ zs) → Out t zs
out_back t [] zs o = o.0
out_back t (y ∷ ys) zs o = out_back t ys zs o.1

out_both : (t : ℕ) (ys zs : List ℕ) → Out t ys → Out t zs → Out t (ys ++ zs)
out_both t [] zs a b = b
out_both t (y ∷ ys) zs a b = (a.0, out_both t ys zs a.1 b)

not_t : (x t : ℕ) (ys zs : List ℕ) → Once (ys ++ t ∷ zs) → In x (ys ++ zs) → eqb t x ≡ false
not_t x t ys zs o i = out_member t x (ys ++ zs) (out_both t ys zs (out_front t ys zs o) (out_back t ys zs o)) i

off : (x t : ℕ) → eqb t x ≡ false → eqb (x + 1) (t + 1) ≡ false
off x t e = grind arith

starts_from : (m : List ℕ) (q t : ℕ) (ys zs : List ℕ) → next_in m q 0 ≡ first (ys ++ t ∷ zs) → cond (eqb 0 (last ys)) (first zs) (next_in m q 0) ≡ first (ys ++ zs)
starts_from m q t [] zs s = refl
starts_from m q t (y ∷ ys) zs s =
    let some : 1 ≤ last (y ∷ ys) = last_more (suc y) ys (omega arith) in
    if_false (eqb 0 (last (y ∷ ys))) (first zs) (next_in m q 0) (not_eq 0 (last (y ∷ ys)) (λ z. (let n : 0 ≡ last (y ∷ ys) = z in absurd (omega arith)))) ∙ s

last_end : (p : ℕ) (ys : List ℕ) → last_after p (ys ++ []) ≡ last_after p ys
last_end p [] = refl
last_end p (y ∷ ys) = last_end (suc y) ys

ends_from : (m : List ℕ) (q t : ℕ) (ys zs : List ℕ) → prev_in m q 0 ≡ last (ys ++ t ∷ zs) → cond (eqb 0 (first zs)) (last ys) (prev_in m q 0) ≡ last (ys ++ zs)
ends_from m q t ys [] s = sym (last_end 0 ys)
ends_from m q t ys (z ∷ zs) s = if_false (eqb 0 (suc z)) (last ys) (prev_in m q 0) (not_eq 0 (suc z) (λ w. absurd (omega arith))) ∙ s ∙ last_others 0 ys t z zs

starts_out : (m m' : List ℕ) (q t : ℕ) (ys zs : List ℕ) → next_in m q 0 ≡ first (ys ++ t ∷ zs) → next_in m' q 0 ≡ cond (eqb 0 (t + 1)) 0 (cond (eqb 0 (last ys)) (first zs) (next_in m q 0)) → next_in m' q 0 ≡ first (ys ++ zs)
starts_out m m' q t ys zs s e = e ∙ if_false (eqb 0 (t + 1)) 0 (cond (eqb 0 (last ys)) (first zs) (next_in m q 0)) (not_eq 0 (t + 1) (λ z. absurd (omega arith))) ∙ starts_from m q t ys zs s

ends_out : (m m' : List ℕ) (q t : ℕ) (ys zs : List ℕ) → prev_in m q 0 ≡ last (ys ++ t ∷ zs) → prev_in m' q 0 ≡ cond (eqb 0 (t + 1)) 0 (cond (eqb 0 (first zs)) (last ys) (prev_in m q 0)) → prev_in m' q 0 ≡ last (ys ++ zs)
ends_out m m' q t ys zs s e = e ∙ if_false (eqb 0 (t + 1)) 0 (cond (eqb 0 (first zs)) (last ys) (prev_in m q 0)) (not_eq 0 (t + 1) (λ z. absurd (omega arith))) ∙ ends_from m q t ys zs s

nexts_out : (m m' : List ℕ) (q t x : ℕ) (ys zs : List ℕ) → HasQueue m q (ys ++ t ∷ zs) → Once (ys ++ t ∷ zs) → In x (ys ++ zs)
    → next_in m' q (x + 1) ≡ cond (eqb (x + 1) (t + 1)) 0 (cond (eqb (x + 1) (last ys)) (first zs) (next_in m q (x + 1))) → next_in m' q (x + 1) ≡ next_of (ys ++ zs) x
nexts_out m m' q t x ys zs h o i e =
    let not : eqb t x ≡ false = not_t x t ys zs o i in
    e ∙ if_false (eqb (x + 1) (t + 1)) 0 (cond (eqb (x + 1) (last ys)) (first zs) (next_in m q (x + 1))) (off x t not) ∙
    by_bool (eqb (x + 1) (last ys))
    (λ f. let at : x + 1 ≡ last ys = eqb-true (x + 1) (last ys) f in let same : suc x ≡ last ys = omega (arith, at) in
    if_true (eqb (x + 1) (last ys)) (first zs) (next_in m q (x + 1)) f ∙ sym (next_joined ys zs x (once_less t ys zs o) same))
    (λ f. if_false (eqb (x + 1) (last ys)) (first zs) (next_in m q (x + 1)) f ∙ h.nexts x (in_more x t ys zs i)
    ∙ next_others ys zs t x not (λ z. both_values (eqb (x + 1) (last ys)) (eq-eqb (x + 1) (last ys) (let w : suc x ≡ last ys = z in omega arith)) f))

prevs_out : (m m' : List ℕ) (q t x : ℕ) (ys zs : List ℕ) → HasQueue m q (ys ++ t ∷ zs) → Once (ys ++ t ∷ zs) → In x (ys ++ zs)
    → prev_in m' q (x + 1) ≡ cond (eqb (x + 1) (t + 1)) 0 (cond (eqb (x + 1) (first zs)) (last ys) (prev_in m q (x + 1))) → prev_in m' q (x + 1) ≡ prev_of (ys ++ zs) x
prevs_out m m' q t x ys zs h o i e =
    let not : eqb t x ≡ false = not_t x t ys zs o i in
    e ∙ if_false (eqb (x + 1) (t + 1)) 0 (cond (eqb (x + 1) (first zs)) (last ys) (prev_in m q (x + 1))) (off x t not) ∙
    by_bool (eqb (x + 1) (first zs))
    (λ f. let at : x + 1 ≡ first zs = eqb-true (x + 1) (first zs) f in let same : suc x ≡ first zs = omega (arith, at) in
    if_true (eqb (x + 1) (first zs)) (last ys) (prev_in m q (x + 1)) f ∙ sym (prev_joined ys zs x (once_less t ys zs o) same))
    (λ f. if_false (eqb (x + 1) (first zs)) (last ys) (prev_in m q (x + 1)) f ∙ h.prevs x (in_more x t ys zs i)
    ∙ prev_others 0 ys zs t x not (λ z. both_values (eqb (x + 1) (first zs)) (eq-eqb (x + 1) (first zs) (let w : suc x ≡ first zs = z in omega arith)) f))

-- t linked out from between ys and zs
pub unlinked_queue : (m : List ℕ) (q t : ℕ) (ys zs : List ℕ) → length m ≡ 65536 → q < 9 → HasQueue m q (ys ++ t ∷ zs) → Once (ys ++ t ∷ zs) → Below (ys ++ t ∷ zs)
    → HasQueue (unlinked m q t (last ys) (first zs)) q (ys ++ zs)
unlinked_queue m q t ys zs size l h o b =
    let back : Below (t ∷ zs) = below_back ys (t ∷ zs) b in let lt : t < 32 = back.0 in
    let lb : last ys ≤ 32 = last_low 0 ys (omega arith) (below_front ys (t ∷ zs) b) in let lh : first zs ≤ 32 = first_low zs back.1 in
    let m' : List ℕ = unlinked m q t (last ys) (first zs) in
    let member : (x : ℕ) → In x (ys ++ zs) → x + 1 ≤ 32 = λ x i. (let w : x < 32 = low x (ys ++ t ∷ zs) b (in_more x t ys zs i) in omega arith) in
    record {
      starts = starts_out m m' q t ys zs h.starts (next_unlinked m q t (last ys) (first zs) 0 size l lt lb (omega arith));
      ends = ends_out m m' q t ys zs h.ends (prev_unlinked m q t (last ys) (first zs) 0 size l lt lh (omega arith));
      nexts = λ x i. nexts_out m m' q t x ys zs h o i (next_unlinked m q t (last ys) (first zs) (x + 1) size l lt lb (member x i));
      prevs = λ x i. prevs_out m m' q t x ys zs h o i (prev_unlinked m q t (last ys) (first zs) (x + 1) size l lt lh (member x i));
    }

-- what stands in t's links is its neighbours
pub neighbours : (m : List ℕ) (q t : ℕ) (ys zs : List ℕ) → HasQueue m q (ys ++ t ∷ zs) → Once (ys ++ t ∷ zs) → (prev_in m q (t + 1) ≡ last ys) × (next_in m q (t + 1) ≡ first zs)
neighbours m q t ys zs h o =
    let there : In t (ys ++ t ∷ zs) = in_back t ys (t ∷ zs) (inl (eq-eqb t t refl)) in let none : Out t ys = out_front t ys zs o in
    (h.prevs t there ∙ prev_new 0 ys zs t none, h.nexts t there ∙ next_new ys zs t none)

pub append_none : (xs : List ℕ) → xs ++ [] ≡ xs
append_none [] = refl
append_none (x ∷ xs) = ap (λ ys. x ∷ ys) (append_none xs)

-- t at the end
pub end_linked : (m : List ℕ) (q t b : ℕ) (xs : List ℕ) → length m ≡ 65536 → q < 9 → HasQueue m q xs → Once (xs ++ t ∷ []) → Below (xs ++ t ∷ []) → b ≡ prev_in m q 0 → HasQueue (linked m q t b 0) q (xs ++ t ∷ [])
end_linked m q t b xs size l h o k e =
    let h' : HasQueue m q (xs ++ []) = subst (λ ys. HasQueue m q ys) (sym (append_none xs)) h in
    subst (λ c. HasQueue (linked m q t c 0) q (xs ++ t ∷ [])) (sym (e ∙ h.ends)) (linked_queue m q t xs [] size l h' o k)

-- t at the front
pub front_linked : (m : List ℕ) (q t f : ℕ) (xs : List ℕ) → length m ≡ 65536 → q < 9 → HasQueue m q xs → Once (t ∷ xs) → Below (t ∷ xs) → f ≡ next_in m q 0 → HasQueue (linked m q t 0 f) q (t ∷ xs)
front_linked m q t f xs size l h o k e = subst (λ c. HasQueue (linked m q t 0 c) q (t ∷ xs)) (sym (e ∙ h.starts)) (linked_queue m q t [] xs size l h o k)

-- t taken out
pub taken_unlinked : (m : List ℕ) (q t b f : ℕ) (xs : List ℕ) → length m ≡ 65536 → q < 9 → HasQueue m q xs → Once xs → Below xs → In t xs → b ≡ prev_in m q (t + 1) → f ≡ next_in m q (t + 1) → HasQueue (unlinked m q t b f) q (taken xs t)
taken_unlinked m q t b f xs size l h o k i e g =
    let cut = cut_at xs t i in let ys = cut.0.0 in let zs = cut.0.1 in
    let whole : HasQueue m q (ys ++ t ∷ zs) = subst (λ u. HasQueue m q u) cut.1.0 h in
    let once : Once (ys ++ t ∷ zs) = subst (λ u. Once u) cut.1.0 o in
    let below : Below (ys ++ t ∷ zs) = subst (λ u. Below u) cut.1.0 k in
    let near = neighbours m q t ys zs whole once in
    subst (λ c. HasQueue (unlinked m q t c f) q (taken xs t)) (sym (e ∙ near.0))
    (subst (λ c. HasQueue (unlinked m q t (last ys) c) q (taken xs t)) (sym (g ∙ near.1))
    (subst (λ u. HasQueue (unlinked m q t (last ys) (first zs)) q u) (sym cut.1.1) (unlinked_queue m q t ys zs size l whole once below)))

pub end_room : (m : List ℕ) (q : ℕ) (xs : List ℕ) → HasQueue m q xs → Below xs → (prev_in m q 0 ≤ 32) × (next_in m q 0 ≤ 32)
end_room m q xs h b = (subst (λ c. c ≤ 32) (sym h.ends) (last_low 0 xs (omega arith) b), subst (λ c. c ≤ 32) (sym h.starts) (first_low xs b))

pub link_room : (m : List ℕ) (q t : ℕ) (xs : List ℕ) → HasQueue m q xs → Once xs → Below xs → In t xs → (prev_in m q (t + 1) ≤ 32) × (next_in m q (t + 1) ≤ 32)
link_room m q t xs h o k i =
    let cut = cut_at xs t i in let ys = cut.0.0 in let zs = cut.0.1 in
    let near = neighbours m q t ys zs (subst (λ u. HasQueue m q u) cut.1.0 h) (subst (λ u. Once u) cut.1.0 o) in
    let below : Below (ys ++ t ∷ zs) = subst (λ u. Below u) cut.1.0 k in
    (subst (λ c. c ≤ 32) (sym near.0) (last_low 0 ys (omega arith) (below_front ys (t ∷ zs) below)), subst (λ c. c ≤ 32) (sym near.1) (first_low zs (below_back ys (t ∷ zs) below).1))
