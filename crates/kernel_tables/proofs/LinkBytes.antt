-- The links of a memory after a thread was linked in or out.
use Rattle.std.proofs.Common.{◌≡◌, ℕ, ◌+◌, ◌<◌, ◌≤◌, false, cond, eqb, List, length, get_or, set, sym, ap, ◌∙◌, arith, length-set}
use Rattle.std.proofs.lemmas.List.{get_or-set_same, get_or-set_other}
use Rattle.std.proofs.lemmas.Bool.{eqb-true, eq-eqb}
use Rattle.kernel_model.specs.Standing.{next_place, prev_place, next_in, prev_in}
use Rattle.kernel_tables.specs.Linking.{linked, unlinked}
use Rattle.kernel_model.proofs.LinkLemmas.{by_bool, if_true, if_false, both_values}

-- ---- the places are distinct, and lie in a memory

next_next : (q c d : ℕ) → q < 9 → (c ≡ d → ⊥) → next_place q c ≡ next_place q d → ⊥
next_next q c d l n e = grind arith

next_prev : (q c d : ℕ) → next_place q c ≡ prev_place q d → ⊥
next_prev q c d e = grind arith

prev_prev : (q c d : ℕ) → q < 9 → (c ≡ d → ⊥) → prev_place q c ≡ prev_place q d → ⊥
prev_prev q c d l n e = grind arith

next_inside : (q c : ℕ) → q < 9 → c ≤ 32 → next_place q c < 65536
next_inside q c l h = grind arith

prev_inside : (q c : ℕ) → q < 9 → c ≤ 32 → prev_place q c < 65536
prev_inside q c l h = grind arith

apart : (a b : ℕ) → eqb a b ≡ false → a ≡ b → ⊥
apart a b e h = both_values (eqb a b) (eq-eqb a b h) e

-- ---- linked in

pub next_linked : (m : List ℕ) (q t b h c : ℕ) → length m ≡ 65536 → q < 9 → t < 32 → b ≤ 32 → c ≤ 32
    → next_in (linked m q t b h) q c ≡ cond (eqb c b) (t + 1) (cond (eqb c (t + 1)) h (next_in m q c))
unfolding linked
next_linked m q t b h c size l lt lb lc =
    let m1 : List ℕ = set m (next_place q (t + 1)) h in let m2 : List ℕ = set m1 (prev_place q (t + 1)) b in let m3 : List ℕ = set m2 (next_place q b) (t + 1) in
    let at : ℕ = next_place q c in let in' : at < 65536 = next_inside q c l lc in
    let size1 : length m1 ≡ length m = length-set m (next_place q (t + 1)) h in let size2 : length m2 ≡ length m1 = length-set m1 (prev_place q (t + 1)) b in
    get_or-set_other m3 (prev_place q h) at (t + 1) 0 (next_prev q c h) ∙ by_bool (eqb c b)
    (λ e. let same : c ≡ b = eqb-true c b e in
    ap (λ d. get_or (set m2 (next_place q d) (t + 1)) at 0) (sym same) ∙ get_or-set_same m2 at (t + 1) 0 (omega (arith, size, size1, size2, in')) ∙ sym (if_true (eqb c b) (t + 1) (cond (eqb c (t + 1)) h (next_in m q c)) e))
    (λ e. get_or-set_other m2 (next_place q b) at (t + 1) 0 (next_next q c b l (apart c b e))
    ∙ get_or-set_other m1 (prev_place q (t + 1)) at b 0 (next_prev q c (t + 1))
    ∙ by_bool (eqb c (t + 1))
    (λ f. let same : c ≡ t + 1 = eqb-true c (t + 1) f in
    ap (λ d. get_or (set m (next_place q d) h) at 0) (sym same) ∙ get_or-set_same m at h 0 (omega (arith, size, in')) ∙ sym (if_true (eqb c (t + 1)) h (next_in m q c) f))
    (λ f. get_or-set_other m (next_place q (t + 1)) at h 0 (next_next q c (t + 1) l (apart c (t + 1) f)) ∙ sym (if_false (eqb c (t + 1)) h (next_in m q c) f))
    ∙ sym (if_false (eqb c b) (t + 1) (cond (eqb c (t + 1)) h (next_in m q c)) e))

pub prev_linked : (m : List ℕ) (q t b h c : ℕ) → length m ≡ 65536 → q < 9 → t < 32 → h ≤ 32 → c ≤ 32
    → prev_in (linked m q t b h) q c ≡ cond (eqb c h) (t + 1) (cond (eqb c (t + 1)) b (prev_in m q c))
unfolding linked
prev_linked m q t b h c size l lt lh lc =
    let m1 : List ℕ = set m (next_place q (t + 1)) h in let m2 : List ℕ = set m1 (prev_place q (t + 1)) b in let m3 : List ℕ = set m2 (next_place q b) (t + 1) in
    let at : ℕ = prev_place q c in let in' : at < 65536 = prev_inside q c l lc in
    let size1 : length m1 ≡ length m = length-set m (next_place q (t + 1)) h in let size2 : length m2 ≡ length m1 = length-set m1 (prev_place q (t + 1)) b in
    let size3 : length m3 ≡ length m2 = length-set m2 (next_place q b) (t + 1) in
    by_bool (eqb c h)
    (λ e. let same : c ≡ h = eqb-true c h e in
    ap (λ d. get_or (set m3 (prev_place q d) (t + 1)) at 0) (sym same) ∙ get_or-set_same m3 at (t + 1) 0 (omega (arith, size, size1, size2, size3, in')) ∙ sym (if_true (eqb c h) (t + 1) (cond (eqb c (t + 1)) b (prev_in m q c)) e))
    (λ e. get_or-set_other m3 (prev_place q h) at (t + 1) 0 (prev_prev q c h l (apart c h e))
    ∙ get_or-set_other m2 (next_place q b) at (t + 1) 0 (λ x. next_prev q b c (sym x))
    ∙ by_bool (eqb c (t + 1))
    (λ f. let same : c ≡ t + 1 = eqb-true c (t + 1) f in
    ap (λ d. get_or (set m1 (prev_place q d) b) at 0) (sym same) ∙ get_or-set_same m1 at b 0 (omega (arith, size, size1, in')) ∙ sym (if_true (eqb c (t + 1)) b (prev_in m q c) f))
    (λ f. get_or-set_other m1 (prev_place q (t + 1)) at b 0 (prev_prev q c (t + 1) l (apart c (t + 1) f)) ∙ get_or-set_other m (next_place q (t + 1)) at h 0 (λ x. next_prev q (t + 1) c (sym x))
    ∙ sym (if_false (eqb c (t + 1)) b (prev_in m q c) f))
    ∙ sym (if_false (eqb c h) (t + 1) (cond (eqb c (t + 1)) b (prev_in m q c)) e))

-- ---- linked out

pub next_unlinked : (m : List ℕ) (q t b h c : ℕ) → length m ≡ 65536 → q < 9 → t < 32 → b ≤ 32 → c ≤ 32
    → next_in (unlinked m q t b h) q c ≡ cond (eqb c (t + 1)) 0 (cond (eqb c b) h (next_in m q c))
unfolding unlinked
next_unlinked m q t b h c size l lt lb lc =
    let m1 : List ℕ = set m (next_place q b) h in let m2 : List ℕ = set m1 (prev_place q h) b in let m3 : List ℕ = set m2 (next_place q (t + 1)) 0 in
    let at : ℕ = next_place q c in let in' : at < 65536 = next_inside q c l lc in
    let size1 : length m1 ≡ length m = length-set m (next_place q b) h in let size2 : length m2 ≡ length m1 = length-set m1 (prev_place q h) b in
    get_or-set_other m3 (prev_place q (t + 1)) at 0 0 (next_prev q c (t + 1)) ∙ by_bool (eqb c (t + 1))
    (λ e. let same : c ≡ t + 1 = eqb-true c (t + 1) e in
    ap (λ d. get_or (set m2 (next_place q d) 0) at 0) (sym same) ∙ get_or-set_same m2 at 0 0 (omega (arith, size, size1, size2, in')) ∙ sym (if_true (eqb c (t + 1)) 0 (cond (eqb c b) h (next_in m q c)) e))
    (λ e. get_or-set_other m2 (next_place q (t + 1)) at 0 0 (next_next q c (t + 1) l (apart c (t + 1) e))
    ∙ get_or-set_other m1 (prev_place q h) at b 0 (next_prev q c h)
    ∙ by_bool (eqb c b)
    (λ f. let same : c ≡ b = eqb-true c b f in
    ap (λ d. get_or (set m (next_place q d) h) at 0) (sym same) ∙ get_or-set_same m at h 0 (omega (arith, size, in')) ∙ sym (if_true (eqb c b) h (next_in m q c) f))
    (λ f. get_or-set_other m (next_place q b) at h 0 (next_next q c b l (apart c b f)) ∙ sym (if_false (eqb c b) h (next_in m q c) f))
    ∙ sym (if_false (eqb c (t + 1)) 0 (cond (eqb c b) h (next_in m q c)) e))

pub prev_unlinked : (m : List ℕ) (q t b h c : ℕ) → length m ≡ 65536 → q < 9 → t < 32 → h ≤ 32 → c ≤ 32
    → prev_in (unlinked m q t b h) q c ≡ cond (eqb c (t + 1)) 0 (cond (eqb c h) b (prev_in m q c))
unfolding unlinked
prev_unlinked m q t b h c size l lt lh lc =
    let m1 : List ℕ = set m (next_place q b) h in let m2 : List ℕ = set m1 (prev_place q h) b in let m3 : List ℕ = set m2 (next_place q (t + 1)) 0 in
    let at : ℕ = prev_place q c in let in' : at < 65536 = prev_inside q c l lc in
    let size1 : length m1 ≡ length m = length-set m (next_place q b) h in let size2 : length m2 ≡ length m1 = length-set m1 (prev_place q h) b in
    let size3 : length m3 ≡ length m2 = length-set m2 (next_place q (t + 1)) 0 in
    by_bool (eqb c (t + 1))
    (λ e. let same : c ≡ t + 1 = eqb-true c (t + 1) e in
    ap (λ d. get_or (set m3 (prev_place q d) 0) at 0) (sym same) ∙ get_or-set_same m3 at 0 0 (omega (arith, size, size1, size2, size3, in')) ∙ sym (if_true (eqb c (t + 1)) 0 (cond (eqb c h) b (prev_in m q c)) e))
    (λ e. get_or-set_other m3 (prev_place q (t + 1)) at 0 0 (prev_prev q c (t + 1) l (apart c (t + 1) e))
    ∙ get_or-set_other m2 (next_place q (t + 1)) at 0 0 (λ x. next_prev q (t + 1) c (sym x))
    ∙ by_bool (eqb c h)
    (λ f. let same : c ≡ h = eqb-true c h f in
    ap (λ d. get_or (set m1 (prev_place q d) b) at 0) (sym same) ∙ get_or-set_same m1 at b 0 (omega (arith, size, size1, in')) ∙ sym (if_true (eqb c h) b (prev_in m q c) f))
    (λ f. get_or-set_other m1 (prev_place q h) at b 0 (prev_prev q c h l (apart c h f)) ∙ get_or-set_other m (next_place q b) at h 0 (λ x. next_prev q b c (sym x))
    ∙ sym (if_false (eqb c h) b (prev_in m q c) f))
    ∙ sym (if_false (eqb c (t + 1)) 0 (cond (eqb c h) b (prev_in m q c)) e))
