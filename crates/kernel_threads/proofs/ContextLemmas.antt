-- Contexts that registers take, and words that are registers.
use Rattle.std.proofs.Common.{◌≡◌, ◌≢◌, ℕ, ◌+◌, ◌<◌, ◌%◌, Bool, List, length, get_or, set, eqb, ltb, cond, refl, sym, ap, ◌∙◌, arith, true, false, below_more}
use Rattle.std.proofs.lemmas.Grind.{common_steps}
use Rattle.std.proofs.lemmas.Bool.{eqb-true}
use Rattle.std.proofs.lemmas.Bool.Decides.{nat_tests}
use Rattle.std.proofs.lemmas.List.{set-get_or, get_or-set_same, get_or-set_other, length-set}
use Rattle.std.proofs.lemmas.List.{ext_get_or}
use Rattle.machine_model.specs.Memory.{even}
use Rattle.machine_model.specs.Context.{set_reg, IsContext}
use Rattle.kernel_threads.specs.Contexts.{taken}

-- an even number is as it was with bit 0 cleared
even_same : (n : ℕ) → n % 2 ≡ 0 → even n ≡ n
even_same n h = omega arith

pub context_taken : (c : List ℕ) → IsContext c → taken c ≡ c
unfolding taken
context_taken c h =
    ap (λ (x : ℕ). set (set (set c 0 x) 1 (even (get_or c 1 0))) 3 0) (even_same (get_or c 0 0) h.pc_even)
    ∙ ap (λ (xs : List ℕ). set (set xs 1 (even (get_or c 1 0))) 3 0) (set-get_or c 0 0)
    ∙ ap (λ (x : ℕ). set (set c 1 x) 3 0) (even_same (get_or c 1 0) h.sp_even)
    ∙ ap (λ (xs : List ℕ). set xs 3 0) (set-get_or c 1 0)
    ∙ ap (λ (x : ℕ). set c 3 x) (sym h.zero)
    ∙ set-get_or c 3 0

-- two lists of sixteen words that are the same at each number below 16
pub sixteen_same : (xs ys : List ℕ) → length xs ≡ 16 → length ys ≡ 16 → ((k : ℕ) → k < 16 → get_or xs k 0 ≡ get_or ys k 0) → xs ≡ ys
sixteen_same xs ys a b h = ext_get_or 0 xs ys (a ∙ sym b) (λ i l. h i (omega arith))

-- ---- what registers take one by one

-- the word that register n takes of v
taken_word : (n v : ℕ) → ℕ
taken_word n v = cond (ltb n 2) (even v) (cond (eqb n 3) 0 v)

taken_at : (c : List ℕ) (k : ℕ) → length c ≡ 16 → k < 16 → get_or (taken c) k 0 ≡ taken_word k (get_or c k 0)
unfolding taken taken_word
taken_at c k e h = grind (arith, nat_tests, common_steps)

reg_other : (r : List ℕ) (n v k : ℕ) → k ≢ n → get_or (set_reg r n v) k 0 ≡ get_or r k 0
unfolding set_reg
reg_other r n v k ne =
    elim (ltb n 2) as (λ (b : Bool). get_or (cond b (set r n (even v)) (cond (eqb n 3) r (set r n v))) k 0 ≡ get_or r k 0) [
      | true ↦ get_or-set_other r n k (even v) 0 ne
      | false ↦ elim (eqb n 3) as (λ (b : Bool). get_or (cond b r (set r n v)) k 0 ≡ get_or r k 0) [
        | true ↦ refl
        | false ↦ get_or-set_other r n k v 0 ne
      ]
    ]

reg_here : (r : List ℕ) (n v : ℕ) → length r ≡ 16 → n < 16 → get_or r 3 0 ≡ 0 → get_or (set_reg r n v) n 0 ≡ taken_word n v
unfolding set_reg taken_word
reg_here r n v e h z =
    elim (ltb n 2) as (λ (b : Bool). get_or (cond b (set r n (even v)) (cond (eqb n 3) r (set r n v))) n 0 ≡ cond b (even v) (cond (eqb n 3) 0 v)) [
      | true ↦ get_or-set_same r n (even v) 0 (omega arith)
      | false ↦
          (elim (eqb n 3) as (λ (b : Bool). eqb n 3 ≡ b → get_or (cond b r (set r n v)) n 0 ≡ cond b 0 v) [
            | true ↦ λ is. ap (λ i. get_or r i 0) (eqb-true n 3 is) ∙ z
            | false ↦ λ is. get_or-set_same r n v 0 (omega arith)
          ]) refl
    ]

-- registers below n took the words, and register n takes the next
pub take_more : (r c : List ℕ) (n w : ℕ) → IsContext r → length c ≡ 16 → n < 16 → w ≡ get_or c n 0 → ((k : ℕ) → k < n → get_or r k 0 ≡ get_or (taken c) k 0)
    → (k : ℕ) → k < n + 1 → get_or (set_reg r n w) k 0 ≡ get_or (taken c) k 0
take_more r c n w i e h is below =
    below_more (λ k. get_or (set_reg r n w) k 0 ≡ get_or (taken c) k 0) n
    (λ k l. let ne : k ≢ n = omega arith in reg_other r n w k ne ∙ below k l)
    (reg_here r n w i.words h i.zero ∙ ap (λ x. taken_word n x) is ∙ sym (taken_at c n e h))

length_taken : (c : List ℕ) → length (taken c) ≡ length c
unfolding taken
length_taken c = simp length-set

pub take_all : (r c : List ℕ) → IsContext r → length c ≡ 16 → ((k : ℕ) → k < 16 → get_or r k 0 ≡ get_or (taken c) k 0) → r ≡ taken c
take_all r c i e h = sixteen_same r (taken c) i.words (length_taken c ∙ e) h
