-- A table with the four rows of one application replaced.
use Rattle.std.proofs.Common.{◌≡◌, ◌≢◌, ℕ, ◌<◌, List, length, get_or, set, ap, sym, ◌∙◌, ⊎_elim, arith, length-set}
use Rattle.std.proofs.lemmas.Bool.{cases_eq}
use Rattle.std.proofs.lemmas.List.{get_or-set_same, get_or-set_other}
use Rattle.kernel_model.specs.Words.{app_of, identity}

abbrev pub four : {X : Type 0} → List X → (a : ℕ) → X → List X
four xs a v = set (set (set (set xs (identity a 0) v) (identity a 1) v) (identity a 2) v) (identity a 3) v

pub four_length : {X : Type 0} (xs : List X) (a : ℕ) (v : X) → length (four xs a v) ≡ length xs
four_length xs a v =
    length-set (set (set (set xs (identity a 0) v) (identity a 1) v) (identity a 2) v) (identity a 3) v
    ∙ length-set (set (set xs (identity a 0) v) (identity a 1) v) (identity a 2) v
    ∙ length-set (set xs (identity a 0) v) (identity a 1) v
    ∙ length-set xs (identity a 0) v

-- what has the value already has it after a row more
again : {X : Type 0} (xs : List X) (i j : ℕ) (v d : X) → i < length xs → get_or xs i d ≡ v → get_or (set xs j v) i d ≡ v
again xs i j v d h e = ⊎_elim
    (λ (q : i ≡ j). ap (λ (n : ℕ). get_or (set xs n v) i d) (sym q) ∙ get_or-set_same xs i v d h)
    (λ (q : i ≡ j → ⊥). get_or-set_other xs j i v d q ∙ e)
    (cases_eq i j)

here : {X : Type 0} (xs : List X) (i j : ℕ) (v d : X) → i < length xs → i ≡ j → get_or (set xs j v) i d ≡ v
here xs i j v d h q = ap (λ (n : ℕ). get_or (set xs n v) i d) (sym q) ∙ get_or-set_same xs i v d h

pub four_in : {X : Type 0} (xs : List X) (a i : ℕ) (v d : X) → i < length xs → app_of i ≡ a → get_or (four xs a v) i d ≡ v
four_in {X} xs a i v d h e =
    let x1 : List X = set xs (identity a 0) v in
    let x2 : List X = set x1 (identity a 1) v in
    let x3 : List X = set x2 (identity a 2) v in
    let l1 : length x1 ≡ length xs = length-set xs (identity a 0) v in
    let l2 : length x2 ≡ length x1 = length-set x1 (identity a 1) v in
    let l3 : length x3 ≡ length x2 = length-set x2 (identity a 2) v in
    ⊎_elim
    (λ (q : i ≡ identity a 3). here x3 i (identity a 3) v d (omega arith) q)
    (λ (n3 : i ≡ identity a 3 → ⊥). again x3 i (identity a 3) v d (omega arith) (⊎_elim
    (λ (q : i ≡ identity a 2). here x2 i (identity a 2) v d (omega arith) q)
    (λ (n2 : i ≡ identity a 2 → ⊥). again x2 i (identity a 2) v d (omega arith) (⊎_elim
    (λ (q : i ≡ identity a 1). here x1 i (identity a 1) v d (omega arith) q)
    (λ (n1 : i ≡ identity a 1 → ⊥). again x1 i (identity a 1) v d (omega arith) (here xs i (identity a 0) v d h (omega arith)))
    (cases_eq i (identity a 1))))
    (cases_eq i (identity a 2))))
    (cases_eq i (identity a 3))

pub four_out : {X : Type 0} (xs : List X) (a i : ℕ) (v d : X) → app_of i ≢ a → get_or (four xs a v) i d ≡ get_or xs i d
four_out {X} xs a i v d h =
    let x1 : List X = set xs (identity a 0) v in
    let x2 : List X = set x1 (identity a 1) v in
    let x3 : List X = set x2 (identity a 2) v in
    get_or-set_other x3 (identity a 3) i v d (λ q. h (omega arith))
    ∙ get_or-set_other x2 (identity a 2) i v d (λ q. h (omega arith))
    ∙ get_or-set_other x1 (identity a 1) i v d (λ q. h (omega arith))
    ∙ get_or-set_other xs (identity a 0) i v d (λ q. h (omega arith))
