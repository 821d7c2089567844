-- One byte of the block in memory, taken out and put back. Assumes `Logic`.
use Rattle.std.proofs.Common.{◌≡◌, ℕ, ◌+◌, ◌<◌, List, [], ◌∷◌, length, get_or, set, refl, sym, subst, ◌∙◌, length-set, w8}
use seplogic.Ra.Ura.{Ura}
use mir.Syntax.{ty_int}
use mir.Val.{vint}
use base.Logic.{ent}
use base.Fml.{Share, Fml, fsep, feq, fat}
use types.Logic.{Logic, sem}
use types.Kit.{‵, ◌⊛◌, ⋆, ◌$◌, ◌∵◌, !, qed, by, use1, use2, split, fsplit, fjoin, feq_i, feq_l, rewrite, done}
use denote.Memory.{part_at, shares}
use denote.Array.{Array}
use denote.ArrayMemory.{Array-apart, Array-whole}
use denote.Builtin.{u8}
use denote.Index.{row, others, takes, puts, puts_back, place_byte, place}
use denote.Plain.{uint_in, uint_out}

module _ {M : Type 1} {𝓤 : Ura M} (𝓛 : Logic 𝓤) (q : Share) (n : ℕ) (xs : List ℕ) (i b o : ℕ) where
  -- the bytes but for the i-th
  abbrev pub Rest : Fml
  Rest = others (shares u8) q xs i b o

  abbrev pub Cell : ℕ → Fml
  Cell x = fat q (ty_int w8) b (i + o) (vint w8 x)

  pub cell_out : length xs ≡ n → i < n → ent 𝓤 (sem 𝓛 (part_at (Array u8 n) q xs b o))
      (⋆ 𝓛 (‵ (Cell (get_or xs i 0)) ∷ ‵ Rest ∷ []))
  cell_out l inside =
      qed 𝓛 (‵ (part_at (Array u8 n) q xs b o) ∷ []) ∵
      use1 𝓛 (‵ (fsep (feq ℕ (length xs) n) (row u8 q xs b o))) (Array-apart 𝓛 u8 q tt n xs b o) $ fsplit ! $ feq_l ! (λ _.
      use1 𝓛 (‵ (part_at u8 q (get_or xs i 0) b (place 1 o i)) ⊛ ‵ Rest)
      (takes (shares u8) q 𝓛 xs i 0 b o (subst (λ (k : ℕ). i < k) (sym l) inside)) $ split ! $
      rewrite ! 0 (λ (k : ℕ). ‵ (part_at u8 q (get_or xs i 0) b k)) (place_byte o i) refl $
      use1 𝓛 (‵ (Cell (get_or xs i 0))) (uint_out 𝓛 q w8 (get_or xs i 0) b (i + o)) $ done !)

  pub cell_in : (x : ℕ) → length xs ≡ n → i < n → ent 𝓤 (⋆ 𝓛 (‵ (Cell x) ∷ ‵ Rest ∷ []))
      (sem 𝓛 (part_at (Array u8 n) q (set xs i x) b o))
  cell_in x l inside =
      qed 𝓛 (‵ (Cell x) ∷ ‵ Rest ∷ []) ∵
      use1 𝓛 (‵ (part_at u8 q x b (i + o))) (uint_in 𝓛 q w8 x b (i + o)) $
      rewrite ! 0 (λ (k : ℕ). ‵ (part_at u8 q x b k)) (sym (place_byte o i)) refl $
      use2 𝓛 (‵ (row u8 q (set xs i x) b o)) (puts (shares u8) q 𝓛 xs i x b o (subst (λ (k : ℕ). i < k) (sym l) inside)) $
      feq_i ! ℕ (length (set xs i x)) n (length-set xs i x ∙ l) $ fjoin ! $ by ! (Array-whole 𝓛 u8 q n (set xs i x) b o)

  pub cell_back : length xs ≡ n → i < n → ent 𝓤 (⋆ 𝓛 (‵ (Cell (get_or xs i 0)) ∷ ‵ Rest ∷ []))
      (sem 𝓛 (part_at (Array u8 n) q xs b o))
  cell_back l inside =
      qed 𝓛 (‵ (Cell (get_or xs i 0)) ∷ ‵ Rest ∷ []) ∵
      use1 𝓛 (‵ (part_at u8 q (get_or xs i 0) b (i + o))) (uint_in 𝓛 q w8 (get_or xs i 0) b (i + o)) $
      rewrite ! 0 (λ (k : ℕ). ‵ (part_at u8 q (get_or xs i 0) b k)) (sym (place_byte o i)) refl $
      use2 𝓛 (‵ (row u8 q xs b o)) (puts_back (shares u8) q 𝓛 xs i 0 b o (subst (λ (k : ℕ). i < k) (sym l) inside)) $
      feq_i ! ℕ (length xs) n l $ fjoin ! $ by ! (Array-whole 𝓛 u8 q n xs b o)
