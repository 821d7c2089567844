-- One instruction stands at a place, of one to three words.
use Rattle.std.proofs.Common.{◌≡◌, ℕ, zero, suc, ◌≤◌, List, [], ◌∷◌, length, take, ap, sym, subst, arith}
use Rattle.std.proofs.lemmas.List.{length-take}
use Rattle.msp_encode.specs.declared.instr.Instr.{Instr}
use Rattle.msp_encode.specs.Spelling.{Spells}
use Rattle.msp_decode.proofs.Same.{one-instruction, same-length}
use Rattle.msp_decode.proofs.Complete.{length-words_after}
use Rattle.code_model.specs.Starts.{Begins}

-- an instruction has one to three words
pub size_least : (i : Instr) (ws : List ℕ) (n : ℕ) → Begins ws i n → 1 ≤ n
size_least i ws zero h = absurd h.1
size_least i ws (suc n) h = omega arith

pub size_most : (i : Instr) (ws : List ℕ) (n : ℕ) → Begins ws i n → n ≤ 3
size_most i [] zero h = omega arith
size_most i [] (suc n) h = absurd h.1
size_most i (w ∷ ws) zero h = omega arith
size_most i (w ∷ ws) (suc n) h = omega (arith, ap length h.1.1, length-take n ws, length-words_after i, h.0)

pub same_size : (i j : Instr) (ws : List ℕ) (m n : ℕ) → Begins ws i m → Begins ws j n → m ≡ n
same_size i j ws zero n g h = absurd g.1
same_size i j ws (suc m) zero g h = absurd h.1
same_size i j [] (suc m) (suc n) g h = absurd g.1
same_size i j (w ∷ ws) (suc m) (suc n) g h =
    omega (arith, same-length i j w (take m ws) (take n ws) g.1 h.1, length-take m ws, length-take n ws, g.0, h.0)

pub same_instr : (i j : Instr) (ws : List ℕ) (m n : ℕ) → Begins ws i m → Begins ws j n → i ≡ j
same_instr i j ws m n g h =
    let e : n ≡ m = sym (same_size i j ws m n g h) in
    one-instruction i j (take m ws) g.1 (subst (λ (k : ℕ). Spells j (take k ws)) e h.1)
