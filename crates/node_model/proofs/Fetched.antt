-- An instruction is fetched exactly where it is spelled.
use Rattle.std.proofs.Common.{◌≡◌, ℕ, zero, suc, ◌+◌, ◌<◌, ◌≤◌, List, [], ◌∷◌, take, Option, None, Some, MatchOption, refl, sym, subst, arith}
use Rattle.msp_encode.specs.declared.instr.Instr.{Instr}
use Rattle.msp_encode.specs.Spelling.{Spells}
use Rattle.msp_decode.specs.Function.{ReadingLaw, reading}
use Rattle.msp_decode.specs.Reading.{NoneBegins}
use Rattle.msp_decode.specs.Laws.{OneInstruction, NoProperPrefix}
use Rattle.machine_model.specs.Memory.{IsMemory, word_at, even}
use Rattle.machine_model.specs.Operands.{sum_of}
use Rattle.node_model.specs.Steps.{fetched}
use Rattle.node_model.specs.Laws.{FetchedLaw}

-- ---- three words begin with at most one instruction

IsEmpty : List ℕ → Type 0
IsEmpty [] = Unit {0}
IsEmpty (x ∷ xs) = ⊥

some-empty : (x : ℕ) (xs : List ℕ) → x ∷ xs ≡ [] → ⊥
unfolding IsEmpty
some-empty x xs e = subst IsEmpty (sym e) tt

same : OneInstruction → NoProperPrefix → (w a b : ℕ) (i j : Instr) (n k : ℕ) → n ≤ 3 → k ≤ 3
    → Spells i (take n (w ∷ a ∷ b ∷ [])) → Spells j (take k (w ∷ a ∷ b ∷ [])) → (i ≡ j) × (n ≡ k)
same one prefix w a b i j zero k ln lk hi hj = absurd hi
same one prefix w a b i j (suc n) zero ln lk hi hj = absurd hj
same one prefix w a b i j (suc zero) (suc zero) ln lk hi hj = (one i j (w ∷ []) hi hj, refl)
same one prefix w a b i j (suc zero) (suc (suc zero)) ln lk hi hj = absurd (some-empty a [] (prefix i j (w ∷ []) (a ∷ []) hi hj))
same one prefix w a b i j (suc zero) (suc (suc (suc zero))) ln lk hi hj =
    absurd (some-empty a (b ∷ []) (prefix i j (w ∷ []) (a ∷ b ∷ []) hi hj))
same one prefix w a b i j (suc (suc zero)) (suc zero) ln lk hi hj = absurd (some-empty a [] (prefix j i (w ∷ []) (a ∷ []) hj hi))
same one prefix w a b i j (suc (suc zero)) (suc (suc zero)) ln lk hi hj = (one i j (w ∷ a ∷ []) hi hj, refl)
same one prefix w a b i j (suc (suc zero)) (suc (suc (suc zero))) ln lk hi hj =
    absurd (some-empty b [] (prefix i j (w ∷ a ∷ []) (b ∷ []) hi hj))
same one prefix w a b i j (suc (suc (suc zero))) (suc zero) ln lk hi hj =
    absurd (some-empty a (b ∷ []) (prefix j i (w ∷ []) (a ∷ b ∷ []) hj hi))
same one prefix w a b i j (suc (suc (suc zero))) (suc (suc zero)) ln lk hi hj =
    absurd (some-empty b [] (prefix j i (w ∷ a ∷ []) (b ∷ []) hj hi))
same one prefix w a b i j (suc (suc (suc zero))) (suc (suc (suc zero))) ln lk hi hj = (one i j (w ∷ a ∷ b ∷ []) hi hj, refl)
same one prefix w a b i j (suc (suc (suc (suc n)))) k ln lk hi hj = absurd (omega arith)
same one prefix w a b i j n (suc (suc (suc (suc k)))) ln lk hi hj = absurd (omega arith)

-- ---- what is read

none-spells : (i : Instr) (n w a b : ℕ) → NoneBegins w → Spells i (take n (w ∷ a ∷ b ∷ [])) → ⊥
none-spells i zero w a b none h = h
none-spells i (suc n) w a b none h = none i (take n (a ∷ b ∷ [])) h

-- what three words are read as, as the law of reading has it
IsRead : (w a b : ℕ) → Option (Instr × ℕ) → Type 0
IsRead w a b o = MatchOption o (NoneBegins w) (λ x. (x.1 ≤ 3) × Spells x.0 (take x.1 (w ∷ a ∷ b ∷ [])))

pair-is : (x : Instr × ℕ) (i : Instr) (n : ℕ) → x.0 ≡ i → x.1 ≡ n → Some x ≡ Some (i, n)
pair-is x i n e f = subst (λ (j : Instr). Some x ≡ Some (j, n)) e (subst (λ (m : ℕ). Some x ≡ Some (x.0, m)) f refl)

from-read : OneInstruction → NoProperPrefix → (w a b : ℕ) (o : Option (Instr × ℕ)) → IsRead w a b o
    → (i : Instr) (n : ℕ) → (n ≤ 3) × Spells i (take n (w ∷ a ∷ b ∷ [])) → o ≡ Some (i, n)
unfolding IsRead
from-read one prefix w a b None none i n h = absurd (none-spells i n w a b none h.1)
from-read one prefix w a b (Some x) r i n h =
    let e : (x.0 ≡ i) × (x.1 ≡ n) = same one prefix w a b x.0 i x.1 n r.0 h.0 r.1 h.1 in
    pair-is x i n e.0 e.1

word-small : (m : List ℕ) (a : ℕ) → IsMemory m → word_at m a < 65536
unfolding word_at
word-small m a h = omega (arith, h.small (even a), h.small (even a + 1))

pub fetched-spelled : ReadingLaw → OneInstruction → NoProperPrefix → FetchedLaw
unfolding fetched IsRead
fetched-spelled law one prefix m pc i n h =
    let w : ℕ = word_at m pc in
    let a : ℕ = word_at m (sum_of pc 2) in
    let b : ℕ = word_at m (sum_of pc 4) in
    let read : IsRead w a b (reading w a b) = law w a b (word-small m pc h) in
    (λ e. subst (λ (o : Option (Instr × ℕ)). IsRead w a b o) e read, λ f. from-read one prefix w a b (reading w a b) read i n f)
