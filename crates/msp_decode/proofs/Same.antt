-- One first word and the same words behind it are one instruction, and all that follows from it.
use Rattle.std.proofs.Common.{◌≡◌, ℕ, zero, suc, ◌≤◌, List, [], ◌∷◌, ◌++◌, ◌⊎◌, inl, inr, length, take, get_or, Some, Ok, Err, refl, ap, sym, subst, ◌∙◌, arith}
use Rattle.std.proofs.lemmas.List.{length-append, length-take}
use Rattle.msp_encode.specs.declared.instr.Instr.{Instr}
use Rattle.msp_encode.specs.Spelling.{First, Spells, words_after}
use Rattle.msp_decode.specs.declared.reading.NoInstr.TheVariants.{Unknown, Short}
use Rattle.msp_decode.specs.Reading.{Leads, NeedsMore, Reads}
use Rattle.msp_decode.specs.Function.{read_instr}
use Rattle.msp_decode.specs.Laws.{OneInstruction, NoProperPrefix, OneReading}
use Rattle.msp_decode.proofs.Lists.{leads-itself}
use Rattle.msp_decode.proofs.Complete.{read_instr-complete, length-words_after}
use Rattle.msp_decode.proofs.Counts.{same-count}

same-instr : (i j : Instr) (w : ℕ) → First i w → First j w → words_after i ≡ words_after j → i ≡ j
same-instr i j w f g e =
    let w1 = get_or (words_after i) 0 0 in
    let w2 = get_or (words_after i) 1 0 in
    let lead : Leads (words_after i) (w1 ∷ w2 ∷ []) = leads-itself (words_after i) (length-words_after i) in
    let lead_too : Leads (words_after j) (w1 ∷ w2 ∷ []) = subst (λ (ws : List ℕ). Leads ws (w1 ∷ w2 ∷ [])) e lead in
    let by_i : read_instr w w1 w2 ≡ Some i = read_instr-complete i w w1 w2 f lead in
    let by_j : read_instr w w1 w2 ≡ Some j = read_instr-complete j w w1 w2 g lead_too in
    cc

pub one-instruction : OneInstruction
one-instruction i j [] s t = absurd s
one-instruction i j (w ∷ ws) s t = same-instr i j w s.0 t.0 (sym s.1 ∙ t.1)

-- as many words spell each instruction that a word begins
pub same-length : (i j : Instr) (w : ℕ) (ws xs : List ℕ) → Spells i (w ∷ ws) → Spells j (w ∷ xs) → length ws ≡ length xs
same-length i j w ws xs s t = ap length s.1 ∙ same-count i j w s.0 t.0 ∙ sym (ap length t.1)

empty : (xs : List ℕ) → length xs ≡ 0 → xs ≡ []
empty [] e = refl
empty (x ∷ xs) e = absurd (omega arith)

pub no-proper-prefix : NoProperPrefix
no-proper-prefix i j [] xs s t = absurd s
no-proper-prefix i j (w ∷ ws) xs s t = empty xs (omega (arith, same-length i j w ws (ws ++ xs) s t, length-append ws xs))

same-take : (i j : Instr) (w m n : ℕ) (after : List ℕ) → m ≤ length (w ∷ after) → n ≤ length (w ∷ after) → Spells i (take m (w ∷ after)) → Spells j (take n (w ∷ after)) → m ≡ n
same-take i j w zero n after h k s t = absurd s
same-take i j w (suc m) zero after h k s t = absurd t
same-take i j w (suc m) (suc n) after h k s t = omega (arith, same-length i j w (take m after) (take n after) s t, length-take m after, length-take n after)

pair : (i j : Instr) (m n : ℕ) → i ≡ j → m ≡ n → ◌≡◌ {A = Instr × ℕ} (i, m) (j, n)
pair i j m n e f = cc

one-ok : (w have : ℕ) (after : List ℕ) (x y : Instr × ℕ) → Reads w after have (Ok x) → Reads w after have (Ok y) → x ≡ y
one-ok w have after x y r s =
    let count : x.1 ≡ y.1 = same-take x.0 y.0 w x.1 y.1 after r.1 s.1 r.2 s.2 in
    let spelled : Spells y.0 (take x.1 (w ∷ after)) = subst (λ (n : ℕ). Spells y.0 (take n (w ∷ after))) (sym count) s.2 in
    let same : x.0 ≡ y.0 = one-instruction x.0 y.0 (take x.1 (w ∷ after)) r.2 spelled in
    pair x.0 y.0 x.1 y.1 same count

not-short : (w have n : ℕ) (after : List ℕ) (i : Instr) → n ≤ have → n ≤ length (w ∷ after) → Spells i (take n (w ∷ after)) → (have ≡ 0) ⊎ NeedsMore w have → ⊥
not-short w have zero after i h k s q = s
not-short w have (suc n) after i h k s (inl none) = omega arith
not-short w have (suc n) after i h k s (inr needs) = omega (arith, same-length i needs.0 w (take n after) needs.1.0 s needs.1.1.0, length-take n after, needs.1.1.1)

some-begins : (w n : ℕ) (after : List ℕ) (i : Instr) → Spells i (take n (w ∷ after)) → ((j : Instr) (ws : List ℕ) → Spells j (w ∷ ws) → ⊥) → ⊥
some-begins w zero after i s none = s
some-begins w (suc n) after i s none = none i (take n after) s

not-both : (w have : ℕ) → 1 ≤ have → ((j : Instr) (ws : List ℕ) → Spells j (w ∷ ws) → ⊥) → (have ≡ 0) ⊎ NeedsMore w have → ⊥
not-both w have h none (inl e) = omega arith
not-both w have h none (inr needs) = none needs.0 needs.1.0 needs.1.1.0

pub one-reading : OneReading
one-reading w after have (Ok x) (Ok y) r s = ap Ok (one-ok w have after x y r s)
one-reading w after have (Ok x) (Err Unknown) r s = absurd (some-begins w x.1 after x.0 r.2 s.1)
one-reading w after have (Ok x) (Err Short) r s = absurd (not-short w have x.1 after x.0 r.0 r.1 r.2 s)
one-reading w after have (Err Unknown) (Ok y) r s = absurd (some-begins w y.1 after y.0 s.2 r.1)
one-reading w after have (Err Unknown) (Err Unknown) r s = refl
one-reading w after have (Err Unknown) (Err Short) r s = absurd (not-both w have r.0 r.1 s)
one-reading w after have (Err Short) (Ok y) r s = absurd (not-short w have y.1 after y.0 s.0 s.1 s.2 r)
one-reading w after have (Err Short) (Err Unknown) r s = absurd (not-both w have s.0 s.1 r)
one-reading w after have (Err Short) (Err Short) r s = refl
