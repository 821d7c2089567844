-- Lines where instructions stand.
use Rattle.std.proofs.Common.{◌≡◌, ℕ, zero, suc, ◌+◌, ◌-◌, ◌≤◌, ◌<◌, List, [], ◌∷◌, length, take, drop, slice_index, get_or, nat_le, true, Option, None, Some, MatchOption, refl, sym, ap, subst, ◌∙◌, arith, rules}
use Rattle.std.proofs.lemmas.List.{length-take, drop_more, drop-drop}
use Rattle.msp_encode.specs.declared.instr.Instr.{Instr}
use Rattle.msp_encode.specs.Spelling.{Spells, words_after}
use Rattle.msp_decode.specs.Reading.{NoneBegins}
use Rattle.msp_decode.specs.Function.{reading, ReadingLaw}
use Rattle.msp_decode.specs.Laws.{OneInstruction, FirstWordDecides}
use Rattle.code_model.specs.declared.parts.Reloc.{Reloc}
use Rattle.code_model.specs.Starts.{Begins}
use Rattle.insert_model.specs.declared.line.Line.{Line}
use Rattle.msp_encode.specs.Spelled.{count}
use Rattle.insert_model.specs.Source.{line_at, with_line, lines_from}
use Rattle.insert_model.specs.Laws.{SizeLaw, LineLaw}

-- ---- sizes

spelled_size : (i : Instr) (ws : List ℕ) → Spells i ws → length ws ≡ count i
spelled_size i [] h = absurd h
spelled_size i (w ∷ ws) h = let e : length ws ≡ length (words_after i) = ap length h.1 in omega arith

pub size_law : SizeLaw
size_law code at i n h = omega (arith, spelled_size i (take n (drop at code)) h.1, length-take n (drop at code), h.0)

-- ---- what is read

same_two : (ws : List ℕ) (m : ℕ) → m ≤ length ws → m ≤ 2 → take m (slice_index ws 0 ∷ slice_index ws 1 ∷ []) ≡ take m ws
same_two ws zero h k = refl
same_two [] (suc m) h k = absurd (omega arith)
same_two (a ∷ ws) (suc zero) h k = refl
same_two (a ∷ []) (suc (suc m)) h k = absurd (omega arith)
same_two (a ∷ b ∷ ws) (suc (suc zero)) h k = refl
same_two (a ∷ b ∷ ws) (suc (suc (suc m))) h k = absurd (omega arith)

abbrev IsRead : ℕ → List ℕ → Option (Instr × ℕ) → Type 0
IsRead w ws r = MatchOption r (NoneBegins w) (λ x. (x.1 ≤ 3) × Spells x.0 (take x.1 (w ∷ slice_index ws 0 ∷ slice_index ws 1 ∷ [])))

abbrev of_size : Instr → ℕ → Option (Instr × ℕ)
of_size i n = Some (i, n)

same_pair : (i j : Instr) (m n : ℕ) → i ≡ j → m ≡ n → of_size i m ≡ of_size j n
same_pair i j m n e f = cc

module _ (one : OneInstruction) (decides : FirstWordDecides) where
  read_as : (w : ℕ) (ws : List ℕ) (r : Option (Instr × ℕ)) (i : Instr) (n : ℕ) → IsRead w ws r → Begins (w ∷ ws) i n → r ≡ of_size i n
  read_as w ws r i zero h b = absurd b.1
  read_as w ws None i (suc m) h b = absurd (h i (take m ws) b.1)
  read_as w ws (Some (j, zero)) i (suc m) h b = absurd h.1
  read_as w ws (Some (j, suc k)) i (suc m) h b =
      let xs : List ℕ = take k (slice_index ws 0 ∷ slice_index ws 1 ∷ []) in
      let e : length xs ≡ length (take m ws) = (decides i w (take m ws) xs b.1).0 (j, h.1) in
      let top : suc k ≤ 3 = h.0 in
      let inside : suc m ≤ length (w ∷ ws) = b.0 in
      let two : length (slice_index ws 0 ∷ slice_index ws 1 ∷ []) ≡ 2 = refl in
      let same : k ≡ m = omega (arith, length-take k (slice_index ws 0 ∷ slice_index ws 1 ∷ []), length-take m ws) in
      let words : xs ≡ take m ws = subst (λ (x : ℕ). take x (slice_index ws 0 ∷ slice_index ws 1 ∷ []) ≡ take m ws) (sym same) (same_two ws m (omega arith) (omega arith)) in
      let s : Spells j (w ∷ take m ws) = subst (λ (l : List ℕ). Spells j (w ∷ l)) words h.1 in
      same_pair j i (suc k) (suc m) (one j i (w ∷ take m ws) s b.1) (ap suc same)

-- ---- the lines behind

skipped : (relocs : List Reloc) (ws : List ℕ) (at m : ℕ) → lines_from relocs at m ws ≡ lines_from relocs (at + m) 0 (drop m ws)
unfolding lines_from
skipped relocs ws at zero = let e : at + 0 ≡ at = omega arith in subst (λ (x : ℕ). lines_from relocs at 0 ws ≡ lines_from relocs x 0 ws) (sym e) refl
skipped relocs [] at (suc m) = refl
skipped relocs (w ∷ ws) at (suc m) =
    let e : at + 1 + m ≡ at + suc m = omega arith in
    subst (λ (x : ℕ). lines_from relocs (at + 1) m ws ≡ lines_from relocs x 0 (drop m ws)) e (skipped relocs ws (at + 1) m)

taken : (relocs : List Reloc) (at have : ℕ) (i : Instr) (n : ℕ) (after : ℕ → List Line) → n ≤ have → with_line relocs at have (Some (i, n)) after ≡ line_at relocs at i ∷ after (n - 1)
taken relocs at have i n after h = let e : nat_le n have ≡ true = search rules in rw e refl

at_words : (one : OneInstruction) (decides : FirstWordDecides) (reads : ReadingLaw) (relocs : List Reloc) (w : ℕ) (ws : List ℕ) (at : ℕ) (i : Instr) (n : ℕ) → w < 65536 → Begins (w ∷ ws) i n
    → lines_from relocs at 0 (w ∷ ws) ≡ line_at relocs at i ∷ lines_from relocs (at + 1) (n - 1) ws
unfolding lines_from
at_words one decides reads relocs w ws at i n small b =
    let e : reading w (slice_index ws 0) (slice_index ws 1) ≡ of_size i n = read_as one decides w ws _ i n (reads w (slice_index ws 0) (slice_index ws 1) small) b in
    let inside : n ≤ length (w ∷ ws) = b.0 in
    rw e (taken relocs at (1 + length ws) i n (λ left. lines_from relocs (at + 1) left ws) (omega arith))

pub line_law : OneInstruction → FirstWordDecides → ReadingLaw → LineLaw
line_law one decides reads relocs code at i n small inside h =
    let cut : drop at code ≡ get_or code at 0 ∷ drop (at + 1) code = drop_more code at 0 inside in
    let b : Begins (get_or code at 0 ∷ drop (at + 1) code) i n = subst (λ (l : List ℕ). Begins l i n) cut h in
    let least : 1 ≤ n = omega (arith, size_law code at i n h) in
    let e : lines_from relocs at 0 (get_or code at 0 ∷ drop (at + 1) code) ≡ line_at relocs at i ∷ lines_from relocs (at + 1) (n - 1) (drop (at + 1) code) =
    at_words one decides reads relocs (get_or code at 0) (drop (at + 1) code) at i n (small at) b in
    let f : lines_from relocs (at + 1) (n - 1) (drop (at + 1) code) ≡ lines_from relocs (at + 1 + (n - 1)) 0 (drop (n - 1) (drop (at + 1) code)) = skipped relocs (drop (at + 1) code) (at + 1) (n - 1) in
    let g : drop (n - 1) (drop (at + 1) code) ≡ drop (at + 1 + (n - 1)) code = drop-drop (n - 1) (at + 1) code in
    let s : at + 1 + (n - 1) ≡ at + n = omega arith in
    let P : ℕ → Type 0 = λ x. lines_from relocs (at + 1) (n - 1) (drop (at + 1) code) ≡ lines_from relocs x 0 (drop x code) in
    let k : lines_from relocs (at + 1) (n - 1) (drop (at + 1) code) ≡ lines_from relocs (at + n) 0 (drop (at + n) code) =
    subst P s (f ∙ ap (λ (l : List ℕ). lines_from relocs (at + 1 + (n - 1)) 0 l) g) in
    ap (λ (l : List ℕ). lines_from relocs at 0 l) cut ∙ e ∙ ap (λ (ls : List Line). line_at relocs at i ∷ ls) k
