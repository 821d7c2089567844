-- What writes leave, as pieces put over a memory.
use Rattle.std.proofs.Common.{◌≡◌, ℕ, ◌+◌, ◌<◌, ◌≤◌, suc, sym, List, [], ◌∷◌, ◌++◌, length, take, drop, set, slice_set, ap, ◌∙◌, arith, append_assoc, take-append-drop, slice_index, drop-cons}
use Rattle.std.proofs.lemmas.List.{set_split, take_more_set, drop-set-lt, length-set, length-append, length-take-le, take_more}
use Rattle.std.proofs.Math.Seq.{set-append_seam}
use Rattle.flat_mem.specs.Bytes.{patch}

-- two bytes in a row
pub pair_as_patch : (m : List ℕ) (a x y : ℕ) → a + 1 < length m → slice_set (slice_set m a x) (a + 1) y ≡ patch m a (x ∷ y ∷ [])
unfolding patch
pair_as_patch m a x y h =
    let inside : a + 1 < length (set m a x) = rw length-set h in
    let here : a < length m = omega arith in
    let below : a < suc (a + 1) = omega arith in
    let past : suc (a + 1) ≡ a + 2 = omega arith in
    let split : slice_set (slice_set m a x) (a + 1) y ≡ take (a + 1) (set m a x) ++ y ∷ drop (suc (a + 1)) (set m a x) =
    set_split (set m a x) (a + 1) y inside in
    let front : take (a + 1) (set m a x) ≡ take a m ++ x ∷ [] = take_more_set m a x here in
    let back : drop (suc (a + 1)) (set m a x) ≡ drop (a + 2) m = drop-set-lt (suc (a + 1)) m a x below ∙ ap (λ n. drop n m) past in
    split ∙ ap (λ f. f ++ y ∷ drop (suc (a + 1)) (set m a x)) front ∙ ap (λ b. (take a m ++ x ∷ []) ++ y ∷ b) back
    ∙ append_assoc (take a m) (x ∷ []) (y ∷ drop (a + 2) m)

-- one byte more
pub patch_more : (m bs : List ℕ) (a x : ℕ) → a + length bs < length m → slice_set (patch m a bs) (a + length bs) x
    ≡ patch m a (bs ++ x ∷ [])
unfolding patch
patch_more m bs a x h =
    let n = a + length bs in let front : List ℕ = take a m ++ bs in let rest : List ℕ = drop (suc n) m in
    let here : a ≤ length m = omega arith in
    let long : length front ≡ n = length-append (take a m) bs ∙ ap (λ k. k + length bs) (length-take-le a m here) in
    let cut : drop n m ≡ slice_index m n ∷ rest = drop-cons m n 0 h in
    let whole : take a m ++ (bs ++ drop n m) ≡ front ++ slice_index m n ∷ rest = sym (append_assoc (take a m) bs (drop n m))
    ∙ ap (λ d. front ++ d) cut in
    let past : suc n ≡ a + length (bs ++ x ∷ []) = sym (ap (λ k. a + k) (length-append bs (x ∷ [])) ∙ omega arith) in
    ap (λ l. set l n x) whole ∙ ap (λ k. set (front ++ slice_index m n ∷ rest) k x) (sym long)
    ∙ set-append_seam front (slice_index m n) rest x
    ∙ append_assoc (take a m) bs (x ∷ rest) ∙ ap (λ l. take a m ++ l) (sym (append_assoc bs (x ∷ []) rest))
    ∙ ap (λ k. take a m ++ ((bs ++ x ∷ []) ++ drop k m)) past

-- no byte yet
pub patch_none : (m : List ℕ) (a : ℕ) → patch m a [] ≡ m
unfolding patch
patch_none m a = let same : a + 0 ≡ a = omega arith in ap (λ k. take a m ++ drop k m) same ∙ take-append-drop a m

-- the next one of the bytes, where the ones before it are put
pub one_more : (m now bs : List ℕ) (a i : ℕ) → now ≡ patch m a (take i bs) → i < length bs → a + length bs ≤ length m
    → slice_set now (a + i) (slice_index bs i) ≡ patch m a (take (i + 1) bs)
one_more m now bs a i is here fits =
    let le : i ≤ length bs = omega arith in let long : length (take i bs) ≡ i = length-take-le i bs le in
    let inside : a + length (take i bs) < length m = omega (arith, long) in
    ap (λ l. set l (a + i) (slice_index bs i)) is ∙ ap (λ k. set (patch m a (take i bs)) (a + k) (slice_index bs i)) (sym long)
    ∙ patch_more m (take i bs) a (slice_index bs i) inside
    ∙ ap (λ l. patch m a l) (sym (take_more bs i 0 here))
