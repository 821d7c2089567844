-- Pieces of a memory after bytes were put over others.
use Rattle.std.proofs.Common.{◌≡◌, ℕ, ◌+◌, ◌-◌, ◌<◌, ◌≤◌, List, ◌++◌, length, take, drop, get_or, sym, ap, ◌∙◌, arith, All}
use Rattle.std.proofs.lemmas.List.{same_lists, places, drop-take, take-take, drop-drop, get_or-take, get_or-drop, ext_get_or}
use Rattle.flat_mem.specs.Bytes.{patch}
use Rattle.kernel_model.specs.Bytes.{part}
use Rattle.kernel_model.proofs.BytesLemmas.{length-part}
use Rattle.kernel_model.proofs.FitLemmas.{Small}
use Rattle.std.proofs.lemmas.List.Elements.{All-from_get_or}

pub length-patch : (m bs : List ℕ) (a : ℕ) → a + length bs ≤ length m → length (patch m a bs) ≡ length m
unfolding patch
length-patch m bs a h = grind (arith, places)

pub part-patch_same : (m bs : List ℕ) (a b s o : ℕ) → a ≡ b + o → o + length bs ≤ s → b + s ≤ length m → part (patch m a bs) b s ≡ patch (part m b s) o bs
unfolding patch part
part-patch_same m bs a b s o e h w = same_lists _ _ (grind (arith, places)) (λ k d l. grind (arith, places))

pub part-patch_before : (m bs : List ℕ) (a b s : ℕ) → b + s ≤ a → a + length bs ≤ length m → part (patch m a bs) b s ≡ part m b s
unfolding patch part
part-patch_before m bs a b s h w = same_lists _ _ (grind (arith, places)) (λ k d l. grind (arith, places))

pub part-patch_after : (m bs : List ℕ) (a b s : ℕ) → a + length bs ≤ b → b + s ≤ length m → part (patch m a bs) b s ≡ part m b s
unfolding patch part
part-patch_after m bs a b s h w = same_lists _ _ (grind (arith, places)) (λ k d l. grind (arith, places))

pub part-patch_all : (m bs : List ℕ) (a n : ℕ) → n ≡ length bs → a + n ≤ length m → part (patch m a bs) a n ≡ bs
unfolding patch part
part-patch_all m bs a n e w = same_lists _ _ (grind (arith, places)) (λ k d l. grind (arith, places))

-- two writes in a row are one
pub patch-patch : (m xs ys : List ℕ) (a b : ℕ) → b ≡ a + length xs → b + length ys ≤ length m → patch (patch m a xs) b ys ≡ patch m a (xs ++ ys)
unfolding patch
patch-patch m xs ys a b e w = same_lists _ _ (grind (arith, places)) (λ k d l. grind (arith, places))

-- a piece of a piece
pub part-part : (m : List ℕ) (b s o n : ℕ) → o + n ≤ s → part (part m b s) o n ≡ part m (b + o) n
unfolding part
part-part m b s o n h =
    let split_s : s ≡ o + (s - o) = omega arith in
    let within : n ≤ s - o = omega arith in
    ap (λ k. take n (drop o (take k (drop b m)))) split_s
    ∙ ap (λ d. take n d) (drop-take o (s - o) (drop b m))
    ∙ take-take n (s - o) (drop o (drop b m)) within
    ∙ ap (λ d. take n d) (drop-drop o b m)

-- ---- bytes

pub byte_in : (m : List ℕ) (at n i : ℕ) → i < n → get_or (part m at n) i 0 ≡ get_or m (at + i) 0
unfolding part
byte_in m at n i h = get_or-take n (drop at m) i 0 h ∙ get_or-drop at m i 0

-- pieces of the same bytes
pub part_same : (m m' : List ℕ) (a n : ℕ) → length m ≡ 65536 → length m' ≡ 65536 → a + n ≤ 65536 → ((i : ℕ) → i < n → get_or m' (a + i) 0 ≡ get_or m (a + i) 0) → part m' a n ≡ part m a n
part_same m m' a n e e' w h =
    let size : length (part m a n) ≡ n = length-part m a n (omega (arith, e, w)) in
    let size' : length (part m' a n) ≡ n = length-part m' a n (omega (arith, e', w)) in
    ext_get_or 0 (part m' a n) (part m a n) (size' ∙ sym size)
    (λ i l. let in' : i < n = omega (arith, size', l) in byte_in m' a n i in' ∙ h i in' ∙ sym (byte_in m a n i in'))

-- a byte before, behind and in what was put
pub kept_below : (m bs : List ℕ) (a k : ℕ) → k < a → a + length bs ≤ length m → get_or (patch m a bs) k 0 ≡ get_or m k 0
unfolding patch
kept_below m bs a k h l = grind (arith, places)

pub kept_above : (m bs : List ℕ) (a k : ℕ) → a + length bs ≤ k → a + length bs ≤ length m → get_or (patch m a bs) k 0 ≡ get_or m k 0
unfolding patch
kept_above m bs a k h l = grind (arith, places)

pub put_byte : (m bs : List ℕ) (a o : ℕ) → o < length bs → a + length bs ≤ length m → get_or (patch m a bs) (a + o) 0 ≡ get_or bs o 0
unfolding patch
put_byte m bs a o h l = grind (arith, places)

-- every byte of a memory is below 256
pub flat_small : (m : List ℕ) → ((k : ℕ) → get_or m k 0 < 256) → All Small m
flat_small m h = All-from_get_or Small m 0 (λ i l. h i)
