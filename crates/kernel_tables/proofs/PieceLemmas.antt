-- Words and lists, one after the other.
use Rattle.std.proofs.Common.{◌≡◌, ◌≢◌, ℕ, ◌+◌, ◌-◌, ◌*◌, ◌/◌, ◌%◌, ◌<◌, ◌≤◌, false, cond, eqb, suc, List, [], ◌∷◌, ◌++◌, length, take, drop, replicate, get_or, refl, ap, sym, ◌∙◌, arith, append_assoc, length-append}
use Rattle.std.proofs.lemmas.List.{append-nil, take_more, drop_more, drop-replicate, length-take-le, ext_get_or}
use Rattle.flat_mem.specs.Bytes.{patch, word_bytes, even}
use Rattle.kernel_model.specs.Bytes.{part, words_of, bytes_of, before_none, filled}
use Rattle.kernel_model.proofs.BytesLemmas.{length-bytes_of, length-part, length-words_of}
use Rattle.kernel_tables.proofs.Patches.{patch-patch}
use Rattle.std.proofs.lemmas.List.{take-append-drop}

pub bytes_of-append : (xs ys : List ℕ) → bytes_of (xs ++ ys) ≡ bytes_of xs ++ bytes_of ys
bytes_of-append [] ys = refl
bytes_of-append (x ∷ xs) ys = ap (λ bs. x % 256 ∷ x / 256 ∷ bs) (bytes_of-append xs ys)

pub patch_none : (m : List ℕ) (at : ℕ) → m ≡ patch m at []
unfolding patch
patch_none m at = sym (ap (λ k. take at m ++ drop k m) (let same : at + 0 ≡ at = omega arith in same) ∙ take-append-drop at m)

-- one more word
pub words_more : (m words : List ℕ) (at i v : ℕ) → i < length words → v ≡ get_or words i 0 → at % 2 ≡ 0 → at + 2 * length words ≤ length m
    → patch (patch m at (bytes_of (take i words))) (even (at + 2 * i)) (word_bytes v) ≡ patch m at (bytes_of (take (i + 1) words))
words_more m words at i v h e a w =
    let front : List ℕ = bytes_of (take i words) in
    let taken : length (take i words) ≡ i = length-take-le i words (omega arith) in
    let size : length front ≡ 2 * length (take i words) = length-bytes_of (take i words) in
    let place : even (at + 2 * i) ≡ at + length front = omega arith in
    let more : take (i + 1) words ≡ take i words ++ v ∷ [] = take_more words i 0 h ∙ ap (λ x. take i words ++ x ∷ []) (sym e) in
    patch-patch m front (word_bytes v) at (even (at + 2 * i)) place (omega arith)
    ∙ ap (λ bs. patch m at bs) (sym (bytes_of-append (take i words) (v ∷ [])))
    ∙ ap (λ ws. patch m at (bytes_of ws)) (sym more)

-- one more byte of a piece
part_more : (m : List ℕ) (at i n : ℕ) → i < n → at + n ≤ length m → part m (at + i) (n - i) ≡ get_or m (at + i) 0 ∷ part m (at + (i + 1)) (n - (i + 1))
unfolding part
part_more m at i n h w =
    let count : n - i ≡ suc (n - (i + 1)) = omega arith in
    let next : at + i + 1 ≡ at + (i + 1) = omega arith in
    ap (λ k. take k (drop (at + i) m)) count
    ∙ ap (λ d. take (suc (n - (i + 1))) d) (drop_more m (at + i) 0 (omega arith))
    ∙ ap (λ k. get_or m (at + i) 0 ∷ take (n - (i + 1)) (drop k m)) next

-- what a list's bytes are, of which some were read
pub record ReadSoFar (m : List ℕ) (at i n : ℕ) (xs : List ℕ) : Type 0 where
  pub count : length xs ≡ i
  pub so_far : before_none (part m at n) ≡ xs ++ before_none (part m (at + i) (n - i))

pub read_none : (m : List ℕ) (at n : ℕ) → ReadSoFar m at 0 n []
read_none m at n =
    let place : at + 0 ≡ at = omega arith in
    let left : n - 0 ≡ n = omega arith in
    record { count = refl; so_far = ap (λ a. before_none (part m a n)) (sym place) ∙ ap (λ k. before_none (part m (at + 0) k)) (sym left) }

pub read_more : (m : List ℕ) (at i n b : ℕ) (xs : List ℕ) → ReadSoFar m at i n xs → i < n → at + n ≤ length m → b ≡ get_or m (at + i) 0 → b ≢ 255 → ReadSoFar m at (i + 1) n (xs ++ b ∷ [])
read_more m at i n b xs h l w e ne =
    let test : eqb b 255 ≡ false = grind arith in
    let rest : List ℕ = part m (at + (i + 1)) (n - (i + 1)) in
    let head : before_none (part m (at + i) (n - i)) ≡ b ∷ before_none rest =
    ap (λ bs. before_none bs) (part_more m at i n l w ∙ ap (λ x. x ∷ rest) (sym e)) ∙ ap (λ t. cond t [] (b ∷ before_none rest)) test in
    let both : length (xs ++ b ∷ []) ≡ length xs + 1 = length-append xs (b ∷ []) in
    let count : length xs ≡ i = h.count in
    record {
      count = both ∙ ap (λ k. k + 1) count;
      so_far = h.so_far ∙ ap (λ ys. xs ++ ys) head ∙ sym (append_assoc xs (b ∷ []) (before_none rest));
    }

pub read_end : (m : List ℕ) (at i n b : ℕ) (xs : List ℕ) → ReadSoFar m at i n xs → i < n → at + n ≤ length m → b ≡ get_or m (at + i) 0 → b ≡ 255 → xs ≡ before_none (part m at n)
read_end m at i n b xs h l w e is =
    let rest : List ℕ = part m (at + (i + 1)) (n - (i + 1)) in
    let head : before_none (part m (at + i) (n - i)) ≡ [] =
    ap (λ bs. before_none bs) (part_more m at i n l w ∙ ap (λ x. x ∷ rest) (sym e ∙ is)) in
    sym (h.so_far ∙ ap (λ ys. xs ++ ys) head ∙ append-nil xs)

pub read_all : (m : List ℕ) (at i n : ℕ) (xs : List ℕ) → ReadSoFar m at i n xs → i ≡ n → xs ≡ before_none (part m at n)
unfolding part
read_all m at i n xs h e =
    let none : n - i ≡ 0 = omega arith in
    sym (h.so_far ∙ ap (λ k. xs ++ before_none (take k (drop (at + i) m))) none ∙ append-nil xs)

-- a list's bytes over bytes FF
pub filled_is : (n : ℕ) (ys xs : List ℕ) (k : ℕ) → ys ≡ xs → k ≡ length xs → ys ++ drop k (replicate n 255) ≡ filled n xs
unfolding filled
filled_is n ys xs k e h = ap (λ zs. zs ++ drop k (replicate n 255)) e ∙ ap (λ zs. xs ++ zs) (drop-replicate k n 255 ∙ ap (λ c. replicate (n - c) 255) h)

-- sixteen words, read one by one
pub sixteen_are : (m ws : List ℕ) (at : ℕ) → at + 32 ≤ length m → length ws ≡ 16 → ((k : ℕ) → k < 16 → get_or ws k 0 ≡ get_or (words_of (part m at 32)) k 0) → ws ≡ words_of (part m at 32)
sixteen_are m ws at h e f =
    let size : length (words_of (part m at 32)) ≡ 16 = length-words_of 16 (part m at 32) (length-part m at 32 h) in
    ext_get_or 0 ws (words_of (part m at 32)) (e ∙ sym size) (λ k l. f k (omega arith))

-- one write behind another
pub put_two : (m m1 m2 xs ys : List ℕ) (a b : ℕ) → m1 ≡ patch m a xs → m2 ≡ patch m1 b ys → b ≡ a + length xs → b + length ys ≤ length m → m2 ≡ patch m a (xs ++ ys)
put_two m m1 m2 xs ys a b e1 e2 h l = e2 ∙ ap (λ n. patch n b ys) e1 ∙ patch-patch m xs ys a b h l
