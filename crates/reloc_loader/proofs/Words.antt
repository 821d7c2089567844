-- The words of a section in memory.
use Rattle.std.proofs.Common.{◌≡◌, ℕ, ◌+◌, ◌*◌, ◌%◌, ◌≤◌, Bool, List, [], ◌∷◌, ◌++◌, length, take, drop, map, refl, sym, ap, ◌∙◌, arith}
use Rattle.std.specs.Prelude.{Option, Some, None}
use Rattle.std.specs.List.{flat_map, range_with_len}
use Rattle.std.proofs.lemmas.List.{same_lists, places, append-nil, take-append-drop}
use Rattle.std.proofs.lemmas.List.FromFn.{map-range_with_len_more, length-map-range_with_len}
use Rattle.std.proofs.lemmas.Grind.{flat_map-append}
use Rattle.flat_mem.specs.Bytes.{patch, word_bytes, even}
use Rattle.code_model.specs.declared.parts.Reloc.{Reloc}
use Rattle.code_model.specs.declared.parts.RelKind.{RelKind}
use Rattle.load_model.specs.Domains.{Domain}
use Rattle.load_model.specs.Images.{added, added_by, section_word, placed_word, placed_words}
use Rattle.reloc_loader.specs.Sections.{FindsOn, added_of}

-- ---- one word

added_found : (d : Domain) (c : Bool) (at : ℕ) (found : Option RelKind) → FindsOn d.object.relocs c at found → added_of d found ≡ added d c at
unfolding added
added_found d c at None h = sym (ap (λ (f : Option Reloc). added_by d f) h)
added_found d c at (Some k) h = sym (ap (λ (f : Option Reloc). added_by d f) h)

pub word_placed : (d : Domain) (c : Bool) (i word value : ℕ) (found : Option RelKind) → word ≡ section_word d.object c i → FindsOn d.object.relocs c (2 * i) found
    → value ≡ (word + added_of d found) % 65536 → value ≡ placed_word d c i
unfolding placed_word
word_placed d c i word value found w f v = v ∙ ap (λ x. (x + added_of d found) % 65536) w ∙ ap (λ x. (section_word d.object c i + x) % 65536) (added_found d c (2 * i) found f)

pub word_put : (m m' : List ℕ) (at a v w : ℕ) → m' ≡ patch m (even a) (word_bytes v) → a ≡ at → at % 2 ≡ 0 → v ≡ w → m' ≡ patch m at (word_bytes w)
word_put m m' at a v w h e al s =
    let place : even a ≡ at = omega arith in
    h ∙ ap (λ k. patch m k (word_bytes v)) place ∙ ap (λ x. patch m at (word_bytes x)) s

-- ---- one more word

patch_patch : (m xs ys : List ℕ) (a b : ℕ) → b ≡ a + length xs → b + length ys ≤ length m → patch (patch m a xs) b ys ≡ patch m a (xs ++ ys)
unfolding patch
patch_patch m xs ys a b e w = same_lists _ _ (grind (arith, places)) (λ k d l. grind (arith, places))

bytes_length : (ws : List ℕ) → length (flat_map word_bytes ws) ≡ 2 * length ws
bytes_length [] = refl
bytes_length (w ∷ ws) = omega (arith, bytes_length ws)

words_length : (d : Domain) (c : Bool) (n : ℕ) → length (placed_words d c n) ≡ n
unfolding placed_words
words_length d c n = length-map-range_with_len (placed_word d c) 0 n

words_more : (d : Domain) (c : Bool) (i : ℕ) → flat_map word_bytes (placed_words d c (i + 1)) ≡ flat_map word_bytes (placed_words d c i) ++ word_bytes (placed_word d c i)
unfolding placed_words
words_more d c i =
    ap (λ ws. flat_map word_bytes ws) (map-range_with_len_more (placed_word d c) 0 i i (let e : 0 + i ≡ i = omega arith in e))
    ∙ flat_map-append word_bytes (map (placed_word d c) (range_with_len 0 i)) (placed_word d c i ∷ [])
    ∙ ap (λ bs. flat_map word_bytes (map (placed_word d c) (range_with_len 0 i)) ++ bs) (append-nil (word_bytes (placed_word d c i)))

pub section_more : (m m1 m2 : List ℕ) (d : Domain) (c : Bool) (at i : ℕ) → m1 ≡ patch m at (flat_map word_bytes (placed_words d c i)) → m2 ≡ patch m1 (at + 2 * i) (word_bytes (placed_word d c i))
    → at + 2 * i + 2 ≤ length m → m2 ≡ patch m at (flat_map word_bytes (placed_words d c (i + 1)))
section_more m m1 m2 d c at i e1 e2 l =
    let front : List ℕ = flat_map word_bytes (placed_words d c i) in
    let size : length front ≡ 2 * i = bytes_length (placed_words d c i) ∙ ap (λ k. 2 * k) (words_length d c i) in
    e2
    ∙ ap (λ n. patch n (at + 2 * i) (word_bytes (placed_word d c i))) e1
    ∙ patch_patch m front (word_bytes (placed_word d c i)) at (at + 2 * i) (omega arith) (omega arith)
    ∙ ap (λ bs. patch m at bs) (sym (words_more d c i))

pub section_none : (m : List ℕ) (d : Domain) (c : Bool) (at : ℕ) → m ≡ patch m at (flat_map word_bytes (placed_words d c 0))
unfolding patch placed_words
section_none m d c at = sym (ap (λ k. take at m ++ drop k m) (let same : at + 0 ≡ at = omega arith in same) ∙ take-append-drop at m)
