-- What the images are, word by word and byte by byte.
use Rattle.std.proofs.Common.{◌≡◌, ◌≢◌, ℕ, zero, suc, ◌+◌, ◌-◌, ◌*◌, ◌/◌, ◌%◌, ◌<◌, ◌≤◌, Bool, true, false, eqb, List, ◌++◌, length, get_or, replicate, map, refl, sym, ap, ◌∙◌, inl, inr, arith, length-append}
use Rattle.std.specs.Prelude.{if◌then◌else◌}
use Rattle.std.specs.List.{flat_map, range_with_len}
use Rattle.std.proofs.lemmas.Bool.{cases_eq, cases_lt}
use Rattle.std.proofs.lemmas.List.{length-replicate, ext_get_or, get_or_past, get_or_default, get_or-append_right, get_or_append_left}
use Rattle.std.proofs.lemmas.List.FromFn.{length-map-range_with_len, get_or-map-range_with_len}
use Rattle.flat_mem.specs.Bytes.{even, word_at, word_bytes}
use Rattle.code_model.specs.declared.parts.Reloc.{Reloc}
use Rattle.code_model.specs.declared.parts.RelKind.{RelKind}
use Rattle.code_model.specs.Relocs.{HasReloc, Unrelocated}
use Rattle.load_model.specs.Domains.{Domain, addend, code_length}
use Rattle.load_model.specs.Images.{added, init_word, placed_word, placed_words, code_image, half_of, placed_byte, region_image}
use Rattle.load_model.specs.Standing.{HasBytes, HasInitReloc, CodeImageLaw, RegionImageLaw}
use Rattle.load_model.proofs.Finding.{added-none, added-one}
use Rattle.load_model.proofs.WordLists.{bytes-length, low, high}

-- ---- placed words

placed-small : (d : Domain) (c : Bool) (i : ℕ) → placed_word d c i < 65536
unfolding placed_word
placed-small d c i = omega arith

words-length : (d : Domain) (c : Bool) (n : ℕ) → length (placed_words d c n) ≡ n
unfolding placed_words
words-length d c n = length-map-range_with_len (placed_word d c) 0 n

word-in : (d : Domain) (c : Bool) (n i : ℕ) → i < n → get_or (placed_words d c n) i 0 ≡ placed_word d c i
unfolding placed_words
word-in d c n i h = get_or-map-range_with_len (placed_word d c) 0 n i i 0 h (let e : 0 + i ≡ i = omega arith in e)

-- ---- a byte of a word

half-even : (w at : ℕ) → at % 2 ≡ 0 → half_of w at ≡ w % 256
half-even w at e = ap (λ (b : Bool). if b then w % 256 else w / 256) (let t : eqb (at % 2) 0 ≡ true = grind arith in t)

half-odd : (w at : ℕ) → at % 2 ≢ 0 → half_of w at ≡ w / 256
half-odd w at n = ap (λ (b : Bool). if b then w % 256 else w / 256) (let t : eqb (at % 2) 0 ≡ false = grind arith in t)

half-small : (w at : ℕ) → w < 65536 → half_of w at < 256
half-small w at h = elim (cases_eq (at % 2) 0) [
  | inl e ↦ omega (arith, half-even w at e)
  | inr n ↦ omega (arith, half-odd w at n)
]

-- byte k of words
byte-in : (ws : List ℕ) (k : ℕ) → get_or (flat_map word_bytes ws) k 0 ≡ half_of (get_or ws (k / 2) 0) k
byte-in ws k = elim (cases_eq (k % 2) 0) [
  | inl e ↦
      let place : k ≡ 2 * (k / 2) = omega arith in
      ap (λ (j : ℕ). get_or (flat_map word_bytes ws) j 0) place ∙ low ws (k / 2) ∙ sym (half-even (get_or ws (k / 2) 0) k e)
  | inr n ↦
      let place : k ≡ 2 * (k / 2) + 1 = omega arith in
      ap (λ (j : ℕ). get_or (flat_map word_bytes ws) j 0) place ∙ high ws (k / 2) ∙ sym (half-odd (get_or ws (k / 2) 0) k n)
]

-- ---- lengths and bytes

pub code-length : (d : Domain) → length (code_image d) ≡ code_length d.object
unfolding code_image
code-length d = bytes-length (placed_words d true (length d.object.code)) ∙ ap (λ n. 2 * n) (words-length d true (length d.object.code))

front : Domain → List ℕ
front d = map (placed_byte d) (range_with_len 0 (length d.object.init))

front-length : (d : Domain) → length (front d) ≡ length d.object.init
unfolding front
front-length d = length-map-range_with_len (placed_byte d) 0 (length d.object.init)

rest : Domain → List ℕ
rest d = replicate (d.hi - d.lo - length d.object.init) 0

pub region-length : (d : Domain) → length d.object.init ≤ d.hi - d.lo → length (region_image d) ≡ d.hi - d.lo
unfolding region_image front rest
region-length d h =
    let both : length (front d ++ rest d) ≡ length (front d) + length (rest d) = length-append (front d) (rest d) in
    let first : length (front d) ≡ length d.object.init = front-length d in
    let second : length (rest d) ≡ d.hi - d.lo - length d.object.init = length-replicate (d.hi - d.lo - length d.object.init) 0 in
    let all : length (front d ++ rest d) ≡ d.hi - d.lo = omega arith in
    all

zeroes : (n k : ℕ) → (let zs : List ℕ = replicate n 0 in get_or zs k 0) ≡ 0
zeroes zero k = refl
zeroes (suc n) zero = refl
zeroes (suc n) (suc k) = zeroes n k

from_fields : (a b : Reloc) → a.in_code ≡ b.in_code → a.kind ≡ b.kind → a.offset ≡ b.offset → a ≡ b
from_fields a b s t e =
    let m : Bool → RelKind → ℕ → Reloc = λ x y z. record { in_code = x; kind = y; offset = z } in
    ap (λ (x : Bool). m x a.kind a.offset) s ∙ (ap (λ (y : RelKind). m b.in_code y a.offset) t ∙ ap (λ (z : ℕ). m b.in_code b.kind z) e)

-- the relocation at a place of the list, by its fields
pub here : (rs : List Reloc) (c : Bool) (at k : ℕ) (r : Reloc) → k < length rs → (get_or rs k r).in_code ≡ c → (get_or rs k r).offset ≡ at
    → get_or rs k (record { in_code = c; kind = (get_or rs k r).kind; offset = at }) ≡ (record { in_code = c; kind = (get_or rs k r).kind; offset = at })
here rs c at k r l s e =
    let q : Reloc = record { in_code = c; kind = (get_or rs k r).kind; offset = at } in
    get_or_default rs k q r l ∙ from_fields (get_or rs k r) q s refl e

past-front : (d : Domain) (k : ℕ) → k < length d.object.init → k < length (region_image d)
unfolding region_image front rest
past-front d k h =
    let both : length (front d ++ rest d) ≡ length (front d) + length (rest d) = length-append (front d) (rest d) in
    let first : length (front d) ≡ length d.object.init = front-length d in
    let all : k < length (front d ++ rest d) = omega arith in
    all

within-region : (d : Domain) (k : ℕ) → k < d.hi - d.lo → k < length (region_image d)
unfolding region_image front rest
within-region d k h =
    let both : length (front d ++ rest d) ≡ length (front d) + length (rest d) = length-append (front d) (rest d) in
    let first : length (front d) ≡ length d.object.init = front-length d in
    let second : length (rest d) ≡ d.hi - d.lo - length d.object.init = length-replicate (d.hi - d.lo - length d.object.init) 0 in
    let all : k < length (front d ++ rest d) = omega arith in
    all

pub code-small : (d : Domain) (k : ℕ) → get_or (code_image d) k 0 < 256
unfolding code_image placed_words
code-small d k =
    let ws : List ℕ = placed_words d true (length d.object.code) in
    let all : (i : ℕ) → get_or ws i 0 < 65536 = λ i. elim (cases_lt i (length d.object.code)) [
      | inl l ↦ rw (word-in d true (length d.object.code) i l) (placed-small d true i)
      | inr g ↦ rw (get_or_past ws i 0 (let n : length ws ≡ length d.object.code = words-length d true (length d.object.code) in omega arith)) (omega arith)
    ] in
    rw (byte-in ws k) (half-small (get_or ws (k / 2) 0) k (all (k / 2)))

-- byte k of the region: an initialised byte as it is placed, or 0
front-byte : (d : Domain) (k : ℕ) → k < length d.object.init → get_or (region_image d) k 0 ≡ placed_byte d k
unfolding region_image front rest
front-byte d k h =
    get_or_append_left (front d) (rest d) 0 k (let n : length (front d) ≡ length d.object.init = front-length d in omega arith)
    ∙ get_or-map-range_with_len (placed_byte d) 0 (length d.object.init) k k 0 h (let e : 0 + k ≡ k = omega arith in e)

rest-byte : (d : Domain) (k : ℕ) → length d.object.init ≤ k → get_or (region_image d) k 0 ≡ 0
unfolding region_image front rest
rest-byte d k h =
    get_or-append_right (front d) (rest d) (length d.object.init) k 0 (front-length d) h
    ∙ zeroes (d.hi - d.lo - length d.object.init) (k - length d.object.init)

pub region-small : (d : Domain) (k : ℕ) → get_or (region_image d) k 0 < 256
unfolding placed_byte
region-small d k = elim (cases_lt k (length d.object.init)) [
  | inl l ↦ rw (front-byte d k l) (half-small (placed_word d false (k / 2)) k (placed-small d false (k / 2)))
  | inr g ↦ rw (rest-byte d k g) (omega arith)
]

-- ---- the code in memory

code-word : (d : Domain) (m : List ℕ) (at : ℕ) → d.code_lo % 2 ≡ 0 → HasBytes m d.code_lo (code_image d) → at < length d.object.code → word_at m (d.code_lo + 2 * at) ≡ placed_word d true at
unfolding code_image
code-word d m at e h l =
    let n : ℕ = length d.object.code in
    let ws : List ℕ = placed_words d true n in
    let size : length (code_image d) ≡ 2 * n = code-length d in
    let word : get_or ws at 0 ≡ placed_word d true at = word-in d true n at l in
    let small : placed_word d true at < 65536 = placed-small d true at in
    let first : get_or m (d.code_lo + 2 * at) 0 ≡ get_or ws at 0 % 256 = h (2 * at) (omega arith) ∙ low ws at in
    let second : get_or m (d.code_lo + (2 * at + 1)) 0 ≡ get_or ws at 0 / 256 = h (2 * at + 1) (omega arith) ∙ high ws at in
    let a : even (d.code_lo + 2 * at) ≡ d.code_lo + 2 * at = omega arith in
    let b : even (d.code_lo + 2 * at) + 1 ≡ d.code_lo + (2 * at + 1) = omega arith in
    let low' = ap (λ (k : ℕ). get_or m k 0) a ∙ first in
    let high' = ap (λ (k : ℕ). get_or m k 0) b ∙ second in
    omega (arith, low', high', word, small)

code-plain : (d : Domain) (at : ℕ) → at < length d.object.code → Unrelocated d.object.relocs at → placed_word d true at ≡ get_or d.object.code at 0
unfolding placed_word Unrelocated HasReloc
code-plain d at l u =
    let none : added d true (2 * at) ≡ 0 = added-none d true (2 * at) (λ k r l s e. u (get_or d.object.relocs k r).kind (k, l, here d.object.relocs true (2 * at) k r l s e)) in
    let small : get_or d.object.code at 0 < 65536 = d.object.form.words_small at in
    omega (arith, none, small)

code-moved : (d : Domain) (at : ℕ) (kind : RelKind) → HasReloc d.object.relocs at kind → placed_word d true at ≡ (get_or d.object.code at 0 + addend d kind) % 65536
unfolding placed_word HasReloc
code-moved d at kind h = ap (λ x. (get_or d.object.code at 0 + x) % 65536) (added-one d true (2 * at) kind h)

pub code-stands : CodeImageLaw
code-stands d m e h = record {
  plain = λ at l u. code-word d m at e h l ∙ code-plain d at l u;
  moved = λ at kind l r. code-word d m at e h l ∙ code-moved d at kind r;
}

-- ---- the region in memory

init-plain : (d : Domain) (at : ℕ) → ((kind : RelKind) → HasInitReloc d.object.relocs at kind → ⊥) → added d false at ≡ 0
unfolding HasInitReloc
init-plain d at u = added-none d false at (λ k r l s e. u (get_or d.object.relocs k r).kind (k, l, here d.object.relocs false at k r l s e))

-- no relocation reaches behind the initialised bytes
init-past : (d : Domain) (at : ℕ) → length d.object.init < at + 2 → added d false at ≡ 0
init-past d at h = added-none d false at (λ k r l s e.
    let fits : (get_or d.object.relocs k r).offset + 2 ≤ length d.object.init = (d.object.form.relocs_fit k r l).in_init s in
    omega (arith, fits, e, h))

plain-byte : (d : Domain) (k : ℕ) → added d false (2 * (k / 2)) ≡ 0 → placed_byte d k ≡ get_or d.object.init k 0
unfolding placed_byte placed_word
plain-byte d k none =
    let bs : List ℕ = d.object.init in
    let w : ℕ = placed_word d false (k / 2) in
    let first : get_or bs (2 * (k / 2)) 0 < 256 = d.object.form.bytes_small (2 * (k / 2)) in
    let second : get_or bs (2 * (k / 2) + 1) 0 < 256 = d.object.form.bytes_small (2 * (k / 2) + 1) in
    let word : w ≡ get_or bs (2 * (k / 2)) 0 + 256 * get_or bs (2 * (k / 2) + 1) 0 = omega (arith, none, first, second) in
    elim (cases_eq (k % 2) 0) [
      | inl e ↦
          let place : 2 * (k / 2) ≡ k = omega arith in
          let byte : get_or bs (2 * (k / 2)) 0 ≡ get_or bs k 0 = ap (λ (j : ℕ). get_or bs j 0) place in
          omega (arith, half-even w k e, word, first, second, byte)
      | inr n ↦
          let place : 2 * (k / 2) + 1 ≡ k = omega arith in
          let byte : get_or bs (2 * (k / 2) + 1) 0 ≡ get_or bs k 0 = ap (λ (j : ℕ). get_or bs j 0) place in
          omega (arith, half-odd w k n, word, first, second, byte)
    ]

region-moved : (d : Domain) (m : List ℕ) (at : ℕ) (kind : RelKind) → HasBytes m d.lo (region_image d) → HasInitReloc d.object.relocs at kind
    → get_or m (d.lo + at) 0 + 256 * get_or m (d.lo + at + 1) 0 ≡ (init_word d.object at + addend d kind) % 65536
unfolding HasInitReloc placed_byte placed_word
region-moved d m at kind h r =
    let q : Reloc = record { in_code = false; kind = kind; offset = at } in
    let is : get_or d.object.relocs r.0 q ≡ q = r.2 in
    let fits = d.object.form.relocs_fit r.0 q r.1 in
    let even_at : at % 2 ≡ 0 = sym (ap (λ (x : Reloc). x.offset % 2) is) ∙ fits.even in
    let inside : at + 2 ≤ length d.object.init = omega (arith, fits.in_init (ap (λ (x : Reloc). x.in_code) is), ap (λ (x : Reloc). x.offset) is) in
    let i : ℕ = at / 2 in
    let place : 2 * i ≡ at = omega arith in
    let i' : (at + 1) / 2 ≡ i = omega arith in
    let w : ℕ = placed_word d false i in
    let size : at + 1 < length (region_image d) = past-front d (at + 1) (omega arith) in
    let first : get_or m (d.lo + at) 0 ≡ w % 256 = h at (omega arith) ∙ front-byte d at (omega arith) ∙ half-even w at even_at in
    let over : d.lo + at + 1 ≡ d.lo + (at + 1) = omega arith in
    let second : get_or m (d.lo + at + 1) 0 ≡ w / 256 =
    ap (λ (j : ℕ). get_or m j 0) over
    ∙ h (at + 1) size ∙ front-byte d (at + 1) (omega arith)
    ∙ half-odd (placed_word d false ((at + 1) / 2)) (at + 1) (λ (e : (at + 1) % 2 ≡ 0). omega arith)
    ∙ ap (λ j. placed_word d false j / 256) i' in
    let word : w ≡ (init_word d.object at + addend d kind) % 65536 =
    ap (λ j. (init_word d.object j + added d false j) % 65536) place ∙ ap (λ x. (init_word d.object at + x) % 65536) (added-one d false at kind r) in
    let small : w < 65536 = placed-small d false i in
    omega (arith, first, second, word, small)

pub region-stands : RegionImageLaw
region-stands d m h = record {
  plain = λ k l u.
      let place : even k ≡ 2 * (k / 2) = omega arith in
      h k (past-front d k l) ∙ front-byte d k l ∙ plain-byte d k (ap (λ j. added d false j) (sym place) ∙ init-plain d (even k) u);
  moved = λ at kind r. region-moved d m at kind h r;
  rest = λ k g l. h k (within-region d k l) ∙ rest-byte d k g;
}

-- ---- the region as words

word-byte : (d : Domain) (n k : ℕ) → k / 2 < n → get_or (flat_map word_bytes (placed_words d false n)) k 0 ≡ half_of (placed_word d false (k / 2)) k
word-byte d n k h = byte-in (placed_words d false n) k ∙ ap (λ w. half_of w k) (word-in d false n (k / 2) h)

same-byte : (d : Domain) (k : ℕ) → get_or (region_image d) k 0 ≡ half_of (placed_word d false (k / 2)) k
unfolding placed_byte
same-byte d k = elim (cases_lt k (length d.object.init)) [
  | inl l ↦ front-byte d k l
  | inr g ↦
      let none : added d false (2 * (k / 2)) ≡ 0 = init-past d (2 * (k / 2)) (omega arith) in
      rest-byte d k g ∙ sym (plain-byte d k none ∙ get_or_past d.object.init k 0 g)
]

pub region-words : (d : Domain) → length d.object.init ≤ d.hi - d.lo → (d.hi - d.lo) % 2 ≡ 0 → region_image d ≡ flat_map word_bytes (placed_words d false ((d.hi - d.lo) / 2))
region-words d h e =
    let n : ℕ = (d.hi - d.lo) / 2 in
    let size : length (region_image d) ≡ d.hi - d.lo = region-length d h in
    let words : length (flat_map word_bytes (placed_words d false n)) ≡ 2 * n = bytes-length (placed_words d false n) ∙ ap (λ j. 2 * j) (words-length d false n) in
    let whole : 2 * n ≡ d.hi - d.lo = omega arith in
    ext_get_or 0 (region_image d) (flat_map word_bytes (placed_words d false n)) (size ∙ sym (words ∙ whole)) (λ k l.
    same-byte d k ∙ sym (word-byte d n k (omega arith)))
