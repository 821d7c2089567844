-- The two images in memory.
use Rattle.std.proofs.Common.{◌≡◌, ℕ, ◌+◌, ◌-◌, ◌/◌, ◌%◌, ◌<◌, ◌≤◌, ◌⊎◌, true, false, List, [], ◌∷◌, length, get_or, refl, sym, ap, ◌∙◌, subst, inl, inr, arith}
use Rattle.std.specs.List.{flat_map}
use Rattle.std.proofs.lemmas.List.{same_lists, places}
use Rattle.flat_mem.specs.Bytes.{patch, word_bytes}
use Rattle.kernel_model.specs.declared.map.TheConstants.{CODE_POOL, DATA_POOL, DATA_POOL_END, TABLES_END}
use Rattle.kernel_model.specs.Bytes.{part}
use Rattle.kernel_model.specs.Layout.{sizes, split, tables}
use Rattle.code_model.specs.declared.object.Object.{Object}
use Rattle.place_model.specs.declared.places.Regions.{Regions}
use Rattle.load_model.specs.Domains.{Domain, code_length, region_length}
use Rattle.load_model.specs.Images.{placed_words, code_image, region_image}
use Rattle.load_model.specs.Loading.{ArePlaces}
use Rattle.reloc_loader.specs.Loading.{unmarked, HasImages}

-- ---- a write, byte by byte

patch-in : (m bs : List ℕ) (a k : ℕ) → k < length bs → a + length bs ≤ length m → get_or (patch m a bs) (a + k) 0 ≡ get_or bs k 0
unfolding patch
patch-in m bs a k h w = grind (arith, places)

patch-out : (m bs : List ℕ) (a x : ℕ) → a + length bs ≤ length m → (x < a) ⊎ (a + length bs ≤ x) → get_or (patch m a bs) x 0 ≡ get_or m x 0
unfolding patch
patch-out m bs a x w h = elim h [
  | inl below ↦ grind (arith, places)
  | inr above ↦ grind (arith, places)
]

patch-length : (m bs : List ℕ) (a : ℕ) → a + length bs ≤ length m → length (patch m a bs) ≡ length m
unfolding patch
patch-length m bs a h = grind (arith, places)

part-below : (m bs : List ℕ) (a b s : ℕ) → b + s ≤ a → a + length bs ≤ length m → part (patch m a bs) b s ≡ part m b s
unfolding patch part
part-below m bs a b s h w = same_lists _ _ (grind (arith, places)) (λ k d l. grind (arith, places))

-- the bytes of pieces of these sizes
abbrev total : List ℕ → ℕ
total [] = 0
total (s ∷ ss) = s + total ss

split-below : (ss : List ℕ) (base a : ℕ) (m bs : List ℕ) → base + total ss ≤ a → a + length bs ≤ length m → split ss base (patch m a bs) ≡ split ss base m
split-below [] base a m bs h w = refl
split-below (s ∷ ss) base a m bs h w =
    ap (λ p. p ∷ split ss (base + s) (patch m a bs)) (part-below m bs a base s (omega arith) w)
    ∙ ap (λ ps. part m base s ∷ ps) (split-below ss (base + s) a m bs (omega arith) w)

-- a write behind the tables
tables-below : (m bs : List ℕ) (a : ℕ) → TABLES_END ≤ a → a + length bs ≤ length m → tables (patch m a bs) ≡ tables m
unfolding tables
tables-below m bs a h w = split-below sizes 512 a m bs (omega arith) w

-- ---- both writes

-- the static part has the initialised bytes, and the region the static part
init_fits : (o : Object) → length o.init ≤ region_length o
init_fits o = omega arith

pub images_put : (m m1 m2 : List ℕ) (o : Object) (r : Regions) (code_words region_words : ℕ) → ArePlaces o r → length m ≡ 65536
    → ((d : Domain) → length (code_image d) ≡ code_length d.object)
    → ((d : Domain) → length d.object.init ≤ d.hi - d.lo → length (region_image d) ≡ d.hi - d.lo)
    → ((d : Domain) → length d.object.init ≤ d.hi - d.lo → (d.hi - d.lo) % 2 ≡ 0 → region_image d ≡ flat_map word_bytes (placed_words d false ((d.hi - d.lo) / 2)))
    → m1 ≡ patch m r.code_lo (flat_map word_bytes (placed_words (unmarked o r) true code_words)) → code_words ≡ length o.code
    → m2 ≡ patch m1 r.lo (flat_map word_bytes (placed_words (unmarked o r) false region_words)) → region_words ≡ (r.hi - r.lo) / 2
    → HasImages m m2 o r
unfolding code_image
images_put m m1 m2 o r n1 n2 p e code_sizes region_sizes all_words w1 s1 w2 s2 =
    let d : Domain = unmarked o r in
    let cs : List ℕ = code_image d in
    let rs : List ℕ = region_image d in
    let static : length o.init ≤ r.hi - r.lo = omega (arith, init_fits o, p.region_length) in
    let code_size : length cs ≡ code_length o = code_sizes d in
    let region_size : length rs ≡ r.hi - r.lo = region_sizes d static in
    let words : rs ≡ flat_map word_bytes (placed_words d false ((r.hi - r.lo) / 2)) = all_words d static (omega (arith, p.region_even, p.end_even)) in
    let e1 : m1 ≡ patch m r.code_lo cs = w1 ∙ ap (λ n. patch m r.code_lo (flat_map word_bytes (placed_words d true n))) s1 in
    let e2 : m2 ≡ patch m1 r.lo (flat_map word_bytes (placed_words d false ((r.hi - r.lo) / 2))) = w2 ∙ ap (λ n. patch m1 r.lo (flat_map word_bytes (placed_words d false n))) s2 in
    let code_room : r.code_lo + length cs ≤ 65536 = omega (arith, p.code_length, p.code_high, code_size) in
    let code_end : r.code_lo + length cs ≡ r.code_hi = omega (arith, p.code_length, code_size) in
    let code_low : CODE_POOL ≤ r.code_lo = p.code_low in
    let region_low : DATA_POOL ≤ r.lo = p.region_low in
    let region_high : r.hi ≤ DATA_POOL_END = p.region_high in
    let up : r.lo ≤ r.hi = omega (arith, p.region_length) in
    let region_end : r.lo + length rs ≡ r.hi = omega (arith, region_size, up) in
    let m1_size : length m1 ≡ 65536 = ap (λ n. length n) e1 ∙ patch-length m cs r.code_lo (omega arith) ∙ e in
    let is : m2 ≡ patch m1 r.lo rs = e2 ∙ ap (λ bs. patch m1 r.lo bs) (sym words) in
    let P : List ℕ → Type 0 = λ n. HasImages m n o r in
    let from_first : (x : ℕ) → (x < r.lo) ⊎ (r.hi ≤ x) → get_or (patch m1 r.lo rs) x 0 ≡ get_or m1 x 0 = λ x h.
    patch-out m1 rs r.lo x (omega arith) (subst (λ (b : ℕ). (x < r.lo) ⊎ (b ≤ x)) (sym region_end) h) in
    subst P (sym is) record {
      code = λ k l.
          from_first (r.code_lo + k) (inr (omega arith))
          ∙ ap (λ n. get_or n (r.code_lo + k) 0) e1
          ∙ patch-in m cs r.code_lo k l (omega arith);
      region = λ k l. patch-in m1 rs r.lo k l (omega arith);
      tables = tables-below m1 rs r.lo (omega arith) (omega arith) ∙ ap (λ n. tables n) e1 ∙ tables-below m cs r.code_lo (omega arith) (omega arith);
      others = λ a h.
          from_first a h.region
          ∙ ap (λ n. get_or n a 0) e1
          ∙ patch-out m cs r.code_lo a (omega arith) (subst (λ (b : ℕ). (a < r.code_lo) ⊎ (b ≤ a)) (sym code_end) h.code);
    }
