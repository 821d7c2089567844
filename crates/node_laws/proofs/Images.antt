-- Memory with a placed object's images: they are bytes, the code's stands in its place, and all else is as it was.
use Rattle.std.proofs.Common.{◌≡◌, ℕ, ◌+◌, ◌*◌, ◌-◌, ◌/◌, ◌<◌, ◌≤◌, ◌⊎◌, List, length, get_or, ◌∙◌, inl, inr, arith}
use Rattle.flat_mem.specs.Bytes.{patch}
use Rattle.machine_model.specs.Memory.{IsMemory, word_at}
use Rattle.load_model.specs.Domains.{Domain, code_length}
use Rattle.load_model.specs.Images.{code_image, region_image}
use Rattle.load_model.specs.Standing.{HasBytes}
use Rattle.load_model.specs.Loading.{with_images}
use Rattle.node_laws.proofs.Seeing.{SmallAll, length-patch, small-patch, above-patch, below-patch, in-patch}
use Rattle.kernel_model.specs.declared.map.TheConstants.{CODE_POOL, CODE_POOL_END, DATA_POOL, DATA_POOL_END, VECTORS}

-- a placed object's images, as long as its places, which lie in the pools
pub record IsImaged (d : Domain) : Type 0 where
  pub code_size : length (code_image d) ≡ code_length d.object
  pub region_size : length (region_image d) ≡ d.hi - d.lo
  pub code_small : (k : ℕ) → get_or (code_image d) k 0 < 256
  pub region_small : (k : ℕ) → get_or (region_image d) k 0 < 256
  pub code_low : CODE_POOL ≤ d.code_lo
  pub code_high : d.code_lo + code_length d.object ≤ CODE_POOL_END
  pub lo_low : DATA_POOL ≤ d.lo
  pub up : d.lo ≤ d.hi
  pub hi_high : d.hi ≤ DATA_POOL_END

with-code : (m : List ℕ) (d : Domain) → length m ≡ 65536 → IsImaged d → length (patch m d.code_lo (code_image d)) ≡ 65536
with-code m d e h = length-patch m (code_image d) d.code_lo (code_length d.object) h.code_size (omega (arith, h.code_high)) ∙ e

pub is-memory : (m : List ℕ) (d : Domain) → IsMemory m → IsImaged d → IsMemory (with_images m d)
unfolding SmallAll
is-memory m d h i =
    let size : length (patch m d.code_lo (code_image d)) ≡ 65536 = with-code m d h.bytes i in
    record {
      bytes = length-patch (patch m d.code_lo (code_image d)) (region_image d) d.lo (d.hi - d.lo) i.region_size
          (omega (arith, i.up, i.hi_high)) ∙ size;
      small = small-patch (patch m d.code_lo (code_image d)) (region_image d) d.lo
          (small-patch m (code_image d) d.code_lo h.small i.code_small) i.region_small;
    }

-- the code's bytes stand, since the region lies below
pub code-stands : (m : List ℕ) (d : Domain) → length m ≡ 65536 → IsImaged d → HasBytes (with_images m d) d.code_lo (code_image d)
code-stands m d e i k l =
    above-patch (patch m d.code_lo (code_image d)) (region_image d) d.lo (d.hi - d.lo) (d.code_lo + k) i.region_size
    (omega (arith, with-code m d e i, i.up, i.hi_high)) (omega (arith, i.up, i.hi_high, i.code_low))
    ∙ in-patch m (code_image d) d.code_lo k (omega (arith, i.code_high)) l

-- and so do the region's
pub region-stands : (m : List ℕ) (d : Domain) → length m ≡ 65536 → IsImaged d → HasBytes (with_images m d) d.lo (region_image d)
region-stands m d e i k l =
    in-patch (patch m d.code_lo (code_image d)) (region_image d) d.lo k (omega (arith, with-code m d e i, i.up, i.hi_high)) l

-- outside of both memory is as it was
pub beside-both : (m : List ℕ) (d : Domain) (a : ℕ) → length m ≡ 65536 → IsImaged d
    → (a < d.code_lo) ⊎ (d.code_lo + code_length d.object ≤ a) → (a < d.lo) ⊎ (d.hi ≤ a) → get_or (with_images m d) a 0 ≡ get_or m a 0
beside-both m d a e i h g = region g ∙ code h
  where
    region : (a < d.lo) ⊎ (d.hi ≤ a) → get_or (with_images m d) a 0 ≡ get_or (patch m d.code_lo (code_image d)) a 0
    region (inl l) = below-patch (patch m d.code_lo (code_image d)) (region_image d) d.lo a
        (omega (arith, with-code m d e i, i.up, i.hi_high)) l
    region (inr u) = above-patch (patch m d.code_lo (code_image d)) (region_image d) d.lo (d.hi - d.lo) a i.region_size
        (omega (arith, with-code m d e i, i.up, i.hi_high)) (omega (arith, i.up, u))

    code : (a < d.code_lo) ⊎ (d.code_lo + code_length d.object ≤ a) → get_or (patch m d.code_lo (code_image d)) a 0 ≡ get_or m a 0
    code (inl l) = below-patch m (code_image d) d.code_lo a (omega (arith, i.code_high)) l
    code (inr u) = above-patch m (code_image d) d.code_lo (code_length d.object) a i.code_size (omega (arith, i.code_high)) u

-- at and above the code pool's start that is outside of the code
pub beside-images : (m : List ℕ) (d : Domain) (a : ℕ) → length m ≡ 65536 → IsImaged d → CODE_POOL ≤ a
    → (a < d.code_lo) ⊎ (d.code_lo + code_length d.object ≤ a) → get_or (with_images m d) a 0 ≡ get_or m a 0
beside-images m d a e i u h = beside-both m d a e i h (inr (omega (arith, i.hi_high)))

-- so are the words above the code pool
pub high-words : (m : List ℕ) (d : Domain) (n : ℕ) → length m ≡ 65536 → IsImaged d → n < 14
    → word_at (with_images m d) (VECTORS + 2 * n) ≡ word_at m (VECTORS + 2 * n)
unfolding word_at
high-words m d n e i l =
    let low : get_or (with_images m d) ((VECTORS + 2 * n) / 2 * 2) 0 ≡ get_or m ((VECTORS + 2 * n) / 2 * 2) 0 =
    beside-images m d ((VECTORS + 2 * n) / 2 * 2) e i (omega arith) (inr (omega (arith, i.code_high))) in
    let high : get_or (with_images m d) ((VECTORS + 2 * n) / 2 * 2 + 1) 0 ≡ get_or m ((VECTORS + 2 * n) / 2 * 2 + 1) 0 =
    beside-images m d ((VECTORS + 2 * n) / 2 * 2 + 1) e i (omega arith) (inr (omega (arith, i.code_high))) in
    omega (arith, low, high)
