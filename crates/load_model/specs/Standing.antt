-- What memory has where an image stands: the object's own words and bytes, and the relocated ones.
use Rattle.std.specs.Prelude.{◌≡◌, ℕ, ◌+◌, ◌-◌, ◌*◌, ◌%◌, ◌<◌, ◌≤◌, List, length, slice_index, false}
use Rattle.std.specs.List.{Contains}
use Rattle.flat_mem.specs.Bytes.{even, word_at}
use Rattle.code_model.specs.declared.parts.Reloc.{Reloc}
use Rattle.code_model.specs.declared.parts.RelKind.{RelKind}
use Rattle.code_model.specs.Relocs.{HasReloc, Unrelocated}
use Rattle.load_model.specs.Domains.{Domain, addend}
use Rattle.load_model.specs.Images.{init_word, code_image, region_image}

-- these bytes stand in memory from an address on
abbrev pub HasBytes : (m : List ℕ) → (at : ℕ) → List ℕ → Type 0
HasBytes m at bs = (k : ℕ) → k < length bs → slice_index m (at + k) ≡ slice_index bs k

-- the code's words stand in memory, relocated
pub record CodeStands (d : Domain) (m : List ℕ) : Type 0 where
  pub plain : (at : ℕ) → at < length d.object.code → Unrelocated d.object.relocs at → word_at m (d.code_lo + 2 * at) ≡ slice_index d.object.code at
  pub moved : (at : ℕ) (k : RelKind) → at < length d.object.code → HasReloc d.object.relocs at k
      → word_at m (d.code_lo + 2 * at) ≡ (slice_index d.object.code at + addend d k) % 65536

-- the word at this offset of the initialised bytes has a relocation of this kind
unfoldable pub HasInitReloc : List Reloc → (offset : ℕ) → RelKind → Type 0
HasInitReloc relocs at k = Contains relocs (record { in_code = false; kind = k; offset = at })

-- the initialised bytes stand in memory, relocated, and 0 in the rest of the region
pub record RegionStands (d : Domain) (m : List ℕ) : Type 0 where
  pub plain : (k : ℕ) → k < length d.object.init → ((kind : RelKind) → HasInitReloc d.object.relocs (even k) kind → ⊥)
      → slice_index m (d.lo + k) ≡ slice_index d.object.init k
  pub moved : (at : ℕ) (kind : RelKind) → HasInitReloc d.object.relocs at kind
      → slice_index m (d.lo + at) + 256 * slice_index m (d.lo + at + 1) ≡ (init_word d.object at + addend d kind) % 65536
  pub rest : (k : ℕ) → length d.object.init ≤ k → k < d.hi - d.lo → slice_index m (d.lo + k) ≡ 0

-- ---- the laws

abbrev pub CodeImageLaw : Type 0
CodeImageLaw = (d : Domain) (m : List ℕ) → d.code_lo % 2 ≡ 0 → HasBytes m d.code_lo (code_image d) → CodeStands d m

abbrev pub RegionImageLaw : Type 0
RegionImageLaw = (d : Domain) (m : List ℕ) → HasBytes m d.lo (region_image d) → RegionStands d m
