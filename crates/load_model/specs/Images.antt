-- The bytes that placing writes: the relocated code words, the relocated initialised bytes, and 0 in the rest of the region.
use Rattle.std.specs.Prelude.{ℕ, ◌+◌, ◌-◌, ◌*◌, ◌/◌, ◌%◌, ◌==◌, Bool, true, false, ◌&&◌, not, if◌then◌else◌, List, ◌++◌, length, slice_index, map, replicate, Option, None, Some}
use Rattle.std.specs.List.{find, flat_map, range_with_len}
use Rattle.flat_mem.specs.Bytes.{word_bytes}
use Rattle.code_model.specs.declared.object.Object.{Object}
use Rattle.code_model.specs.declared.parts.Reloc.{Reloc}
use Rattle.load_model.specs.Domains.{Domain, addend}

-- ---- what is added to a word

-- the relocation is of the word at this offset of the code, or of the initialised bytes
abbrev pub is_on : (in_code : Bool) → (offset : ℕ) → Reloc → Bool
is_on true at r = r.in_code && (r.offset == at)
is_on false at r = not r.in_code && (r.offset == at)

abbrev pub added_by : Domain → Option Reloc → ℕ
added_by d None = 0
added_by d (Some r) = addend d r.kind

-- what the relocation of the word adds, 0 where it has none
unfoldable pub added : Domain → (in_code : Bool) → (offset : ℕ) → ℕ
added d c at = added_by d (find (is_on c at) d.object.relocs)

-- ---- the words of the code and of the initialised bytes

-- two bytes of the initialised ones, low byte first; where there is none the byte is 0
abbrev pub init_word : Object → (offset : ℕ) → ℕ
init_word o at = slice_index o.init at + 256 * slice_index o.init (at + 1)

-- word i of the code, or of the initialised bytes
abbrev pub section_word : Object → (in_code : Bool) → (i : ℕ) → ℕ
section_word o true i = slice_index o.code i
section_word o false i = init_word o (2 * i)

-- that word as it is placed
unfoldable pub placed_word : Domain → (in_code : Bool) → (i : ℕ) → ℕ
placed_word d c i = (section_word d.object c i + added d c (2 * i)) % 65536

-- the first n words
unfoldable pub placed_words : Domain → (in_code : Bool) → (n : ℕ) → List ℕ
placed_words d c n = map (placed_word d c) (range_with_len 0 n)

-- ---- the images

unfoldable pub code_image : Domain → List ℕ
code_image d = flat_map word_bytes (placed_words d true (length d.object.code))

-- a byte of a word, its low one at an even offset
abbrev pub half_of : (word offset : ℕ) → ℕ
half_of w at = if at % 2 == 0 then w % 256 else w / 256

-- initialised byte k as it is placed: a byte of the word that it is part of
unfoldable pub placed_byte : Domain → (k : ℕ) → ℕ
placed_byte d k = half_of (placed_word d false (k / 2)) k

unfoldable pub region_image : Domain → List ℕ
region_image d =
    let size = length d.object.init in
    map (placed_byte d) (range_with_len 0 size) ++ replicate (d.hi - d.lo - size) 0
