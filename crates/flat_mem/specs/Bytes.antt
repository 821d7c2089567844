-- Words and pieces in a memory of bytes.
use Rattle.std.specs.Prelude.{◌≡◌, ℕ, ◌+◌, ◌*◌, ◌/◌, ◌%◌, ◌<◌, List, [], ◌∷◌, ◌++◌, length, take, drop, slice_index, slice_set}

-- a memory is 65,536 bytes
pub record IsFlat (m : List ℕ) : Type 0 where
  pub size : length m ≡ 65536
  pub small : (k : ℕ) → slice_index m k < 256

-- an address with bit 0 cleared
abbrev pub even : ℕ → ℕ
even a = a / 2 * 2

-- the bytes of a word, low byte first
abbrev pub word_bytes : ℕ → List ℕ
word_bytes v = v % 256 ∷ v / 256 ∷ []

-- the word at an address
abbrev pub word_at : List ℕ → ℕ → ℕ
word_at m a = slice_index m (even a) + 256 * slice_index m (even a + 1)

-- a memory after a word was written at an address, byte by byte
abbrev pub with_word : List ℕ → ℕ → ℕ → List ℕ
with_word m a v = slice_set (slice_set m (even a) (v % 256)) (even a + 1) (v / 256)

-- a memory after bytes were put over those from an address on
unfoldable pub patch : List ℕ → ℕ → List ℕ → List ℕ
patch m a bs = take a m ++ (bs ++ drop (a + length bs) m)
