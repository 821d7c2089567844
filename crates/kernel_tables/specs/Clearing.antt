-- The memory that a node begins with: the empty kernel and the vectors.
use Rattle.std.specs.Prelude.{◌≡◌, ℕ, ◌+◌, ◌*◌, ◌<◌, ◌≤◌, ◌⊎◌, List, [], ◌++◌, replicate, map, slice_index}
use Rattle.std.specs.List.{range_with_len}
use Prim.Native.Nat.{zero, suc}
use Rattle.flat_mem.specs.Bytes.{word_at}
use Rattle.kernel_model.specs.declared.map.TheConstants.{FIRST_ROUTINE, TABLES, TABLES_END, VECTORS, VECTORS_END}
use Rattle.kernel_model.specs.Bytes.{bytes_of}
use Rattle.kernel_model.specs.Layout.{kernel_of, empty, IsLaidOut}
use Rattle.kernel_model.specs.Queues.{QueuesHold}

-- a byte n times
unfoldable pub copies : (n byte : ℕ) → List ℕ
copies n b = replicate n b

-- a row's bytes n times
unfoldable pub repeated : (n : ℕ) → List ℕ → List ℕ
repeated zero bs = []
repeated (suc n) bs = repeated n bs ++ bs

-- the addresses of the lines' routines, as bytes
unfoldable pub vector_bytes : List ℕ
vector_bytes = bytes_of (map (λ n. FIRST_ROUTINE + 2 * n) (range_with_len 0 14))

-- an address outside the tables and the vectors
abbrev pub IsElsewhere : ℕ → Type 0
IsElsewhere a = (a < TABLES) ⊎ (((TABLES_END ≤ a) × (a < VECTORS)) ⊎ (VECTORS_END ≤ a))

-- the second memory has the empty kernel and the vectors, and the first one's bytes elsewhere
pub record Cleared (before after : List ℕ) : Type 0 where
  pub kernel : kernel_of after ≡ empty
  pub laid_out : IsLaidOut after
  pub queues : QueuesHold after
  -- line n's vector is the address of its routine
  pub vectors : (n : ℕ) → n < 14 → word_at after (VECTORS + 2 * n) ≡ FIRST_ROUTINE + 2 * n
  pub others : (a : ℕ) → IsElsewhere a → slice_index after a ≡ slice_index before a
