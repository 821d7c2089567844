-- A memory after a thread was linked into a queue or out of one, the threads of a queue, and the bytes that two lists ask for.
use Rattle.std.specs.Prelude.{◌≡◌, ℕ, ◌+◌, ◌*◌, ◌<◌, List, [], ◌∷◌, replicate, slice_index, slice_set}
use Rattle.kernel_model.specs.Bytes.{part}
use Rattle.kernel_model.specs.Links.{first, last, walk}
use Rattle.kernel_model.specs.Layout.{queue_of, links_of}
use Rattle.kernel_model.specs.declared.rows.ThreadRow.{ThreadRow}
use Rattle.kernel_model.specs.Standing.{next_place, prev_place}

-- thread t between two links
unfoldable pub linked : List ℕ → (q t before behind : ℕ) → List ℕ
linked m q t b h = slice_set (slice_set (slice_set (slice_set m (next_place q (t + 1)) h) (prev_place q (t + 1)) b) (next_place q b) (t + 1)) (prev_place q h) (t + 1)

-- thread t, which stood between two links, in no queue
unfoldable pub unlinked : List ℕ → (q t before behind : ℕ) → List ℕ
unlinked m q t b h = slice_set (slice_set (slice_set (slice_set m (next_place q b) h) (prev_place q h) b) (next_place q (t + 1)) 0) (prev_place q (t + 1)) 0

-- the threads of queue q, by the walk
unfoldable pub walk_in : List ℕ → (q : ℕ) → List ℕ
walk_in m q = walk (λ t. slice_index m (1100 + 48 * t)) 32 (slice_index m (544 + 2 * q))

-- the ends of the nine queues are those of two lists, and the bytes behind them 0
pub record AreEnds (m : List ℕ) (threads : List ThreadRow) (ready sleepers : List ℕ) : Type 0 where
  pub ends : (q : ℕ) → q < 9 → part m (0x0220 + 2 * q) 2 ≡ first (queue_of threads ready sleepers q) ∷ last (queue_of threads ready sleepers q) ∷ []
  pub unused : part m 0x0232 46 ≡ replicate 46 0

-- the four bytes behind each thread's row are those of two lists
abbrev pub AreLinks : (m : List ℕ) (threads : List ThreadRow) (ready sleepers : List ℕ) → Type 0
AreLinks m threads ready sleepers = (t : ℕ) → t < 32 → part m (0x044C + 48 * t) 4 ≡ links_of threads ready sleepers t
