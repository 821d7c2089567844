-- The kernel's two lists are what the walks read.
use Rattle.std.proofs.Common.{◌≡◌, ℕ, ◌+◌, ◌*◌, ◌<◌, ◌≤◌, List, length, get_or, drop, sym, ap, ◌∙◌, subst, arith, get_or-take, get_or-drop}
use Rattle.kernel_model.specs.Bytes.{part}
use Rattle.kernel_model.specs.Layout.{tables, nth, kernel_in, kernel_of}
use Rattle.kernel_model.specs.Layout as layout
use Rattle.kernel_model.specs.Links.{walk, gathered}
use Rattle.kernel_model.specs.Queues.{QueuesHold}
use Rattle.kernel_tables.specs.Linking.{walk_in}
use Rattle.kernel_model.proofs.LinkLemmas.{walk_same}
use Rattle.kernel_model.proofs.LayoutLemmas.{distinct_front, distinct_back}
use Rattle.kernel_model.proofs.ReadLemmas.{gathered_same, few}

part_byte : (m : List ℕ) (a n i : ℕ) → i < n → get_or (part m a n) i 0 ≡ get_or m (a + i) 0
unfolding part
part_byte m a n i l = get_or-take n (drop a m) i 0 l ∙ get_or-drop a m i 0

-- a byte of the queues' ends, and one of the threads' rows
pub end_byte : (m : List ℕ) (i : ℕ) → i < 32 → get_or (nth (tables m) 2) i 0 ≡ get_or m (544 + i) 0
unfolding tables
end_byte m i l = part_byte m 544 32 i l

pub row_byte : (m : List ℕ) (i : ℕ) → i < 1536 → get_or (nth (tables m) 7) i 0 ≡ get_or m (1056 + i) 0
unfolding tables
row_byte m i l = part_byte m 1056 1536 i l

pub same_walk : (m : List ℕ) (q : ℕ) → q < 9 → walk_in m q ≡ layout.walked (nth (tables m) 2) (nth (tables m) 7) q
unfolding walk_in
same_walk m q l =
    let there : ℕ → ℕ = λ t. get_or m (1100 + 48 * t) 0 in let here : ℕ → ℕ = λ t. get_or (nth (tables m) 7) (48 * t + 44) 0 in
    let same : (t : ℕ) → t < 32 → get_or m (1100 + 48 * t) 0 ≡ get_or (nth (tables m) 7) (48 * t + 44) 0 = λ t less.
    sym (row_byte m (48 * t + 44) (omega arith) ∙ (let e : 1056 + (48 * t + 44) ≡ 1100 + 48 * t = omega arith in ap (λ n. get_or m n 0) e)) in
    walk_same there here same 32 (get_or m (544 + 2 * q) 0) ∙ ap (λ c. walk here 32 c) (sym (end_byte m (2 * q) (omega arith)))

pub ready_of : (m : List ℕ) → gathered (walk_in m) 8 ≡ (kernel_of m).ready
unfolding kernel_of kernel_in
ready_of m = gathered_same (walk_in m) (layout.walked (nth (tables m) 2) (nth (tables m) 7)) 8 (λ p l. same_walk m p (omega arith))

pub sleepers_of : (m : List ℕ) → walk_in m 8 ≡ (kernel_of m).sleepers
unfolding kernel_of kernel_in
sleepers_of m = same_walk m 8 (omega arith)

pub ready_room : (m : List ℕ) → QueuesHold m → length (gathered (walk_in m) 8) ≤ 32
ready_room m h = let k = kernel_of m in subst (λ xs. length xs ≤ 32) (sym (ready_of m)) (few k.ready (distinct_front k.ready k.sleepers h.lists.once) h.lists.ready_below)

pub sleepers_room : (m : List ℕ) → QueuesHold m → length (walk_in m 8) ≤ 32
sleepers_room m h = let k = kernel_of m in subst (λ xs. length xs ≤ 32) (sym (sleepers_of m)) (few k.sleepers (distinct_back k.ready k.sleepers h.lists.once) h.lists.sleepers_below)
