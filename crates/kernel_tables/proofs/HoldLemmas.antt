-- What the test of the queues compares, and whether the two lists hold.
use Rattle.std.proofs.Common.{◌≡◌, ℕ, ◌+◌, ◌-◌, ◌*◌, ◌/◌, ◌%◌, ◌<◌, ◌≤◌, zero, suc, List, [], ◌∷◌, ◌++◌, length, take, drop, get_or, replicate, refl, sym, ap, ◌∙◌, subst, arith, ⊎_elim, All, ext_get_or}
use Rattle.std.proofs.Math.Seq.{take-add}
use Rattle.std.proofs.lemmas.Bool.{cases_lt}
use Rattle.std.proofs.lemmas.List.{get_or-take, length-drop, length-replicate}
use Rattle.std.proofs.lemmas.List.Elements.{All-head, All-tail}
use Rattle.kernel_model.specs.Bytes.{part, words_of, bytes_of}
use Rattle.kernel_model.specs.Kernel.{Kernel, free_thread}
use Rattle.kernel_model.specs.Links.{first, last}
use Rattle.kernel_model.specs.Layout.{tables, kernel_of, thread_bytes, thread_read, links_of, queue_of}
use Rattle.kernel_model.specs.Queues.{AreQueues, QueuesHold, HasQueueBytes}
use Rattle.kernel_model.specs.declared.rows.ThreadRow.{ThreadRow}
use Rattle.kernel_model.proofs.BytesLemmas.{length-part, length-words_of}
use Rattle.kernel_model.proofs.FitLemmas.{Small, memory_fits_lem, part_small}
use Rattle.kernel_model.proofs.StandLemmas.{queues_stand, ends_back, rows_back, link_byte, unused_byte}
use Rattle.kernel_tables.specs.Linking.{AreEnds, AreLinks}
use Rattle.kernel_tables.proofs.Patches.{byte_in, part-part}
use Rattle.kernel_tables.proofs.TableLemmas.{thread_got}

-- ---- a row's bytes are those of the row that is read from them

low_byte : (a b : ℕ) → a < 256 → (a + 256 * b) % 256 ≡ a
low_byte a b l = omega arith

high_byte : (a b : ℕ) → a < 256 → (a + 256 * b) / 256 ≡ b
high_byte a b l = omega arith

bytes_again : (n : ℕ) (bs : List ℕ) → 2 * n ≤ length bs → All Small bs → bytes_of (take n (words_of bs)) ≡ take (2 * n) bs
bytes_again zero bs l h = refl
bytes_again (suc n) [] l h = absurd (omega arith)
bytes_again (suc n) (a ∷ []) l h = absurd (omega arith)
bytes_again (suc n) (a ∷ b ∷ bs) l h =
    let low : a < 256 = All-head Small a (b ∷ bs) h in
    let rest : List ℕ = bytes_of (take n (words_of bs)) in
    let two : 2 * suc n ≡ suc (suc (2 * n)) = omega arith in
    ap (λ x. x ∷ (a + 256 * b) / 256 ∷ rest) (low_byte a b low) ∙ ap (λ x. a ∷ x ∷ rest) (high_byte a b low)
    ∙ ap (λ xs. a ∷ b ∷ xs) (bytes_again n bs (omega arith) (All-tail Small b bs (All-tail Small a (b ∷ bs) h))) ∙ ap (λ k. take k (a ∷ b ∷ bs)) (sym two)

six_words : (ws : List ℕ) → 6 ≤ length ws → get_or ws 0 0 ∷ get_or ws 1 0 ∷ get_or ws 2 0 ∷ get_or ws 3 0 ∷ get_or ws 4 0 ∷ get_or ws 5 0 ∷ [] ≡ take 6 ws
six_words [] l = absurd (omega arith)
six_words (a ∷ []) l = absurd (omega arith)
six_words (a ∷ b ∷ []) l = absurd (omega arith)
six_words (a ∷ b ∷ c ∷ []) l = absurd (omega arith)
six_words (a ∷ b ∷ c ∷ d ∷ []) l = absurd (omega arith)
six_words (a ∷ b ∷ c ∷ d ∷ e ∷ []) l = absurd (omega arith)
six_words (a ∷ b ∷ c ∷ d ∷ e ∷ f ∷ ws) l = refl

row_again : (bs : List ℕ) → length bs ≡ 48 → All Small bs → thread_bytes (thread_read bs) ≡ take 44 bs
unfolding thread_bytes thread_read
row_again bs e h =
    let ws : List ℕ = words_of bs in
    let size : length ws ≡ 24 = length-words_of 24 bs e in
    let left : length (drop 16 ws) ≡ 8 = length-drop 16 ws ∙ (let some = size in omega arith) in
    ap (λ xs. bytes_of (take 16 ws ++ xs)) (six_words (drop 16 ws) (omega arith)) ∙ ap (λ xs. bytes_of xs) (sym (take-add 16 6 ws)) ∙ bytes_again 22 bs (omega arith) h

front_any : (m : List ℕ) (t o : ℕ) → length m ≡ 65536 → All Small m → t < 32 → o < 44 → get_or m (1056 + (48 * t + o)) 0 ≡ get_or (thread_bytes (get_or (kernel_of m).threads t free_thread)) o 0
front_any m t o e small l lo =
    let at : ℕ = 1056 + 48 * t in let bs : List ℕ = part m at 48 in
    let place : 1056 + (48 * t + o) ≡ at + o = omega arith in
    ap (λ a. get_or m a 0) place ∙ sym (byte_in m at 48 o (omega arith)) ∙ sym (get_or-take 44 bs o 0 lo)
    ∙ ap (λ xs. get_or xs o 0) (sym (row_again bs (length-part m at 48 (omega arith)) (part_small m at 48 small)))
    ∙ ap (λ r. get_or (thread_bytes r) o 0) (sym (thread_got m t e l))

-- ---- from what is compared

abbrev zeroes : ℕ → List ℕ
zeroes n = replicate n 0

zero_byte : (n i : ℕ) → get_or (zeroes n) i 0 ≡ 0
zero_byte zero i = refl
zero_byte (suc n) zero = refl
zero_byte (suc n) (suc i) = zero_byte n i

length-zeroes : (n : ℕ) → length (zeroes n) ≡ n
length-zeroes n = length-replicate n 0

end_pair : (m : List ℕ) (q i a b : ℕ) → i < 2 → part m (544 + 2 * q) 2 ≡ a ∷ b ∷ [] → get_or m (544 + 2 * q + i) 0 ≡ get_or (a ∷ b ∷ []) i 0
end_pair m q i a b l h = sym (byte_in m (544 + 2 * q) 2 i l) ∙ ap (λ bs. get_or bs i 0) h

unused_part : (m : List ℕ) → part m 562 46 ≡ zeroes 46 → part m 576 32 ≡ zeroes 32
unfolding part
unused_part m h = sym (part-part m 562 46 14 32 (omega arith)) ∙ ap (λ bs. take 32 (drop 14 bs)) h

pub bytes_from : (m : List ℕ) → length m ≡ 65536 → All Small m → AreEnds m (kernel_of m).threads (kernel_of m).ready (kernel_of m).sleepers → AreLinks m (kernel_of m).threads (kernel_of m).ready (kernel_of m).sleepers
    → HasQueueBytes m
unfolding HasQueueBytes tables
bytes_from m e small ends links =
    let k : Kernel = kernel_of m in
    let queues : ℕ → List ℕ = queue_of k.threads k.ready k.sleepers in (
      ends_back m k e
          (λ q l. let place : 544 + 2 * q ≡ 544 + 2 * q + 0 = omega arith in ap (λ a. get_or m a 0) place ∙ end_pair m q 0 (first (queues q)) (last (queues q)) (omega arith) (ends.ends q l))
          (λ q l. let place : 545 + 2 * q ≡ 544 + 2 * q + 1 = omega arith in ap (λ a. get_or m a 0) place ∙ end_pair m q 1 (first (queues q)) (last (queues q)) (omega arith) (ends.ends q l))
          (λ j l. sym (byte_in m 562 46 j (omega arith)) ∙ ap (λ bs. get_or bs j 0) ends.unused ∙ zero_byte 46 j),
      (
        sym (unused_part m ends.unused),
        rows_back m k e (memory_fits_lem m e small) (λ t o l lo. front_any m t o e small l lo)
            (λ t j l lj. let place : 1056 + (48 * t + (44 + j)) ≡ 1100 + 48 * t + j = omega arith in
            ap (λ a. get_or m a 0) place ∙ sym (byte_in m (1100 + 48 * t) 4 j lj) ∙ ap (λ bs. get_or bs j 0) (links t l)),
      ),
    )

-- ---- and to it

two_bytes : (m : List ℕ) (at a b : ℕ) → at + 2 ≤ length m → get_or m at 0 ≡ a → get_or m (at + 1) 0 ≡ b → part m at 2 ≡ a ∷ b ∷ []
two_bytes m at a b w e f =
    let size : length (part m at 2) ≡ 2 = length-part m at 2 w in
    let none : at ≡ at + 0 = omega arith in
    let pair : (i : ℕ) → i < 2 → get_or m (at + i) 0 ≡ get_or (a ∷ b ∷ []) i 0 = λ i. elim i as (λ j. j < 2 → get_or m (at + j) 0 ≡ get_or (a ∷ b ∷ []) j 0) [
      | zero ↦ λ l. ap (λ n. get_or m n 0) (sym none) ∙ e
      | suc i' ↦ λ l. (let one : at + suc i' ≡ at + 1 = omega arith in let same : i' ≡ 0 = omega arith in ap (λ n. get_or m n 0) one ∙ f ∙ ap (λ n. get_or (a ∷ b ∷ []) (suc n) 0) (sym same))
    ] in
    ext_get_or 0 (part m at 2) (a ∷ b ∷ []) size (λ i l. let in' : i < 2 = omega (arith, size, l) in byte_in m at 2 i in' ∙ pair i in')

pub ends_from : (m : List ℕ) → length m ≡ 65536 → All Small m → QueuesHold m → AreEnds m (kernel_of m).threads (kernel_of m).ready (kernel_of m).sleepers
unfolding HasQueueBytes tables
ends_from m e small h =
    let k : Kernel = kernel_of m in
    let queues : ℕ → List ℕ = queue_of k.threads k.ready k.sleepers in
    let size : length (part m 562 46) ≡ 46 = length-part m 562 46 (omega arith) in
    let behind : (i : ℕ) → i < 46 → get_or m (562 + i) 0 ≡ 0 = λ i l. ⊎_elim
    (λ (low : i < 14). unused_byte m e small h i low)
    (λ (high : 14 ≤ i). let j : ℕ = i - 14 in let place : 562 + i ≡ 576 + j = omega arith in
    ap (λ a. get_or m a 0) place ∙ sym (byte_in m 576 32 j (omega arith)) ∙ ap (λ bs. get_or bs j 0) (sym h.bytes.1.0) ∙ zero_byte 32 j)
    (cases_lt i 14) in
    record {
      ends = λ q l.
          let place : 545 + 2 * q ≡ 544 + 2 * q + 1 = omega arith in
          two_bytes m (544 + 2 * q) (first (queues q)) (last (queues q)) (omega arith) (queues_stand m e small h q l).starts
          (ap (λ a. get_or m a 0) (sym place) ∙ (queues_stand m e small h q l).ends);
      unused = ext_get_or 0 (part m 562 46) (zeroes 46) (size ∙ sym (length-zeroes 46))
          (λ i l. let in' : i < 46 = omega (arith, size, l) in byte_in m 562 46 i in' ∙ behind i in' ∙ sym (zero_byte 46 i));
    }

pub links_from : (m : List ℕ) → length m ≡ 65536 → All Small m → QueuesHold m → AreLinks m (kernel_of m).threads (kernel_of m).ready (kernel_of m).sleepers
links_from m e small h = λ t l.
    let k : Kernel = kernel_of m in
    let size : length (part m (1100 + 48 * t) 4) ≡ 4 = length-part m (1100 + 48 * t) 4 (omega arith) in
    ext_get_or 0 (part m (1100 + 48 * t) 4) (links_of k.threads k.ready k.sleepers t) size
    (λ j lj. let in' : j < 4 = omega (arith, size, lj) in let place : 1100 + 48 * t + j ≡ 1056 + (48 * t + (44 + j)) = omega arith in
    byte_in m (1100 + 48 * t) 4 j in' ∙ ap (λ a. get_or m a 0) place ∙ link_byte m e small h t j l in')

-- ---- the lists that were read

pub holds : (m : List ℕ) (rs ss : List ℕ) → length m ≡ 65536 → All Small m → rs ≡ (kernel_of m).ready → ss ≡ (kernel_of m).sleepers
    → AreQueues (kernel_of m).threads rs ss → AreEnds m (kernel_of m).threads rs ss → AreLinks m (kernel_of m).threads rs ss → QueuesHold m
holds m rs ss e small er es q ends links =
    let ts : List ThreadRow = (kernel_of m).threads in let r : List ℕ = (kernel_of m).ready in
    record {
      bytes = bytes_from m e small (subst (λ x. AreEnds m ts x (kernel_of m).sleepers) er (subst (λ x. AreEnds m ts rs x) es ends))
          (subst (λ x. AreLinks m ts x (kernel_of m).sleepers) er (subst (λ x. AreLinks m ts rs x) es links));
      lists = subst (λ x. AreQueues ts x (kernel_of m).sleepers) er (subst (λ x. AreQueues ts rs x) es q);
    }

pub lists_read : (m : List ℕ) (rs ss : List ℕ) → rs ≡ (kernel_of m).ready → ss ≡ (kernel_of m).sleepers → QueuesHold m → AreQueues (kernel_of m).threads rs ss
lists_read m rs ss er es h =
    let ts : List ThreadRow = (kernel_of m).threads in
    subst (λ x. AreQueues ts x ss) (sym er) (subst (λ x. AreQueues ts (kernel_of m).ready x) (sym es) h.lists)

pub ends_read : (m : List ℕ) (rs ss : List ℕ) → length m ≡ 65536 → All Small m → rs ≡ (kernel_of m).ready → ss ≡ (kernel_of m).sleepers → QueuesHold m → AreEnds m (kernel_of m).threads rs ss
ends_read m rs ss e small er es h =
    let ts : List ThreadRow = (kernel_of m).threads in
    subst (λ x. AreEnds m ts x ss) (sym er) (subst (λ x. AreEnds m ts (kernel_of m).ready x) (sym es) (ends_from m e small h))

pub links_read : (m : List ℕ) (rs ss : List ℕ) → length m ≡ 65536 → All Small m → rs ≡ (kernel_of m).ready → ss ≡ (kernel_of m).sleepers → QueuesHold m → AreLinks m (kernel_of m).threads rs ss
links_read m rs ss e small er es h =
    let ts : List ThreadRow = (kernel_of m).threads in
    subst (λ x. AreLinks m ts x ss) (sym er) (subst (λ x. AreLinks m ts (kernel_of m).ready x) (sym es) (links_from m e small h))
