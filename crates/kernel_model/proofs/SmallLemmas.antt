-- The layout of a memory's kernel is bytes.
use Rattle.std.proofs.Common.{◌≡◌, ℕ, ◌+◌, ◌-◌, ◌*◌, ◌/◌, ◌%◌, ◌<◌, ◌≤◌, zero, suc, eqb, ltb, sym, subst, List, [], ◌∷◌, ◌++◌, length, take, drop, map, get_or, replicate, refl, ap, ◌∙◌, inl, inr, arith, length-append, All}
use Rattle.std.specs.List.{flat_map}
use Rattle.std.proofs.lemmas.Bool.{cases_lt}
use Rattle.std.proofs.lemmas.List.{get_or_past}
use Rattle.std.proofs.lemmas.List.Elements.{All-head, All-tail, All-nil, All-cons, All-take, All-drop, All-append, All-replicate, All-weaker}
use Rattle.kernel_model.specs.Bytes.{part, words_of, bytes_of, filled, rows}
use Rattle.kernel_model.specs.Kernel.{Kernel}
use Rattle.kernel_model.specs.Links.{first, last, next_of, prev_of, walk, queue, gathered}
use Rattle.kernel_model.specs.Members.{Below}
use Rattle.kernel_model.specs.Layout.{queue_of, queue_ends, priority_in, links_of, linked_bytes, linked_rows, walked, FitsList, FitsMutex, Fits, app_words, app_bytes, app_read, module_words, module_bytes, module_read, function_words, function_bytes, function_read, thread_words, thread_bytes, thread_read, mutex_bytes, mutex_read, system_words, written, layout, tables, kernel_in, kernel_of}
use Rattle.kernel_model.specs.declared.rows.MutexRow.{MutexRow}
use Rattle.kernel_model.specs.declared.rows.ThreadRow.{ThreadRow}
use Rattle.kernel_model.proofs.LinkLemmas.{by_bool, if_true, if_false, below_true, below_append, first_low, last_low, next_low, prev_low}
use Rattle.kernel_model.proofs.ReadLemmas.{below_queue}
use Rattle.kernel_model.proofs.BytesLemmas.{total, length-part}
use Rattle.kernel_model.proofs.LayoutLemmas.{written_sizes}
use Rattle.kernel_model.proofs.FitLemmas.{Small, all_rows, part_small, memory_fits_lem}

-- ---- the length of a layout

length_joined : (ps : List (List ℕ)) → length (flat_map (λ bs. bs) ps) ≡ total (map (λ p. length p) ps)
length_joined [] = refl
length_joined (p ∷ ps) =
    length-append p (flat_map (λ bs. bs) ps) ∙ ap (λ n. length p + n) (length_joined ps)

pub layout_size : (k : Kernel) → Fits k → length (layout k) ≡ 3584
unfolding layout
layout_size k h = length_joined (written k) ∙ ap (λ ss. total ss) (written_sizes k h)

-- ---- words

abbrev Word : ℕ → Type 0
Word w = w < 65536

bytes_small : (ws : List ℕ) → All Word ws → All Small (bytes_of ws)
bytes_small [] h = All-nil Small
bytes_small (w ∷ ws) h =
    let first : w < 65536 = All-head Word w ws h in
    All-cons Small (w % 256) (w / 256 ∷ bytes_of ws) (omega arith)
    (All-cons Small (w / 256) (bytes_of ws) (omega (arith, first)) (bytes_small ws (All-tail Word w ws h)))

words_small : (bs : List ℕ) → All Small bs → All Word (words_of bs)
words_small [] h = All-nil Word
words_small (a ∷ []) h = All-nil Word
words_small (a ∷ b ∷ bs) h =
    let rest : All Small (b ∷ bs) = All-tail Small a (b ∷ bs) h in
    let low : a < 256 = All-head Small a (b ∷ bs) h in
    let high : b < 256 = All-head Small b bs rest in
    All-cons Word (a + 256 * b) (words_of bs) (omega (arith, low, high)) (words_small bs (All-tail Small b bs rest))

word_in : (ws : List ℕ) (i : ℕ) → All Word ws → get_or ws i 0 < 65536
word_in ws i h = elim (cases_lt i (length ws)) [ inl l ↦ h i 0 l | inr u ↦ rw (get_or_past ws i 0 u) (omega arith) ]

-- ---- lists

list_small : (n : ℕ) (xs : List ℕ) → FitsList n xs → All Small (filled n xs)
unfolding filled
list_small n xs h =
    All-append Small xs (replicate (n - length xs) 255) (All-weaker (λ x. x < 255) Small (λ x l. omega (arith, l)) xs h.below)
    (All-replicate Small (n - length xs) 255 (omega arith))

-- ---- rows

two_words : (a b : ℕ) (ws : List ℕ) → a < 65536 → b < 65536 → All Word ws → All Word (a ∷ b ∷ ws)
two_words a b ws g h rest = All-cons Word a (b ∷ ws) g (All-cons Word b ws h rest)

six_words : (a b c d e f : ℕ) → (a < 65536) × (b < 65536) → (c < 65536) × (d < 65536) → (e < 65536) × (f < 65536)
    → All Word (a ∷ b ∷ c ∷ d ∷ e ∷ f ∷ [])
six_words a b c d e f p q r =
    two_words a b (c ∷ d ∷ e ∷ f ∷ []) p.0 p.1 (two_words c d (e ∷ f ∷ []) q.0 q.1 (two_words e f [] r.0 r.1 (All-nil Word)))

eight_words : (a b c d e f g h : ℕ) → (a < 65536) × (b < 65536) → (c < 65536) × (d < 65536) → (e < 65536) × (f < 65536)
    → (g < 65536) × (h < 65536) → All Word (a ∷ b ∷ c ∷ d ∷ e ∷ f ∷ g ∷ h ∷ [])
eight_words a b c d e f g h p q r s =
    two_words a b (c ∷ d ∷ e ∷ f ∷ g ∷ h ∷ []) p.0 p.1
    (two_words c d (e ∷ f ∷ g ∷ h ∷ []) q.0 q.1
    (two_words e f (g ∷ h ∷ []) r.0 r.1 (two_words g h [] s.0 s.1 (All-nil Word))))

-- eight words of a list, from one of them on
eight_from : (ws : List ℕ) → All Word ws
    → All Word (get_or ws 0 0 ∷ get_or ws 1 0 ∷ get_or ws 2 0 ∷ get_or ws 3 0 ∷ get_or ws 4 0 ∷ get_or ws 5 0 ∷ get_or ws 6 0 ∷ get_or ws 7 0 ∷ [])
eight_from ws h = eight_words _ _ _ _ _ _ _ _ (word_in ws 0 h, word_in ws 1 h) (word_in ws 2 h, word_in ws 3 h)
    (word_in ws 4 h, word_in ws 5 h) (word_in ws 6 h, word_in ws 7 h)

app_small : (bs : List ℕ) → length bs ≡ 16 → All Small bs → All Small (app_bytes (app_read bs))
unfolding app_bytes app_read
app_small bs e h = bytes_small (app_words (app_read bs)) (eight_from (words_of bs) (words_small bs h))

module_small : (bs : List ℕ) → length bs ≡ 16 → All Small bs → All Small (module_bytes (module_read bs))
unfolding module_bytes module_read
module_small bs e h =
    let ws : List ℕ = words_of bs in
    let all : All Word ws = words_small bs h in
    let none : 0 < 65536 = omega arith in
    bytes_small (module_words (module_read bs))
    (eight_words _ _ _ _ _ _ _ _ (word_in ws 0 all, word_in ws 1 all) (word_in ws 2 all, word_in ws 3 all)
    (word_in ws 4 all, none) (none, none))

function_small : (bs : List ℕ) → length bs ≡ 4 → All Small bs → All Small (function_bytes (function_read bs))
unfolding function_bytes function_read
function_small bs e h =
    let ws : List ℕ = words_of bs in
    let all : All Word ws = words_small bs h in
    bytes_small (function_words (function_read bs)) (two_words _ _ [] (word_in ws 0 all) (word_in ws 1 all) (All-nil Word))

thread_small : (bs : List ℕ) → length bs ≡ 48 → All Small bs → All Small (thread_bytes (thread_read bs))
unfolding thread_bytes thread_read
thread_small bs e h =
    let ws : List ℕ = drop 16 (words_of bs) in
    let all : All Word (words_of bs) = words_small bs h in
    let others : All Word ws = All-drop Word 16 (words_of bs) all in
    bytes_small (thread_words (thread_read bs))
    (All-append Word (take 16 (words_of bs)) _ (All-take Word 16 (words_of bs) all)
    (six_words _ _ _ _ _ _ (word_in ws 0 others, word_in ws 1 others) (word_in ws 2 others, word_in ws 3 others)
    (word_in ws 4 others, word_in ws 5 others)))

record IsSmallMutex (r : MutexRow) : Type 0 where
  owner : r.owner < 65536

owner_small : (bs : List ℕ) → length bs ≡ 8 → All Small bs → IsSmallMutex (mutex_read bs)
unfolding mutex_read
owner_small bs e h = record { owner = word_in (words_of bs) 0 (words_small bs h) }

mutex_small : (r : MutexRow) → IsSmallMutex r → FitsMutex r → All Small (mutex_bytes r)
unfolding mutex_bytes
mutex_small r h f =
    All-append Small (bytes_of (r.owner ∷ [])) (filled 4 r.waiters.items ++ bytes_of (0 ∷ []))
    (bytes_small (r.owner ∷ []) (All-cons Word r.owner [] h.owner (All-nil Word)))
    (All-append Small (filled 4 r.waiters.items) (bytes_of (0 ∷ [])) (list_small 4 r.waiters.items f.waiters)
    (bytes_small (0 ∷ []) (All-cons Word 0 [] (omega arith) (All-nil Word))))

-- ---- tables

table_small : {X : Type 0} (write : X → List ℕ) (xs : List X) → All (λ x. All Small (write x)) xs → All Small (flat_map write xs)
table_small write [] h = All-nil Small
table_small write (x ∷ xs) h =
    All-append Small (write x) (flat_map write xs) (All-head (λ x. All Small (write x)) x xs h)
    (table_small write xs (All-tail (λ x. All Small (write x)) x xs h))

mutexes_small : (xs : List MutexRow) → All IsSmallMutex xs → All FitsMutex xs → All Small (flat_map mutex_bytes xs)
mutexes_small xs h f = table_small mutex_bytes xs (λ i d l. mutex_small (get_or xs i d) (h i d l) (f i d l))

lists_small : (n : ℕ) (xs : List (List ℕ)) → All (FitsList n) xs → All Small (flat_map (filled n) xs)
lists_small n xs h = table_small (filled n) xs (All-weaker (FitsList n) (λ x. All Small (filled n x)) (list_small n) xs h)

-- ---- links

walk_below : (next : ℕ → ℕ) (n b : ℕ) → Below (walk next n b)
walk_below next zero b = tt
walk_below next (suc n) zero = tt
walk_below next (suc n) (suc t) = by_bool (ltb t 32)
    (λ e. subst (λ xs. Below xs) (sym (if_true (ltb t 32) (t ∷ walk next n (next t)) [] e)) (below_true t e, walk_below next n (next t)))
    (λ e. subst (λ xs. Below xs) (sym (if_false (ltb t 32) (t ∷ walk next n (next t)) [] e)) tt)

gathered_below : (f : ℕ → List ℕ) (n : ℕ) → ((p : ℕ) → Below (f p)) → Below (gathered f n)
gathered_below f zero h = tt
gathered_below f (suc n) h = below_append (f n) (gathered f n) (h n) (gathered_below f n h)

queue_of_below : (k : Kernel) (q : ℕ) → Below k.ready → Below k.sleepers → Below (queue_of k.threads k.ready k.sleepers q)
queue_of_below k q r s =
    let own : List ℕ = queue (priority_in k.threads) k.ready q in
    by_bool (eqb q 8)
    (λ e. subst (λ xs. Below xs) (sym (if_true (eqb q 8) k.sleepers own e)) s)
    (λ e. subst (λ xs. Below xs) (sym (if_false (eqb q 8) k.sleepers own e)) (below_queue (priority_in k.threads) q k.ready r))

ends_small : (k : Kernel) → Below k.ready → Below k.sleepers → All Small (queue_ends k.threads k.ready k.sleepers)
unfolding queue_ends
ends_small k r s =
    let queues : ℕ → List ℕ = queue_of k.threads k.ready k.sleepers in
    let numbers : List ℕ = 0 ∷ 1 ∷ 2 ∷ 3 ∷ 4 ∷ 5 ∷ 6 ∷ 7 ∷ 8 ∷ [] in
    let ends : ℕ → List ℕ = λ q. first (queues q) ∷ last (queues q) ∷ [] in
    let small : (q : ℕ) → All Small (ends q) = λ q.
    let low : first (queues q) ≤ 32 = first_low (queues q) (queue_of_below k q r s) in
    let high : last (queues q) ≤ 32 = last_low 0 (queues q) (omega arith) (queue_of_below k q r s) in
    All-cons Small (first (queues q)) (last (queues q) ∷ []) (omega arith) (All-cons Small (last (queues q)) [] (omega arith) (All-nil Small)) in
    All-append Small (flat_map ends numbers) (replicate 14 0) (table_small ends numbers (λ i d l. small (get_or numbers i d))) (All-replicate Small 14 0 (omega arith))

links_small : (k : Kernel) (t : ℕ) → Below k.ready → Below k.sleepers → All Small (links_of k.threads k.ready k.sleepers t)
links_small k t r s =
    let own : List ℕ = queue (priority_in k.threads) k.ready (priority_in k.threads t) in
    let mine : Below own = below_queue (priority_in k.threads) (priority_in k.threads t) k.ready r in
    let a : next_of own t ≤ 32 = next_low own t mine in
    let b : next_of k.sleepers t ≤ 32 = next_low k.sleepers t s in
    let c : prev_of own t ≤ 32 = prev_low 0 own t (omega arith) mine in
    let d : prev_of k.sleepers t ≤ 32 = prev_low 0 k.sleepers t (omega arith) s in
    let none : 0 < 256 = omega arith in
    let zeroes : All Small (0 ∷ 0 ∷ []) = All-cons Small 0 (0 ∷ []) none (All-cons Small 0 [] none (All-nil Small)) in
    let back : ℕ = prev_of own t + prev_of k.sleepers t in
    All-cons Small (next_of own t + next_of k.sleepers t) (back ∷ 0 ∷ 0 ∷ []) (omega (arith, a, b))
    (All-cons Small back (0 ∷ 0 ∷ []) (omega (arith, c, d)) zeroes)

linked_small : (f : ℕ → List ℕ) (t : ℕ) (rs : List ThreadRow) → ((s : ℕ) → All Small (f s)) → All (λ r. All Small (thread_bytes r)) rs
    → All Small (flat_map linked_bytes (linked_rows f t rs))
unfolding linked_bytes
linked_small f t [] h a = All-nil Small
linked_small f t (r ∷ rs) h a =
    All-append Small (thread_bytes r ++ f t) (flat_map linked_bytes (linked_rows f (suc t) rs))
    (All-append Small (thread_bytes r) (f t) (All-head (λ x. All Small (thread_bytes x)) r rs a) (h t))
    (linked_small f (suc t) rs h (All-tail (λ x. All Small (thread_bytes x)) r rs a))

-- the parts of a layout are small
record ArePartsSmall (k : Kernel) : Type 0 where
  words : All Small (bytes_of (system_words k))
  ends : All Small (queue_ends k.threads k.ready k.sleepers)
  apps : All Small (flat_map app_bytes k.apps)
  modules : All Small (flat_map module_bytes k.modules)
  functions : All Small (flat_map function_bytes k.functions)
  threads : All Small (flat_map linked_bytes (linked_rows (links_of k.threads k.ready k.sleepers) 0 k.threads))
  mutexes : All Small (flat_map mutex_bytes k.mutexes)
  conditions : All Small (flat_map (filled 4) k.conditions)
  lines : All Small (flat_map (filled 32) k.lines)

abbrev Every : List (List ℕ) → Type 0
Every [] = Unit {0}
Every (p ∷ ps) = All Small p × Every ps

joined_small : (ps : List (List ℕ)) → Every ps → All Small (flat_map (λ bs. bs) ps)
joined_small [] h = All-nil Small
joined_small (p ∷ ps) h = All-append Small p (flat_map (λ bs. bs) ps) h.0 (joined_small ps h.1)

zeros : (n : ℕ) → All Small (replicate n 0)
zeros n = All-replicate Small n 0 (omega arith)

small_layout : (k : Kernel) → ArePartsSmall k → All Small (layout k)
unfolding layout
small_layout k h =
    let last : Every (flat_map (filled 32) k.lines ∷ replicate 672 0 ∷ []) = (h.lines, (zeros 672, tt)) in
    let locks : Every (flat_map mutex_bytes k.mutexes ∷ flat_map (filled 4) k.conditions ∷ flat_map (filled 32) k.lines ∷ replicate 672 0 ∷ []) =
    (h.mutexes, (h.conditions, last)) in
    joined_small (written k)
    (h.words, (zeros 16, (h.ends, (zeros 32, (h.apps, (h.modules, (h.functions, (h.threads, locks))))))))

parts_small : (m : List ℕ) → length m ≡ 65536 → All Small m → ArePartsSmall (kernel_of m)
unfolding kernel_of kernel_in tables
parts_small m e h =
    let fits : Fits (kernel_of m) = memory_fits_lem m e h in
    let size : (a n : ℕ) → a + n ≤ 65536 → length (part m a n) ≡ n = λ a n l. length-part m a n (omega (arith, l, e)) in
    let w : List ℕ = words_of (part m 512 16) in
    let queues : ℕ → List ℕ = walked (part m 544 32) (part m 1056 1536) in
    let below : (q : ℕ) → Below (queues q) = λ q. walk_below (λ t. get_or (part m 1056 1536) (48 * t + 44) 0) 32 (get_or (part m 544 32) (2 * q) 0) in
    let r : Below (kernel_of m).ready = gathered_below queues 8 below in
    let s : Below (kernel_of m).sleepers = below 8 in
    record {
      words = bytes_small (system_words (kernel_of m)) (eight_from w (words_small (part m 512 16) (part_small m 512 16 h)));
      ends = ends_small (kernel_of m) r s;
      apps = table_small app_bytes (rows app_read 16 8 (part m 608 128))
          (all_rows app_read 16 (λ r. All Small (app_bytes r)) app_small 8 (part m 608 128) (size 608 128 (omega arith))
          (part_small m 608 128 h));
      modules = table_small module_bytes (rows module_read 16 4 (part m 736 64))
          (all_rows module_read 16 (λ r. All Small (module_bytes r)) module_small 4 (part m 736 64) (size 736 64 (omega arith))
          (part_small m 736 64 h));
      functions = table_small function_bytes (rows function_read 4 64 (part m 800 256))
          (all_rows function_read 4 (λ r. All Small (function_bytes r)) function_small 64 (part m 800 256) (size 800 256 (omega arith))
          (part_small m 800 256 h));
      threads = linked_small (links_of (kernel_of m).threads (kernel_of m).ready (kernel_of m).sleepers) 0 (rows thread_read 48 32 (part m 1056 1536)) (λ t. links_small (kernel_of m) t r s)
          (all_rows thread_read 48 (λ r. All Small (thread_bytes r)) thread_small 32 (part m 1056 1536) (size 1056 1536 (omega arith))
          (part_small m 1056 1536 h));
      mutexes = mutexes_small (rows mutex_read 8 32 (part m 2592 256))
          (all_rows mutex_read 8 IsSmallMutex owner_small 32 (part m 2592 256) (size 2592 256 (omega arith)) (part_small m 2592 256 h))
          fits.mutexes;
      conditions = lists_small 4 (kernel_of m).conditions fits.conditions;
      lines = lists_small 32 (kernel_of m).lines fits.lines;
    }

pub layout_small : (m : List ℕ) → length m ≡ 65536 → All Small m → All Small (layout (kernel_of m))
layout_small m e h = small_layout (kernel_of m) (parts_small m e h)
