-- One saved register replaced.
use Rattle.std.proofs.Common.{◌≡◌, ◌≢◌, ℕ, ◌+◌, ◌-◌, ◌*◌, ◌/◌, ◌%◌, ◌<◌, ◌≤◌, zero, suc, List, [], ◌∷◌, ◌++◌, length, take, drop, get_or, set, refl, ap, sym, ◌∙◌, subst, ⊎_elim, arith, All}
use Rattle.std.proofs.lemmas.Bool.{cases_eq, cases_lt}
use Rattle.std.proofs.lemmas.List.{same_lists, places, length-set, drop-set-lt, get_or-set_same, get_or-set_other}
use Rattle.std.proofs.Math.Seq.{take-set-lt}
use Rattle.flat_mem.specs.Bytes.{patch, word_bytes, even}
use Rattle.kernel_model.specs.Bytes.{part, words_of, bytes_of, before_none, rows}
use Rattle.kernel_model.specs.Kernel.{Kernel, thread_at, free_thread}
use Rattle.kernel_model.specs.Links.{walk}
use Rattle.kernel_model.specs.Words.{saved_register}
use Rattle.kernel_model.specs.Layout.{written, tables, nth, kernel_in, kernel_of, IsLaidOut, outside, walked, app_read, module_read, function_read, mutex_read, thread_read, thread_bytes, thread_of_words, Fits}
use Rattle.kernel_model.specs.Queues.{Leaves, HasQueues, HasQueueBytes, priority_in}
use Rattle.kernel_model.specs.declared.rows.ThreadRow.{ThreadRow}
use Rattle.kernel_model.proofs.BytesLemmas.{length-part, length-words_of}
use Rattle.kernel_model.proofs.FitLemmas.{Small, memory_fits_lem}
use Rattle.kernel_model.proofs.LinkLemmas.{walk_same}
use Rattle.kernel_model.proofs.ReadLemmas.{gathered_same}
use Rattle.kernel_model.proofs.LayoutLemmas.{same_kernel, length-thread}
use Rattle.kernel_tables.proofs.Patches.{length-patch, kept_below, kept_above, put_byte}
use Rattle.kernel_tables.proofs.RowLemmas.{rows-get, rows-set, outside-patch}
use Rattle.kernel_tables.proofs.TableLemmas.{tables-patch, thread_count}
use Rattle.kernel_tables.proofs.Relaid.{rows_kept, laid_front}
use Rattle.kernel_tables.proofs.QueueLemmas.{queues_of_row, links_same, queue_of_same, ends_same, row_fits, Written, row_written, ends_kept}

-- ---- words

whole : (v : ℕ) → v % 256 + 256 * (v / 256) ≡ v
whole v = omega arith

-- a write behind two bytes
patch_two : (a b p : ℕ) (bs w : List ℕ) → patch (a ∷ b ∷ bs) (suc (suc p)) w ≡ a ∷ b ∷ patch bs p w
unfolding patch
patch_two a b p bs w =
    let past : suc (suc p) + length w ≡ suc (suc (p + length w)) = omega arith in
    ap (λ k. a ∷ b ∷ take p bs ++ (w ++ drop k (a ∷ b ∷ bs))) past

words_of-set : (bs : List ℕ) (r v : ℕ) → 2 * r + 2 ≤ length bs → words_of (patch bs (2 * r) (word_bytes v)) ≡ set (words_of bs) r v
unfolding patch
words_of-set [] r v h = absurd (omega arith)
words_of-set (a ∷ []) r v h = absurd (omega arith)
words_of-set (a ∷ b ∷ bs) zero v h = ap (λ x. x ∷ words_of bs) (whole v)
words_of-set (a ∷ b ∷ bs) (suc r) v h =
    let more : 2 * suc r ≡ suc (suc (2 * r)) = omega arith in
    ap (λ p. words_of (patch (a ∷ b ∷ bs) p (word_bytes v))) more
    ∙ ap (λ ys. words_of ys) (patch_two a b (2 * r) bs (word_bytes v))
    ∙ ap (λ ws. (a + 256 * b) ∷ ws) (words_of-set bs r v (omega arith))

bytes_of-set : (ws others : List ℕ) (r v : ℕ) → r < length ws → bytes_of (set ws r v ++ others) ≡ patch (bytes_of (ws ++ others)) (2 * r) (word_bytes v)
unfolding patch
bytes_of-set [] others r v h = absurd (omega arith)
bytes_of-set (w ∷ ws) others zero v h = refl
bytes_of-set (w ∷ ws) others (suc r) v h =
    let more : suc (suc (2 * r)) ≡ 2 * suc r = omega arith in
    ap (λ bs. w % 256 ∷ w / 256 ∷ bs) (bytes_of-set ws others r v (omega arith))
    ∙ sym (patch_two (w % 256) (w / 256) (2 * r) (bytes_of (ws ++ others)) (word_bytes v))
    ∙ ap (λ p. patch (bytes_of (w ∷ ws ++ others)) p (word_bytes v)) more

-- ---- a thread's row

patch_inside : (m w : List ℕ) (at s o : ℕ) → o + length w ≤ s → at + s ≤ length m → patch m (at + o) w ≡ patch m at (patch (part m at s) o w)
unfolding patch part
patch_inside m w at s o h l = same_lists _ _ (grind (arith, places)) (λ k d l'. grind (arith, places))

-- a row's bytes with one register replaced
register_read : (bs : List ℕ) (r v : ℕ) → length bs ≡ 48 → r < 16
    → thread_read (patch bs (2 * r) (word_bytes v)) ≡ record (thread_read bs) { regs = set (thread_read bs).regs r v }
unfolding thread_read
register_read bs r v e h =
    let ws : List ℕ = words_of bs in
    let size : length ws ≡ 24 = length-words_of 24 bs e in
    let got : words_of (patch bs (2 * r) (word_bytes v)) ≡ set ws r v = words_of-set bs r v (omega arith) in
    let front : take 16 (set ws r v) ≡ set (take 16 ws) r v = take-set-lt 16 ws r v h in
    let back : drop 16 (set ws r v) ≡ drop 16 ws = drop-set-lt 16 ws r v h in
    ap (λ xs. thread_of_words (take 16 xs) (drop 16 xs)) got
    ∙ ap (λ rs. thread_of_words rs (drop 16 (set ws r v))) front
    ∙ ap (λ os. thread_of_words (set (take 16 ws) r v) os) back

register_written : (row : ThreadRow) (r v : ℕ) → length row.regs ≡ 16 → r < 16
    → thread_bytes (record row { regs = set row.regs r v }) ≡ patch (thread_bytes row) (2 * r) (word_bytes v)
unfolding thread_bytes
register_written row r v e h = bytes_of-set row.regs (row.state ∷ row.priority ∷ row.wake_low ∷ row.wake_high ∷ row.object ∷ row.mutex ∷ []) r v (omega arith)

table_rows_size : (m : List ℕ) → length m ≡ 65536 → length (nth (tables m) 7) ≡ 48 * 32
unfolding tables
table_rows_size m e = length-part m 1056 1536 (omega arith)

seventh : (m q : List ℕ) → nth (set (tables m) 7 q) 7 ≡ q
unfolding tables
seventh m q = refl

third : (m q : List ℕ) → nth (set (tables m) 7 q) 3 ≡ nth (tables m) 3
unfolding tables
third m q = refl

-- a byte of a row in which bytes were put, where the row was laid out
patched_byte : (m old w : List ℕ) (at p o : ℕ) → length m ≡ 65536 → length old ≡ 44 → length w ≡ 2 → o < 44 → p + 2 ≤ 44 → at + 44 ≤ 65536
    → ((n : ℕ) → n < 44 → get_or m (at + n) 0 ≡ get_or old n 0) → (a : ℕ) → a ≡ at + o → get_or (patch m (at + p) w) a 0 ≡ get_or (patch old p w) o 0
patched_byte m old w at p o e long two lo lp la same a is = ⊎_elim
    (λ (below : o < p). ap (λ n. get_or (patch m (at + p) w) n 0) is ∙ kept_below m w (at + p) (at + o) (omega arith) (omega arith) ∙ same o lo ∙ sym (kept_below old w p o below (omega arith)))
    (λ (on : p ≤ o). ⊎_elim
    (λ (inside : o < p + 2). let i : ℕ = o - p in let here : o ≡ p + i = omega arith in let there : a ≡ at + p + i = omega arith in
    ap (λ n. get_or (patch m (at + p) w) n 0) there ∙ put_byte m w (at + p) i (omega arith) (omega arith) ∙ sym (put_byte old w p i (omega arith) (omega arith)) ∙ ap (λ n. get_or (patch old p w) n 0) (sym here))
    (λ (above : p + 2 ≤ o). ap (λ n. get_or (patch m (at + p) w) n 0) is ∙ kept_above m w (at + p) (at + o) (omega arith) (omega arith) ∙ same o lo ∙ sym (kept_above old w p o (omega arith) (omega arith)))
    (cases_lt o (p + 2)))
    (cases_lt o p)

-- the register's two bytes are no links, so the walks are as before
walk_kept : (p w : List ℕ) (t r b : ℕ) → length p ≡ 1536 → length w ≡ 2 → t < 32 → r < 16
    → walk (λ s. get_or (patch p (48 * t + 2 * r) w) (48 * s + 44) 0) 32 b ≡ walk (λ s. get_or p (48 * s + 44) 0) 32 b
walk_kept p w t r b e e' l h =
    walk_same (λ s. get_or (patch p (48 * t + 2 * r) w) (48 * s + 44) 0) (λ s. get_or p (48 * s + 44) 0)
    (λ s ls. ⊎_elim
    (λ (below : s < t). kept_below p w (48 * t + 2 * r) (48 * s + 44) (omega arith) (omega arith))
    (λ (on : t ≤ s). kept_above p w (48 * t + 2 * r) (48 * s + 44) (omega arith) (omega arith))
    (cases_lt s t))
    32 b

-- the thread's row with the register replaced
abbrev new_row : (m : List ℕ) (t r v : ℕ) → ThreadRow
new_row m t r v = record (thread_at (kernel_of m) t) { regs = set (thread_at (kernel_of m) t).regs r v }

row_read : (m : List ℕ) (t r v : ℕ) → length m ≡ 65536 → t < 32 → r < 16
    → rows thread_read 48 32 (patch (nth (tables m) 7) (48 * t + 2 * r) (word_bytes v)) ≡ set (kernel_of m).threads t (new_row m t r v)
unfolding kernel_of kernel_in
row_read m t r v e l h =
    let p : List ℕ = nth (tables m) 7 in
    let size : length p ≡ 48 * 32 = table_rows_size m e in
    let old : List ℕ = part p (48 * t) 48 in
    let old_size : length old ≡ 48 = length-part p (48 * t) 48 (omega arith) in
    let b : List ℕ = patch old (2 * r) (word_bytes v) in
    let b_size : length b ≡ 48 = length-patch old (word_bytes v) (2 * r) (omega arith) ∙ old_size in
    let got : thread_at (kernel_of m) t ≡ thread_read old = rows-get thread_read 48 32 p t free_thread l in
    ap (λ q. rows thread_read 48 32 q) (patch_inside p (word_bytes v) (48 * t) 48 (2 * r) (omega arith) (omega arith))
    ∙ rows-set thread_read 48 32 p b t l size b_size
    ∙ ap (λ x. set (kernel_of m).threads t x) (register_read old r v old_size h ∙ ap (λ (o : ThreadRow). record o { regs = set o.regs r v }) (sym got))

register_moved : (m : List ℕ) (t r v : ℕ) → length m ≡ 65536 → t < 32 → r < 16
    → tables (patch m (1056 + 48 * t + 2 * r) (word_bytes v)) ≡ set (tables m) 7 (patch (nth (tables m) 7) (48 * t + 2 * r) (word_bytes v))
register_moved m t r v e l h = tables-patch m (word_bytes v) 7 (1056 + 48 * t + 2 * r) (48 * t + 2 * r) e (omega arith) (omega arith) (omega arith)

same : {X : Type 0} (x : X) → x ≡ x
same x = refl

with_rows : (m q : List ℕ) (ts : List ThreadRow) → rows thread_read 48 32 q ≡ ts → ((b : ℕ) → walk (λ s. get_or q (48 * s + 44) 0) 32 b ≡ walk (λ s. get_or (nth (tables m) 7) (48 * s + 44) 0) 32 b)
    → kernel_in (set (tables m) 7 q) ≡ record (kernel_of m) { threads = ts }
unfolding kernel_of kernel_in tables
with_rows m q ts e walks =
    let es : List ℕ = part m 544 32 in let old : List ℕ = part m 1056 1536 in
    same_kernel (same (words_of (part m 512 16)))
    (gathered_same (walked es q) (walked es old) 8 (λ p l. walks (get_or es (2 * p) 0)))
    (walks (get_or es 16 0))
    (same (rows app_read 16 8 (part m 608 128))) (same (rows module_read 16 4 (part m 736 64))) (same (rows function_read 4 64 (part m 800 256)))
    e
    (same (rows mutex_read 8 32 (part m 2592 256))) (same (rows before_none 4 32 (part m 2848 128))) (same (rows before_none 32 14 (part m 2976 448)))

register_kernel : (m : List ℕ) (t r v : ℕ) → length m ≡ 65536 → t < 32 → r < 16
    → kernel_of (patch m (1056 + 48 * t + 2 * r) (word_bytes v)) ≡ saved_register (kernel_of m) t r v
unfolding kernel_of
register_kernel m t r v e l h =
    let q : List ℕ = patch (nth (tables m) 7) (48 * t + 2 * r) (word_bytes v) in
    ap (λ ps. kernel_in ps) (register_moved m t r v e l h)
    ∙ with_rows m q (set (kernel_of m).threads t (new_row m t r v)) (row_read m t r v e l h) (λ b. walk_kept (nth (tables m) 7) (word_bytes v) t r b (table_rows_size m e) refl l h)

priority_kept : (m : List ℕ) (t r v x : ℕ) → t < 32 → priority_in (set (kernel_of m).threads t (new_row m t r v)) x ≡ priority_in (kernel_of m).threads x
priority_kept m t r v x l =
    let count : length (kernel_of m).threads ≡ 32 = thread_count m in
    ⊎_elim
    (λ (same : x ≡ t). ap (λ n. priority_in (set (kernel_of m).threads t (new_row m t r v)) n) same
    ∙ ap (λ (row : ThreadRow). row.priority) (get_or-set_same (kernel_of m).threads t (new_row m t r v) free_thread (omega arith)) ∙ ap (λ n. priority_in (kernel_of m).threads n) (sym same))
    (λ (other : x ≢ t). ap (λ (row : ThreadRow). row.priority) (get_or-set_other (kernel_of m).threads t x (new_row m t r v) free_thread other))
    (cases_eq x t)

-- the bytes of the rows, where they were the kernel's before
register_rows : (m : List ℕ) (t r v : ℕ) → length m ≡ 65536 → All Small m → t < 32 → r < 16 → nth (written (kernel_of m)) 7 ≡ nth (tables m) 7
    → nth (written (saved_register (kernel_of m) t r v)) 7 ≡ nth (tables (patch m (1056 + 48 * t + 2 * r) (word_bytes v))) 7
register_rows m t r v e small l h laid =
    let k : Kernel = kernel_of m in let k' : Kernel = saved_register k t r v in
    let m' : List ℕ = patch m (1056 + 48 * t + 2 * r) (word_bytes v) in
    let fits : Fits k = memory_fits_lem m e small in
    let count : length k.threads ≡ 32 = thread_count m in
    let regs : length (thread_at k t).regs ≡ 16 = (fits.threads t free_thread (omega arith)).regs in
    let w : Written m m' (word_bytes v) t (2 * r) = row_written m (word_bytes v) t (2 * r) e l (omega arith) in
    let here : get_or k'.threads t free_thread ≡ new_row m t r v = get_or-set_same k.threads t (new_row m t r v) free_thread (omega arith) in
    let old : List ℕ = thread_bytes (thread_at k t) in
    let long : length old ≡ 44 = length-thread (thread_at k t) (record { regs = regs }) in
    rows_kept m m' k k' t fits laid (record {
      size = w.size;
      fits = row_fits m t (new_row m t r v) fits (length-set (thread_at k t).regs r v ∙ regs);
      bytes = λ s o ls lo n. w.rows s o lo n;
      others = λ s ls n. get_or-set_other k.threads t s (new_row m t r v) free_thread n;
      own = λ o lo.
          let new : thread_bytes (new_row m t r v) ≡ patch old (2 * r) (word_bytes v) = register_written (thread_at k t) r v regs h in
          patched_byte m old (word_bytes v) (1056 + 48 * t) (2 * r) o e long refl lo (omega arith) (omega arith)
          (λ n ln. let place : 1056 + 48 * t + n ≡ 1056 + (48 * t + n) = omega arith in ap (λ a. get_or m a 0) place ∙ laid_front m k t n fits laid l ln)
          (1056 + (48 * t + o)) (omega arith)
          ∙ ap (λ bs. get_or bs o 0) (sym new) ∙ ap (λ row. get_or (thread_bytes row) o 0) (sym here);
      links = λ s ls. links_same k.threads k'.threads k.ready k.sleepers s (λ x i. priority_kept m t r v x l);
    })

pub leaves_register : (m m' : List ℕ) (t r v : ℕ) → length m ≡ 65536 → All Small m → t < 32 → r < 16
    → m' ≡ patch m (even (1056 + 48 * t + 2 * r)) (word_bytes v) → Leaves m m' (saved_register (kernel_of m) t r v)
unfolding IsLaidOut HasQueueBytes
leaves_register m m' t r v e small h l is =
    let k : Kernel = kernel_of m in let k' : Kernel = saved_register k t r v in
    let n : List ℕ = patch m (1056 + 48 * t + 2 * r) (word_bytes v) in
    let count : length k.threads ≡ 32 = thread_count m in
    let place : even (1056 + 48 * t + 2 * r) ≡ 1056 + 48 * t + 2 * r = omega arith in
    let is' : m' ≡ n = is ∙ ap (λ a. patch m a (word_bytes v)) place in
    let kernel : kernel_of m' ≡ k' = ap (λ a. kernel_of a) is' ∙ register_kernel m t r v e h l in
    let w : Written m n (word_bytes v) t (2 * r) = row_written m (word_bytes v) t (2 * r) e h (omega arith) in
    let moved : tables m' ≡ set (tables m) 7 (nth (tables n) 7) =
    ap (λ a. tables a) is' ∙ register_moved m t r v e h l ∙ ap (λ q. set (tables m) 7 q) (sym (ap (λ ps. nth ps 7) (register_moved m t r v e h l) ∙ seventh m (patch (nth (tables m) 7) (48 * t + 2 * r) (word_bytes v)))) in
    let rows_back : nth (written k) 7 ≡ nth (tables m) 7 → nth (written k') 7 ≡ nth (tables n) 7 = register_rows m t r v e small h l in
    record {
      kernel = kernel;
      others = ap (λ a. outside a) is' ∙ outside-patch m (word_bytes v) (1056 + 48 * t + 2 * r) e (omega arith) (omega arith);
      laid_out = λ laid.
          ap (λ j. written j) kernel
          ∙ ap (λ es. set (set (written k) 2 es) 7 (nth (written k') 7)) (ends_same k.threads k'.threads k.ready k.sleepers (λ x i. priority_kept m t r v x h))
          ∙ ap (λ q. set (written k) 7 q) (rows_back (ap (λ ps. nth ps 7) laid)) ∙ ap (λ ps. set ps 7 (nth (tables n) 7)) laid ∙ sym moved;
      queues = λ q. record {
        bytes = (
          ap (λ j. nth (written j) 2) kernel ∙ ends_kept m m' k' e small (ap (λ a. length a) is' ∙ w.size) q (λ i li. ap (λ a. get_or a (544 + i) 0) is' ∙ w.ends i li)
              (λ p lp. queue_of_same k.threads k'.threads k.ready k.sleepers p (λ x i. priority_kept m t r v x h)),
          (
            ap (λ j. nth (written j) 3) kernel ∙ q.bytes.1.0 ∙ sym (ap (λ ps. nth ps 3) moved ∙ third m (nth (tables n) 7)),
            ap (λ j. nth (written j) 7) kernel ∙ rows_back q.bytes.1.1 ∙ ap (λ a. nth (tables a) 7) (sym is'),
          ),
        );
        lists = subst (λ (j : Kernel). HasQueues j) (sym kernel)
            (queues_of_row k.threads k.ready k.sleepers t (new_row m t r v) (omega arith) (λ c. refl) (λ c. refl) q.lists);
      };
    }
