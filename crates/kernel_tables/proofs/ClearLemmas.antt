-- The empty kernel's bytes.
use Rattle.std.proofs.Common.{◌≡◌, ℕ, ◌+◌, ◌*◌, ◌<◌, ◌≤◌, ◌⊎◌, zero, suc, List, [], ◌∷◌, ◌++◌, length, take, drop, map, get_or, slice_set, refl, ap, sym, ◌∙◌, subst, ⊎_elim, arith, length-append, add-one}
use Rattle.std.specs.List.{range_with_len}
use Rattle.std.proofs.lemmas.List.{set_split, length-replicate, replicate_more}
use Rattle.std.proofs.lemmas.List.Elements.{All-nil, All-replicate}
use Rattle.std.proofs.lemmas.List.FromFn.{get_or-map-range_with_len}
use Rattle.flat_mem.specs.Bytes.{patch, word_at}
use Rattle.kernel_model.specs.declared.map.TheConstants.{FIRST_ROUTINE, KERNEL_LIMIT, KERNEL_TOP, TABLES_END, VECTORS, VECTORS_END}
use Rattle.kernel_model.specs.Bytes.{part, bytes_of, words_of, filled}
use Rattle.kernel_model.specs.Kernel.{empty_row, free_mutex}
use Rattle.kernel_model.specs.Layout.{app_bytes, module_bytes, function_bytes, linked_bytes, thread_bytes, mutex_bytes, queue_ends, layout, table_bytes, empty, kernel_of, IsLaidOut, Fits, FitsList, FitsThread, FitsMutex}
use Rattle.kernel_model.specs.Queues.{HasQueues}
use Rattle.kernel_model.proofs.BytesLemmas.{words_of-bytes_of}
use Rattle.kernel_model.proofs.LayoutLemmas.{kernel_of-layout, laid_out_from_layout}
use Rattle.kernel_model.proofs.FitLemmas.{memory_fits_lem}
use Rattle.kernel_model.proofs.OrderlyLemmas.{laid_out_queue_bytes}
use Rattle.kernel_tables.specs.Clearing.{copies, repeated, vector_bytes, Cleared}
use Rattle.kernel_tables.proofs.Patches.{flat_small, length-patch, kept_below, kept_above, part-patch_all, part-patch_before}
use Rattle.kernel_tables.proofs.PieceLemmas.{put_two, patch_none}
use Rattle.kernel_tables.proofs.WordLemmas.{word_in}

-- ---- loops

pub copies_none : (m : List ℕ) (at b : ℕ) → m ≡ patch m at (copies 0 b)
unfolding copies
copies_none m at b = patch_none m at

pub length-copies : (n b : ℕ) → length (copies n b) ≡ n
unfolding copies
length-copies n b = length-replicate n b

one_byte : (m : List ℕ) (at b : ℕ) → at < length m → slice_set m at b ≡ patch m at (b ∷ [])
unfolding patch
one_byte m at b h = set_split m at b h ∙ ap (λ k. take at m ++ b ∷ drop k m) (let next : suc at ≡ at + 1 = omega arith in next)

copies_next : (i b : ℕ) → copies i b ++ b ∷ [] ≡ copies (i + 1) b
unfolding copies
copies_next i b = replicate_more i b

pub copies_more : (m m1 m2 : List ℕ) (at i b : ℕ) → m1 ≡ patch m at (copies i b) → m2 ≡ slice_set m1 (at + i) b → at + i < length m → m2 ≡ patch m at (copies (i + 1) b)
copies_more m m1 m2 at i b e f h =
    let size : length (copies i b) ≡ i = length-copies i b in
    let same : length m1 ≡ length m = ap (λ n. length n) e ∙ length-patch m (copies i b) at (omega arith) in
    put_two m m1 m2 (copies i b) (b ∷ []) at (at + i) e (f ∙ one_byte m1 (at + i) b (omega arith)) (omega arith) (omega arith)
    ∙ ap (λ bs. patch m at bs) (copies_next i b)

pub length-repeated : (n r : ℕ) (bs : List ℕ) → length bs ≡ r → length (repeated n bs) ≡ r * n
unfolding repeated
length-repeated zero r bs h = omega arith
length-repeated (suc n) r bs h =
    let rest : length (repeated n bs) ≡ r * n = length-repeated n r bs h in
    let both : length (repeated n bs ++ bs) ≡ length (repeated n bs) + length bs = length-append (repeated n bs) bs in
    let times : r * suc n ≡ r * n + r = grind arith in
    both ∙ (let sum : length (repeated n bs) + length bs ≡ r * suc n = omega arith in sum)

pub repeated_none : (m bs : List ℕ) (at : ℕ) → m ≡ patch m at (repeated 0 bs)
unfolding repeated
repeated_none m bs at = patch_none m at

repeated_next : (i : ℕ) (bs : List ℕ) → repeated i bs ++ bs ≡ repeated (i + 1) bs
unfolding repeated
repeated_next i bs = ap (λ n. repeated n bs) (sym (add-one i))

pub repeated_more : (m m1 m2 bs : List ℕ) (at i r b : ℕ) → length bs ≡ r → b ≡ at + r * i → m1 ≡ patch m at (repeated i bs) → m2 ≡ patch m1 b bs → b + r ≤ length m → m2 ≡ patch m at (repeated (i + 1) bs)
repeated_more m m1 m2 bs at i r b s p e f h =
    let size : length (repeated i bs) ≡ r * i = length-repeated i r bs s in
    put_two m m1 m2 (repeated i bs) bs at b e f (omega arith) (omega arith)
    ∙ ap (λ xs. patch m at xs) (repeated_next i bs)

-- ---- the pieces of the empty kernel

abbrev pub start : List ℕ
start = bytes_of (KERNEL_LIMIT ∷ KERNEL_TOP ∷ 0xFFFF ∷ 0xFFFF ∷ 0 ∷ 0 ∷ 0 ∷ 0 ∷ [])

abbrev pub no_function : List ℕ
no_function = 255 ∷ 255 ∷ 0 ∷ 0 ∷ []

abbrev pub no_owner : List ℕ
no_owner = 255 ∷ 255 ∷ 255 ∷ 255 ∷ 255 ∷ 255 ∷ 0 ∷ 0 ∷ []

joined : ((((((start ++ copies 272 0) ++ repeated 64 no_function) ++ copies 1536 0) ++ repeated 32 no_owner) ++ copies 576 255) ++ copies 672 0) ≡ layout empty
unfolding copies repeated layout empty filled app_bytes module_bytes function_bytes linked_bytes thread_bytes mutex_bytes queue_ends
joined = refl

-- a memory in which so many bytes were put over those from 0200 on
record Done (m m' xs : List ℕ) (n : ℕ) : Type 0 where
  is : m' ≡ patch m 512 xs
  size : length xs ≡ n

done_more : (m m1 m2 xs ys : List ℕ) (n k b : ℕ) → Done m m1 xs n → length ys ≡ k → b ≡ 512 + n → b + k ≤ length m → m2 ≡ patch m1 b ys → Done m m2 (xs ++ ys) (n + k)
done_more m m1 m2 xs ys n k b d l p w e =
    let size : length xs ≡ n = d.size in
    record {
      is = put_two m m1 m2 xs ys 512 b d.is e (omega arith) (omega arith);
      size = length-append xs ys ∙ (let sum : length xs + length ys ≡ n + k = omega arith in sum);
    }

pub tables_cleared : (m m1 m2 m3 m4 m5 m6 m7 : List ℕ) → length m ≡ 65536
    → m1 ≡ patch m 512 start → m2 ≡ patch m1 528 (copies 272 0)
    → m3 ≡ patch m2 800 (repeated 64 no_function) → m4 ≡ patch m3 1056 (copies 1536 0) → m5 ≡ patch m4 2592 (repeated 32 no_owner)
    → m6 ≡ patch m5 2848 (copies 576 255) → m7 ≡ patch m6 3424 (copies 672 0) → m7 ≡ patch m 512 (layout empty)
tables_cleared m m1 m2 m3 m4 m5 m6 m7 e e1 e2 e3 e4 e5 e6 e7 =
    let xs2 : List ℕ = start ++ copies 272 0 in
    let xs3 : List ℕ = xs2 ++ repeated 64 no_function in
    let xs4 : List ℕ = xs3 ++ copies 1536 0 in
    let xs5 : List ℕ = xs4 ++ repeated 32 no_owner in
    let xs6 : List ℕ = xs5 ++ copies 576 255 in
    let d1 : Done m m1 start 16 = record { is = e1; size = refl } in
    let d2 : Done m m2 xs2 288 = done_more m m1 m2 start (copies 272 0) 16 272 528 d1 (length-copies 272 0) refl (omega arith) e2 in
    let d3 : Done m m3 xs3 544 = done_more m m2 m3 xs2 (repeated 64 no_function) 288 256 800 d2 (length-repeated 64 4 no_function refl) refl (omega arith) e3 in
    let d4 : Done m m4 xs4 2080 = done_more m m3 m4 xs3 (copies 1536 0) 544 1536 1056 d3 (length-copies 1536 0) refl (omega arith) e4 in
    let d5 : Done m m5 xs5 2336 = done_more m m4 m5 xs4 (repeated 32 no_owner) 2080 256 2592 d4 (length-repeated 32 8 no_owner refl) refl (omega arith) e5 in
    let d6 : Done m m6 xs6 2912 = done_more m m5 m6 xs5 (copies 576 255) 2336 576 2848 d5 (length-copies 576 255) refl (omega arith) e6 in
    let d7 : Done m m7 (xs6 ++ copies 672 0) 3584 = done_more m m6 m7 xs6 (copies 672 0) 2912 672 3424 d6 (length-copies 672 0) refl (omega arith) e7 in
    d7.is ∙ ap (λ xs. patch m 512 xs) joined

-- ---- the empty kernel in a memory

no_list : (n : ℕ) → FitsList n []
no_list n = record { room = (let most : 0 ≤ n = omega arith in most); below = All-nil (λ x. x < 255) }

empty_fits : Fits empty
unfolding empty
empty_fits = record {
  app_rows = refl;
  module_rows = refl;
  function_rows = refl;
  thread_rows = refl;
  threads = All-replicate FitsThread 32 empty_row (record { regs = refl });
  mutex_rows = refl;
  mutexes = All-replicate FitsMutex 32 free_mutex (record { waiters = no_list 4 });
  condition_lists = refl;
  conditions = All-replicate (FitsList 4) 32 [] (no_list 4);
  line_lists = refl;
  lines = All-replicate (FitsList 32) 14 [] (no_list 32);
}

empty_queues : HasQueues empty
unfolding empty
empty_queues = record {
  ready_below = All-nil (λ x. x < 32);
  sleepers_below = All-nil (λ x. x < 32);
  once = λ i j d lt l. absurd (omega arith);
  priorities = λ k d l. absurd (omega arith);
  by_priority = λ i j d lt l. absurd (omega arith);
  by_wake_time = λ i j d lt l. absurd (omega arith);
}

layout_size : length (layout empty) ≡ 3584
unfolding layout empty filled app_bytes module_bytes function_bytes linked_bytes thread_bytes mutex_bytes queue_ends
layout_size = refl

vector_size : length vector_bytes ≡ 28
unfolding vector_bytes
vector_size = refl

vector_word : (m : List ℕ) → length m ≡ 65536 → part m VECTORS 28 ≡ vector_bytes → (n : ℕ) → n < 14 → word_at m (VECTORS + 2 * n) ≡ FIRST_ROUTINE + 2 * n
unfolding vector_bytes
vector_word m e v n h =
    word_in m VECTORS 28 n (VECTORS + 2 * n) refl refl (omega arith) (omega arith)
    ∙ ap (λ bs. get_or (words_of bs) n 0) v
    ∙ ap (λ ws. get_or ws n 0) (words_of-bytes_of (map (λ k. FIRST_ROUTINE + 2 * k) (range_with_len 0 14)))
    ∙ get_or-map-range_with_len (λ k. FIRST_ROUTINE + 2 * k) 0 14 n n 0 h (omega arith)

pub cleared_lem : (m m1 m2 : List ℕ) → length m ≡ 65536 → m1 ≡ patch m 512 (layout empty) → m2 ≡ patch m1 VECTORS vector_bytes → Cleared m m2
unfolding table_bytes
cleared_lem m m1 m2 e f g =
    let tables : length (layout empty) ≡ 3584 = layout_size in
    let vectors : length vector_bytes ≡ 28 = vector_size in
    let size1 : length m1 ≡ 65536 = ap (λ n. length n) f ∙ length-patch m (layout empty) 512 (omega arith) ∙ e in
    let size2 : length m2 ≡ 65536 = ap (λ n. length n) g ∙ length-patch m1 vector_bytes VECTORS (omega arith) ∙ size1 in
    let bytes : part m2 512 3584 ≡ layout empty =
    ap (λ n. part n 512 3584) g
    ∙ part-patch_before m1 vector_bytes VECTORS 512 3584 (omega arith) (omega arith)
    ∙ ap (λ n. part n 512 3584) f
    ∙ part-patch_all m (layout empty) 512 3584 (sym tables) (omega arith) in
    let laid : IsLaidOut m2 = laid_out_from_layout m2 empty empty_fits empty_queues bytes in
    let kernel : kernel_of m2 ≡ empty = kernel_of-layout m2 empty empty_fits empty_queues bytes in
    let placed : part m2 VECTORS 28 ≡ vector_bytes = ap (λ n. part n VECTORS 28) g ∙ part-patch_all m1 vector_bytes VECTORS 28 (sym vectors) (omega arith) in
    let byte2 : (a : ℕ) → get_or m2 a 0 ≡ get_or (patch m1 VECTORS vector_bytes) a 0 = λ a. ap (λ n. get_or n a 0) g in
    let byte1 : (a : ℕ) → get_or m1 a 0 ≡ get_or (patch m 512 (layout empty)) a 0 = λ a. ap (λ n. get_or n a 0) f in
    record {
      kernel = kernel;
      laid_out = laid;
      queues = record { bytes = laid_out_queue_bytes m2 laid; lists = subst (λ k. HasQueues k) (sym kernel) empty_queues };
      vectors = vector_word m2 size2 placed;
      others = λ a where'. ⊎_elim
          (λ (low : a < 512).
          byte2 a ∙ kept_below m1 vector_bytes VECTORS a (omega arith) (omega arith)
          ∙ byte1 a ∙ kept_below m (layout empty) 512 a low (omega arith))
          (λ (rest : ((TABLES_END ≤ a) × (a < VECTORS)) ⊎ (VECTORS_END ≤ a)). ⊎_elim
          (λ (mid : (TABLES_END ≤ a) × (a < VECTORS)).
          byte2 a ∙ kept_below m1 vector_bytes VECTORS a mid.1 (omega arith)
          ∙ byte1 a ∙ kept_above m (layout empty) 512 a (omega (arith, mid.0)) (omega arith))
          (λ (high : VECTORS_END ≤ a).
          byte2 a ∙ kept_above m1 vector_bytes VECTORS a (omega arith) (omega arith)
          ∙ byte1 a ∙ kept_above m (layout empty) 512 a (omega arith) (omega arith))
          rest)
          where';
    }

-- ---- every memory

pub flat_fits : (m : List ℕ) → length m ≡ 65536 → ((k : ℕ) → get_or m k 0 < 256) → Fits (kernel_of m)
flat_fits m e h = memory_fits_lem m e (flat_small m h)
