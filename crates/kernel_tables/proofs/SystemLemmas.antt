-- The kernel's words, read and replaced.
use Rattle.std.proofs.Common.{◌≡◌, ℕ, ◌+◌, ◌*◌, ◌/◌, ◌%◌, ◌≤◌, suc, List, [], ◌∷◌, length, set, refl, ap, sym, ◌∙◌, arith}
use Rattle.flat_mem.specs.Bytes.{patch, word_at, word_bytes, even}
use Rattle.kernel_model.specs.Bytes.{part, words_of, bytes_of, before_none, rows}
use Rattle.kernel_model.specs.Kernel.{Kernel, word_of, with_word}
use Rattle.kernel_model.specs.Layout.{written, tables, nth, kernel_made, kernel_in, kernel_of, IsLaidOut, outside, system_words, walked, app_read, module_read, function_read, thread_read, mutex_read}
use Rattle.kernel_model.specs.Links.{gathered}
use Rattle.kernel_model.specs.Queues.{Leaves}
use Rattle.kernel_model.specs.declared.rows.SysWord.{SysWord}
use Rattle.kernel_model.specs.declared.rows.SysWord.TheVariants.{CurLim, CurTop, Running, Module, Budget, Pending, TickLow, TickHigh}
use Rattle.kernel_model.specs.declared.rows.AppRow.{AppRow}
use Rattle.kernel_model.specs.declared.rows.ModuleRow.{ModuleRow}
use Rattle.kernel_model.specs.declared.rows.FnRow.{FnRow}
use Rattle.kernel_model.specs.declared.rows.ThreadRow.{ThreadRow}
use Rattle.kernel_model.specs.declared.rows.MutexRow.{MutexRow}
use Rattle.kernel_model.proofs.BytesLemmas.{length-part}
use Rattle.kernel_tables.specs.Places.{place_of}
use Rattle.kernel_tables.proofs.RowLemmas.{outside-patch}
use Rattle.kernel_tables.proofs.TableLemmas.{tables-patch, queues_kept}
use Rattle.kernel_tables.proofs.WordLemmas.{word_in}

pub word_got : (m : List ℕ) (w : SysWord) → length m ≡ 65536 → word_of (kernel_of m) w ≡ word_at m (place_of w)
unfolding kernel_of kernel_in tables
word_got m CurLim e = sym (word_in m 512 16 0 512 refl refl (omega arith) (omega arith))
word_got m CurTop e = sym (word_in m 512 16 1 514 refl refl (omega arith) (omega arith))
word_got m Running e = sym (word_in m 512 16 2 516 refl refl (omega arith) (omega arith))
word_got m Module e = sym (word_in m 512 16 3 518 refl refl (omega arith) (omega arith))
word_got m Budget e = sym (word_in m 512 16 4 520 refl refl (omega arith) (omega arith))
word_got m Pending e = sym (word_in m 512 16 5 522 refl refl (omega arith) (omega arith))
word_got m TickLow e = sym (word_in m 512 16 6 524 refl refl (omega arith) (omega arith))
word_got m TickHigh e = sym (word_in m 512 16 7 526 refl refl (omega arith) (omega arith))

-- ---- sixteen bytes by name

first_of_many : (P : List ℕ → Type 0) (n : ℕ) → ((b : ℕ) (bs : List ℕ) → length bs ≡ n → P (b ∷ bs)) → (bs : List ℕ) → length bs ≡ suc n → P bs
first_of_many P n f [] h = absurd (omega arith)
first_of_many P n f (b ∷ bs) h = f b bs (omega arith)

none_left : (P : List ℕ → Type 0) → P [] → (bs : List ℕ) → length bs ≡ 0 → P bs
none_left P p [] h = p
none_left P p (b ∷ bs) h = absurd (omega arith)

sixteen : (P : List ℕ → Type 0) → ((b0 b1 b2 b3 b4 b5 b6 b7 b8 b9 b10 b11 b12 b13 b14 b15 : ℕ) → P (b0 ∷ b1 ∷ b2 ∷ b3 ∷ b4 ∷ b5 ∷ b6 ∷ b7 ∷ b8 ∷ b9 ∷ b10 ∷ b11 ∷ b12 ∷ b13 ∷ b14 ∷ b15 ∷ [])) → (bs : List ℕ) → length bs ≡ 16 → P bs
sixteen P f =
    first_of_many P 15 (λ b0 r0 e0.
    first_of_many (λ bs. P (b0 ∷ bs)) 14 (λ b1 r1 e1.
    first_of_many (λ bs. P (b0 ∷ b1 ∷ bs)) 13 (λ b2 r2 e2.
    first_of_many (λ bs. P (b0 ∷ b1 ∷ b2 ∷ bs)) 12 (λ b3 r3 e3.
    first_of_many (λ bs. P (b0 ∷ b1 ∷ b2 ∷ b3 ∷ bs)) 11 (λ b4 r4 e4.
    first_of_many (λ bs. P (b0 ∷ b1 ∷ b2 ∷ b3 ∷ b4 ∷ bs)) 10 (λ b5 r5 e5.
    first_of_many (λ bs. P (b0 ∷ b1 ∷ b2 ∷ b3 ∷ b4 ∷ b5 ∷ bs)) 9 (λ b6 r6 e6.
    first_of_many (λ bs. P (b0 ∷ b1 ∷ b2 ∷ b3 ∷ b4 ∷ b5 ∷ b6 ∷ bs)) 8 (λ b7 r7 e7.
    first_of_many (λ bs. P (b0 ∷ b1 ∷ b2 ∷ b3 ∷ b4 ∷ b5 ∷ b6 ∷ b7 ∷ bs)) 7 (λ b8 r8 e8.
    first_of_many (λ bs. P (b0 ∷ b1 ∷ b2 ∷ b3 ∷ b4 ∷ b5 ∷ b6 ∷ b7 ∷ b8 ∷ bs)) 6 (λ b9 r9 e9.
    first_of_many (λ bs. P (b0 ∷ b1 ∷ b2 ∷ b3 ∷ b4 ∷ b5 ∷ b6 ∷ b7 ∷ b8 ∷ b9 ∷ bs)) 5 (λ b10 r10 e10.
    first_of_many (λ bs. P (b0 ∷ b1 ∷ b2 ∷ b3 ∷ b4 ∷ b5 ∷ b6 ∷ b7 ∷ b8 ∷ b9 ∷ b10 ∷ bs)) 4 (λ b11 r11 e11.
    first_of_many (λ bs. P (b0 ∷ b1 ∷ b2 ∷ b3 ∷ b4 ∷ b5 ∷ b6 ∷ b7 ∷ b8 ∷ b9 ∷ b10 ∷ b11 ∷ bs)) 3 (λ b12 r12 e12.
    first_of_many (λ bs. P (b0 ∷ b1 ∷ b2 ∷ b3 ∷ b4 ∷ b5 ∷ b6 ∷ b7 ∷ b8 ∷ b9 ∷ b10 ∷ b11 ∷ b12 ∷ bs)) 2 (λ b13 r13 e13.
    first_of_many (λ bs. P (b0 ∷ b1 ∷ b2 ∷ b3 ∷ b4 ∷ b5 ∷ b6 ∷ b7 ∷ b8 ∷ b9 ∷ b10 ∷ b11 ∷ b12 ∷ b13 ∷ bs)) 1 (λ b14 r14 e14.
    first_of_many (λ bs. P (b0 ∷ b1 ∷ b2 ∷ b3 ∷ b4 ∷ b5 ∷ b6 ∷ b7 ∷ b8 ∷ b9 ∷ b10 ∷ b11 ∷ b12 ∷ b13 ∷ b14 ∷ bs)) 0 (λ b15 r15 e15.
    none_left (λ bs. P (b0 ∷ b1 ∷ b2 ∷ b3 ∷ b4 ∷ b5 ∷ b6 ∷ b7 ∷ b8 ∷ b9 ∷ b10 ∷ b11 ∷ b12 ∷ b13 ∷ b14 ∷ b15 ∷ bs)) (f b0 b1 b2 b3 b4 b5 b6 b7 b8 b9 b10 b11 b12 b13 b14 b15) r15 e15) r14 e14) r13 e13) r12 e12) r11 e11) r10 e10) r9 e9) r8 e8) r7 e7) r6 e6) r5 e5) r4 e4) r3 e3) r2 e2) r1 e1) r0 e0)

-- ---- one word replaced

index_of : SysWord → ℕ
index_of CurLim = 0
index_of CurTop = 1
index_of Running = 2
index_of Module = 3
index_of Budget = 4
index_of Pending = 5
index_of TickLow = 6
index_of TickHigh = 7

whole : (v : ℕ) → v % 256 + 256 * (v / 256) ≡ v
whole v = omega arith

abbrev Made : (ready sleepers : List ℕ) → List AppRow → List ModuleRow → List FnRow → List ThreadRow → List MutexRow → (conditions lines : List (List ℕ)) → (w : SysWord) (v : ℕ) → List ℕ → Type 0
Made rs ss aps ms fs ts us cs ls w v p =
    kernel_made (words_of (patch p (2 * index_of w) (word_bytes v))) rs ss aps ms fs ts us cs ls ≡ with_word (kernel_made (words_of p) rs ss aps ms fs ts us cs ls) w v

word_made : (rs ss : List ℕ) (aps : List AppRow) (ms : List ModuleRow) (fs : List FnRow) (ts : List ThreadRow) (us : List MutexRow) (cs ls : List (List ℕ)) (w : SysWord) (v : ℕ) (p : List ℕ) → length p ≡ 16 → Made rs ss aps ms fs ts us cs ls w v p
unfolding patch index_of
word_made rs ss aps ms fs ts us cs ls CurLim v = sixteen (λ p. Made rs ss aps ms fs ts us cs ls CurLim v p) (λ b0 b1 b2 b3 b4 b5 b6 b7 b8 b9 b10 b11 b12 b13 b14 b15. ap (λ x. with_word (kernel_made (words_of (b0 ∷ b1 ∷ b2 ∷ b3 ∷ b4 ∷ b5 ∷ b6 ∷ b7 ∷ b8 ∷ b9 ∷ b10 ∷ b11 ∷ b12 ∷ b13 ∷ b14 ∷ b15 ∷ [])) rs ss aps ms fs ts us cs ls) CurLim x) (whole v))
word_made rs ss aps ms fs ts us cs ls CurTop v = sixteen (λ p. Made rs ss aps ms fs ts us cs ls CurTop v p) (λ b0 b1 b2 b3 b4 b5 b6 b7 b8 b9 b10 b11 b12 b13 b14 b15. ap (λ x. with_word (kernel_made (words_of (b0 ∷ b1 ∷ b2 ∷ b3 ∷ b4 ∷ b5 ∷ b6 ∷ b7 ∷ b8 ∷ b9 ∷ b10 ∷ b11 ∷ b12 ∷ b13 ∷ b14 ∷ b15 ∷ [])) rs ss aps ms fs ts us cs ls) CurTop x) (whole v))
word_made rs ss aps ms fs ts us cs ls Running v = sixteen (λ p. Made rs ss aps ms fs ts us cs ls Running v p) (λ b0 b1 b2 b3 b4 b5 b6 b7 b8 b9 b10 b11 b12 b13 b14 b15. ap (λ x. with_word (kernel_made (words_of (b0 ∷ b1 ∷ b2 ∷ b3 ∷ b4 ∷ b5 ∷ b6 ∷ b7 ∷ b8 ∷ b9 ∷ b10 ∷ b11 ∷ b12 ∷ b13 ∷ b14 ∷ b15 ∷ [])) rs ss aps ms fs ts us cs ls) Running x) (whole v))
word_made rs ss aps ms fs ts us cs ls Module v = sixteen (λ p. Made rs ss aps ms fs ts us cs ls Module v p) (λ b0 b1 b2 b3 b4 b5 b6 b7 b8 b9 b10 b11 b12 b13 b14 b15. ap (λ x. with_word (kernel_made (words_of (b0 ∷ b1 ∷ b2 ∷ b3 ∷ b4 ∷ b5 ∷ b6 ∷ b7 ∷ b8 ∷ b9 ∷ b10 ∷ b11 ∷ b12 ∷ b13 ∷ b14 ∷ b15 ∷ [])) rs ss aps ms fs ts us cs ls) Module x) (whole v))
word_made rs ss aps ms fs ts us cs ls Budget v = sixteen (λ p. Made rs ss aps ms fs ts us cs ls Budget v p) (λ b0 b1 b2 b3 b4 b5 b6 b7 b8 b9 b10 b11 b12 b13 b14 b15. ap (λ x. with_word (kernel_made (words_of (b0 ∷ b1 ∷ b2 ∷ b3 ∷ b4 ∷ b5 ∷ b6 ∷ b7 ∷ b8 ∷ b9 ∷ b10 ∷ b11 ∷ b12 ∷ b13 ∷ b14 ∷ b15 ∷ [])) rs ss aps ms fs ts us cs ls) Budget x) (whole v))
word_made rs ss aps ms fs ts us cs ls Pending v = sixteen (λ p. Made rs ss aps ms fs ts us cs ls Pending v p) (λ b0 b1 b2 b3 b4 b5 b6 b7 b8 b9 b10 b11 b12 b13 b14 b15. ap (λ x. with_word (kernel_made (words_of (b0 ∷ b1 ∷ b2 ∷ b3 ∷ b4 ∷ b5 ∷ b6 ∷ b7 ∷ b8 ∷ b9 ∷ b10 ∷ b11 ∷ b12 ∷ b13 ∷ b14 ∷ b15 ∷ [])) rs ss aps ms fs ts us cs ls) Pending x) (whole v))
word_made rs ss aps ms fs ts us cs ls TickLow v = sixteen (λ p. Made rs ss aps ms fs ts us cs ls TickLow v p) (λ b0 b1 b2 b3 b4 b5 b6 b7 b8 b9 b10 b11 b12 b13 b14 b15. ap (λ x. with_word (kernel_made (words_of (b0 ∷ b1 ∷ b2 ∷ b3 ∷ b4 ∷ b5 ∷ b6 ∷ b7 ∷ b8 ∷ b9 ∷ b10 ∷ b11 ∷ b12 ∷ b13 ∷ b14 ∷ b15 ∷ [])) rs ss aps ms fs ts us cs ls) TickLow x) (whole v))
word_made rs ss aps ms fs ts us cs ls TickHigh v = sixteen (λ p. Made rs ss aps ms fs ts us cs ls TickHigh v p) (λ b0 b1 b2 b3 b4 b5 b6 b7 b8 b9 b10 b11 b12 b13 b14 b15. ap (λ x. with_word (kernel_made (words_of (b0 ∷ b1 ∷ b2 ∷ b3 ∷ b4 ∷ b5 ∷ b6 ∷ b7 ∷ b8 ∷ b9 ∷ b10 ∷ b11 ∷ b12 ∷ b13 ∷ b14 ∷ b15 ∷ [])) rs ss aps ms fs ts us cs ls) TickHigh x) (whole v))

word_bytes_put : (k : Kernel) (w : SysWord) (v : ℕ) → bytes_of (system_words (with_word k w v)) ≡ patch (bytes_of (system_words k)) (2 * index_of w) (word_bytes v)
unfolding patch index_of
word_bytes_put k CurLim v = refl
word_bytes_put k CurTop v = refl
word_bytes_put k Running v = refl
word_bytes_put k Module v = refl
word_bytes_put k Budget v = refl
word_bytes_put k Pending v = refl
word_bytes_put k TickLow v = refl
word_bytes_put k TickHigh v = refl

word_written : (k : Kernel) (w : SysWord) (v : ℕ) → written (with_word k w v) ≡ set (written k) 0 (bytes_of (system_words (with_word k w v)))
word_written k CurLim v = refl
word_written k CurTop v = refl
word_written k Running v = refl
word_written k Module v = refl
word_written k Budget v = refl
word_written k Pending v = refl
word_written k TickLow v = refl
word_written k TickHigh v = refl

word_place : (w : SysWord) → even (place_of w) ≡ 512 + 2 * index_of w
unfolding index_of
word_place CurLim = refl
word_place CurTop = refl
word_place Running = refl
word_place Module = refl
word_place Budget = refl
word_place Pending = refl
word_place TickLow = refl
word_place TickHigh = refl

index_below : (w : SysWord) → 2 * index_of w + 2 ≤ 16
unfolding index_of
index_below CurLim = omega arith
index_below CurTop = omega arith
index_below Running = omega arith
index_below Module = omega arith
index_below Budget = omega arith
index_below Pending = omega arith
index_below TickLow = omega arith
index_below TickHigh = omega arith

word_moved : (m : List ℕ) (w : SysWord) (v : ℕ) → length m ≡ 65536 → tables (patch m (even (place_of w)) (word_bytes v)) ≡ set (tables m) 0 (patch (nth (tables m) 0) (2 * index_of w) (word_bytes v))
word_moved m w v e =
    let place : even (place_of w) ≡ 512 + 2 * index_of w = word_place w in
    let room : 2 * index_of w + 2 ≤ 16 = index_below w in
    tables-patch m (word_bytes v) 0 (even (place_of w)) (2 * index_of w) e (omega arith) place room

word_kernel : (m : List ℕ) (w : SysWord) (v : ℕ) → length m ≡ 65536 → kernel_in (set (tables m) 0 (patch (nth (tables m) 0) (2 * index_of w) (word_bytes v))) ≡ with_word (kernel_of m) w v
unfolding kernel_of kernel_in tables
word_kernel m w v e =
    word_made (gathered (walked (part m 544 32) (part m 1056 1536)) 8) (walked (part m 544 32) (part m 1056 1536) 8) (rows app_read 16 8 (part m 608 128)) (rows module_read 16 4 (part m 736 64))
    (rows function_read 4 64 (part m 800 256)) (rows thread_read 48 32 (part m 1056 1536)) (rows mutex_read 8 32 (part m 2592 256))
    (rows before_none 4 32 (part m 2848 128)) (rows before_none 32 14 (part m 2976 448)) w v (part m 512 16) (length-part m 512 16 (omega arith))

others_stay : (m q : List ℕ) → (nth (set (tables m) 0 q) 2 ≡ nth (tables m) 2) × ((nth (set (tables m) 0 q) 3 ≡ nth (tables m) 3) × (nth (set (tables m) 0 q) 7 ≡ nth (tables m) 7))
unfolding tables
others_stay m q = (refl, (refl, refl))

pub leaves_word : (m m' : List ℕ) (w : SysWord) (v : ℕ) → length m ≡ 65536 → m' ≡ patch m (even (place_of w)) (word_bytes v) → Leaves m m' (with_word (kernel_of m) w v)
unfolding kernel_of IsLaidOut
leaves_word m m' w v e is =
    let q : List ℕ = patch (nth (tables m) 0) (2 * index_of w) (word_bytes v) in
    let moved : tables m' ≡ set (tables m) 0 q = ap (λ n. tables n) is ∙ word_moved m w v e in
    let k : Kernel = with_word (kernel_of m) w v in
    let kernel : kernel_of m' ≡ k = ap (λ ps. kernel_in ps) moved ∙ word_kernel m w v e in
    let place : even (place_of w) ≡ 512 + 2 * index_of w = word_place w in
    let room : 2 * index_of w + 2 ≤ 16 = index_below w in
    let elsewhere : outside (patch m (even (place_of w)) (word_bytes v)) ≡ outside m = outside-patch m (word_bytes v) (even (place_of w)) e (omega arith) (omega arith) in
    record {
      kernel = kernel;
      others = ap (λ n. outside n) is ∙ elsewhere;
      laid_out = λ laid.
          let bytes : bytes_of (system_words (kernel_of m)) ≡ nth (tables m) 0 = ap (λ ps. nth ps 0) laid in
          ap (λ j. written j) kernel
          ∙ word_written (kernel_of m) w v
          ∙ ap (λ b. set (written (kernel_of m)) 0 b) (word_bytes_put (kernel_of m) w v ∙ ap (λ b. patch b (2 * index_of w) (word_bytes v)) bytes)
          ∙ ap (λ ps. set ps 0 q) laid
          ∙ sym moved;
      queues = queues_kept m m' (ap (λ ps. nth ps 2) moved ∙ (others_stay m q).0) (ap (λ ps. nth ps 3) moved ∙ (others_stay m q).1.0) (ap (λ ps. nth ps 7) moved ∙ (others_stay m q).1.1);
    }
