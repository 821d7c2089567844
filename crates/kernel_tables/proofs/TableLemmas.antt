-- What a write of one row leaves of the kernel.
use Rattle.std.proofs.Common.{◌≡◌, ℕ, ◌+◌, ◌-◌, ◌*◌, ◌<◌, ◌≤◌, suc, List, [], ◌∷◌, ◌++◌, length, take, drop, get_or, set, refl, ap, sym, ◌∙◌, subst, arith, length-append, replicate, All}
use Rattle.std.proofs.lemmas.List.{length-drop, length-take-le}
use Rattle.std.specs.List.{flat_map}
use Rattle.std.proofs.lemmas.List.Elements.{All-weaker}
use Rattle.flat_mem.specs.Bytes.{patch}
use Rattle.kernel_model.specs.Bytes.{part, before_none, filled, rows}
use Rattle.kernel_model.specs.Kernel.{Kernel, with_app, with_module, with_function, with_mutex, with_condition, with_line, app_at, module_at, function_at, thread_at, mutex_at, condition_at, line_at, free_app, free_module, free_function, free_thread, free_mutex}
use Rattle.kernel_model.specs.Layout.{sizes, written, tables, nth, kernel_in, kernel_of, IsLaidOut, outside, app_read, app_bytes, module_read, module_bytes, function_read, function_bytes, thread_read, linked_bytes, linked_rows, links_of, queue_ends, walked, mutex_read, mutex_bytes, FitsMutex, FitsList}
use Rattle.kernel_model.specs.Links.{gathered}
use Rattle.kernel_model.specs.Queues.{AreQueues, HasQueueBytes, QueuesHold, Leaves}
use Rattle.kernel_model.specs.declared.rows.AppRow.{AppRow}
use Rattle.kernel_model.specs.declared.rows.ModuleRow.{ModuleRow}
use Rattle.kernel_model.specs.declared.rows.FnRow.{FnRow}
use Rattle.kernel_model.specs.declared.rows.MutexRow.{MutexRow}
use Rattle.kernel_model.proofs.BytesLemmas.{ReadsBack, total, length-part, length-filled, length-before_none, length-rows}
use Rattle.kernel_model.proofs.LayoutLemmas.{app_back, module_back, function_back, mutex_back, list_back}
use Rattle.kernel_tables.proofs.Patches.{part-part}
use Rattle.kernel_tables.proofs.RowLemmas.{rows-get, rows-set, flat_map-rows-set, split-patch, total-get, outside-patch, row_fits}

-- ---- one table

-- where table i of a memory stands in its kernel: `put` is the kernel with other rows there
pub record IsTable {X : Type 0} (read : List ℕ → X) (write : X → List ℕ) (r n i : ℕ) (m : List ℕ) (put : List X → Kernel) : Type 0 where
  pub read_in : (q : List ℕ) → kernel_in (set (tables m) i q) ≡ put (rows read r n q)
  pub written_in : (xs : List X) → written (put xs) ≡ set (written (kernel_of m)) i (flat_map write xs)
  pub stands : nth (written (kernel_of m)) i ≡ flat_map write (rows read r n (nth (tables m) i))
  pub size : length (nth (tables m) i) ≡ r * n
  pub sized : get_or sizes i 0 ≡ r * n
  pub is_table : i < 12
  pub ends_stay : (q : List ℕ) → nth (set (tables m) i q) 2 ≡ nth (tables m) 2
  pub unused_stays : (q : List ℕ) → nth (set (tables m) i q) 3 ≡ nth (tables m) 3
  pub threads_stay : (q : List ℕ) → nth (set (tables m) i q) 7 ≡ nth (tables m) 7
  pub rewritten : (bs : List ℕ) → length bs ≡ r → length (write (read bs)) ≡ r

pub tables-patch : (m bs : List ℕ) (i a o : ℕ) → length m ≡ 65536 → i < 12 → a ≡ 512 + total (take i sizes) + o → o + length bs ≤ get_or sizes i 0
    → tables (patch m a bs) ≡ set (tables m) i (patch (nth (tables m) i) o bs)
unfolding tables
tables-patch m bs i a o e h p l = split-patch sizes i 512 a o m bs h p l (omega arith)

-- the kernel, the bytes elsewhere, and the layout, after a row was written
pub record Kept (before after : List ℕ) (k : Kernel) : Type 0 where
  pub kernel : kernel_of after ≡ k
  pub others : outside after ≡ outside before
  pub laid_out : IsLaidOut before → IsLaidOut after
  pub ends_bytes : nth (tables after) 2 ≡ nth (tables before) 2
  pub unused_bytes : nth (tables after) 3 ≡ nth (tables before) 3
  pub thread_bytes : nth (tables after) 7 ≡ nth (tables before) 7

pub total_sizes : (i : ℕ) → i < 12 → total (take i sizes) + get_or sizes i 0 ≤ 3584
total_sizes i h = (let all : get_or sizes i 0 + total (take i sizes) ≤ total sizes = total-get sizes i in omega arith)

pub kept_row : {X : Type 0} (read : List ℕ → X) (write : X → List ℕ) (r n i : ℕ) (m : List ℕ) (put : List X → Kernel) (t a : ℕ) (x : X)
    → IsTable read write r n i m put → ReadsBack read write r x → length m ≡ 65536 → t < n → a ≡ 512 + total (take i sizes) + r * t
    → Kept m (patch m a (write x)) (put (set (rows read r n (nth (tables m) i)) t x))
unfolding kernel_of IsLaidOut
kept_row {X} read write r n i m put t a x is back e h p =
    let bs : List ℕ = nth (tables m) i in
    let fits : r * t + r ≤ r * n = row_fits r n t h in
    let sized : get_or sizes i 0 ≡ r * n = is.sized in
    let size : length (write x) ≡ r = back.size in
    let room : r * t + length (write x) ≤ get_or sizes i 0 = omega arith in
    let whole : total (take i sizes) + get_or sizes i 0 ≤ 3584 = total_sizes i is.is_table in
    let moved : tables (patch m a (write x)) ≡ set (tables m) i (patch bs (r * t) (write x)) = tables-patch m (write x) i a (r * t) e is.is_table p room in
    let old : List X = rows read r n bs in
    let got : rows read r n (patch bs (r * t) (write x)) ≡ set old t x =
    rows-set read r n bs (write x) t h is.size size ∙ ap (λ y. set old t y) back.back in
    let kernel : kernel_of (patch m a (write x)) ≡ put (set old t x) =
    ap (λ ps. kernel_in ps) moved ∙ is.read_in (patch bs (r * t) (write x)) ∙ ap (λ xs. put xs) got in
    record {
      kernel = kernel;
      others = outside-patch m (write x) a e (omega arith) (omega arith);
      laid_out = λ laid.
          let stands : flat_map write old ≡ bs = sym is.stands ∙ ap (λ ps. nth ps i) laid in
          let bytes : flat_map write (set old t x) ≡ patch bs (r * t) (write x) = flat_map-rows-set read write r is.rewritten n bs x t h is.size size stands in
          ap (λ k. written k) kernel
          ∙ is.written_in (set old t x)
          ∙ ap (λ q. set (written (kernel_of m)) i q) bytes
          ∙ ap (λ ps. set ps i (patch bs (r * t) (write x))) laid
          ∙ sym moved;
      ends_bytes = ap (λ ps. nth ps 2) moved ∙ is.ends_stay (patch bs (r * t) (write x));
      unused_bytes = ap (λ ps. nth ps 3) moved ∙ is.unused_stays (patch bs (r * t) (write x));
      thread_bytes = ap (λ ps. nth ps 7) moved ∙ is.threads_stay (patch bs (r * t) (write x));
    }

-- ---- the queues after a write elsewhere

-- the lists, and the bytes that they ask for, are those of three tables
abbrev Lists : (ends unused rows : List ℕ) → Type 0
Lists es us rs =
    let threads = rows thread_read 48 32 rs in let ready = gathered (walked es rs) 8 in let sleepers = walked es rs 8 in
    ((queue_ends threads ready sleepers ≡ es) × ((replicate 32 0 ≡ us) × (flat_map linked_bytes (linked_rows (links_of threads ready sleepers) 0 threads) ≡ rs)))
    × AreQueues threads ready sleepers

lists_of : (m : List ℕ) → QueuesHold m → Lists (nth (tables m) 2) (nth (tables m) 3) (nth (tables m) 7)
unfolding HasQueueBytes kernel_of kernel_in
lists_of m h = (h.bytes, h.lists)

hold_of : (m : List ℕ) → Lists (nth (tables m) 2) (nth (tables m) 3) (nth (tables m) 7) → QueuesHold m
unfolding HasQueueBytes kernel_of kernel_in
hold_of m h = record { bytes = h.0; lists = h.1 }

pub queues_kept : (m m' : List ℕ) → nth (tables m') 2 ≡ nth (tables m) 2 → nth (tables m') 3 ≡ nth (tables m) 3 → nth (tables m') 7 ≡ nth (tables m) 7 → QueuesHold m → QueuesHold m'
queues_kept m m' e2 e3 e7 h =
    hold_of m'
    (subst (λ (es : List ℕ). Lists es (nth (tables m') 3) (nth (tables m') 7)) (sym e2)
    (subst (λ (us : List ℕ). Lists (nth (tables m) 2) us (nth (tables m') 7)) (sym e3)
    (subst (λ (rs : List ℕ). Lists (nth (tables m) 2) (nth (tables m) 3) rs) (sym e7) (lists_of m h))))

leaves_kept : (m m' : List ℕ) (k : Kernel) → Kept m m' k → Leaves m m' k
leaves_kept m m' k h = record {
  kernel = h.kernel;
  others = h.others;
  laid_out = h.laid_out;
  queues = queues_kept m m' h.ends_bytes h.unused_bytes h.thread_bytes;
}

-- ---- each table

app_table : (m : List ℕ) → length m ≡ 65536 → IsTable app_read app_bytes 16 8 4 m (λ xs. record (kernel_of m) { apps = xs })
unfolding tables kernel_in kernel_of app_bytes
app_table m e = record {
  read_in = λ q. refl;
  written_in = λ xs. refl;
  stands = refl;
  size = length-part m 608 128 (omega arith);
  sized = refl;
  is_table = omega arith;
  ends_stay = λ q. refl;
  unused_stays = λ q. refl;
  threads_stay = λ q. refl;
  rewritten = λ bs h. refl;
}

pub leaves_app : (m m' : List ℕ) (a : ℕ) (row : AppRow) → length m ≡ 65536 → a < 8 → m' ≡ patch m (608 + 16 * a) (app_bytes row) → Leaves m m' (with_app (kernel_of m) a row)
unfolding kernel_of kernel_in
leaves_app m m' a row e h p =
    let kept : Kept m (patch m (608 + 16 * a) (app_bytes row)) (with_app (kernel_of m) a row) =
    kept_row app_read app_bytes 16 8 4 m (λ xs. record (kernel_of m) { apps = xs }) a (608 + 16 * a) row (app_table m e) (app_back row) e h refl in
    leaves_kept m m' (with_app (kernel_of m) a row) (subst (λ (n : List ℕ). Kept m n (with_app (kernel_of m) a row)) (sym p) kept)

pub app_got : (m : List ℕ) (a : ℕ) → length m ≡ 65536 → a < 8 → app_at (kernel_of m) a ≡ app_read (part m (608 + 16 * a) 16)
unfolding kernel_of kernel_in tables
app_got m a e h = rows-get app_read 16 8 (part m 608 128) a free_app h ∙ ap (λ bs. app_read bs) (part-part m 608 128 (16 * a) 16 (omega arith))

module_table : (m : List ℕ) → length m ≡ 65536 → IsTable module_read module_bytes 16 4 5 m (λ xs. record (kernel_of m) { modules = xs })
unfolding tables kernel_in kernel_of module_bytes
module_table m e = record {
  read_in = λ q. refl;
  written_in = λ xs. refl;
  stands = refl;
  size = length-part m 736 64 (omega arith);
  sized = refl;
  is_table = omega arith;
  ends_stay = λ q. refl;
  unused_stays = λ q. refl;
  threads_stay = λ q. refl;
  rewritten = λ bs h. refl;
}

pub leaves_module : (m m' : List ℕ) (t : ℕ) (row : ModuleRow) → length m ≡ 65536 → t < 4 → m' ≡ patch m (736 + 16 * t) (module_bytes row) → Leaves m m' (with_module (kernel_of m) t row)
unfolding kernel_of kernel_in
leaves_module m m' t row e h p =
    let kept : Kept m (patch m (736 + 16 * t) (module_bytes row)) (with_module (kernel_of m) t row) =
    kept_row module_read module_bytes 16 4 5 m (λ xs. record (kernel_of m) { modules = xs }) t (736 + 16 * t) row (module_table m e) (module_back row) e h refl in
    leaves_kept m m' (with_module (kernel_of m) t row) (subst (λ (n : List ℕ). Kept m n (with_module (kernel_of m) t row)) (sym p) kept)

pub module_got : (m : List ℕ) (t : ℕ) → length m ≡ 65536 → t < 4 → module_at (kernel_of m) t ≡ module_read (part m (736 + 16 * t) 16)
unfolding kernel_of kernel_in tables
module_got m t e h = rows-get module_read 16 4 (part m 736 64) t free_module h ∙ ap (λ bs. module_read bs) (part-part m 736 64 (16 * t) 16 (omega arith))

function_table : (m : List ℕ) → length m ≡ 65536 → IsTable function_read function_bytes 4 64 6 m (λ xs. record (kernel_of m) { functions = xs })
unfolding tables kernel_in kernel_of function_bytes
function_table m e = record {
  read_in = λ q. refl;
  written_in = λ xs. refl;
  stands = refl;
  size = length-part m 800 256 (omega arith);
  sized = refl;
  is_table = omega arith;
  ends_stay = λ q. refl;
  unused_stays = λ q. refl;
  threads_stay = λ q. refl;
  rewritten = λ bs h. refl;
}

pub leaves_function : (m m' : List ℕ) (t : ℕ) (row : FnRow) → length m ≡ 65536 → t < 64 → m' ≡ patch m (800 + 4 * t) (function_bytes row) → Leaves m m' (with_function (kernel_of m) t row)
unfolding kernel_of kernel_in
leaves_function m m' t row e h p =
    let kept : Kept m (patch m (800 + 4 * t) (function_bytes row)) (with_function (kernel_of m) t row) =
    kept_row function_read function_bytes 4 64 6 m (λ xs. record (kernel_of m) { functions = xs }) t (800 + 4 * t) row (function_table m e) (function_back row) e h refl in
    leaves_kept m m' (with_function (kernel_of m) t row) (subst (λ (n : List ℕ). Kept m n (with_function (kernel_of m) t row)) (sym p) kept)

pub function_got : (m : List ℕ) (t : ℕ) → length m ≡ 65536 → t < 64 → function_at (kernel_of m) t ≡ function_read (part m (800 + 4 * t) 4)
unfolding kernel_of kernel_in tables
function_got m t e h = rows-get function_read 4 64 (part m 800 256) t free_function h ∙ ap (λ bs. function_read bs) (part-part m 800 256 (4 * t) 4 (omega arith))

-- ---- mutexes, conditions and lines

filled_size : (n : ℕ) (bs : List ℕ) → length bs ≡ n → length (filled n (before_none bs)) ≡ n
filled_size n bs h = length-filled n (before_none bs) (let most : length (before_none bs) ≤ length bs = length-before_none bs in omega arith)

mutex_rewritten : (bs : List ℕ) → length bs ≡ 8 → length (mutex_bytes (mutex_read bs)) ≡ 8
unfolding mutex_bytes mutex_read
mutex_rewritten bs h =
    let waiting : List ℕ = take 4 (drop 2 bs) in
    let left : length (drop 2 bs) ≡ length bs - 2 = length-drop 2 bs in
    let four : length waiting ≡ 4 = length-take-le 4 (drop 2 bs) (omega arith) in
    let list : List ℕ = filled 4 (before_none waiting) in
    let size : length list ≡ 4 = filled_size 4 waiting four in
    let ends : List ℕ = 0 ∷ 0 ∷ [] in
    let both : length (list ++ ends) ≡ length list + 2 = length-append list ends in
    let all : suc (suc (length (list ++ ends))) ≡ 8 = omega arith in
    all

mutex_table : (m : List ℕ) → length m ≡ 65536 → IsTable mutex_read mutex_bytes 8 32 8 m (λ xs. record (kernel_of m) { mutexes = xs })
unfolding tables kernel_in kernel_of
mutex_table m e = record {
  read_in = λ q. refl;
  written_in = λ xs. refl;
  stands = refl;
  size = length-part m 2592 256 (omega arith);
  sized = refl;
  is_table = omega arith;
  ends_stay = λ q. refl;
  unused_stays = λ q. refl;
  threads_stay = λ q. refl;
  rewritten = mutex_rewritten;
}

condition_table : (m : List ℕ) → length m ≡ 65536 → IsTable before_none (filled 4) 4 32 9 m (λ xs. record (kernel_of m) { conditions = xs })
unfolding tables kernel_in kernel_of
condition_table m e = record {
  read_in = λ q. refl;
  written_in = λ xs. refl;
  stands = refl;
  size = length-part m 2848 128 (omega arith);
  sized = refl;
  is_table = omega arith;
  ends_stay = λ q. refl;
  unused_stays = λ q. refl;
  threads_stay = λ q. refl;
  rewritten = filled_size 4;
}

line_table : (m : List ℕ) → length m ≡ 65536 → IsTable before_none (filled 32) 32 14 10 m (λ xs. record (kernel_of m) { lines = xs })
unfolding tables kernel_in kernel_of
line_table m e = record {
  read_in = λ q. refl;
  written_in = λ xs. refl;
  stands = refl;
  size = length-part m 2976 448 (omega arith);
  sized = refl;
  is_table = omega arith;
  ends_stay = λ q. refl;
  unused_stays = λ q. refl;
  threads_stay = λ q. refl;
  rewritten = filled_size 32;
}

-- a list of identities fits
pub short_of_none : (n : ℕ) (xs : List ℕ) → length xs ≤ n → All (λ x. x < 32) xs → FitsList n xs
short_of_none n xs h b = record { room = h; below = All-weaker (λ x. x < 32) (λ x. x < 255) (λ x l. (let less : x < 255 = omega arith in less)) xs b }

-- identities of mutexes and conditions
place_below : (a i : ℕ) → a < 8 → i < 4 → 4 * a + i < 32
place_below a i h l = omega arith

pub leaves_mutex : (m m' : List ℕ) (a i : ℕ) (row : MutexRow) → length m ≡ 65536 → a < 8 → i < 4 → FitsMutex row → m' ≡ patch m (2592 + 8 * (4 * a + i)) (mutex_bytes row) → Leaves m m' (with_mutex (kernel_of m) a i row)
unfolding kernel_of kernel_in
leaves_mutex m m' a i row e h l f p =
    let kept : Kept m (patch m (2592 + 8 * (4 * a + i)) (mutex_bytes row)) (with_mutex (kernel_of m) a i row) =
    kept_row mutex_read mutex_bytes 8 32 8 m (λ xs. record (kernel_of m) { mutexes = xs }) (4 * a + i) (2592 + 8 * (4 * a + i)) row (mutex_table m e) (mutex_back row f) e (place_below a i h l) refl in
    leaves_kept m m' (with_mutex (kernel_of m) a i row) (subst (λ (n : List ℕ). Kept m n (with_mutex (kernel_of m) a i row)) (sym p) kept)

pub mutex_got : (m : List ℕ) (a i : ℕ) → length m ≡ 65536 → a < 8 → i < 4 → mutex_at (kernel_of m) a i ≡ mutex_read (part m (2592 + 8 * (4 * a + i)) 8)
unfolding kernel_of kernel_in tables
mutex_got m a i e h l =
    rows-get mutex_read 8 32 (part m 2592 256) (4 * a + i) free_mutex (place_below a i h l)
    ∙ ap (λ bs. mutex_read bs) (part-part m 2592 256 (8 * (4 * a + i)) 8 (omega arith))

pub leaves_condition : (m m' : List ℕ) (a i : ℕ) (xs : List ℕ) → length m ≡ 65536 → a < 8 → i < 4 → FitsList 4 xs → m' ≡ patch m (2848 + 4 * (4 * a + i)) (filled 4 xs) → Leaves m m' (with_condition (kernel_of m) a i xs)
unfolding kernel_of kernel_in
leaves_condition m m' a i xs e h l f p =
    let kept : Kept m (patch m (2848 + 4 * (4 * a + i)) (filled 4 xs)) (with_condition (kernel_of m) a i xs) =
    kept_row before_none (filled 4) 4 32 9 m (λ ys. record (kernel_of m) { conditions = ys }) (4 * a + i) (2848 + 4 * (4 * a + i)) xs (condition_table m e) (list_back 4 xs f) e (place_below a i h l) refl in
    leaves_kept m m' (with_condition (kernel_of m) a i xs) (subst (λ (n : List ℕ). Kept m n (with_condition (kernel_of m) a i xs)) (sym p) kept)

pub condition_got : (m : List ℕ) (a i : ℕ) → length m ≡ 65536 → a < 8 → i < 4 → condition_at (kernel_of m) a i ≡ before_none (part m (2848 + 4 * (4 * a + i)) 4)
unfolding kernel_of kernel_in tables
condition_got m a i e h l =
    rows-get before_none 4 32 (part m 2848 128) (4 * a + i) [] (place_below a i h l)
    ∙ ap (λ bs. before_none bs) (part-part m 2848 128 (4 * (4 * a + i)) 4 (omega arith))

pub leaves_line : (m m' : List ℕ) (n : ℕ) (xs : List ℕ) → length m ≡ 65536 → n < 14 → FitsList 32 xs → m' ≡ patch m (2976 + 32 * n) (filled 32 xs) → Leaves m m' (with_line (kernel_of m) n xs)
unfolding kernel_of kernel_in
leaves_line m m' n xs e h f p =
    let kept : Kept m (patch m (2976 + 32 * n) (filled 32 xs)) (with_line (kernel_of m) n xs) =
    kept_row before_none (filled 32) 32 14 10 m (λ ys. record (kernel_of m) { lines = ys }) n (2976 + 32 * n) xs (line_table m e) (list_back 32 xs f) e h refl in
    leaves_kept m m' (with_line (kernel_of m) n xs) (subst (λ (n' : List ℕ). Kept m n' (with_line (kernel_of m) n xs)) (sym p) kept)

pub line_got : (m : List ℕ) (n : ℕ) → length m ≡ 65536 → n < 14 → line_at (kernel_of m) n ≡ before_none (part m (2976 + 32 * n) 32)
unfolding kernel_of kernel_in tables
line_got m n e h = rows-get before_none 32 14 (part m 2976 448) n [] h ∙ ap (λ bs. before_none bs) (part-part m 2976 448 (32 * n) 32 (omega arith))

-- ---- threads

-- a row's bytes in its table are those at its address
pub thread_piece : (m : List ℕ) (t : ℕ) → t < 32 → part (nth (tables m) 7) (48 * t) 48 ≡ part m (1056 + 48 * t) 48
unfolding tables
thread_piece m t h = part-part m 1056 1536 (48 * t) 48 (omega arith)

pub thread_got : (m : List ℕ) (t : ℕ) → length m ≡ 65536 → t < 32 → thread_at (kernel_of m) t ≡ thread_read (part m (1056 + 48 * t) 48)
unfolding kernel_of kernel_in tables
thread_got m t e h = rows-get thread_read 48 32 (part m 1056 1536) t free_thread h ∙ ap (λ bs. thread_read bs) (part-part m 1056 1536 (48 * t) 48 (omega arith))

pub thread_count : (m : List ℕ) → length (kernel_of m).threads ≡ 32
unfolding kernel_of kernel_in
thread_count m = length-rows thread_read 48 32 (nth (tables m) 7)
