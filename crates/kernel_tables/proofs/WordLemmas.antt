-- The words of a row, read one by one.
use Rattle.std.proofs.Common.{◌≡◌, ℕ, ◌+◌, ◌*◌, ◌%◌, ◌<◌, ◌≤◌, zero, suc, List, [], ◌∷◌, ◌++◌, length, take, drop, get_or, refl, ap, sym, ◌∙◌, arith}
use Rattle.std.proofs.lemmas.List.{take_at, drop_at}
use Rattle.flat_mem.specs.Bytes.{word_at, even}
use Rattle.kernel_model.specs.Bytes.{part, words_of, before_none}
use Rattle.kernel_model.specs.Layout.{app_read, module_read, function_read, thread_read, mutex_read}
use Rattle.kernel_model.specs.declared.rows.AppRow.{AppRow}
use Rattle.kernel_model.specs.declared.rows.ModuleRow.{ModuleRow}
use Rattle.kernel_model.specs.declared.rows.FnRow.{FnRow}
use Rattle.kernel_model.specs.declared.rows.ThreadRow.{ThreadRow}
use Rattle.kernel_model.specs.declared.rows.MutexRow.{MutexRow}
use Rattle.kernel_model.proofs.BytesLemmas.{length-part, length-words_of, part-two}
use Rattle.kernel_model.specs.Words.{priority_of}
use Rattle.kernel_model.specs.Layout.{kernel_of}
use Rattle.kernel_tables.proofs.Patches.{part-part, byte_in}
use Rattle.kernel_tables.proofs.TableLemmas.{thread_got}

-- word i of bytes
words_of-get : (bs : List ℕ) (i : ℕ) → 2 * i + 2 ≤ length bs → get_or (words_of bs) i 0 ≡ get_or bs (2 * i) 0 + 256 * get_or bs (2 * i + 1) 0
words_of-get [] i h = absurd (omega arith)
words_of-get (a ∷ []) i h = absurd (omega arith)
words_of-get (a ∷ b ∷ bs) zero h = refl
words_of-get (a ∷ b ∷ bs) (suc i) h =
    let low : 2 * suc i ≡ suc (suc (2 * i)) = omega arith in
    let high : 2 * suc i + 1 ≡ suc (suc (2 * i + 1)) = omega arith in
    words_of-get bs i (omega arith)
    ∙ ap (λ k. get_or (a ∷ b ∷ bs) k 0 + 256 * get_or bs (2 * i + 1) 0) (sym low)
    ∙ ap (λ k. get_or (a ∷ b ∷ bs) (2 * suc i) 0 + 256 * get_or (a ∷ b ∷ bs) k 0) (sym high)

-- word i of a piece at an even address
pub word_in : (m : List ℕ) (at n i b : ℕ) → at % 2 ≡ 0 → b ≡ at + 2 * i → 2 * i + 2 ≤ n → at + n ≤ length m → word_at m b ≡ get_or (words_of (part m at n)) i 0
word_in m at n i b h e l w =
    let size : length (part m at n) ≡ n = length-part m at n w in
    let low : at + 2 * i ≡ even b = omega arith in
    let high : at + (2 * i + 1) ≡ even b + 1 = omega arith in
    sym (words_of-get (part m at n) i (omega arith)
    ∙ ap (λ x. x + 256 * get_or (part m at n) (2 * i + 1) 0) (byte_in m at n (2 * i) (omega arith) ∙ ap (λ k. get_or m k 0) low)
    ∙ ap (λ x. get_or m (even b) 0 + 256 * x) (byte_in m at n (2 * i + 1) (omega arith) ∙ ap (λ k. get_or m k 0) high))

same_app : {x0 x1 x2 x3 x4 x5 x6 x7 y0 y1 y2 y3 y4 y5 y6 y7 : ℕ} → x0 ≡ y0 → x1 ≡ y1 → x2 ≡ y2 → x3 ≡ y3 → x4 ≡ y4 → x5 ≡ y5 → x6 ≡ y6 → x7 ≡ y7
    → (let row : AppRow = record { state = x0; code_lo = x1; code_hi = x2; lo = x3; hi = x4; z = x5; stack = x6; threads = x7 } in row) ≡ (let row : AppRow = record { state = y0; code_lo = y1; code_hi = y2; lo = y3; hi = y4; z = y5; stack = y6; threads = y7 } in row)
same_app {x0} {x1} {x2} {x3} {x4} {x5} {x6} {x7} {y0} {y1} {y2} {y3} {y4} {y5} {y6} {y7} e0 e1 e2 e3 e4 e5 e6 e7 =
    ap (λ z. (let row : AppRow = record { state = z; code_lo = x1; code_hi = x2; lo = x3; hi = x4; z = x5; stack = x6; threads = x7 } in row)) e0
    ∙ ap (λ z. (let row : AppRow = record { state = y0; code_lo = z; code_hi = x2; lo = x3; hi = x4; z = x5; stack = x6; threads = x7 } in row)) e1
    ∙ ap (λ z. (let row : AppRow = record { state = y0; code_lo = y1; code_hi = z; lo = x3; hi = x4; z = x5; stack = x6; threads = x7 } in row)) e2
    ∙ ap (λ z. (let row : AppRow = record { state = y0; code_lo = y1; code_hi = y2; lo = z; hi = x4; z = x5; stack = x6; threads = x7 } in row)) e3
    ∙ ap (λ z. (let row : AppRow = record { state = y0; code_lo = y1; code_hi = y2; lo = y3; hi = z; z = x5; stack = x6; threads = x7 } in row)) e4
    ∙ ap (λ z. (let row : AppRow = record { state = y0; code_lo = y1; code_hi = y2; lo = y3; hi = y4; z = z; stack = x6; threads = x7 } in row)) e5
    ∙ ap (λ z. (let row : AppRow = record { state = y0; code_lo = y1; code_hi = y2; lo = y3; hi = y4; z = y5; stack = z; threads = x7 } in row)) e6
    ∙ ap (λ z. (let row : AppRow = record { state = y0; code_lo = y1; code_hi = y2; lo = y3; hi = y4; z = y5; stack = y6; threads = z } in row)) e7

pub app_words_at : (m : List ℕ) (at : ℕ) → at % 2 ≡ 0 → at + 16 ≤ length m → (let row : AppRow = record { state = word_at m at; code_lo = word_at m (at + 2); code_hi = word_at m (at + 4); lo = word_at m (at + 6); hi = word_at m (at + 8); z = word_at m (at + 10); stack = word_at m (at + 12); threads = word_at m (at + 14) } in row) ≡ app_read (part m at 16)
unfolding app_read
app_words_at m at h w =
    let word : (i b : ℕ) → b ≡ at + 2 * i → 2 * i + 2 ≤ 16 → word_at m b ≡ get_or (words_of (part m at 16)) i 0 = λ i b e l. word_in m at 16 i b h e l w in
    same_app
    (word 0 at (omega arith) (omega arith))
    (word 1 (at + 2) (omega arith) (omega arith))
    (word 2 (at + 4) (omega arith) (omega arith))
    (word 3 (at + 6) (omega arith) (omega arith))
    (word 4 (at + 8) (omega arith) (omega arith))
    (word 5 (at + 10) (omega arith) (omega arith))
    (word 6 (at + 12) (omega arith) (omega arith))
    (word 7 (at + 14) (omega arith) (omega arith))

same_module : {x0 x1 x2 x3 x4 y0 y1 y2 y3 y4 : ℕ} → x0 ≡ y0 → x1 ≡ y1 → x2 ≡ y2 → x3 ≡ y3 → x4 ≡ y4
    → (let row : ModuleRow = record { state = x0; code_lo = x1; code_hi = x2; lo = x3; hi = x4 } in row) ≡ (let row : ModuleRow = record { state = y0; code_lo = y1; code_hi = y2; lo = y3; hi = y4 } in row)
same_module {x0} {x1} {x2} {x3} {x4} {y0} {y1} {y2} {y3} {y4} e0 e1 e2 e3 e4 =
    ap (λ z. (let row : ModuleRow = record { state = z; code_lo = x1; code_hi = x2; lo = x3; hi = x4 } in row)) e0
    ∙ ap (λ z. (let row : ModuleRow = record { state = y0; code_lo = z; code_hi = x2; lo = x3; hi = x4 } in row)) e1
    ∙ ap (λ z. (let row : ModuleRow = record { state = y0; code_lo = y1; code_hi = z; lo = x3; hi = x4 } in row)) e2
    ∙ ap (λ z. (let row : ModuleRow = record { state = y0; code_lo = y1; code_hi = y2; lo = z; hi = x4 } in row)) e3
    ∙ ap (λ z. (let row : ModuleRow = record { state = y0; code_lo = y1; code_hi = y2; lo = y3; hi = z } in row)) e4

pub module_words_at : (m : List ℕ) (at : ℕ) → at % 2 ≡ 0 → at + 16 ≤ length m → (let row : ModuleRow = record { state = word_at m at; code_lo = word_at m (at + 2); code_hi = word_at m (at + 4); lo = word_at m (at + 6); hi = word_at m (at + 8) } in row) ≡ module_read (part m at 16)
unfolding module_read
module_words_at m at h w =
    let word : (i b : ℕ) → b ≡ at + 2 * i → 2 * i + 2 ≤ 16 → word_at m b ≡ get_or (words_of (part m at 16)) i 0 = λ i b e l. word_in m at 16 i b h e l w in
    same_module
    (word 0 at (omega arith) (omega arith))
    (word 1 (at + 2) (omega arith) (omega arith))
    (word 2 (at + 4) (omega arith) (omega arith))
    (word 3 (at + 6) (omega arith) (omega arith))
    (word 4 (at + 8) (omega arith) (omega arith))

same_function : {x0 x1 y0 y1 : ℕ} → x0 ≡ y0 → x1 ≡ y1
    → (let row : FnRow = record { «module» = x0; address = x1 } in row) ≡ (let row : FnRow = record { «module» = y0; address = y1 } in row)
same_function {x0} {x1} {y0} {y1} e0 e1 =
    ap (λ z. (let row : FnRow = record { «module» = z; address = x1 } in row)) e0
    ∙ ap (λ z. (let row : FnRow = record { «module» = y0; address = z } in row)) e1

pub function_words_at : (m : List ℕ) (at : ℕ) → at % 2 ≡ 0 → at + 4 ≤ length m → (let row : FnRow = record { «module» = word_at m at; address = word_at m (at + 2) } in row) ≡ function_read (part m at 4)
unfolding function_read
function_words_at m at h w =
    let word : (i b : ℕ) → b ≡ at + 2 * i → 2 * i + 2 ≤ 4 → word_at m b ≡ get_or (words_of (part m at 4)) i 0 = λ i b e l. word_in m at 4 i b h e l w in
    same_function
    (word 0 at (omega arith) (omega arith))
    (word 1 (at + 2) (omega arith) (omega arith))

-- ---- threads

words_of-append : (n : ℕ) (xs ys : List ℕ) → length xs ≡ 2 * n → words_of (xs ++ ys) ≡ words_of xs ++ words_of ys
words_of-append n [] ys h = refl
words_of-append n (a ∷ []) ys h = absurd (omega arith)
words_of-append zero (a ∷ b ∷ xs) ys h = absurd (omega arith)
words_of-append (suc n) (a ∷ b ∷ xs) ys h = ap (λ ws. (a + 256 * b) ∷ ws) (words_of-append n xs ys (omega arith))

thread_parts : (m : List ℕ) (at : ℕ) → at + 48 ≤ length m → words_of (part m at 48) ≡ words_of (part m at 32) ++ words_of (part m (at + 32) 16)
thread_parts m at h =
    ap (λ bs. words_of bs) (sym (part-two m at 32 16)) ∙ words_of-append 16 (part m at 32) (part m (at + 32) 16) (length-part m at 32 (omega arith))

same_thread : {x0 y0 : List ℕ} {x1 x2 x3 x4 x5 x6 y1 y2 y3 y4 y5 y6 : ℕ} → x0 ≡ y0 → x1 ≡ y1 → x2 ≡ y2 → x3 ≡ y3 → x4 ≡ y4 → x5 ≡ y5 → x6 ≡ y6
    → (let row : ThreadRow = record { regs = x0; state = x1; priority = x2; wake_low = x3; wake_high = x4; object = x5; mutex = x6 } in row) ≡ (let row : ThreadRow = record { regs = y0; state = y1; priority = y2; wake_low = y3; wake_high = y4; object = y5; mutex = y6 } in row)
same_thread {x0} {y0} {x1} {x2} {x3} {x4} {x5} {x6} {y1} {y2} {y3} {y4} {y5} {y6} e0 e1 e2 e3 e4 e5 e6 =
    ap (λ z. (let row : ThreadRow = record { regs = z; state = x1; priority = x2; wake_low = x3; wake_high = x4; object = x5; mutex = x6 } in row)) e0
    ∙ ap (λ z. (let row : ThreadRow = record { regs = y0; state = z; priority = x2; wake_low = x3; wake_high = x4; object = x5; mutex = x6 } in row)) e1
    ∙ ap (λ z. (let row : ThreadRow = record { regs = y0; state = y1; priority = z; wake_low = x3; wake_high = x4; object = x5; mutex = x6 } in row)) e2
    ∙ ap (λ z. (let row : ThreadRow = record { regs = y0; state = y1; priority = y2; wake_low = z; wake_high = x4; object = x5; mutex = x6 } in row)) e3
    ∙ ap (λ z. (let row : ThreadRow = record { regs = y0; state = y1; priority = y2; wake_low = y3; wake_high = z; object = x5; mutex = x6 } in row)) e4
    ∙ ap (λ z. (let row : ThreadRow = record { regs = y0; state = y1; priority = y2; wake_low = y3; wake_high = y4; object = z; mutex = x6 } in row)) e5
    ∙ ap (λ z. (let row : ThreadRow = record { regs = y0; state = y1; priority = y2; wake_low = y3; wake_high = y4; object = y5; mutex = z } in row)) e6

pub thread_words_at : (m : List ℕ) (at : ℕ) → at % 2 ≡ 0 → at + 48 ≤ length m → (let row : ThreadRow = record { regs = words_of (part m at 32); state = word_at m (at + 32); priority = word_at m (at + 34); wake_low = word_at m (at + 36); wake_high = word_at m (at + 38); object = word_at m (at + 40); mutex = word_at m (at + 42) } in row) ≡ thread_read (part m at 48)
unfolding thread_read
thread_words_at m at h w =
    let ws : List ℕ = words_of (part m at 48) in
    let rs : List ℕ = words_of (part m at 32) in
    let os : List ℕ = words_of (part m (at + 32) 16) in
    let size : length rs ≡ 16 = length-words_of 16 (part m at 32) (length-part m at 32 (omega arith)) in
    let regs : rs ≡ take 16 ws = sym (ap (λ xs. take 16 xs) (thread_parts m at w) ∙ take_at rs os 16 size) in
    let others : drop 16 ws ≡ os = ap (λ xs. drop 16 xs) (thread_parts m at w) ∙ drop_at rs os 16 size in
    let word : (i b : ℕ) → b ≡ at + 32 + 2 * i → 2 * i + 2 ≤ 16 → word_at m b ≡ get_or (drop 16 ws) i 0 =
    λ i b e l. word_in m (at + 32) 16 i b (omega arith) e l (omega arith) ∙ ap (λ xs. get_or xs i 0) (sym others) in
    same_thread regs
    (word 0 (at + 32) (omega arith) (omega arith))
    (word 1 (at + 34) (omega arith) (omega arith))
    (word 2 (at + 36) (omega arith) (omega arith))
    (word 3 (at + 38) (omega arith) (omega arith))
    (word 4 (at + 40) (omega arith) (omega arith))
    (word 5 (at + 42) (omega arith) (omega arith))

-- ---- mutexes

pub mutex_words_at : (m : List ℕ) (at : ℕ) → at % 2 ≡ 0 → at + 8 ≤ length m → (let row : MutexRow = record { owner = word_at m at; waiters = record { items = before_none (part m (at + 2) 4) } } in row) ≡ mutex_read (part m at 8)
unfolding mutex_read part
mutex_words_at m at h w =
    let owner : word_at m at ≡ get_or (words_of (part m at 8)) 0 0 = word_in m at 8 0 at h (omega arith) (omega arith) w in
    let waiters : part m (at + 2) 4 ≡ take 4 (drop 2 (part m at 8)) = sym (part-part m at 8 2 4 (omega arith)) in
    ap (λ o. (let row : MutexRow = record { owner = o; waiters = record { items = before_none (part m (at + 2) 4) } } in row)) owner
    ∙ ap (λ bs. (let row : MutexRow = record { owner = get_or (words_of (part m at 8)) 0 0; waiters = record { items = before_none bs } } in row)) waiters

-- ---- a thread's priority

pub priority_got : (m : List ℕ) (t : ℕ) → length m ≡ 65536 → t < 32 → priority_of (kernel_of m) t ≡ word_at m (1056 + 48 * t + 34)
unfolding thread_read
priority_got m t e h =
    let at : ℕ = 1056 + 48 * t in
    let got : priority_of (kernel_of m) t ≡ (thread_read (part m at 48)).priority = ap (λ (r : ThreadRow). r.priority) (thread_got m t e h) in
    let word : (thread_read (part m at 48)).priority ≡ word_at m (at + 34) = ap (λ (r : ThreadRow). r.priority) (sym (thread_words_at m at (omega arith) (omega arith))) in
    got ∙ word
