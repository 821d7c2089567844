-- Every memory's kernel fits the tables.
use Rattle.std.proofs.Common.{◌≡◌, ℕ, ◌+◌, ◌*◌, ◌<◌, ◌≤◌, Bool, true, false, cond, eqb, zero, suc, List, [], ◌∷◌, length, take, drop, refl, arith, All}
use Rattle.std.proofs.lemmas.List.{length-drop, length-take-le}
use Rattle.std.proofs.lemmas.List.Elements.{All-head, All-tail, All-nil, All-cons, All-take, All-drop}
use Rattle.kernel_model.specs.Bytes.{part, words_of, before_none, rows}
use Rattle.kernel_model.specs.Layout.{FitsList, FitsThread, FitsMutex, Fits, app_read, module_read, function_read, thread_read, mutex_read, tables, kernel_in, kernel_of}
use Rattle.kernel_model.proofs.BytesLemmas.{length-words_of, length-before_none, length-rows, length-part}

abbrev pub Small : ℕ → Type 0
Small b = b < 256

below_none : (b : ℕ) → eqb b 255 ≡ false → b < 256 → b < 255
below_none b e h = grind arith

all_below : (bs : List ℕ) → All Small bs → All (λ x. x < 255) (before_none bs)
all_below [] h = All-nil (λ x. x < 255)
all_below (b ∷ bs) h =
    let P : Bool → Type 0 = λ v. eqb b 255 ≡ v → All (λ x. x < 255) (cond v [] (b ∷ before_none bs)) in
    let rest = all_below bs (All-tail Small b bs h) in
    let cases : (v : Bool) → P v = λ v. elim v as P [
      | true ↦ λ e. All-nil (λ x. x < 255)
      | false ↦ λ e. All-cons (λ x. x < 255) b (before_none bs) (below_none b e (All-head Small b bs h)) rest
    ] in
    cases (eqb b 255) refl

list_fits : (n : ℕ) (bs : List ℕ) → length bs ≡ n → All Small bs → FitsList n (before_none bs)
list_fits n bs e h = record {
  room = (let most = length-before_none bs in omega arith);
  below = all_below bs h;
}

-- what holds of each row's bytes
pub all_rows : {X : Type 0} (read : List ℕ → X) (r : ℕ) (P : X → Type 0) → ((bs : List ℕ) → length bs ≡ r → All Small bs → P (read bs))
    → (n : ℕ) (bs : List ℕ) → length bs ≡ r * n → All Small bs → All P (rows read r n bs)
unfolding rows
all_rows read r P f zero bs e h = All-nil P
all_rows read r P f (suc n) bs e h =
    let times : r * suc n ≡ r + r * n = grind arith in
    let within : r ≤ length bs = omega arith in
    let front : length (take r bs) ≡ r = length-take-le r bs within in
    let left = length-drop r bs in
    let back : length (drop r bs) ≡ r * n = omega arith in
    All-cons P (read (take r bs)) (rows read r n (drop r bs))
    (f (take r bs) front (All-take Small r bs h))
    (all_rows read r P f n (drop r bs) back (All-drop Small r bs h))

thread_fits : (bs : List ℕ) → length bs ≡ 48 → All Small bs → FitsThread (thread_read bs)
unfolding thread_read
thread_fits bs e h =
    let words : length (words_of bs) ≡ 24 = length-words_of 24 bs e in
    record { regs = length-take-le 16 (words_of bs) (omega arith) }

mutex_fits : (bs : List ℕ) → length bs ≡ 8 → All Small bs → FitsMutex (mutex_read bs)
unfolding mutex_read
mutex_fits bs e h =
    let left = length-drop 2 bs in
    let size : length (take 4 (drop 2 bs)) ≡ 4 = length-take-le 4 (drop 2 bs) (omega arith) in
    record { waiters = list_fits 4 (take 4 (drop 2 bs)) size (All-take Small 4 (drop 2 bs) (All-drop Small 2 bs h)) }

pub part_small : (m : List ℕ) (a n : ℕ) → All Small m → All Small (part m a n)
unfolding part
part_small m a n h = All-take Small n (drop a m) (All-drop Small a m h)

pub memory_fits_lem : (m : List ℕ) → length m ≡ 65536 → All Small m → Fits (kernel_of m)
unfolding kernel_of kernel_in tables
memory_fits_lem m e h =
    let size : (a n : ℕ) → a + n ≤ 65536 → length (part m a n) ≡ n = λ a n l. length-part m a n (let within : a + n ≤ length m = omega arith in within) in
    record {
      app_rows = length-rows app_read 16 8 (part m 608 128);
      module_rows = length-rows module_read 16 4 (part m 736 64);
      function_rows = length-rows function_read 4 64 (part m 800 256);
      thread_rows = length-rows thread_read 48 32 (part m 1056 1536);
      threads = all_rows thread_read 48 FitsThread thread_fits 32 (part m 1056 1536) (size 1056 1536 (omega arith)) (part_small m 1056 1536 h);
      mutex_rows = length-rows mutex_read 8 32 (part m 2592 256);
      mutexes = all_rows mutex_read 8 FitsMutex mutex_fits 32 (part m 2592 256) (size 2592 256 (omega arith)) (part_small m 2592 256 h);
      condition_lists = length-rows before_none 4 32 (part m 2848 128);
      conditions = all_rows before_none 4 (FitsList 4) (list_fits 4) 32 (part m 2848 128) (size 2848 128 (omega arith)) (part_small m 2848 128 h);
      line_lists = length-rows before_none 32 14 (part m 2976 448);
      lines = all_rows before_none 32 (FitsList 32) (list_fits 32) 14 (part m 2976 448) (size 2976 448 (omega arith)) (part_small m 2976 448 h);
    }
