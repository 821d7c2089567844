-- Threads wake: one after another they leave the front of the sleepers, or of a line's list, and go to the end of the ready list.
use Rattle.std.proofs.Common.{◌≡◌, ◌≢◌, ℕ, ◌+◌, ◌-◌, ◌*◌, ◌/◌, ◌%◌, ◌<◌, ◌≤◌, Bool, leb, List, [], ◌∷◌, ◌++◌, length, get_or, take, drop, refl, ap, sym, ◌∙◌, subst, ⊎_elim, arith, length-drop, length-set, All, Contains}
use Rattle.std.specs.List.{prefix_len}
use Rattle.std.proofs.lemmas.Bool.{cases_eq, leb-false}
use Rattle.std.proofs.lemmas.List.{take-append-drop, get_or-drop, set-get_or, get_or-set_same}
use Rattle.std.proofs.lemmas.List.Elements.{Contains-append_right}
use Rattle.std.proofs.lemmas.List.Sums.{prefix_len_stops}
use Rattle.kernel_model.specs.Kernel.{Kernel, thread_at, with_thread, app_at, line_at, with_line, with_sleepers}
use Rattle.kernel_model.specs.Words.{free, app_of, tick_number, wake_time, ready_row}
use Rattle.kernel_model.specs.Orderly.{Spot, spot_of, listed, IsLiveThread, IsOrderly}
use Rattle.kernel_model.specs.Orderly.Spot.{Asleep, OnLine}
use Rattle.kernel_model.specs.Queues.{to_ready_end}
use Rattle.kernel_model.specs.declared.rows.ThreadRow.{ThreadRow}
use Rattle.place_model.specs.Settled.{IsSettledKernel}
use Rattle.kernel_model.specs.Waking.{each_to_end, ticked, woken_line}
use Rattle.thread_laws.specs.Waits.{TickedLaw, WokenLineLaw}
use Rattle.thread_laws.proofs.Spots.{state_in, state_at}
use Rattle.thread_laws.proofs.Moving.{IsOrderlyBut}
use Rattle.thread_laws.proofs.MovingRows.{member_row}
use Rattle.thread_laws.proofs.MovingSleepers.{first_sleeper_leaves}
use Rattle.thread_laws.proofs.MovingLines.{first_waiter_leaves}
use Rattle.thread_laws.proofs.ReadyRules.{joins_end}

-- who is listed where threads have a state that isn't free is a live thread
lives_at : (k : Kernel) (s : Spot) (t : ℕ) → IsOrderly k → state_in s ≢ free → Contains (listed k s) t → (t < 32) × IsLiveThread (app_at k (app_of t)) t
lives_at k s t h on c =
    let stands : (t < 32) × (spot_of k t ≡ s) = h.placed.nowhere_else s t c in
    (stands.0, h.threads t stands.0 (λ e. on (sym (state_at k h t s stands.0 stands.1) ∙ e)))

-- ---- a tick

-- the kernel at an earlier tick, with some who still sleep before its sleepers
abbrev earlier : Kernel → (low high : ℕ) → List ℕ → Kernel
earlier k low high ts = record k { tick_low = low; tick_high = high; sleepers = ts ++ k.sleepers }

-- the sleepers wake after the tick
abbrev WakeLater : Kernel → Type 0
WakeLater k = All (λ u. tick_number k < wake_time k u) k.sleepers

-- the tick that came
at_the_tick : (k : Kernel) (low high : ℕ) → IsOrderly (earlier k low high []) → WakeLater k → IsOrderly k
at_the_tick k low high h later = record {
  shape = record {
    app_rows = h.shape.app_rows;
    module_rows = h.shape.module_rows;
    function_rows = h.shape.function_rows;
    thread_rows = h.shape.thread_rows;
    mutex_rows = h.shape.mutex_rows;
    condition_lists = h.shape.condition_lists;
    line_lists = h.shape.line_lists;
  };
  limit = h.limit;
  top = h.top;
  rows = h.rows;
  threads = h.threads;
  placed = record { there = h.placed.there; nowhere_else = h.placed.nowhere_else; once = h.placed.once };
  caller = h.caller;
  callee = h.callee;
  mutexes = h.mutexes;
  conditions = h.conditions;
  by_priority = h.by_priority;
  by_wake_time = h.by_wake_time;
  later = later;
  functions = h.functions;
}

-- the first sleeper goes to the end of the ready list
first_sleeper_joins : (k : Kernel) (t : ℕ) (xs : List ℕ) → IsOrderly (with_sleepers k (t ∷ xs)) → IsOrderly (to_ready_end (with_sleepers k xs) t)
first_sleeper_joins k t xs h =
    let lives : (t < 32) × IsLiveThread (app_at k (app_of t)) t = lives_at (with_sleepers k (t ∷ xs)) Asleep t h (omega arith) (0, omega arith, refl) in
    joins_end (with_sleepers k xs) t (first_sleeper_leaves k t xs h) lives.0 lives.1

-- who sleeps on has the same wake time then
wake_later_kept : (k : Kernel) (t : ℕ) → (Contains k.sleepers t → ⊥) → WakeLater k → WakeLater (to_ready_end k t)
wake_later_kept k t out later i d l =
    let row : ThreadRow = ready_row (thread_at k t) in
    let same : wake_time (with_thread k t row) (get_or k.sleepers i d) ≡ wake_time k (get_or k.sleepers i d) =
    ap (λ (r : ThreadRow). r.wake_low + 65536 * r.wake_high) (member_row k t row k.sleepers out i d l) in
    let old : tick_number k < wake_time k (get_or k.sleepers i d) = later i d l in
    omega arith

all_sleepers_join : (low high : ℕ) (ts : List ℕ) (k : Kernel) → IsSettledKernel (earlier k low high ts) → WakeLater k → IsSettledKernel (each_to_end k ts)
all_sleepers_join low high [] k h later = record {
  orderly = at_the_tick k low high h.orderly later;
  inside = h.inside;
  apart = h.apart;
  apps = h.apps;
  functions = h.functions;
}
all_sleepers_join low high (t ∷ ts) k h later =
    let from : Kernel = earlier k low high ts in
    let but : IsOrderlyBut from t = first_sleeper_leaves from t from.sleepers h.orderly in
    let out : Contains k.sleepers t → ⊥ = λ c. but.placed.unlisted Asleep (Contains-append_right ts k.sleepers t c) in
    all_sleepers_join low high ts (to_ready_end k t)
    (record {
      orderly = first_sleeper_joins from t from.sleepers h.orderly;
      inside = h.inside;
      apart = h.apart;
      apps = h.apps;
      functions = h.functions;
    })
    (wake_later_kept k t out later)

-- those behind the sleepers who are due wake later than now
pub rest_wakes_later : (k : Kernel) (now : ℕ) → IsOrderly k → All (λ u. now < wake_time k u) (drop (prefix_len (λ t. leb (wake_time k t) now) k.sleepers) k.sleepers)
rest_wakes_later k now h i d l =
    let test : ℕ → Bool = λ t. leb (wake_time k t) now in
    let n : ℕ = prefix_len test k.sleepers in
    let size : length (drop n k.sleepers) ≡ length k.sleepers - n = length-drop n k.sleepers in
    let first : now < wake_time k (get_or k.sleepers n d) = leb-false (wake_time k (get_or k.sleepers n d)) now (prefix_len_stops test k.sleepers d (omega arith)) in
    let here : now < wake_time k (get_or k.sleepers (n + i) d) = ⊎_elim
    (λ (e : n + i ≡ n). subst (λ (j : ℕ). now < wake_time k (get_or k.sleepers j d)) (sym e) first)
    (λ (ne : n + i ≢ n). let order : wake_time k (get_or k.sleepers n d) ≤ wake_time k (get_or k.sleepers (n + i) d) = h.by_wake_time n (n + i) d (omega arith) (omega arith) in omega arith)
    (cases_eq (n + i) n) in
    subst (λ (u : ℕ). now < wake_time k u) (sym (get_or-drop n k.sleepers i d)) here

pub ticked_stays_settled : TickedLaw
unfolding ticked
ticked_stays_settled k h =
    let now : ℕ = tick_number k + 1 in
    let due : ℕ = prefix_len (λ t. leb (wake_time k t) now) k.sleepers in
    let rest : List ℕ = drop due k.sleepers in
    let next : Kernel = record k { tick_low = now % 65536; tick_high = now / 65536; sleepers = rest } in
    let is_now : tick_number next ≡ now = omega arith in
    let later : All (λ u. now < wake_time k u) rest = rest_wakes_later k now h.orderly in
    all_sleepers_join k.tick_low k.tick_high (take due k.sleepers) next
    (subst (λ (xs : List ℕ). IsSettledKernel (with_sleepers k xs)) (sym (take-append-drop due k.sleepers)) h)
    (subst (λ (v : ℕ). All (λ u. v < wake_time k u) rest) (sym is_now) later)

-- ---- a line

-- the first that waits for a line goes to the end of the ready list
first_waiter_joins : (k : Kernel) (n t : ℕ) (xs : List ℕ) → n < 14 → IsOrderly (with_line k n (t ∷ xs)) → IsOrderly (to_ready_end (with_line k n xs) t)
first_waiter_joins k n t xs l h =
    let size : length k.lines ≡ 14 = sym (length-set k.lines n (t ∷ xs)) ∙ h.shape.line_lists in
    let waits : Contains (line_at (with_line k n (t ∷ xs)) n) t =
    subst (λ (ys : List ℕ). Contains ys t) (sym (get_or-set_same k.lines n (t ∷ xs) [] (omega arith))) (0, omega arith, refl) in
    let lives : (t < 32) × IsLiveThread (app_at k (app_of t)) t = lives_at (with_line k n (t ∷ xs)) (OnLine n) t h (omega arith) waits in
    joins_end (with_line k n xs) t (first_waiter_leaves k n t xs l h) lives.0 lives.1

all_waiters_join : (n : ℕ) (ts : List ℕ) (k : Kernel) → n < 14 → IsSettledKernel (with_line k n ts) → IsSettledKernel (each_to_end (with_line k n []) ts)
all_waiters_join n [] k l h = h
all_waiters_join n (t ∷ ts) k l h = all_waiters_join n ts (to_ready_end k t) l (record {
  orderly = first_waiter_joins k n t ts l h.orderly;
  inside = h.inside;
  apart = h.apart;
  apps = h.apps;
  functions = h.functions;
})

pub woken_line_stays_settled : WokenLineLaw
unfolding woken_line
woken_line_stays_settled k n h l =
    all_waiters_join n (line_at k n) k l (subst (λ (ls : List (List ℕ)). IsSettledKernel (record k { lines = ls })) (sym (set-get_or k.lines n [])) h)
