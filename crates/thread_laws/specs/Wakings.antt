-- Who wakes, said of the threads: at a tick those whose time has come, at a line those that wait for it.
use Rattle.std.specs.Prelude.{◌≡◌, ◌≢◌, ℕ, ◌+◌, ◌<◌, ◌≤◌, nat_le, ◌==◌, Bool, not, List, [], ◌∷◌, ◌++◌, take, drop, All, AllPairs, Contains}
use Rattle.std.specs.List.{filter}
use Rattle.kernel_model.specs.Kernel.{Kernel, thread_at, with_line, line_at}
use Rattle.kernel_model.specs.Words.{tick_number, wake_time, priority_of, ready_row}
use Rattle.kernel_model.specs.Orderly.{IsOrderly}
use Rattle.kernel_model.specs.Queues.{priority_in, to_ready_end}
use Rattle.kernel_model.specs.declared.rows.ThreadRow.{ThreadRow}
use Rattle.place_model.specs.Settled.{IsSettledKernel}
use Rattle.kernel_model.specs.Waking.{ticked, woken_line}

-- ---- threads that wake

-- the members of a list that have a priority
abbrev pub of_priority : Kernel → (p : ℕ) → List ℕ → List ℕ
of_priority k p ts = filter (λ t. priority_of k t == p) ts

-- exactly these threads become ready, in this order: of each priority they stand behind those that were ready before, higher
-- priorities stand before lower ones, and no other thread's row changes
pub record Wakes (before after : Kernel) (woken : List ℕ) : Type 0 where
  pub rows : (t : ℕ) → Contains woken t → thread_at after t ≡ ready_row (thread_at before t)
  pub other_rows : (t : ℕ) → (Contains woken t → ⊥) → thread_at after t ≡ thread_at before t
  pub in_order : (p : ℕ) → of_priority before p after.ready ≡ of_priority before p (before.ready ++ woken)
  pub by_priority : AllPairs (λ x y. priority_of before y ≤ priority_of before x) after.ready

-- ---- a tick

-- the thread's time has come at the next tick
abbrev pub is_due : Kernel → (t : ℕ) → Bool
is_due k t = nat_le (wake_time k t) (tick_number k + 1)

-- the tick number rises by one, the sleepers whose time has come wake in their order, the others sleep on, and nothing else changes
pub record Ticks (before after : Kernel) : Type 0 where
  pub tick : tick_number after ≡ tick_number before + 1
  pub wakes : Wakes before after (filter (is_due before) before.sleepers)
  pub sleepers : after.sleepers ≡ filter (λ t. not (is_due before t)) before.sleepers
  pub others : after ≡ record before {
    tick_low = after.tick_low;
    tick_high = after.tick_high;
    threads = after.threads;
    ready = after.ready;
    sleepers = after.sleepers;
  }

-- ---- a line

-- all that wait for line n wake in their order, and nothing else changes
pub record LineWakes (before after : Kernel) (n : ℕ) : Type 0 where
  pub wakes : Wakes before after (line_at before n)
  pub others : after ≡ record (with_line before n []) { threads = after.threads; ready = after.ready }

-- ---- who may wake

-- distinct threads that stand in neither queue
pub record AreUnlisted (threads : List ThreadRow) (ready sleepers ts : List ℕ) : Type 0 where
  pub numbers : All (λ t. t < 32) ts
  pub once : AllPairs (λ x y. x ≢ y) ts
  pub not_ready : (t : ℕ) → Contains ts t → Contains ready t → ⊥
  pub not_asleep : (t : ℕ) → Contains ts t → Contains sleepers t → ⊥
  pub priorities : All (λ t. priority_in threads t ≤ 7) ts

-- ---- laws

abbrev pub TickLaw : Type 0
TickLaw = (k : Kernel) → IsSettledKernel k → Ticks k (ticked k)

abbrev pub LineLaw : Type 0
LineLaw = (k : Kernel) (n : ℕ) → IsSettledKernel k → n < 14 → LineWakes k (woken_line k n) n

-- when the first goes to the end of the ready list, the others stay so
abbrev pub NextLaw : Type 0
NextLaw = (k : Kernel) (t : ℕ) (ts : List ℕ) → AreUnlisted k.threads k.ready k.sleepers (t ∷ ts)
    → let j = to_ready_end k t in AreUnlisted j.threads j.ready j.sleepers ts

-- the first sleepers, when they are taken out of the list
abbrev pub SleepersLaw : Type 0
SleepersLaw = (k : Kernel) (n : ℕ) → IsOrderly k → AreUnlisted k.threads k.ready (drop n k.sleepers) (take n k.sleepers)

-- those that wait for a line
abbrev pub WaitersLaw : Type 0
WaitersLaw = (k : Kernel) (n : ℕ) → IsOrderly k → n < 14 → AreUnlisted k.threads k.ready k.sleepers (line_at k n)
