-- The routine of a line.
use Rattle.std.proofs.Common.{◌≡◌, ℕ, zero, suc, ◌+◌, ◌/◌, ◌%◌, ◌<◌, List, [], ◌∷◌, length, take, drop, refl, sym, ap, ◌∙◌, subst, arith, Option, Contains}
use Rattle.std.specs.Prelude.{nat_le}
use Rattle.std.specs.List.{AllByRecursion, prefix_len}
use Rattle.kernel_model.specs.Kernel.{Kernel, thread_at, with_word, with_line, with_sleepers, line_at}
use Rattle.kernel_model.specs.Words.{asleep, on_line, tick_number, wake_time}
use Rattle.kernel_model.specs.declared.rows.SysWord.TheVariants.{TickLow, TickHigh}
use Rattle.kernel_model.specs.declared.rows.AppRow.{AppRow}
use Rattle.kernel_model.specs.declared.rows.ModuleRow.{ModuleRow}
use Rattle.kernel_model.specs.declared.rows.FnRow.{FnRow}
use Rattle.kernel_model.specs.declared.rows.ThreadRow.{ThreadRow}
use Rattle.kernel_model.specs.Orderly.{IsOrderly}
use Rattle.kernel_model.specs.Orderly.Spot.{Asleep, OnLine}
use Rattle.place_model.specs.Settled.{IsSettledKernel}
use Rattle.kernel_model.specs.Waking.{each_to_end, ticked, woken_line}
use Rattle.thread_laws.proofs.Spots.{state_at}
use Rattle.thread_laws.proofs.WakeRules.{ticked_stays_settled, woken_line_stays_settled}
use Rattle.load_model.specs.Domains.{Domain}
use Rattle.node_model.specs.Sound.{IsSoundKernel, AreDomains, AreSaved, ArePopulated, AreFunctions, AreBounded}
use Rattle.node_laws.proofs.Waking.{IsWoken, each-leaves, Waits, AreWell, each-well}

-- ---- who wakes

pub all-from : (P : ℕ → Type 0) (xs : List ℕ) → ((u : ℕ) → Contains xs u → P u) → AllByRecursion P xs
all-from P [] h = tt
all-from P (x ∷ xs) h = (h x (0, omega arith, refl), all-from P xs (λ u c. h u (suc c.0, omega (arith, c.1), c.2)))

pub all-take : (P : ℕ → Type 0) (n : ℕ) (xs : List ℕ) → AllByRecursion P xs → AllByRecursion P (take n xs)
all-take P zero xs h = tt
all-take P (suc n) [] h = tt
all-take P (suc n) (x ∷ xs) h = (h.0, all-take P n xs h.1)

pub sleeper-waits : (k : Kernel) → IsOrderly k → (u : ℕ) → Contains k.sleepers u → Waits k.threads u
sleeper-waits k o u c =
    let s = o.placed.nowhere_else Asleep u c in
    let e : (thread_at k u).state ≡ asleep = state_at k o u Asleep s.0 s.1 in
    record { below = s.0; live = λ f. omega (arith, e, f); rests = λ f. omega (arith, e, f) }

line-waits : (k : Kernel) (n : ℕ) → IsOrderly k → (u : ℕ) → Contains (line_at k n) u → Waits k.threads u
line-waits k n o u c =
    let s = o.placed.nowhere_else (OnLine n) u c in
    let e : (thread_at k u).state ≡ on_line = state_at k o u (OnLine n) s.0 s.1 in
    record { below = s.0; live = λ f. omega (arith, e, f); rests = λ f. omega (arith, e, f) }

-- ---- the kernel behind it

-- a kernel in which these threads woke, where all else is that of a sound one
sound-each : (k k1 : Kernel) (ts : List ℕ) (ds : List (Option Domain)) (n m : ℕ) → IsSoundKernel k ds n → k1.threads ≡ k.threads
    → k1.apps ≡ k.apps → k1.modules ≡ k.modules → k1.functions ≡ k.functions
    → AllByRecursion (Waits k.threads) ts → IsSettledKernel (each_to_end k1 ts)
    → AreBounded (tick_number (each_to_end k1 ts)) (each_to_end k1 ts).budget (each_to_end k1 ts).module_now
    (each_to_end k1 ts).pending m
    → IsSoundKernel (each_to_end k1 ts) ds m
sound-each k k1 ts ds n m h et ea em ef w settled bounded =
    let j : Kernel = each_to_end k1 ts in
    let left : IsWoken k1 j = each-leaves ts k1 in
    let apps : j.apps ≡ k.apps = left.apps ∙ ea in
    let well : AreWell k.apps ds j.threads = each-well ts k1 k.apps ds
    record {
      size = ap length et ∙ h.settled.orderly.shape.thread_rows;
      saved =
          subst (λ (x : List ThreadRow). AreSaved k.apps ds x) (sym et) h.saved;
      populated =
          subst (λ (x : List ThreadRow). ArePopulated k.apps x) (sym et) h.populated;
    }
    (subst (λ (x : List ThreadRow). AllByRecursion (Waits x) ts) (sym et) w) in
    record {
      settled = settled;
      domains = subst (λ (x : List AppRow). AreDomains x j.modules ds) (sym apps)
          (subst (λ (x : List ModuleRow). AreDomains k.apps x ds) (sym (left.modules ∙ em)) h.domains);
      saved = subst (λ (x : List AppRow). AreSaved x ds j.threads) (sym apps) well.saved;
      populated = subst (λ (x : List AppRow). ArePopulated x j.threads) (sym apps) well.populated;
      functions = subst (λ (x : List FnRow). AreFunctions x ds) (sym (left.functions ∙ ef)) h.functions;
      bounded = bounded;
    }

abbrev pub with-tick : Kernel → Kernel
with-tick k = with_word (with_word k TickLow ((tick_number k + 1) % 65536)) TickHigh ((tick_number k + 1) / 65536)

abbrev pub due : Kernel → ℕ
due k = prefix_len (λ t. nat_le (wake_time k t) (tick_number k + 1)) k.sleepers

pub ticked-is : (k : Kernel) → ticked k ≡ each_to_end (with_sleepers (with-tick k) (drop (due k) k.sleepers))
    (take (due k) k.sleepers)
unfolding ticked
ticked-is k = refl

pub sound-ticked : (k : Kernel) (ds : List (Option Domain)) (n : ℕ) → IsSoundKernel k ds n → IsSoundKernel (ticked k) ds (n + 1)
sound-ticked k ds n h =
    let k1 : Kernel = with_sleepers (with-tick k) (drop (due k) k.sleepers) in
    let ts : List ℕ = take (due k) k.sleepers in
    let left : IsWoken k1 (each_to_end k1 ts) = each-leaves ts k1 in
    subst (λ (j : Kernel). IsSoundKernel j ds (n + 1)) (sym (ticked-is k))
    (sound-each k k1 ts ds n (n + 1) h refl refl refl refl
    (all-take (Waits k.threads) (due k) k.sleepers (all-from (Waits k.threads) k.sleepers (sleeper-waits k h.settled.orderly)))
    (subst (λ (j : Kernel). IsSettledKernel j) (ticked-is k) (ticked_stays_settled k h.settled))
    record {
      ticks = omega (arith, left.low, left.high, h.bounded.ticks);
      count = omega (arith, left.counted, h.bounded.count);
      no_count = λ e. left.counted ∙ h.bounded.no_count (sym left.in_module ∙ e);
      lines = omega (arith, left.mask, h.bounded.lines);
    })

pub woken-is : (k : Kernel) (n : ℕ) → woken_line k n ≡ each_to_end (with_line k n []) (line_at k n)
unfolding woken_line
woken-is k n = refl

pub sound-woken : (k : Kernel) (ds : List (Option Domain)) (n l : ℕ) → l < 14 → IsSoundKernel k ds n
    → IsSoundKernel (woken_line k l) ds n
sound-woken k ds n l below h =
    let k1 : Kernel = with_line k l [] in
    let ts : List ℕ = line_at k l in
    let left : IsWoken k1 (each_to_end k1 ts) = each-leaves ts k1 in
    subst (λ (j : Kernel). IsSoundKernel j ds n) (sym (woken-is k l))
    (sound-each k k1 ts ds n n h refl refl refl refl (all-from (Waits k.threads) ts (line-waits k l h.settled.orderly))
    (subst (λ (j : Kernel). IsSettledKernel j) (woken-is k l) (woken_line_stays_settled k l h.settled below))
    record {
      ticks = omega (arith, left.low, left.high, h.bounded.ticks);
      count = omega (arith, left.counted, h.bounded.count);
      no_count = λ e. left.counted ∙ h.bounded.no_count (sym left.in_module ∙ e);
      lines = omega (arith, left.mask, h.bounded.lines);
    })
