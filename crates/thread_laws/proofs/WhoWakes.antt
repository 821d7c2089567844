-- The laws on who wakes: at a tick, and at a line.
use Rattle.std.proofs.Common.{◌≡◌, ℕ, ◌+◌, ◌-◌, ◌*◌, ◌/◌, ◌%◌, ◌<◌, ◌≤◌, true, false, leb, List, [], length, get_or, take, drop, min, refl, ap, sym, ◌∙◌, subst, arith, All, Contains, length-drop}
use Rattle.std.specs.List.{prefix_len}
use Rattle.std.proofs.lemmas.Bool.{lt-leb}
use Rattle.std.proofs.lemmas.List.{take-append-drop, get_or-take, get_or-drop, length-take}
use Rattle.std.proofs.lemmas.List.Elements.{Contains-get_or, Contains-append_left, All-take}
use Rattle.kernel_model.specs.Kernel.{Kernel, line_at, with_line}
use Rattle.kernel_model.specs.Words.{tick_number, wake_time, priority_of}
use Rattle.kernel_model.specs.Orderly.{IsOrderly, Spot, spot_of, listed}
use Rattle.kernel_model.specs.Orderly.Spot.{Ready, Asleep, OnLine}
use Rattle.kernel_model.specs.Waking.{each_to_end, ticked, woken_line}
use Rattle.thread_laws.specs.Wakings.{is_due, Wakes, AreUnlisted, TickLaw, LineLaw, SleepersLaw, WaitersLaw}
use Rattle.thread_laws.proofs.WakingLemmas.{first_pass, rest_fails, prefix_passes, MayJoin, each_wakes, each_others}
use Rattle.thread_laws.proofs.WakeRules.{rest_wakes_later}

-- ---- who may wake

numbers_at : (k : Kernel) → IsOrderly k → (s : Spot) → All (λ t. t < 32) (listed k s)
numbers_at k h s i d l = (h.placed.nowhere_else s (get_or (listed k s) i d) (Contains-get_or (listed k s) i d l)).0

priorities_at : (k : Kernel) → IsOrderly k → (s : Spot) → All (λ t. priority_of k t ≤ 7) (listed k s)
priorities_at k h s i d l = (h.rows (get_or (listed k s) i d) (numbers_at k h s i d l)).priority

pub sleepers_unlisted : SleepersLaw
sleepers_unlisted k n h =
    let xs : List ℕ = k.sleepers in
    let size : length (take n xs) ≡ min n (length xs) = length-take n xs in
    let asleep : (t : ℕ) → Contains (take n xs) t → spot_of k t ≡ Asleep =
    λ t c. (h.placed.nowhere_else Asleep t (subst (λ (ys : List ℕ). Contains ys t) (take-append-drop n xs) (Contains-append_left (take n xs) (drop n xs) t c))).1 in
    record {
      numbers = All-take (λ t. t < 32) n xs (numbers_at k h Asleep);
      once = λ i j d lt l e.
          h.placed.once Asleep i j d lt (omega arith)
          (sym (get_or-take n xs i d (omega arith)) ∙ e ∙ get_or-take n xs j d (omega arith));
      not_ready = λ t c r. let apart : Ready ≡ Asleep = sym (h.placed.nowhere_else Ready t r).1 ∙ asleep t c in cc;
      not_asleep = λ t c r.
          let below : c.0 < length (take n xs) = c.1 in
          let rest : r.0 < length (drop n xs) = r.1 in
          let left : length (drop n xs) ≡ length xs - n = length-drop n xs in
          h.placed.once Asleep c.0 (n + r.0) t (omega arith) (omega arith)
          (sym (get_or-take n xs c.0 t (omega arith)) ∙ c.2 ∙ sym r.2 ∙ get_or-drop n xs r.0 t);
      priorities = All-take (λ t. priority_of k t ≤ 7) n xs (priorities_at k h Asleep);
    }

pub waiters_unlisted : WaitersLaw
waiters_unlisted k n h l = record {
  numbers = numbers_at k h (OnLine n);
  once = h.placed.once (OnLine n);
  not_ready = λ t c r. let apart : Ready ≡ OnLine n = sym (h.placed.nowhere_else Ready t r).1 ∙ (h.placed.nowhere_else (OnLine n) t c).1 in cc;
  not_asleep = λ t c r. let apart : Asleep ≡ OnLine n = sym (h.placed.nowhere_else Asleep t r).1 ∙ (h.placed.nowhere_else (OnLine n) t c).1 in cc;
  priorities = priorities_at k h (OnLine n);
}

-- ---- a tick

pub ticked_is : TickLaw
unfolding ticked
ticked_is k h =
    let now : ℕ = tick_number k + 1 in
    let xs : List ℕ = k.sleepers in
    let n : ℕ = prefix_len (λ t. leb (wake_time k t) now) xs in
    let next : Kernel = record k { tick_low = now % 65536; tick_high = now / 65536; sleepers = drop n xs } in
    let after : Kernel = each_to_end next (take n xs) in
    let lists : AreUnlisted k.threads k.ready (drop n xs) (take n xs) = sleepers_unlisted k n h.orderly in
    let rows : length k.threads ≡ 32 = h.orderly.shape.thread_rows in
    let may : MayJoin next (take n xs) = record {
      within = λ i d l. let number : get_or (take n xs) i d < 32 = lists.numbers i d l in omega arith;
      once = lists.once;
      by_priority = h.orderly.by_priority;
    } in
    let woken : Wakes next after (take n xs) = each_wakes (take n xs) next may in
    let others : after ≡ record next { threads = after.threads; ready = after.ready } = each_others (take n xs) next in
    let pass : All (λ t. is_due k t ≡ true) (take n xs) = prefix_passes (is_due k) xs in
    let fail : All (λ t. is_due k t ≡ false) (drop n xs) =
    λ i d l. lt-leb (wake_time k (get_or (drop n xs) i d)) now (rest_wakes_later k now h.orderly i d l) in
    record {
      tick = ap (λ (j : Kernel). tick_number j) others ∙ (let e : now % 65536 + 65536 * (now / 65536) ≡ now = omega arith in e);
      wakes = subst (λ (ts : List ℕ). Wakes k after ts) (sym (first_pass (is_due k) xs n pass fail))
          (record { rows = woken.rows; other_rows = woken.other_rows; in_order = woken.in_order; by_priority = woken.by_priority });
      sleepers = ap (λ (j : Kernel). j.sleepers) others ∙ sym (rest_fails (is_due k) xs n pass fail);
      others = subst
          (λ (j : Kernel). j ≡ record k { tick_low = j.tick_low; tick_high = j.tick_high; threads = j.threads; ready = j.ready; sleepers = j.sleepers })
          (sym others) refl;
    }

-- ---- a line

pub woken_line_is : LineLaw
unfolding woken_line
woken_line_is k n h l =
    let next : Kernel = with_line k n [] in
    let xs : List ℕ = line_at k n in
    let lists : AreUnlisted k.threads k.ready k.sleepers xs = waiters_unlisted k n h.orderly l in
    let rows : length k.threads ≡ 32 = h.orderly.shape.thread_rows in
    let may : MayJoin next xs = record {
      within = λ i d b. let number : get_or xs i d < 32 = lists.numbers i d b in omega arith;
      once = lists.once;
      by_priority = h.orderly.by_priority;
    } in
    let woken : Wakes next (each_to_end next xs) xs = each_wakes xs next may in
    record {
      wakes = record { rows = woken.rows; other_rows = woken.other_rows; in_order = woken.in_order; by_priority = woken.by_priority };
      others = each_others xs next;
    }
