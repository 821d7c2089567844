-- What a tick leaves, call by call, and what a wait for a line does and its end.
use Rattle.std.proofs.Common.{◌≡◌, ℕ, ◌+◌, ◌/◌, ◌%◌, ◌<◌, leb, eqb, true, suc, set, List, [], ◌∷◌, ◌++◌, length, take, drop, sym, ap, ◌∙◌, subst, arith, All, Contains}
use Rattle.std.specs.List.{prefix_len}
use Rattle.std.proofs.lemmas.Bool.{eqb-true}
use Rattle.std.proofs.lemmas.List.{length-take-le, set-get_or}
use Rattle.std.proofs.lemmas.List.Elements.{All-push}
use Rattle.std.proofs.lemmas.List.Sums.{prefix_len-le-length}
use Rattle.kernel_model.specs.Kernel.{Kernel, with_word, with_sleepers, thread_at, line_at, with_line}
use Rattle.kernel_model.specs.Layout.{kernel_of}
use Rattle.kernel_model.specs.Orderly.{IsOrderly, spot, spot_of}
use Rattle.kernel_model.specs.Orderly.Spot.{Runs, OnLine}
use Rattle.kernel_model.specs.Queues.{Leaves}
use Rattle.kernel_model.specs.Waking.{each_to_end, ticked, woken_line}
use Rattle.kernel_model.specs.Words.{tick_number, wake_time, app_of}
use Rattle.kernel_model.specs.declared.rows.SysWord.TheVariants.{TickLow, TickHigh}
use Rattle.kernel_tables.proofs.QueueEdits.{room_for}
use Rattle.thread_laws.specs.Facts.{IsRunning}
use Rattle.thread_laws.specs.Wakings.{AreUnlisted, SleepersLaw}
use Rattle.kernel_threads.proofs.ChainLemmas.{leaves_as, leaves_then}

-- ---- a tick

-- the kernel at another tick
abbrev at_tick : Kernel → (now : ℕ) → Kernel
at_tick k now = with_word (with_word k TickLow (now % 65536)) TickHigh (now / 65536)

-- the sleepers whose time has come by then, of those that stand by wake time
abbrev pub due_by : Kernel → (now : ℕ) → List ℕ
due_by k now = take (prefix_len (λ t. leb (wake_time k t) now) k.sleepers) k.sleepers

-- memory in which the tick is another
pub record HasTick (m m2 : List ℕ) (now : ℕ) : Type 0 where
  pub is : now ≡ tick_number (kernel_of m) + 1
  pub leaves : Leaves m m2 (at_tick (kernel_of m) now)

pub tick_put : (m m1 m2 : List ℕ) (now : ℕ) → now ≡ tick_number (kernel_of m) + 1 → Leaves m m1 (with_word (kernel_of m) TickLow (now % 65536))
    → Leaves m1 m2 (with_word (kernel_of m1) TickHigh (now / 65536)) → HasTick m m2 now
tick_put m m1 m2 now is l1 l2 = record {
  is = is;
  leaves = leaves_then (λ j. with_word j TickHigh (now / 65536)) m m1 m2 (with_word (kernel_of m) TickLow (now % 65536)) l1 l2;
}

-- what the code takes for due
pub due_are : (m m2 : List ℕ) (now n : ℕ) (items slice list : List ℕ) → HasTick m m2 now → items ≡ (kernel_of m2).sleepers → slice ≡ items → list ≡ items
    → n ≡ prefix_len (λ t. leb (wake_time (kernel_of m2) t) now) list → take n slice ≡ due_by (kernel_of m) now
due_are m m2 now n items slice list h e f g is =
    ap (λ xs. take n xs) (f ∙ e) ∙ ap (λ i. take i (kernel_of m2).sleepers) (is ∙ ap (λ xs. prefix_len (λ t. leb (wake_time (kernel_of m2) t) now) xs) (g ∙ e))
    ∙ ap (λ (j : Kernel). due_by j now) h.leaves.kernel

length-due : (k : Kernel) (now : ℕ) (due : List ℕ) → due ≡ due_by k now → length due ≡ prefix_len (λ t. leb (wake_time k t) now) k.sleepers
length-due k now due e =
    ap (λ (ts : List ℕ). length ts) e ∙ length-take-le (prefix_len (λ t. leb (wake_time k t) now) k.sleepers) k.sleepers (prefix_len-le-length (λ t. leb (wake_time k t) now) k.sleepers)

-- they are the first
pub due_first : (m m2 : List ℕ) (now : ℕ) (due : List ℕ) → HasTick m m2 now → due ≡ due_by (kernel_of m) now → due ≡ take (length due) (kernel_of m2).sleepers
due_first m m2 now due h e =
    e ∙ ap (λ i. take i (kernel_of m).sleepers) (sym (length-due (kernel_of m) now due e)) ∙ sym (ap (λ (j : Kernel). take (length due) j.sleepers) h.leaves.kernel)

left_at_tick : (m m2 m3 : List ℕ) (now : ℕ) (due : List ℕ) → HasTick m m2 now → Leaves m2 m3 (with_sleepers (kernel_of m2) (drop (length due) (kernel_of m2).sleepers))
    → Leaves m m3 (with_sleepers (at_tick (kernel_of m) now) (drop (length due) (kernel_of m).sleepers))
left_at_tick m m2 m3 now due h l = leaves_then (λ j. with_sleepers j (drop (length due) j.sleepers)) m m2 m3 (at_tick (kernel_of m) now) h.leaves l

pub due_unlisted : (m m2 m3 : List ℕ) (now : ℕ) (due : List ℕ) → SleepersLaw → IsOrderly (kernel_of m) → HasTick m m2 now → due ≡ due_by (kernel_of m) now
    → Leaves m2 m3 (with_sleepers (kernel_of m2) (drop (length due) (kernel_of m2).sleepers)) → (let j = kernel_of m3 in AreUnlisted j.threads j.ready j.sleepers due)
due_unlisted m m2 m3 now due law o h e l =
    let k : Kernel = kernel_of m in
    let n : ℕ = prefix_len (λ t. leb (wake_time k t) now) k.sleepers in
    let first : AreUnlisted k.threads k.ready (drop (length due) k.sleepers) due =
    subst (λ (ts : List ℕ). AreUnlisted k.threads k.ready (drop (length due) k.sleepers) ts) (sym e)
    (subst (λ i. AreUnlisted k.threads k.ready (drop i k.sleepers) (take n k.sleepers)) (sym (length-due k now due e)) (law k n o)) in
    subst (λ (j : Kernel). AreUnlisted j.threads j.ready j.sleepers due) (sym (left_at_tick m m2 m3 now due h l).kernel) first

pub ticked_left : (m m2 m3 m4 : List ℕ) (now : ℕ) (due : List ℕ) → HasTick m m2 now → due ≡ due_by (kernel_of m) now
    → Leaves m2 m3 (with_sleepers (kernel_of m2) (drop (length due) (kernel_of m2).sleepers)) → Leaves m3 m4 (each_to_end (kernel_of m3) due)
    → Leaves m m4 (ticked (kernel_of m))
unfolding ticked
ticked_left m m2 m3 m4 now due h e l l' =
    let k : Kernel = kernel_of m in
    let f : ℕ → ℕ → List ℕ → Kernel = λ w i ts. each_to_end (with_sleepers (at_tick k w) (drop i k.sleepers)) ts in
    leaves_as m m4 (f now (length due) due) (ticked k)
    (ap (λ i. f now i due) (length-due k now due e)
    ∙ ap (λ ts. f now (prefix_len (λ t. leb (wake_time k t) now) k.sleepers) ts) e
    ∙ ap (λ w. f w (prefix_len (λ t. leb (wake_time k t) w) k.sleepers) (due_by k w)) h.is)
    (leaves_then (λ j. each_to_end j due) m m3 m4 (with_sleepers (at_tick k now) (drop (length due) k.sleepers)) (left_at_tick m m2 m3 now due h l) l')

-- ---- a line

-- the running thread waits for no line
pub runs_off_lines : (k : Kernel) (t n : ℕ) → IsOrderly k → IsRunning k t → Contains (line_at k n) t → ⊥
runs_off_lines k t n h is c =
    let waits : spot_of k t ≡ OnLine n = (h.placed.nowhere_else (OnLine n) t c).1 in
    let runs : spot_of k t ≡ Runs = ap (λ s. spot (app_of t) s (thread_at k t).object) is.state in
    let apart : Runs ≡ OnLine n = sym runs ∙ waits in
    cc

-- so there is room for it
pub line_room : (k : Kernel) (t n : ℕ) (items : List ℕ) → IsOrderly k → IsRunning k t → AreUnlisted k.threads k.ready k.sleepers (line_at k n) → items ≡ line_at k n → length items < 32
line_room k t n items h is list e =
    subst (λ (xs : List ℕ). length xs < 32) (sym e) (room_for (line_at k n) t list.once list.numbers is.number (runs_off_lines k t n h is))

-- an empty list
pub nobody_is : (items xs : List ℕ) → true ≡ eqb (length items) 0 → items ≡ xs → xs ≡ []
nobody_is [] xs h e = sym e
nobody_is (x ∷ items) xs h e = absurd (let none : suc (length items) ≡ 0 = eqb-true (suc (length items)) 0 (sym h) in omega arith)

-- a line that nobody waits for
pub nobody_woken : (k : Kernel) (n : ℕ) → line_at k n ≡ [] → k ≡ woken_line k n
unfolding woken_line
nobody_woken k n e =
    sym (ap (λ (ls : List (List ℕ)). record k { lines = ls }) (set-get_or k.lines n []))
    ∙ ap (λ (xs : List ℕ). record k { lines = set k.lines n xs }) e
    ∙ ap (λ (xs : List ℕ). each_to_end (record k { lines = set k.lines n [] }) xs) (sym e)

-- the list with the thread that comes
pub line_with : (m items list : List ℕ) (t n : ℕ) → AreUnlisted (kernel_of m).threads (kernel_of m).ready (kernel_of m).sleepers (line_at (kernel_of m) n)
    → items ≡ line_at (kernel_of m) n → t < 32 → list ≡ items ++ t ∷ [] → All (λ x. x < 32) list
line_with m items list t n h e l is =
    subst (λ (xs : List ℕ). All (λ x. x < 32) xs) (sym (is ∙ ap (λ xs. xs ++ t ∷ []) e))
    (All-push (λ x. x < 32) (line_at (kernel_of m) n) t h.numbers l)

-- those that wait, when their line is empty
pub woken_unlisted : (m m1 : List ℕ) (n : ℕ) (items slice none : List ℕ)
    → AreUnlisted (kernel_of m).threads (kernel_of m).ready (kernel_of m).sleepers (line_at (kernel_of m) n) → items ≡ line_at (kernel_of m) n → slice ≡ items
    → Leaves m m1 (with_line (kernel_of m) n none) → (let j = kernel_of m1 in AreUnlisted j.threads j.ready j.sleepers slice)
woken_unlisted m m1 n items slice none h e f l =
    subst (λ (j : Kernel). AreUnlisted j.threads j.ready j.sleepers slice) (sym l.kernel)
    (subst (λ (ts : List ℕ). AreUnlisted (kernel_of m).threads (kernel_of m).ready (kernel_of m).sleepers ts) (sym (f ∙ e)) h)

pub woken_left : (m m1 m2 : List ℕ) (n : ℕ) (items slice none : List ℕ) → items ≡ line_at (kernel_of m) n → slice ≡ items → none ≡ []
    → Leaves m m1 (with_line (kernel_of m) n none) → Leaves m1 m2 (each_to_end (kernel_of m1) slice) → Leaves m m2 (woken_line (kernel_of m) n)
unfolding woken_line
woken_left m m1 m2 n items slice none e f g l l' =
    let k : Kernel = kernel_of m in
    leaves_as m m2 (each_to_end (with_line k n none) slice) (woken_line k n)
    (ap (λ xs. each_to_end (with_line k n none) xs) (f ∙ e) ∙ ap (λ xs. each_to_end (with_line k n xs) (line_at k n)) g)
    (leaves_then (λ j. each_to_end j slice) m m1 m2 (with_line k n none) l l')
