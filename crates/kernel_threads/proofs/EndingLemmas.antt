-- What the end of an application leaves, call by call.
use Rattle.std.proofs.Common.{◌≡◌, ◌≢◌, ℕ, ◌<◌, Bool, true, false, not, if◌then◌else◌, List, get_or, map, refl, sym, ap, ◌∙◌, subst, All}
use Rattle.std.proofs.lemmas.Bool.{eq-eqb, false≢true}
use Rattle.std.proofs.lemmas.List.Elements.{Contains-get_or, filter_passes}
use Rattle.kernel_model.specs.Kernel.{Kernel, with_ready, with_sleepers, app_at, with_app, line_at}
use Rattle.kernel_model.specs.Orderly.{IsOrderly}
use Rattle.kernel_model.specs.Orderly.Spot.{OnLine}
use Rattle.kernel_model.specs.Words.{app_of, running, none_running}
use Rattle.kernel_model.specs.Layout.{kernel_of}
use Rattle.kernel_model.specs.Queues.{Leaves}
use Rattle.kernel_model.specs.declared.ends.AppEnd.{AppEnd}
use Rattle.kernel_model.specs.Ending.{is_of, others, end_state, threads_ended, waits_ended, ended}
use Rattle.kernel_threads.specs.Leaving.{with_lines, rows_emptied}
use Rattle.kernel_threads.proofs.ChainLemmas.{leaves_as, leaves_then}

-- no thread of the application is in a list
abbrev pub lists_emptied : Kernel → (a : ℕ) → Kernel
lists_emptied k a = with_lines (with_sleepers (with_ready k (others a k.ready)) (others a k.sleepers)) (map (others a) k.lines)

pub lists_left : (m m1 m2 m3 : List ℕ) (a : ℕ) → Leaves m m1 (with_ready (kernel_of m) (others a (kernel_of m).ready))
    → Leaves m1 m2 (with_sleepers (kernel_of m1) (others a (kernel_of m1).sleepers)) → Leaves m2 m3 (with_lines (kernel_of m2) (map (others a) (kernel_of m2).lines))
    → Leaves m m3 (lists_emptied (kernel_of m) a)
lists_left m m1 m2 m3 a l1 l2 l3 =
    let k : Kernel = kernel_of m in
    let two : Leaves m m2 (with_sleepers (with_ready k (others a k.ready)) (others a k.sleepers)) =
    leaves_then (λ j. with_sleepers j (others a j.sleepers)) m m1 m2 (with_ready k (others a k.ready)) l1 l2 in
    leaves_then (λ j. with_lines j (map (others a) j.lines)) m m2 m3 (with_sleepers (with_ready k (others a k.ready)) (others a k.sleepers)) two l3

others_are : (a : ℕ) (xs : List ℕ) → All (λ t. app_of t ≢ a) (others a xs)
others_are a xs i d h e =
    let t : ℕ = get_or (others a xs) i d in
    false≢true (sym (ap not (eq-eqb (app_of t) a e)) ∙ filter_passes (λ y. not (is_of a y)) xs i d h)

pub others_ready : (m m3 : List ℕ) (a : ℕ) → Leaves m m3 (lists_emptied (kernel_of m) a) → All (λ t. app_of t ≢ a) (kernel_of m3).ready
others_ready m m3 a l = subst (λ (k : Kernel). All (λ t. app_of t ≢ a) k.ready) (sym l.kernel) (others_are a (kernel_of m).ready)

pub others_asleep : (m m3 : List ℕ) (a : ℕ) → Leaves m m3 (lists_emptied (kernel_of m) a) → All (λ t. app_of t ≢ a) (kernel_of m3).sleepers
others_asleep m m3 a l = subst (λ (k : Kernel). All (λ t. app_of t ≢ a) k.sleepers) (sym l.kernel) (others_are a (kernel_of m).sleepers)

threads_are : (k : Kernel) (a : ℕ) → rows_emptied (lists_emptied k a) a 4 ≡ threads_ended k a
unfolding threads_ended
threads_are k a = refl

pub threads_left : (m m3 m4 : List ℕ) (a : ℕ) → Leaves m m3 (lists_emptied (kernel_of m) a) → Leaves m3 m4 (rows_emptied (kernel_of m3) a 4)
    → Leaves m m4 (threads_ended (kernel_of m) a)
threads_left m m3 m4 a l l' =
    leaves_as m m4 (rows_emptied (lists_emptied (kernel_of m) a) a 4) (threads_ended (kernel_of m) a) (threads_are (kernel_of m) a)
    (leaves_then (λ j. rows_emptied j a 4) m m3 m4 (lists_emptied (kernel_of m) a) l l')

-- ---- the whole

-- the row says how the application ended
abbrev pub with_end : Kernel → (a : ℕ) → AppEnd → Kernel
with_end k a how = with_app k a (record (app_at k a) { state = end_state how })

pub end_left : (m m1 m2 m3 : List ℕ) (a : ℕ) (how : AppEnd) → Leaves m m1 (threads_ended (kernel_of m) a) → Leaves m1 m2 (waits_ended (kernel_of m1) a)
    → Leaves m2 m3 (with_end (kernel_of m2) a how) → Leaves m m3 (with_end (waits_ended (threads_ended (kernel_of m) a) a) a how)
end_left m m1 m2 m3 a how l1 l2 l3 =
    let k : Kernel = kernel_of m in
    leaves_then (λ j. with_end j a how) m m2 m3 (waits_ended (threads_ended k a) a) (leaves_then (λ j. waits_ended j a) m m1 m2 (threads_ended k a) l1 l2) l3

pub ended_running : (m m3 m4 : List ℕ) (a : ℕ) (how : AppEnd) → is_of a (running (kernel_of m)) ≡ true
    → Leaves m m3 (with_end (waits_ended (threads_ended (kernel_of m) a) a) a how) → Leaves m3 m4 (none_running (kernel_of m3)) → Leaves m m4 (ended (kernel_of m) a how)
unfolding ended
ended_running m m3 m4 a how own l l' =
    let k : Kernel = with_end (waits_ended (threads_ended (kernel_of m) a) a) a how in
    leaves_as m m4 (none_running k) (if is_of a (running (kernel_of m)) then none_running k else k) (sym (ap (λ (b : Bool). if b then none_running k else k) own))
    (leaves_then none_running m m3 m4 k l l')

pub ended_elsewhere : (m m3 : List ℕ) (a : ℕ) (how : AppEnd) → is_of a (running (kernel_of m)) ≡ false
    → Leaves m m3 (with_end (waits_ended (threads_ended (kernel_of m) a) a) a how) → Leaves m m3 (ended (kernel_of m) a how)
unfolding ended
ended_elsewhere m m3 a how other l =
    let k : Kernel = with_end (waits_ended (threads_ended (kernel_of m) a) a) a how in
    leaves_as m m3 k (if is_of a (running (kernel_of m)) then none_running k else k) (sym (ap (λ (b : Bool). if b then none_running k else k) other)) l

-- those that wait for lines are identities
pub line_identities : (k : Kernel) → IsOrderly k → (n : ℕ) → All (λ t. t < 32) (line_at k n)
line_identities k h n i d l = (h.placed.nowhere_else (OnLine n) (get_or (line_at k n) i d) (Contains-get_or (line_at k n) i d l)).0
