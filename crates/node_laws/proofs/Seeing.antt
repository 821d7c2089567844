-- What is seen of a sound system: its memory above the marks, and the words for the current limit and the current top.
use Rattle.std.proofs.Common.{◌≡◌, ℕ, ◌+◌, ◌*◌, ◌-◌, ◌/◌, ◌<◌, ◌≤◌, Bool, true, false, not, eqb, ◌&&◌, cond, List, ◌++◌, length, get_or, take, drop, map, replicate, zero, suc, ◌%◌, Some, inl, inr, refl, sym, ap, ◌∙◌, subst, arith, Option}
use Rattle.std.specs.List.{list_any, range_with_len}
use Rattle.std.proofs.lemmas.Bool.{cases_lt, cond-true, cond-false, ne_eqb, eq-eqb, and_left, and_right}
use Rattle.std.proofs.lemmas.List.{get_or-drop, get_or-take, get_or-map, get_or_past, get_or_append_left, get_or-append-add, length-take, length-drop, length-append, length-map, length-replicate}
use Rattle.std.proofs.lemmas.List.FromFn.{length-map-range_with_len, get_or-map-range_with_len}
use Rattle.flat_mem.specs.Bytes.{patch}
use Rattle.machine_model.specs.Memory.{word_at, IsMemory}
use Rattle.kernel_model.specs.declared.map.TheConstants.{BITMAP, BITMAP_END, CODE_POOL, KERNEL_LIMIT, KERNEL_TOP, TABLES}
use Rattle.kernel_model.specs.Kernel.{Kernel, app_at}
use Rattle.kernel_model.specs.Words.{none, running, running_module, app_of, thread_runs, stack_low, stack_high}
use Rattle.kernel_model.specs.Layout.{layout}
use Rattle.kernel_model.specs.Orderly.{IsOrderly}
use Rattle.kernel_model.specs.Running.{ThreadRuns}
use Rattle.load_model.specs.Domains.{Domain}
use Rattle.machine_laws.specs.Steady.{Limits}
use Rattle.node_model.specs.Systems.{System, seen, seen_in, bytes_in, mark_bytes, mark_byte, is_mark_in, domain_in}
use Rattle.node_model.specs.Laws.{IsSeen, SeenLaw}
use Rattle.node_model.specs.Placed.{IsWellPlaced}
use Rattle.node_model.specs.Sound.{IsSound, IsDomain, IsAppRowOf, IsRunning, AThread, Nothing, Interrupted, IdleInterrupted, AModule, low_in, top_in}
use Rattle.kernel_model.specs.declared.kinds.Kind.TheVariants.{App}
use Rattle.thread_laws.specs.Facts.{IsRunning as IsRunningRow}
use Rattle.thread_laws.proofs.Spots.{running_is}
use Rattle.node_laws.proofs.Domains.{IsStack, of-app, app-placed, stack-in}

-- ---- above what is put over memory

above-append : (xs ys : List ℕ) (n a : ℕ) → length xs ≡ n → n ≤ a → get_or (xs ++ ys) a 0 ≡ get_or ys (a - n) 0
above-append xs ys n a e l =
    let here : a ≡ length xs + (a - n) = omega arith in
    ap (λ (k : ℕ). get_or (xs ++ ys) k 0) here ∙ get_or-append-add xs ys (a - n) 0

pub above-patch : (m bs : List ℕ) (from size a : ℕ) → length bs ≡ size → from + size ≤ length m → from + size ≤ a
    → get_or (patch m from bs) a 0 ≡ get_or m a 0
unfolding patch
above-patch m bs from size a e l u =
    above-append (take from m) (bs ++ drop (from + length bs) m) from a (omega (arith, length-take from m)) (omega arith)
    ∙ above-append bs (drop (from + length bs) m) size (a - from) e (omega arith)
    ∙ get_or-drop (from + length bs) m (a - from - size) 0
    ∙ ap (λ (k : ℕ). get_or m k 0) (omega arith)

pub length-patch : (m bs : List ℕ) (from size : ℕ) → length bs ≡ size → from + size ≤ length m → length (patch m from bs) ≡ length m
unfolding patch
length-patch m bs from size e l =
    omega (
      arith,
      length-append (take from m) (bs ++ drop (from + length bs) m),
      length-append bs (drop (from + length bs) m),
      length-take from m,
      length-drop (from + length bs) m,
    )

pub marks-length : (ds : List (Option Domain)) → length (mark_bytes ds) ≡ 2048
unfolding mark_bytes
marks-length ds = length-map-range_with_len {X = ℕ} (λ b. mark_byte ds (CODE_POOL + 16 * b)) 0 2048

-- ---- bytes

unfoldable pub SmallAll : List ℕ → Type 0
SmallAll xs = (k : ℕ) → get_or xs k 0 < 256

small-append : (xs ys : List ℕ) → SmallAll xs → SmallAll ys → SmallAll (xs ++ ys)
unfolding SmallAll
small-append xs ys a b k = elim (cases_lt k (length xs)) [
  | inl l ↦ rw (get_or_append_left xs ys 0 k l) (a k)
  | inr u ↦ rw (above-append xs ys (length xs) k refl u) (b (k - length xs))
]

small-take : (n : ℕ) (xs : List ℕ) → SmallAll xs → SmallAll (take n xs)
unfolding SmallAll
small-take n xs a k = elim (cases_lt k n) [
  | inl l ↦ rw (get_or-take n xs k 0 l) (a k)
  | inr u ↦ rw (get_or_past (take n xs) k 0 (omega (arith, length-take n xs))) (omega arith)
]

small-drop : (n : ℕ) (xs : List ℕ) → SmallAll xs → SmallAll (drop n xs)
unfolding SmallAll
small-drop n xs a k = rw (get_or-drop n xs k 0) (a (n + k))

pub small-patch : (m bs : List ℕ) (from : ℕ) → SmallAll m → SmallAll bs → SmallAll (patch m from bs)
unfolding patch
small-patch m bs from a b = small-append (take from m) (bs ++ drop (from + length bs) m) (small-take from m a)
    (small-append bs (drop (from + length bs) m) b (small-drop (from + length bs) m a))

small-cut : (xs : List ℕ) → SmallAll (map (λ b. b % 256) xs)
unfolding SmallAll
small-cut xs k = elim (cases_lt k (length xs)) [
  | inl l ↦ rw (get_or-map (λ b. b % 256) xs k 0 0 l) (omega arith)
  | inr u ↦ rw (get_or_past (map (λ b. b % 256) xs) k 0 (omega (arith, length-map xs (λ b. b % 256)))) (omega arith)
]

pub small-zeros : (n : ℕ) → SmallAll (replicate n 0)
unfolding SmallAll
small-zeros zero k = omega arith
small-zeros (suc n) zero = omega arith
small-zeros (suc n) (suc k) = small-zeros n k

tables-small : (k : Kernel) → SmallAll (bytes_in 3584 (layout k))
unfolding bytes_in
tables-small k = small-take 3584 _
    (small-append (map (λ b. b % 256) (layout k)) (replicate 3584 0) (small-cut (layout k)) (small-zeros 3584))

pub tables-length : (k : Kernel) → length (bytes_in 3584 (layout k)) ≡ 3584
unfolding bytes_in
tables-length k = omega (
  arith,
  length-take 3584 (map (λ b. b % 256) (layout k) ++ replicate 3584 0),
  length-append (map (λ b. b % 256) (layout k)) (replicate 3584 0),
  length-replicate {A = ℕ} 3584 0,
)

bit-below : (b : Bool) (x : ℕ) → cond b x 0 ≤ x
bit-below true x = omega arith
bit-below false x = omega arith

mark-small : (ds : List (Option Domain)) (at : ℕ) → mark_byte ds at < 256
mark-small ds at =
    let f : ℕ → Bool = λ (j : ℕ). list_any (λ d. is_mark_in d (at + 2 * j)) ds in
    omega (
      arith,
      bit-below (f 0) 1,
      bit-below (f 1) 2,
      bit-below (f 2) 4,
      bit-below (f 3) 8,
      bit-below (f 4) 16,
      bit-below (f 5) 32,
      bit-below (f 6) 64,
      bit-below (f 7) 128,
    )

marks-small : (ds : List (Option Domain)) → SmallAll (mark_bytes ds)
unfolding mark_bytes SmallAll
marks-small ds k = elim (cases_lt k 2048) [
  | inl l ↦ rw (get_or-map-range_with_len {X = ℕ} (λ b. mark_byte ds (CODE_POOL + 16 * b)) 0 2048 k k 0 l (omega arith))
      (mark-small ds (CODE_POOL + 16 * k))
  | inr u ↦ rw (get_or_past {X = ℕ} (map (λ b. mark_byte ds (CODE_POOL + 16 * b)) (range_with_len 0 2048)) k 0
      (omega (arith, length-map-range_with_len {X = ℕ} (λ b. mark_byte ds (CODE_POOL + 16 * b)) 0 2048))) (omega arith)
]

-- ---- what is seen is a memory

pub over-length : (m : List ℕ) (k : Kernel) → length m ≡ 65536 → length (patch m TABLES (bytes_in 3584 (layout k))) ≡ 65536
over-length m k e = length-patch m (bytes_in 3584 (layout k)) TABLES 3584 (tables-length k) (omega arith) ∙ e

pub seen-memory : (m : List ℕ) (k : Kernel) (ds : List (Option Domain)) → IsMemory m → IsMemory (seen_in m k ds)
unfolding seen_in SmallAll
seen-memory m k ds h =
    let size : length (patch m TABLES (bytes_in 3584 (layout k))) ≡ 65536 = over-length m k h.bytes in
    record {
      bytes = length-patch (patch m TABLES (bytes_in 3584 (layout k))) (mark_bytes ds) BITMAP 2048 (marks-length ds) (omega arith)
          ∙ size;
      small = small-patch (patch m TABLES (bytes_in 3584 (layout k))) (mark_bytes ds) BITMAP
          (small-patch m (bytes_in 3584 (layout k)) TABLES h.small (tables-small k)) (marks-small ds);
    }

-- memory is seen as it is above the marks
seen-above : (m : List ℕ) (k : Kernel) (ds : List (Option Domain)) (a : ℕ) → length m ≡ 65536 → BITMAP_END ≤ a
    → get_or (seen_in m k ds) a 0 ≡ get_or m a 0
unfolding seen_in
seen-above m k ds a e l =
    let size : length (patch m TABLES (bytes_in 3584 (layout k))) ≡ 65536 = over-length m k e in
    above-patch (patch m TABLES (bytes_in 3584 (layout k))) (mark_bytes ds) BITMAP 2048 a (marks-length ds) (omega arith)
    (omega arith)
    ∙ above-patch m (bytes_in 3584 (layout k)) TABLES 3584 a (tables-length k) (omega arith) (omega arith)

-- and the tables are seen in their place
pub below-patch : (m bs : List ℕ) (from a : ℕ) → from ≤ length m → a < from → get_or (patch m from bs) a 0 ≡ get_or m a 0
unfolding patch
below-patch m bs from a l u = get_or_append_left (take from m) (bs ++ drop (from + length bs) m) 0 a
    (omega (arith, length-take from m)) ∙ get_or-take from m a 0 u

pub in-patch : (m bs : List ℕ) (from a : ℕ) → from ≤ length m → a < length bs
    → get_or (patch m from bs) (from + a) 0 ≡ get_or bs a 0
unfolding patch
in-patch m bs from a l u =
    above-append (take from m) (bs ++ drop (from + length bs) m) from (from + a) (omega (arith, length-take from m)) (omega arith)
    ∙ ap (λ (k : ℕ). get_or (bs ++ drop (from + length bs) m) k 0) (omega arith)
    ∙ get_or_append_left bs (drop (from + length bs) m) 0 a u

pub seen-tables : (m : List ℕ) (k : Kernel) (ds : List (Option Domain)) (a : ℕ) → length m ≡ 65536 → a < 3584
    → get_or (seen_in m k ds) (TABLES + a) 0 ≡ get_or (bytes_in 3584 (layout k)) a 0
unfolding seen_in
seen-tables m k ds a e l =
    let size : length (patch m TABLES (bytes_in 3584 (layout k))) ≡ 65536 = over-length m k e in
    below-patch (patch m TABLES (bytes_in 3584 (layout k))) (mark_bytes ds) BITMAP (TABLES + a) (omega arith) (omega arith)
    ∙ in-patch m (bytes_in 3584 (layout k)) TABLES a (omega arith) (omega (arith, tables-length k))

pub first-bytes : (k : Kernel) (i : ℕ) → i < 3584
    → get_or (bytes_in 3584 (layout k)) i 0 ≡ get_or (map (λ b. b % 256) (layout k) ++ replicate 3584 0) i 0
unfolding bytes_in
first-bytes k i l = get_or-take 3584 (map (λ b. b % 256) (layout k) ++ replicate 3584 0) i 0 l

limit-bytes : (k : Kernel) → (get_or (bytes_in 3584 (layout k)) 0 0 ≡ k.cur_lim % 256 % 256)
    × (get_or (bytes_in 3584 (layout k)) 1 0 ≡ k.cur_lim / 256 % 256)
unfolding layout
limit-bytes k = (first-bytes k 0 (omega arith), first-bytes k 1 (omega arith))

top-bytes : (k : Kernel) → (get_or (bytes_in 3584 (layout k)) 2 0 ≡ k.cur_top % 256 % 256)
    × (get_or (bytes_in 3584 (layout k)) 3 0 ≡ k.cur_top / 256 % 256)
unfolding layout
top-bytes k = (first-bytes k 2 (omega arith), first-bytes k 3 (omega arith))

-- ---- the limits are words

limit-with : (k : Kernel) → IsOrderly k → (b : Bool) → thread_runs k ≡ b
    → (b ≡ true → (stack_low k (running k) + 6 < 65536) × (stack_high k (running k) < 65536)) → (k.cur_lim < 65536)
    × (k.cur_top < 65536)
limit-with k o true e h =
    let w : (stack_low k (running k) + 6 < 65536) × (stack_high k (running k) < 65536) = h refl in (
      subst (λ (x : ℕ). x < 65536) (sym (o.limit ∙ cond-true (thread_runs k) _ KERNEL_LIMIT e)) w.0,
      subst (λ (x : ℕ). x < 65536) (sym (o.top ∙ cond-true (thread_runs k) _ KERNEL_TOP e)) w.1,
    )
limit-with k o false e h = (
  subst (λ (x : ℕ). x < 65536) (sym (o.limit ∙ cond-false (thread_runs k) _ KERNEL_LIMIT e)) (omega arith),
  subst (λ (x : ℕ). x < 65536) (sym (o.top ∙ cond-false (thread_runs k) _ KERNEL_TOP e)) (omega arith),
)

-- the running thread's stack lies in its application's region
pub record IsOnStack (s : System) (d : Domain) : Type 0 where
  pub kind : d.object.kind ≡ App
  pub well : IsWellPlaced d
  pub stack : IsStack d (low_in s.kernel.apps (running s.kernel)) (top_in s.kernel.apps (running s.kernel))

pub on-stack : (s : System) (d : Domain) → IsSound s → ThreadRuns s.kernel → domain_in s.placed (app_of (running s.kernel)) ≡ Some d
    → IsOnStack s d
on-stack s d h r e =
    let t : ℕ = running s.kernel in
    let l : app_of t < 8 = (let x = r.thread in omega arith) in
    let is : IsDomain s.kernel.apps s.kernel.modules (app_of t) d = h.kernel.domains.placed (app_of t) d e in
    let app : (d.object.kind ≡ App) × IsAppRowOf d (app_at s.kernel (app_of t)) =
    of-app s.kernel.apps s.kernel.modules (app_of t) d l is in
    let well : IsWellPlaced d = app-placed s.kernel s.placed s.steps (app_of t) d h.kernel l e in
    let row : IsRunningRow s.kernel t = running_is s.kernel h.kernel.settled.orderly r in
    record {
      kind = app.0;
      well = well;
      stack = stack-in s.kernel.apps t d well app.0 is.region app.1 (omega (arith, row.within, app.1.threads));
    }

thread-words : (s : System) (d : Domain) → IsSound s → ThreadRuns s.kernel → domain_in s.placed (app_of (running s.kernel)) ≡ Some d
    → (stack_low s.kernel (running s.kernel) + 6 < 65536) × (stack_high s.kernel (running s.kernel) < 65536)
thread-words s d h r e =
    let on : IsOnStack s d = on-stack s d h r e in
    (omega (arith, on.stack.room, on.stack.within_top, on.well.hi_high), omega (arith, on.stack.within_top, on.well.hi_high))

limit-words : (s : System) → IsSound s → IsRunning s.memory s.context s.kernel s.placed → (s.kernel.cur_lim < 65536)
    × (s.kernel.cur_top < 65536)
limit-words s h (AThread r good) =
    limit-with s.kernel h.kernel.settled.orderly (thread_runs s.kernel) refl (λ _. thread-words s good.domain h r good.placed)
limit-words s h (Interrupted r serving i) =
    limit-with s.kernel h.kernel.settled.orderly (thread_runs s.kernel) refl (λ _. thread-words s i.good.domain h r i.good.placed)
limit-words s h (Nothing r e) =
    limit-with s.kernel h.kernel.settled.orderly false
    (and_right (eqb (running_module s.kernel) none) _ (ap not (eq-eqb (running s.kernel) none r.no_thread))) (λ f. absurd (cc))
limit-words s h (IdleInterrupted r serving e) =
    limit-with s.kernel h.kernel.settled.orderly false
    (and_right (eqb (running_module s.kernel) none) _ (ap not (eq-eqb (running s.kernel) none r.no_thread))) (λ f. absurd (cc))
limit-words s h (AModule l good) =
    limit-with s.kernel h.kernel.settled.orderly false
    (and_left (eqb (running_module s.kernel) none) _ (ne_eqb (running_module s.kernel) none (λ e. omega arith))) (λ f. absurd (cc))

-- a sound system is seen
pub sees : SeenLaw
unfolding word_at
sees s h =
    let w : (s.kernel.cur_lim < 65536) × (s.kernel.cur_top < 65536) = limit-words s h h.running in
    let size : length s.memory ≡ 65536 = h.code.memory.bytes in
    let l : (get_or (bytes_in 3584 (layout s.kernel)) 0 0 ≡ s.kernel.cur_lim % 256 % 256)
    × (get_or (bytes_in 3584 (layout s.kernel)) 1 0 ≡ s.kernel.cur_lim / 256 % 256) = limit-bytes s.kernel in
    let t : (get_or (bytes_in 3584 (layout s.kernel)) 2 0 ≡ s.kernel.cur_top % 256 % 256)
    × (get_or (bytes_in 3584 (layout s.kernel)) 3 0 ≡ s.kernel.cur_top / 256 % 256) = top-bytes s.kernel in
    record {
      memory = seen-memory s.memory s.kernel s.placed h.code.memory;
      limit = omega (
        arith,
        seen-tables s.memory s.kernel s.placed 0 size (omega arith),
        seen-tables s.memory s.kernel s.placed 1 size (omega arith),
        l,
        w,
      );
      top = omega (
        arith,
        seen-tables s.memory s.kernel s.placed 2 size (omega arith),
        seen-tables s.memory s.kernel s.placed 3 size (omega arith),
        t,
        w,
      );
      above = λ a u. seen-above s.memory s.kernel s.placed a size u;
    }

-- ---- the limits

-- the limits are those of the thread that runs
runs : (k : Kernel) → ThreadRuns k → thread_runs k ≡ true
runs k r = ap (λ (i : ℕ). eqb i none && not (eqb (running k) none)) r.no_module
    ∙ ap not (ne_eqb (running k) none (λ e. let l = r.thread in omega arith))

pub limits-seen : (s : System) (d : Domain) → IsSeen s → IsOrderly s.kernel → ThreadRuns s.kernel → IsWellPlaced d
    → IsStack d (low_in s.kernel.apps (running s.kernel)) (top_in s.kernel.apps (running s.kernel))
    → Limits (seen s) (low_in s.kernel.apps (running s.kernel)) (top_in s.kernel.apps (running s.kernel))
limits-seen s d h o r well stack = record {
  limit = h.limit ∙ o.limit ∙ cond-true (thread_runs s.kernel) _ KERNEL_LIMIT (runs s.kernel r);
  last = h.top ∙ o.top ∙ cond-true (thread_runs s.kernel) _ KERNEL_TOP (runs s.kernel r);
  low_even = stack.low_even;
  top_even = stack.top_even;
  order = stack.room;
  word = omega (arith, stack.within_top, well.hi_high);
}
