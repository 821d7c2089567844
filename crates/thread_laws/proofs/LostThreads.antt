-- A kernel that lost some threads: each of these has an empty row and stands in no list, and the others are as they were.
use Rattle.std.proofs.Common.{◌≡◌, ◌≢◌, ℕ, ◌*◌, ◌+◌, ◌<◌, ◌≤◌, ◌⊎◌, Bool, true, false, not, List, refl, ap, sym, ◌∙◌, subst, ⊎_elim, arith, slice_index_or, AllPairs, All, Contains}
use Rattle.std.proofs.lemmas.Bool.{cases_Bool, not-true}
use Rattle.std.proofs.lemmas.List.Kept.{AllPairs-filter}
use Rattle.std.specs.List.{filter}
use Rattle.kernel_model.specs.Kernel.{Kernel, word_of, thread_at, app_at, mutex_at, empty_row, free_mutex, free_function, free_module}
use Rattle.kernel_model.specs.Words.{none, free, on_condition, running_module, app_of, identity, owner_of, priority_of, wake_time, tick_number, limit_of, top_of}
use Rattle.kernel_model.specs.Orderly.{Spot, spot, spot_of, listed, IsPlaced, IsThreadRow, IsLiveThread, IsMutex, IsOnCondition, HasShape, IsOrderly}
use Rattle.kernel_model.specs.Orderly.Spot.{Nowhere, Ready, Asleep}
use Rattle.kernel_model.specs.declared.rows.ThreadRow.{ThreadRow}
use Rattle.kernel_model.specs.declared.rows.AppRow.{AppRow}
use Rattle.kernel_model.specs.declared.rows.MutexRow.{MutexRow}
use Rattle.kernel_model.specs.declared.rows.FnRow.{FnRow}
use Rattle.kernel_model.specs.declared.rows.ModuleRow.{ModuleRow}
use Rattle.kernel_model.specs.declared.rows.SysWord.TheVariants.{CurLim, CurTop}
use Rattle.thread_laws.proofs.Filtered.{filter_keeps, filter_had, filter_order, filter_each}

-- a mutex is as before, and its owner stays
pub record MutexStays (k next : Kernel) (gone : ℕ → Bool) (a i : ℕ) : Type 0 where
  pub row : mutex_at next a i ≡ mutex_at k a i
  pub owner : owner_of k a i < 4 → gone (identity a (owner_of k a i)) ≡ false

-- next is k without the threads that are gone, and no module runs: they own no mutex, and the applications of the others are as
-- before. Its limits are those of who runs then
pub record HasLost (k next : Kernel) (gone : ℕ → Bool) : Type 0 where
  pub shape : HasShape next
  pub limit : word_of next CurLim ≡ limit_of next
  pub top : word_of next CurTop ≡ top_of next
  pub no_module : running_module next ≡ none
  pub modules : next.modules ≡ k.modules
  pub functions : next.functions ≡ k.functions
  pub tick : tick_number next ≡ tick_number k
  pub lost : (t : ℕ) → t < 32 → gone t ≡ true → thread_at next t ≡ empty_row
  pub kept : (t : ℕ) → gone t ≡ false → thread_at next t ≡ thread_at k t
  pub lists : (s : Spot) → listed next s ≡ filter (λ t. not (gone t)) (listed k s)
  pub apps : (t : ℕ) → gone t ≡ false → app_at next (app_of t) ≡ app_at k (app_of t)
  -- each is as new, or stays
  pub mutexes : (a i : ℕ) → a < 8 → i < 4 → (mutex_at next a i ≡ free_mutex) ⊎ MutexStays k next gone a i
  -- the mutexes that a thread on a condition may name
  pub conditions : (t i : ℕ) → gone t ≡ false → i ≤ 3 → mutex_at next (app_of t) i ≡ mutex_at k (app_of t) i

-- ---- who is gone

-- a thread whose row isn't free stays
stays : (k next : Kernel) (gone : ℕ → Bool) → HasLost k next gone → (t : ℕ) → t < 32 → (thread_at next t).state ≢ free → gone t ≡ false
stays k next gone l t h used = ⊎_elim
    (λ (e : gone t ≡ true). absurd (used (ap (λ (r : ThreadRow). r.state) (l.lost t h e))))
    (λ (e : gone t ≡ false). e)
    (cases_Bool (gone t))

-- ---- where threads stand

spot_lost : (k next : Kernel) (gone : ℕ → Bool) → HasLost k next gone → (t : ℕ) → t < 32 → gone t ≡ true → spot_of next t ≡ Nowhere
spot_lost k next gone l t h e = ap (λ (r : ThreadRow). spot (app_of t) r.state r.object) (l.lost t h e)

spot_kept : (k next : Kernel) (gone : ℕ → Bool) → HasLost k next gone → (t : ℕ) → gone t ≡ false → spot_of next t ≡ spot_of k t
spot_kept k next gone l t e = ap (λ (r : ThreadRow). spot (app_of t) r.state r.object) (l.kept t e)

-- a list has those that it had and that stay
has : (k next : Kernel) (gone : ℕ → Bool) → HasLost k next gone → (s : Spot) (t : ℕ) → Contains (listed next s) t → Contains (listed k s) t × (gone t ≡ false)
has k next gone l s t h =
    let r : Contains (listed k s) t × (not (gone t) ≡ true) =
    filter_had (λ t. not (gone t)) (listed k s) t (subst (λ (xs : List ℕ). Contains xs t) (l.lists s) h) in
    (r.0, not-true (gone t) r.1)

there_lost : (k next : Kernel) (gone : ℕ → Bool) → IsOrderly k → HasLost k next gone → (t : ℕ) → t < 32 → spot_of next t ≢ Nowhere
    → Contains (listed next (spot_of next t)) t
there_lost k next gone o l t h stands = ⊎_elim
    (λ (e : gone t ≡ true). absurd (stands (spot_lost k next gone l t h e)))
    (λ (e : gone t ≡ false).
    let same : spot_of next t ≡ spot_of k t = spot_kept k next gone l t e in
    let before : Contains (listed k (spot_of k t)) t = o.placed.there t h (λ n. stands (same ∙ n)) in
    let after : Contains (filter (λ t. not (gone t)) (listed k (spot_of k t))) t =
    filter_keeps (λ t. not (gone t)) (listed k (spot_of k t)) t before (ap not e) in
    subst (λ (s : Spot). Contains (listed next s) t) (sym same)
    (subst (λ (xs : List ℕ). Contains xs t) (sym (l.lists (spot_of k t))) after))
    (cases_Bool (gone t))

nowhere_lost : (k next : Kernel) (gone : ℕ → Bool) → IsOrderly k → HasLost k next gone → (s : Spot) (t : ℕ) → Contains (listed next s) t
    → (t < 32) × (spot_of next t ≡ s)
nowhere_lost k next gone o l s t h =
    let r : Contains (listed k s) t × (gone t ≡ false) = has k next gone l s t h in
    let p : (t < 32) × (spot_of k t ≡ s) = o.placed.nowhere_else s t r.0 in
    (p.0, spot_kept k next gone l t r.1 ∙ p.1)

placed_lost : (k next : Kernel) (gone : ℕ → Bool) → IsOrderly k → HasLost k next gone → IsPlaced next
placed_lost k next gone o l = record {
  there = there_lost k next gone o l;
  nowhere_else = nowhere_lost k next gone o l;
  once = λ s.
      subst (λ (xs : List ℕ). AllPairs (λ x y. x ≢ y) xs) (sym (l.lists s))
      (AllPairs-filter (λ x y. x ≢ y) (λ t. not (gone t)) (listed k s) (o.placed.once s));
}

-- ---- rows

rows_lost : (k next : Kernel) (gone : ℕ → Bool) → IsOrderly k → HasLost k next gone → (t : ℕ) → t < 32 → IsThreadRow (thread_at next t)
rows_lost k next gone o l t h = ⊎_elim
    (λ (e : gone t ≡ true).
    let empty : IsThreadRow empty_row =
    record { registers = refl; state = omega arith; priority = omega arith; waits = λ a b c. refl; takes = λ a. refl; wakes = λ a. (refl, refl) } in
    subst (λ (r : ThreadRow). IsThreadRow r) (sym (l.lost t h e)) empty)
    (λ (e : gone t ≡ false). subst (λ (r : ThreadRow). IsThreadRow r) (sym (l.kept t e)) (o.rows t h))
    (cases_Bool (gone t))

live_lost : (k next : Kernel) (gone : ℕ → Bool) → IsOrderly k → HasLost k next gone → (t : ℕ) → t < 32 → (thread_at next t).state ≢ free
    → IsLiveThread (app_at next (app_of t)) t
live_lost k next gone o l t h used =
    let e : gone t ≡ false = stays k next gone l t h used in
    let was : (thread_at k t).state ≢ free = λ q. used (ap (λ (r : ThreadRow). r.state) (l.kept t e) ∙ q) in
    subst (λ (r : AppRow). IsLiveThread r t) (sym (l.apps t e)) (o.threads t h was)

-- ---- mutexes and conditions

mutex_free : (threads : List ThreadRow) (a : ℕ) → IsMutex threads a free_mutex
mutex_free ts a = record { owned = λ n. absurd (n refl); not_waiting = λ i d h. absurd (omega arith); unwanted = λ e. refl }

mutex_stays : (k next : Kernel) (gone : ℕ → Bool) (a i : ℕ) → HasLost k next gone → MutexStays k next gone a i → IsMutex k.threads a (mutex_at k a i)
    → IsMutex next.threads a (mutex_at k a i)
mutex_stays k next gone a i l m h = record {
  owned = λ n.
      (let own : (owner_of k a i < 4) × ((thread_at k (identity a (owner_of k a i))).state ≢ free) = h.owned n in
      (own.0, λ e. own.1 (ap (λ (r : ThreadRow). r.state) (sym (l.kept (identity a (owner_of k a i)) (m.owner own.0))) ∙ e)));
  not_waiting = h.not_waiting;
  unwanted = h.unwanted;
}

mutexes_lost : (k next : Kernel) (gone : ℕ → Bool) → IsOrderly k → HasLost k next gone → (a i : ℕ) → a < 8 → i < 4 → IsMutex next.threads a (mutex_at next a i)
mutexes_lost k next gone o l a i ha hi = ⊎_elim
    (λ (e : mutex_at next a i ≡ free_mutex). subst (λ (r : MutexRow). IsMutex next.threads a r) (sym e) (mutex_free next.threads a))
    (λ (m : MutexStays k next gone a i).
    subst (λ (r : MutexRow). IsMutex next.threads a r) (sym m.row) (mutex_stays k next gone a i l m (o.mutexes a i ha hi)))
    (l.mutexes a i ha hi)

conditions_lost : (k next : Kernel) (gone : ℕ → Bool) → IsOrderly k → HasLost k next gone → (t : ℕ) → t < 32 → (thread_at next t).state ≡ on_condition
    → IsOnCondition next.mutexes t (thread_at next t)
conditions_lost k next gone o l t h on =
    let e : gone t ≡ false = stays k next gone l t h (λ q. let clash : on_condition ≡ free = sym on ∙ q in omega arith) in
    let same : thread_at next t ≡ thread_at k t = l.kept t e in
    let was : IsOnCondition k.mutexes t (thread_at k t) = o.conditions t h (ap (λ (r : ThreadRow). r.state) (sym same) ∙ on) in
    let row : mutex_at next (app_of t) (thread_at k t).mutex ≡ mutex_at k (app_of t) (thread_at k t).mutex =
    l.conditions t (thread_at k t).mutex e was.number in
    subst (λ (r : ThreadRow). IsOnCondition next.mutexes t r) (sym same)
    (record { number = was.number; not_owner = λ q. was.not_owner (ap (λ (r : MutexRow). r.owner) (sym row) ∙ q) })

-- ---- orders

priority_kept : (k next : Kernel) (gone : ℕ → Bool) → HasLost k next gone → (t : ℕ) → not (gone t) ≡ true → priority_of next t ≡ priority_of k t
priority_kept k next gone l t e = ap (λ (r : ThreadRow). r.priority) (l.kept t (not-true (gone t) e))

wake_kept : (k next : Kernel) (gone : ℕ → Bool) → HasLost k next gone → (t : ℕ) → not (gone t) ≡ true → wake_time next t ≡ wake_time k t
wake_kept k next gone l t e = ap (λ (r : ThreadRow). r.wake_low + 65536 * r.wake_high) (l.kept t (not-true (gone t) e))

priorities_lost : (k next : Kernel) (gone : ℕ → Bool) → IsOrderly k → HasLost k next gone → AllPairs (λ x y. priority_of next y ≤ priority_of next x) next.ready
priorities_lost k next gone o l =
    subst (λ (xs : List ℕ). AllPairs (λ x y. priority_of next y ≤ priority_of next x) xs) (sym (l.lists Ready))
    (filter_order (λ x y. priority_of k y ≤ priority_of k x) (λ x y. priority_of next y ≤ priority_of next x) (λ t. not (gone t)) k.ready
    (λ x y px py h.
    (let ex : priority_of next x ≡ priority_of k x = priority_kept k next gone l x px in
    let ey : priority_of next y ≡ priority_of k y = priority_kept k next gone l y py in
    omega arith))
    o.by_priority)

wakes_lost : (k next : Kernel) (gone : ℕ → Bool) → IsOrderly k → HasLost k next gone → AllPairs (λ x y. wake_time next x ≤ wake_time next y) next.sleepers
wakes_lost k next gone o l =
    subst (λ (xs : List ℕ). AllPairs (λ x y. wake_time next x ≤ wake_time next y) xs) (sym (l.lists Asleep))
    (filter_order (λ x y. wake_time k x ≤ wake_time k y) (λ x y. wake_time next x ≤ wake_time next y) (λ t. not (gone t)) k.sleepers
    (λ x y px py h.
    (let ex : wake_time next x ≡ wake_time k x = wake_kept k next gone l x px in
    let ey : wake_time next y ≡ wake_time k y = wake_kept k next gone l y py in
    omega arith))
    o.by_wake_time)

later_lost : (k next : Kernel) (gone : ℕ → Bool) → IsOrderly k → HasLost k next gone → All (λ t. tick_number next < wake_time next t) next.sleepers
later_lost k next gone o l =
    subst (λ (xs : List ℕ). All (λ t. tick_number next < wake_time next t) xs) (sym (l.lists Asleep))
    (filter_each (λ t. tick_number k < wake_time k t) (λ t. tick_number next < wake_time next t) (λ t. not (gone t)) k.sleepers
    (λ x px h.
    (let e : wake_time next x ≡ wake_time k x = wake_kept k next gone l x px in
    let f : tick_number next ≡ tick_number k = l.tick in
    omega arith))
    o.later)

-- ---- all of it

abbrev FunctionsStand : List FnRow → List ModuleRow → Type 0
FunctionsStand fs ms = (f : ℕ) → f < 64 → (slice_index_or fs f free_function).module ≢ none
    → (slice_index_or ms (slice_index_or fs f free_function).module free_module).state ≢ free

pub orderly_lost : (k next : Kernel) (gone : ℕ → Bool) → IsOrderly k → HasLost k next gone → IsOrderly next
orderly_lost k next gone o l = record {
  shape = l.shape;
  limit = l.limit;
  top = l.top;
  rows = rows_lost k next gone o l;
  threads = live_lost k next gone o l;
  placed = placed_lost k next gone o l;
  caller = λ h. absurd (h l.no_module);
  callee = λ h. absurd (h l.no_module);
  mutexes = mutexes_lost k next gone o l;
  conditions = conditions_lost k next gone o l;
  by_priority = priorities_lost k next gone o l;
  by_wake_time = wakes_lost k next gone o l;
  later = later_lost k next gone o l;
  functions =
      subst (λ (fs : List FnRow). FunctionsStand fs next.modules) (sym l.functions)
      (subst (λ (ms : List ModuleRow). FunctionsStand k.functions ms) (sym l.modules) o.functions);
}
