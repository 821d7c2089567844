-- The ready list and the sleepers after a thread's row was written.
use Rattle.std.proofs.Common.{◌≡◌, ◌≢◌, ℕ, ◌+◌, ◌*◌, ◌<◌, ◌≤◌, ◌⊎◌, zero, suc, cond, eqb, List, [], ◌∷◌, ◌++◌, replicate, length, get_or, set, refl, ap, sym, ◌∙◌, subst, ⊎_elim, inl, inr, arith, All, Contains}
use Rattle.std.proofs.lemmas.List.{get_or-set_same, get_or-set_other, length-set}
use Rattle.std.proofs.lemmas.List.Elements.{Contains-get_or, All-set}
use Rattle.std.proofs.lemmas.Bool.{cases_eq, cases_lt, eqb-true, eq-eqb}
use Rattle.std.specs.List.{flat_map}
use Rattle.flat_mem.specs.Bytes.{patch}
use Rattle.kernel_model.specs.Links.{first, last, next_of, prev_of, queue}
use Rattle.kernel_model.specs.Members.{In, Out}
use Rattle.kernel_model.proofs.FitLemmas.{Small, memory_fits_lem}
use Rattle.kernel_model.proofs.LinkLemmas.{next_out, prev_out}
use Rattle.kernel_model.proofs.ReadLemmas.{out_queue}
use Rattle.kernel_model.proofs.LayoutLemmas.{length-thread}
use Rattle.kernel_model.proofs.StandLemmas.{in_or_not, ends_back, queues_stand, unused_byte}
use Rattle.kernel_tables.proofs.Patches.{length-patch, kept_below, kept_above, put_byte}
use Rattle.kernel_tables.proofs.Relaid.{Elsewhere, Relaid, rows_kept, leaves_relaid}
use Rattle.kernel_model.specs.Kernel.{Kernel, with_thread, free_thread}
use Rattle.kernel_model.specs.Words.{priority_of, wake_time}
use Rattle.kernel_model.specs.Layout.{written, tables, nth, kernel_of, thread_bytes, links_of, queue_of, queue_ends, Fits, FitsThread}
use Rattle.kernel_model.specs.Queues.{AreQueues, HasQueueBytes, QueuesHold, Leaves, priority_in, wake_time_in, wake_time_of}
use Rattle.kernel_model.specs.declared.rows.ThreadRow.{ThreadRow}
use Rattle.kernel_tables.proofs.TableLemmas.{thread_count}

-- ---- a row that keeps what its list goes by

-- a measure of the threads in a list stays, where that of the replaced row does if it is in the list
kept_measure : (f : ThreadRow → ℕ) (threads : List ThreadRow) (t : ℕ) (row : ThreadRow) (xs : List ℕ) → t < length threads
    → (Contains xs t → f row ≡ f (get_or threads t free_thread)) → (x : ℕ) → Contains xs x → f (get_or (set threads t row) x free_thread) ≡ f (get_or threads x free_thread)
kept_measure f threads t row xs h keeps x in' = ⊎_elim
    (λ (same : x ≡ t).
    let here : Contains xs t = subst (λ (y : ℕ). Contains xs y) same in' in
    subst (λ (y : ℕ). f (get_or (set threads t row) y free_thread) ≡ f (get_or threads y free_thread)) (sym same)
    (ap f (get_or-set_same threads t row free_thread h) ∙ keeps here))
    (λ (other : x ≢ t). ap f (get_or-set_other threads t x row free_thread other))
    (cases_eq x t)

pub queues_of_row : (threads : List ThreadRow) (ready sleepers : List ℕ) (t : ℕ) (row : ThreadRow) → t < length threads
    → (Contains ready t → row.priority ≡ priority_in threads t) → (Contains sleepers t → wake_time_of row ≡ wake_time_in threads t)
    → AreQueues threads ready sleepers → AreQueues (set threads t row) ready sleepers
queues_of_row threads ready sleepers t row h p w q =
    let priority : (x : ℕ) → Contains ready x → priority_in (set threads t row) x ≡ priority_in threads x =
    kept_measure (λ r. r.priority) threads t row ready h p in
    let wakes : (x : ℕ) → Contains sleepers x → wake_time_in (set threads t row) x ≡ wake_time_in threads x =
    kept_measure wake_time_of threads t row sleepers h w in
    record {
      ready_below = q.ready_below;
      sleepers_below = q.sleepers_below;
      once = q.once;
      priorities = λ k d l.
          let same = priority (get_or ready k d) (Contains-get_or ready k d l) in
          let old : priority_in threads (get_or ready k d) ≤ 7 = q.priorities k d l in
          omega arith;
      by_priority = λ i j d l l'.
          let first = priority (get_or ready i d) (Contains-get_or ready i d (omega arith)) in
          let second = priority (get_or ready j d) (Contains-get_or ready j d l') in
          let old : priority_in threads (get_or ready j d) ≤ priority_in threads (get_or ready i d) = q.by_priority i j d l l' in
          omega arith;
      by_wake_time = λ i j d l l'.
          let first = wakes (get_or sleepers i d) (Contains-get_or sleepers i d (omega arith)) in
          let second = wakes (get_or sleepers j d) (Contains-get_or sleepers j d l') in
          let old : wake_time_in threads (get_or sleepers i d) ≤ wake_time_in threads (get_or sleepers j d) = q.by_wake_time i j d l l' in
          omega arith;
    }

-- ---- members

in_at : (xs : List ℕ) (k d : ℕ) → k < length xs → In (get_or xs k d) xs
in_at [] k d l = absurd (omega arith)
in_at (x ∷ xs) zero d l = inl (eq-eqb x x refl)
in_at (x ∷ xs) (suc k) d l = inr (in_at xs k d (omega arith))

pub in_contains : (xs : List ℕ) (t : ℕ) → Contains xs t → In t xs
in_contains xs t c = subst (λ (x : ℕ). In x xs) c.2 (in_at xs c.0 t c.1)

place_in : (xs : List ℕ) (t d : ℕ) → In t xs → (k : ℕ) × ((k < length xs) × (get_or xs k d ≡ t))
place_in [] t d i = absurd i
place_in (x ∷ xs) t d i = ⊎_elim
    (λ e. (0, (omega arith, eqb-true x t e)))
    (λ j. let rest = place_in xs t d j in (suc rest.0, (let l : rest.0 < length xs = rest.1.0 in omega arith, rest.1.1)))
    i

pub contains_in : (xs : List ℕ) (t : ℕ) → In t xs → Contains xs t
contains_in xs t i = let at = place_in xs t 0 i in subst (λ (x : ℕ). Contains xs x) at.1.1 (Contains-get_or xs at.0 0 at.1.0)

pub out_lacks : (xs : List ℕ) (t : ℕ) → (Contains xs t → ⊥) → Out t xs
out_lacks xs t h = ⊎_elim (λ i. absurd (h (contains_in xs t i))) (λ o. o) (in_or_not t xs)

-- ---- the queues by another priority that agrees on the list

pub queue_same : (f g : ℕ → ℕ) (xs : List ℕ) (p : ℕ) → ((x : ℕ) → In x xs → f x ≡ g x) → queue f xs p ≡ queue g xs p
queue_same f g [] p h = refl
queue_same f g (x ∷ xs) p h =
    ap (λ n. cond (eqb n p) (x ∷ queue f xs p) (queue f xs p)) (h x (inl (eq-eqb x x refl)))
    ∙ ap (λ ys. cond (eqb (g x) p) (x ∷ ys) ys) (queue_same f g xs p (λ y i. h y (inr i)))

pub links_same : (ts ts' : List ThreadRow) (rs ss : List ℕ) (s : ℕ) → ((x : ℕ) → In x rs → priority_in ts' x ≡ priority_in ts x) → links_of ts' rs ss s ≡ links_of ts rs ss s
links_same ts ts' rs ss s h =
    let f : ℕ → ℕ = priority_in ts in let f' : ℕ → ℕ = priority_in ts' in
    let made : List ℕ → List ℕ = λ own. (next_of own s + next_of ss s) ∷ (prev_of own s + prev_of ss s) ∷ 0 ∷ 0 ∷ [] in
    let none : (own : List ℕ) → Out s own → made own ≡ made [] = λ own o.
    ap (λ n. (n + next_of ss s) ∷ (prev_of own s + prev_of ss s) ∷ 0 ∷ 0 ∷ []) (next_out own s o)
    ∙ ap (λ n. (0 + next_of ss s) ∷ (n + prev_of ss s) ∷ 0 ∷ 0 ∷ []) (prev_out 0 own s o) in
    ap made (queue_same f' f rs (f' s) h) ∙ ⊎_elim
    (λ i. ap (λ p. made (queue f rs p)) (h s i))
    (λ o. none (queue f rs (f' s)) (out_queue f (f' s) s rs o) ∙ sym (none (queue f rs (f s)) (out_queue f (f s) s rs o)))
    (in_or_not s rs)

pub queue_of_same : (ts ts' : List ThreadRow) (rs ss : List ℕ) (q : ℕ) → ((x : ℕ) → In x rs → priority_in ts' x ≡ priority_in ts x) → queue_of ts' rs ss q ≡ queue_of ts rs ss q
queue_of_same ts ts' rs ss q h = ap (λ xs. cond (eqb q 8) ss xs) (queue_same (priority_in ts') (priority_in ts) rs q h)

flat_map_same : (f g : ℕ → List ℕ) (xs : List ℕ) → ((x : ℕ) → f x ≡ g x) → flat_map f xs ≡ flat_map g xs
flat_map_same f g [] h = refl
flat_map_same f g (x ∷ xs) h = ap (λ ys. ys ++ flat_map f xs) (h x) ∙ ap (λ ys. g x ++ ys) (flat_map_same f g xs h)

pub ends_same : (ts ts' : List ThreadRow) (rs ss : List ℕ) → ((x : ℕ) → In x rs → priority_in ts' x ≡ priority_in ts x) → queue_ends ts' rs ss ≡ queue_ends ts rs ss
unfolding queue_ends
ends_same ts ts' rs ss h =
    ap (λ bs. bs ++ replicate 14 0)
    (flat_map_same (λ q. first (queue_of ts' rs ss q) ∷ last (queue_of ts' rs ss q) ∷ []) (λ q. first (queue_of ts rs ss q) ∷ last (queue_of ts rs ss q) ∷ [])
    (0 ∷ 1 ∷ 2 ∷ 3 ∷ 4 ∷ 5 ∷ 6 ∷ 7 ∷ 8 ∷ []) (λ q. ap (λ xs. first xs ∷ last xs ∷ []) (queue_of_same ts ts' rs ss q h)))

-- ---- a thread's row replaced

pub row_fits : (m : List ℕ) (t : ℕ) (row : ThreadRow) → Fits (kernel_of m) → length row.regs ≡ 16 → Fits (with_thread (kernel_of m) t row)
row_fits m t row f regs = record {
  app_rows = f.app_rows;
  module_rows = f.module_rows;
  function_rows = f.function_rows;
  thread_rows = length-set (kernel_of m).threads t row ∙ f.thread_rows;
  threads = All-set FitsThread (kernel_of m).threads t row (record { regs = regs }) f.threads;
  mutex_rows = f.mutex_rows;
  mutexes = f.mutexes;
  condition_lists = f.condition_lists;
  conditions = f.conditions;
  line_lists = f.line_lists;
  lines = f.lines;
}

-- bytes inside row t were written
row_elsewhere : (m bs : List ℕ) (t o a : ℕ) → length m ≡ 65536 → t < 32 → o + length bs ≤ 44 → Elsewhere a → get_or (patch m (1056 + 48 * t + o) bs) a 0 ≡ get_or m a 0
row_elsewhere m bs t o a e l w where' = ⊎_elim
    (λ (low : a < 544). kept_below m bs (1056 + 48 * t + o) a (omega arith) (omega arith))
    (λ (rest : ((576 ≤ a) × (a < 1056)) ⊎ (2592 ≤ a)). ⊎_elim
    (λ (mid : (576 ≤ a) × (a < 1056)). kept_below m bs (1056 + 48 * t + o) a (omega (arith, mid.1)) (omega arith))
    (λ (high : 2592 ≤ a). kept_above m bs (1056 + 48 * t + o) a (omega arith) (omega arith))
    rest)
    where'

row_others : (m bs : List ℕ) (t o s p : ℕ) → length m ≡ 65536 → t < 32 → o + length bs ≤ 44 → p < 48 → (s ≡ t → p < 44 → ⊥) → get_or (patch m (1056 + 48 * t + o) bs) (1056 + (48 * s + p)) 0 ≡ get_or m (1056 + (48 * s + p)) 0
row_others m bs t o s p e l w lp n = ⊎_elim
    (λ (below : s < t). kept_below m bs (1056 + 48 * t + o) (1056 + (48 * s + p)) (omega arith) (omega arith))
    (λ (on : t ≤ s). kept_above m bs (1056 + 48 * t + o) (1056 + (48 * s + p))
    (⊎_elim
    (λ (same : s ≡ t). let past : 44 ≤ p = ⊎_elim (λ (low : p < 44). absurd (n same low)) (λ (high : 44 ≤ p). high) (cases_lt p 44) in omega arith)
    (λ (other : s ≢ t). omega arith)
    (cases_eq s t))
    (omega arith))
    (cases_lt s t)

pub record Written (m m' bs : List ℕ) (t o : ℕ) : Type 0 where
  pub size : length m' ≡ 65536
  pub elsewhere : (a : ℕ) → Elsewhere a → get_or m' a 0 ≡ get_or m a 0
  pub ends : (i : ℕ) → i < 32 → get_or m' (544 + i) 0 ≡ get_or m (544 + i) 0
  pub rows : (s p : ℕ) → p < 48 → (s ≡ t → p < 44 → ⊥) → get_or m' (1056 + (48 * s + p)) 0 ≡ get_or m (1056 + (48 * s + p)) 0

pub row_written : (m bs : List ℕ) (t o : ℕ) → length m ≡ 65536 → t < 32 → o + length bs ≤ 44 → Written m (patch m (1056 + 48 * t + o) bs) bs t o
row_written m bs t o e l w = record {
  size = length-patch m bs (1056 + 48 * t + o) (omega arith) ∙ e;
  elsewhere = λ a h. row_elsewhere m bs t o a e l w h;
  ends = λ i li. kept_below m bs (1056 + 48 * t + o) (544 + i) (omega arith) (omega arith);
  rows = λ s p lp n. row_others m bs t o s p e l w lp n;
}

-- the ends of a memory that holds
pub ends_kept : (m m' : List ℕ) (k : Kernel) → length m ≡ 65536 → All Small m → length m' ≡ 65536 → QueuesHold m → ((i : ℕ) → i < 32 → get_or m' (544 + i) 0 ≡ get_or m (544 + i) 0)
    → ((q : ℕ) → q < 9 → queue_of k.threads k.ready k.sleepers q ≡ queue_of (kernel_of m).threads (kernel_of m).ready (kernel_of m).sleepers q) → nth (written k) 2 ≡ nth (tables m') 2
ends_kept m m' k e small e' h same queues =
    ends_back m' k e'
    (λ q l. same (2 * q) (omega arith) ∙ (queues_stand m e small h q l).starts ∙ ap (λ xs. first xs) (sym (queues q l)))
    (λ q l. let place : 545 + 2 * q ≡ 544 + (2 * q + 1) = omega arith in
    ap (λ a. get_or m' a 0) place ∙ same (2 * q + 1) (omega arith) ∙ ap (λ a. get_or m a 0) (sym place) ∙ (queues_stand m e small h q l).ends ∙ ap (λ xs. last xs) (sym (queues q l)))
    (λ j l. let place : 562 + j ≡ 544 + (18 + j) = omega arith in
    ap (λ a. get_or m' a 0) place ∙ same (18 + j) (omega arith) ∙ ap (λ a. get_or m a 0) (sym place) ∙ unused_byte m e small h j l)

thread_relaid : (m : List ℕ) (t : ℕ) (row : ThreadRow) → length m ≡ 65536 → All Small m → t < 32 → length row.regs ≡ 16 → QueuesHold m
    → (Contains (kernel_of m).ready t → row.priority ≡ priority_of (kernel_of m) t) → Relaid m (patch m (1056 + 48 * t + 0) (thread_bytes row)) (with_thread (kernel_of m) t row)
unfolding HasQueueBytes
thread_relaid m t row e small l regs h p =
    let k : Kernel = kernel_of m in let k' : Kernel = with_thread k t row in
    let m' : List ℕ = patch m (1056 + 48 * t + 0) (thread_bytes row) in
    let long : length (thread_bytes row) ≡ 44 = length-thread row (record { regs = regs }) in
    let w : Written m m' (thread_bytes row) t 0 = row_written m (thread_bytes row) t 0 e l (omega arith) in
    let count : length k.threads ≡ 32 = thread_count m in
    let fits : Fits k = memory_fits_lem m e small in
    let agree : (x : ℕ) → In x k.ready → priority_in k'.threads x ≡ priority_in k.threads x = λ x i.
    kept_measure (λ r. r.priority) k.threads t row k.ready (omega arith) p x (contains_in k.ready x i) in
    let here : get_or k'.threads t free_thread ≡ row = get_or-set_same k.threads t row free_thread (omega arith) in
    record {
      size = w.size;
      same = w.elsewhere;
      ends = ends_kept m m' k' e small w.size h w.ends (λ q lq. queue_of_same k.threads k'.threads k.ready k.sleepers q agree);
      rows = rows_kept m m' k k' t fits h.bytes.1.1 (record {
        size = w.size;
        fits = row_fits m t row fits regs;
        bytes = λ s o ls lo n. w.rows s o lo n;
        others = λ s ls n. get_or-set_other k.threads t s row free_thread n;
        own = λ o lo.
            let place : 1056 + (48 * t + o) ≡ (1056 + 48 * t + 0) + o = omega arith in
            ap (λ a. get_or m' a 0) place ∙ put_byte m (thread_bytes row) (1056 + 48 * t + 0) o (omega arith) (omega arith) ∙ ap (λ r. get_or (thread_bytes r) o 0) (sym here);
        links = λ s ls. links_same k.threads k'.threads k.ready k.sleepers s agree;
      });
    }

pub leaves_thread : (m m' : List ℕ) (t : ℕ) (row : ThreadRow) → length m ≡ 65536 → All Small m → t < 32 → length row.regs ≡ 16 → QueuesHold m
    → (Contains (kernel_of m).ready t → row.priority ≡ priority_of (kernel_of m) t) → (Contains (kernel_of m).sleepers t → wake_time_of row ≡ wake_time (kernel_of m) t)
    → m' ≡ patch m (1056 + 48 * t) (thread_bytes row) → Leaves m m' (with_thread (kernel_of m) t row)
leaves_thread m m' t row e small l regs h p w is =
    let k : Kernel = kernel_of m in
    let count : length k.threads ≡ 32 = thread_count m in
    let place : 1056 + 48 * t ≡ 1056 + 48 * t + 0 = omega arith in
    let is' : m' ≡ patch m (1056 + 48 * t + 0) (thread_bytes row) = is ∙ ap (λ a. patch m a (thread_bytes row)) place in
    let relaid : Relaid m m' (with_thread k t row) = subst (λ (n : List ℕ). Relaid m n (with_thread k t row)) (sym is') (thread_relaid m t row e small l regs h p) in
    leaves_relaid m m' (set k.threads t row) k.ready k.sleepers e (row_fits m t row (memory_fits_lem m e small) regs)
    (queues_of_row k.threads k.ready k.sleepers t row (omega arith) p w h.lists) relaid
