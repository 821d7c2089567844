-- A moving thread's row replaced.
use Rattle.std.proofs.Common.{◌≡◌, ◌≢◌, ℕ, ◌<◌, ◌+◌, ◌*◌, List, length, get_or, ap, sym, ◌∙◌, subst, ⊎_elim, arith, length-set, Contains}
use Rattle.std.proofs.lemmas.Bool.{cases_eq}
use Rattle.std.proofs.lemmas.List.{get_or-set_same, get_or-set_other}
use Rattle.std.proofs.lemmas.List.Elements.{Contains-get_or}
use Rattle.kernel_model.specs.Kernel.{Kernel, thread_at, with_thread, app_at, free_thread}
use Rattle.kernel_model.specs.Words.{free, on_condition, app_of}
use Rattle.kernel_model.specs.Orderly.{Spot, spot, spot_of, listed, IsThreadRow, IsLiveThread, IsOnCondition}
use Rattle.kernel_model.specs.Orderly.Spot.{Ready, Asleep}
use Rattle.kernel_model.specs.declared.rows.AppRow.{AppRow}
use Rattle.kernel_model.specs.declared.rows.MutexRow.{MutexRow}
use Rattle.kernel_model.specs.declared.rows.ThreadRow.{ThreadRow}
use Rattle.thread_laws.proofs.Moving.{IsPlacedBut, HasOrder, IsOrderlyBut}

-- a row that a thread of an application may have after another: a live thread stays one
pub record IsRowAfter (app : AppRow) (mutexes : List MutexRow) (t : ℕ) (old row : ThreadRow) : Type 0 where
  pub fields : IsThreadRow row
  pub live : row.state ≢ free → IsLiveThread app t
  pub stays : old.state ≢ free → row.state ≢ free
  pub waits : row.state ≡ on_condition → IsOnCondition mutexes t row

-- a row that thread t of a kernel may have next
abbrev pub MayHave : Kernel → (t : ℕ) → ThreadRow → Type 0
MayHave k t row = IsRowAfter (app_at k (app_of t)) k.mutexes t (thread_at k t) row

-- what holds of the new row and of each other thread's holds of each
pub each_row : (P : ℕ → ThreadRow → Type 0) (k : Kernel) (t : ℕ) (row : ThreadRow) → t < length k.threads → P t row
    → ((u : ℕ) → u ≢ t → P u (thread_at k u)) → (u : ℕ) → P u (thread_at (with_thread k t row) u)
each_row P k t row l p f u =
    ⊎_elim
    (λ (e : u ≡ t). subst (λ (v : ℕ). P v (thread_at (with_thread k t row) v)) (sym e) (subst (λ (r : ThreadRow). P t r) (sym (get_or-set_same k.threads t row free_thread l)) p))
    (λ (ne : u ≢ t). subst (λ (r : ThreadRow). P u r) (sym (get_or-set_other k.threads t u row free_thread ne)) (f u ne))
    (cases_eq u t)

-- the row of a member of a list without the thread
pub member_row : (k : Kernel) (t : ℕ) (row : ThreadRow) (xs : List ℕ) → (Contains xs t → ⊥) → (i d : ℕ) → i < length xs → thread_at (with_thread k t row) (get_or xs i d) ≡ thread_at k (get_or xs i d)
member_row k t row xs out i d l =
    get_or-set_other k.threads t (get_or xs i d) row free_thread (λ e. out (subst (λ (x : ℕ). Contains xs x) e (Contains-get_or xs i d l)))

order_with_row : (k : Kernel) (t : ℕ) (row : ThreadRow) → t < 32 → IsOrderlyBut k t → MayHave k t row → HasOrder (with_thread k t row)
order_with_row k t row l but is =
    let h : HasOrder k = but.order in
    let in' : t < length k.threads = (let size : length k.threads ≡ 32 = h.shape.thread_rows in omega arith) in
    let k' : Kernel = with_thread k t row in
    record {
      shape = record {
        app_rows = h.shape.app_rows;
        module_rows = h.shape.module_rows;
        function_rows = h.shape.function_rows;
        thread_rows = length-set k.threads t row ∙ h.shape.thread_rows;
        mutex_rows = h.shape.mutex_rows;
        condition_lists = h.shape.condition_lists;
        line_lists = h.shape.line_lists;
      };
      limit = h.limit;
      top = h.top;
      rows = each_row (λ u r. u < 32 → IsThreadRow r) k t row in' (λ _. is.fields) (λ u ne. h.rows u);
      threads = each_row (λ u r. u < 32 → r.state ≢ free → IsLiveThread (app_at k (app_of u)) u) k t row in' (λ _. is.live) (λ u ne. h.threads u);
      caller = h.caller;
      callee = h.callee;
      mutexes = λ a i la li.
          let old = h.mutexes a i la li in
          record {
            owned = λ n. let o = old.owned n in (o.0, each_row (λ u r. (thread_at k u).state ≢ free → r.state ≢ free) k t row in' is.stays (λ u ne f. f) _ o.1);
            not_waiting = old.not_waiting;
            unwanted = old.unwanted;
          };
      conditions = each_row (λ u r. u < 32 → r.state ≡ on_condition → IsOnCondition k.mutexes u r) k t row in' (λ _. is.waits) (λ u ne. h.conditions u);
      by_priority = λ i j d lt lj.
          let first = ap (λ (r : ThreadRow). r.priority) (member_row k t row k.ready (but.placed.unlisted Ready) i d (omega arith)) in
          let second = ap (λ (r : ThreadRow). r.priority) (member_row k t row k.ready (but.placed.unlisted Ready) j d lj) in
          let old = h.by_priority i j d lt lj in
          omega arith;
      by_wake_time = λ i j d lt lj.
          let first = ap (λ (r : ThreadRow). r.wake_low + 65536 * r.wake_high) (member_row k t row k.sleepers (but.placed.unlisted Asleep) i d (omega arith)) in
          let second = ap (λ (r : ThreadRow). r.wake_low + 65536 * r.wake_high) (member_row k t row k.sleepers (but.placed.unlisted Asleep) j d lj) in
          let old = h.by_wake_time i j d lt lj in
          omega arith;
      later = λ i d li.
          let here = ap (λ (r : ThreadRow). r.wake_low + 65536 * r.wake_high) (member_row k t row k.sleepers (but.placed.unlisted Asleep) i d li) in
          let old = h.later i d li in
          omega arith;
      functions = h.functions;
    }

placed_with_row : (k : Kernel) (t : ℕ) (row : ThreadRow) → IsPlacedBut k t → IsPlacedBut (with_thread k t row) t
placed_with_row k t row p =
    let stands : (u : ℕ) → u ≢ t → spot_of (with_thread k t row) u ≡ spot_of k u =
    λ u ne. ap (λ (r : ThreadRow). spot (app_of u) r.state r.object) (get_or-set_other k.threads t u row free_thread ne) in
    record {
      there = λ u l ne n. subst (λ (s : Spot). Contains (listed k s) u) (sym (stands u ne)) (p.there u l ne (λ e. n (stands u ne ∙ e)));
      nowhere_else = λ s u c.
          let old = p.nowhere_else s u c in
          (old.0, stands u (λ e. p.unlisted s (subst (λ (v : ℕ). Contains (listed k s) v) e c)) ∙ old.1);
      unlisted = p.unlisted;
      once = p.once;
    }

pub moving_with_row : (k : Kernel) (t : ℕ) (row : ThreadRow) → t < 32 → IsOrderlyBut k t → MayHave k t row → IsOrderlyBut (with_thread k t row) t
moving_with_row k t row l but is = record { order = order_with_row k t row l but is; placed = placed_with_row k t row but.placed }
