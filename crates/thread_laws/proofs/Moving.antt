-- A kernel that is orderly but for one thread, which is on the move: it stands in no list, whatever its row says.
use Rattle.std.proofs.Common.{◌≡◌, ◌≢◌, ◌⊎◌, ℕ, ◌<◌, ◌≤◌, refl, ap, sym, ◌∙◌, subst, ⊎_elim, All, AllPairs, Contains}
use Rattle.std.proofs.lemmas.Bool.{cases_eq}
use Rattle.kernel_model.specs.Kernel.{Kernel, word_of, thread_at, app_at, module_at, mutex_at, function_at}
use Rattle.kernel_model.specs.Words.{none, live, free, on_condition, running, running_module, app_of, tick_number, priority_of, wake_time, limit_of, top_of}
use Rattle.kernel_model.specs.Orderly.{Spot, spot_of, listed, IsPlaced, IsThreadRow, IsLiveThread, IsMutex, IsOnCondition, HasShape, IsOrderly}
use Rattle.kernel_model.specs.Orderly.Spot.{Nowhere}
use Rattle.kernel_model.specs.declared.rows.SysWord.TheVariants.{CurLim, CurTop}

-- each thread but t is listed where it stands, and t is listed nowhere
pub record IsPlacedBut (k : Kernel) (t : ℕ) : Type 0 where
  pub there : (u : ℕ) → u < 32 → u ≢ t → spot_of k u ≢ Nowhere → Contains (listed k (spot_of k u)) u
  pub nowhere_else : (s : Spot) (u : ℕ) → Contains (listed k s) u → (u < 32) × (spot_of k u ≡ s)
  pub unlisted : (s : Spot) → Contains (listed k s) t → ⊥
  pub once : (s : Spot) → AllPairs (λ x y. x ≢ y) (listed k s)

-- all that holds of an orderly kernel but where its threads stand
pub record HasOrder (k : Kernel) : Type 0 where
  pub shape : HasShape k
  pub limit : word_of k CurLim ≡ limit_of k
  pub top : word_of k CurTop ≡ top_of k
  pub rows : (t : ℕ) → t < 32 → IsThreadRow (thread_at k t)
  pub threads : (t : ℕ) → t < 32 → (thread_at k t).state ≢ free → IsLiveThread (app_at k (app_of t)) t
  pub caller : running_module k ≢ none → ((running_module k < 4) × (running k ≢ none))
  pub callee : running_module k ≢ none → (module_at k (running_module k)).state ≡ live
  pub mutexes : (a i : ℕ) → a < 8 → i < 4 → IsMutex k.threads a (mutex_at k a i)
  pub conditions : (t : ℕ) → t < 32 → (thread_at k t).state ≡ on_condition → IsOnCondition k.mutexes t (thread_at k t)
  pub by_priority : AllPairs (λ x y. priority_of k y ≤ priority_of k x) k.ready
  pub by_wake_time : AllPairs (λ x y. wake_time k x ≤ wake_time k y) k.sleepers
  pub later : All (λ t. tick_number k < wake_time k t) k.sleepers
  pub functions : (f : ℕ) → f < 64 → (function_at k f).module ≢ none → (module_at k (function_at k f).module).state ≢ free

pub record IsOrderlyBut (k : Kernel) (t : ℕ) : Type 0 where
  pub order : HasOrder k
  pub placed : IsPlacedBut k t

pub order_of : (k : Kernel) → IsOrderly k → HasOrder k
order_of k h = record {
  shape = h.shape;
  limit = h.limit;
  top = h.top;
  rows = h.rows;
  threads = h.threads;
  caller = h.caller;
  callee = h.callee;
  mutexes = h.mutexes;
  conditions = h.conditions;
  by_priority = h.by_priority;
  by_wake_time = h.by_wake_time;
  later = h.later;
  functions = h.functions;
}

pub orderly_from : (k : Kernel) → HasOrder k → IsPlaced k → IsOrderly k
orderly_from k h p = record {
  shape = h.shape;
  limit = h.limit;
  top = h.top;
  rows = h.rows;
  threads = h.threads;
  placed = p;
  caller = h.caller;
  callee = h.callee;
  mutexes = h.mutexes;
  conditions = h.conditions;
  by_priority = h.by_priority;
  by_wake_time = h.by_wake_time;
  later = h.later;
  functions = h.functions;
}

-- ---- a thread leaves a spot, or comes to one

-- the two kernels list the same threads at each spot but one
abbrev pub SameBut : (k k' : Kernel) (at : Spot) → Type 0
SameBut k k' at = (s : Spot) → (s ≡ at) ⊎ (listed k' s ≡ listed k s)

-- after thread t left the list at a spot
pub left_spot : (k k' : Kernel) (at : Spot) (t : ℕ) → IsPlaced k → Contains (listed k at) t → ((u : ℕ) → spot_of k' u ≡ spot_of k u) → SameBut k k' at
    → ((u : ℕ) → u ≢ t → Contains (listed k at) u → Contains (listed k' at) u)
    → ((u : ℕ) → Contains (listed k' at) u → Contains (listed k at) u × (u ≢ t))
    → AllPairs (λ x y. x ≢ y) (listed k' at) → IsPlacedBut k' t
left_spot k k' at t p c stands same stay from once =
    let was : (s : Spot) (u : ℕ) → Contains (listed k' s) u → Contains (listed k s) u =
    λ s u d. ⊎_elim
    (λ (e : s ≡ at). subst (λ (r : Spot). Contains (listed k r) u) (sym e) (from u (subst (λ (r : Spot). Contains (listed k' r) u) e d)).0)
    (λ (e : listed k' s ≡ listed k s). subst (λ xs. Contains xs u) e d)
    (same s) in
    let keeps : (s : Spot) (u : ℕ) → u ≢ t → Contains (listed k s) u → Contains (listed k' s) u =
    λ s u ne d. ⊎_elim
    (λ (e : s ≡ at). subst (λ (r : Spot). Contains (listed k' r) u) (sym e) (stay u ne (subst (λ (r : Spot). Contains (listed k r) u) e d)))
    (λ (e : listed k' s ≡ listed k s). subst (λ xs. Contains xs u) (sym e) d)
    (same s) in
    record {
      there = λ u l ne n. subst (λ (s : Spot). Contains (listed k' s) u) (sym (stands u)) (keeps (spot_of k u) u ne (p.there u l (λ e. n (stands u ∙ e))));
      nowhere_else = λ s u d. let old = p.nowhere_else s u (was s u d) in (old.0, stands u ∙ old.1);
      unlisted = λ s d.
          let here : s ≡ at = sym (p.nowhere_else s t (was s t d)).1 ∙ (p.nowhere_else at t c).1 in
          (from t (subst (λ (r : Spot). Contains (listed k' r) t) here d)).1 refl;
      once = λ s. ⊎_elim
          (λ (e : s ≡ at). subst (λ (r : Spot). AllPairs (λ x y. x ≢ y) (listed k' r)) (sym e) once)
          (λ (e : listed k' s ≡ listed k s). subst (λ xs. AllPairs (λ x y. x ≢ y) xs) (sym e) (p.once s))
          (same s);
    }

-- after thread t came to the list at the spot where its row says that it stands
pub came_to_spot : (k k' : Kernel) (at : Spot) (t : ℕ) → IsPlacedBut k t → t < 32 → spot_of k t ≡ at → ((u : ℕ) → spot_of k' u ≡ spot_of k u) → SameBut k k' at
    → Contains (listed k' at) t
    → ((u : ℕ) → Contains (listed k at) u → Contains (listed k' at) u)
    → ((u : ℕ) → Contains (listed k' at) u → (u ≡ t) ⊎ Contains (listed k at) u)
    → AllPairs (λ x y. x ≢ y) (listed k' at) → IsPlaced k'
came_to_spot k k' at t p l is stands same c stay from once =
    let keeps : (s : Spot) (u : ℕ) → Contains (listed k s) u → Contains (listed k' s) u =
    λ s u d. ⊎_elim
    (λ (e : s ≡ at). subst (λ (r : Spot). Contains (listed k' r) u) (sym e) (stay u (subst (λ (r : Spot). Contains (listed k r) u) e d)))
    (λ (e : listed k' s ≡ listed k s). subst (λ xs. Contains xs u) (sym e) d)
    (same s) in
    record {
      there = λ u l' n. subst (λ (s : Spot). Contains (listed k' s) u) (sym (stands u)) (⊎_elim
          (λ (e : u ≡ t). subst (λ (s : Spot). Contains (listed k' s) u) (sym is ∙ ap (λ v. spot_of k v) (sym e)) (subst (λ v. Contains (listed k' at) v) (sym e) c))
          (λ (ne : u ≢ t). keeps (spot_of k u) u (p.there u l' ne (λ e. n (stands u ∙ e))))
          (cases_eq u t));
      nowhere_else = λ s u d. ⊎_elim
          (λ (e : s ≡ at). ⊎_elim
          (λ (e' : u ≡ t). (subst (λ v. v < 32) (sym e') l, stands u ∙ ap (λ v. spot_of k v) e' ∙ is ∙ sym e))
          (λ (d' : Contains (listed k at) u). let old = p.nowhere_else at u d' in (old.0, stands u ∙ old.1 ∙ sym e))
          (from u (subst (λ (r : Spot). Contains (listed k' r) u) e d)))
          (λ (e : listed k' s ≡ listed k s). let old = p.nowhere_else s u (subst (λ xs. Contains xs u) e d) in (old.0, stands u ∙ old.1))
          (same s);
      once = λ s. ⊎_elim
          (λ (e : s ≡ at). subst (λ (r : Spot). AllPairs (λ x y. x ≢ y) (listed k' r)) (sym e) once)
          (λ (e : listed k' s ≡ listed k s). subst (λ xs. AllPairs (λ x y. x ≢ y) xs) (sym e) (p.once s))
          (same s);
    }
