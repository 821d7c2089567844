-- The first thread that waits for a line leaves its list, or a thread comes to the end of it.
use Rattle.std.proofs.Common.{◌≡◌, ◌≢◌, ℕ, ◌<◌, inl, inr, List, [], ◌∷◌, ◌++◌, length, get_or, refl, ap, sym, ◌∙◌, subst, ⊎_elim, arith, length-set, AllPairs, Contains}
use Rattle.std.proofs.lemmas.Bool.{cases_eq}
use Rattle.std.proofs.lemmas.List.{get_or-set_same, get_or-set_other}
use Rattle.std.proofs.lemmas.List.Elements.{Contains-push, Contains-append_left, Contains-push_cases}
use Rattle.std.proofs.lemmas.List.Quantifiers.{all_pairs_remove, all_pairs_push}
use Rattle.kernel_model.specs.Kernel.{Kernel, thread_at, line_at, with_line}
use Rattle.kernel_model.specs.Words.{on_line}
use Rattle.kernel_model.specs.Orderly.{spot, listed, IsOrderly}
use Rattle.kernel_model.specs.Orderly.Spot.{Nowhere, Ready, Runs, Asleep, OnMutex, OnCondition, OnLine, Calls}
use Rattle.thread_laws.proofs.ListEdits.{remove_keeps, remove_from, not_member}
use Rattle.thread_laws.proofs.Moving.{HasOrder, IsOrderlyBut, SameBut, order_of, orderly_from, left_spot, came_to_spot}

spot_on_line : (a s o n : ℕ) → s ≡ on_line → o ≡ n → spot a s o ≡ OnLine n
spot_on_line a s o n e f = ap (λ x. spot a x o) e ∙ ap (λ x. OnLine x) f

abbrev with_lines : Kernel → List (List ℕ) → Kernel
with_lines k ls = record k { lines = ls }

-- the lists of the other lines are the same
abbrev SameLines : (n : ℕ) (before after : List (List ℕ)) → Type 0
SameLines n before after = (m : ℕ) → m ≢ n → get_or after m [] ≡ get_or before m []

same_but_line : (k : Kernel) (n : ℕ) (ls : List (List ℕ)) → SameLines n k.lines ls → SameBut k (with_lines k ls) (OnLine n)
same_but_line k n ls same Nowhere = inr refl
same_but_line k n ls same Ready = inr refl
same_but_line k n ls same Runs = inr refl
same_but_line k n ls same Asleep = inr refl
same_but_line k n ls same (OnMutex a i) = inr refl
same_but_line k n ls same (OnCondition a c) = inr refl
same_but_line k n ls same (OnLine m) = ⊎_elim (λ (e : m ≡ n). inl (ap (λ x. OnLine x) e)) (λ (ne : m ≢ n). inr (same m ne)) (cases_eq m n)
same_but_line k n ls same Calls = inr refl

order_with_lines : (k : Kernel) (ls : List (List ℕ)) → length ls ≡ 14 → HasOrder k → HasOrder (with_lines k ls)
order_with_lines k ls size h = record {
  shape = record {
    app_rows = h.shape.app_rows;
    module_rows = h.shape.module_rows;
    function_rows = h.shape.function_rows;
    thread_rows = h.shape.thread_rows;
    mutex_rows = h.shape.mutex_rows;
    condition_lists = h.shape.condition_lists;
    line_lists = size;
  };
  limit = h.limit;
  top = h.top;
  rows = h.rows;
  threads = h.threads;
  caller = h.caller;
  callee = h.callee;
  mutexes = h.mutexes;
  conditions = h.conditions;
  by_priority = h.by_priority;
  by_wake_time = h.by_wake_time;
  later = h.later;
  functions = h.functions;
}

-- the first of a line's list leaves
pub first_waiter_leaves : (k : Kernel) (n t : ℕ) (xs : List ℕ) → n < 14 → IsOrderly (with_line k n (t ∷ xs)) → IsOrderlyBut (with_line k n xs) t
first_waiter_leaves k n t xs l h =
    let from : Kernel = with_line k n (t ∷ xs) in
    let to : Kernel = with_line k n xs in
    let size : length k.lines ≡ 14 = sym (length-set k.lines n (t ∷ xs)) ∙ h.shape.line_lists in
    let before : listed from (OnLine n) ≡ t ∷ xs = get_or-set_same k.lines n (t ∷ xs) [] (omega arith) in
    let after : listed to (OnLine n) ≡ xs = get_or-set_same k.lines n xs [] (omega arith) in
    let once : AllPairs (λ x y. x ≢ y) (t ∷ xs) = subst (λ (ys : List ℕ). AllPairs (λ x y. x ≢ y) ys) before (h.placed.once (OnLine n)) in
    let others : SameLines n from.lines to.lines = λ m ne. get_or-set_other k.lines n m xs [] ne ∙ sym (get_or-set_other k.lines n m (t ∷ xs) [] ne) in
    record {
      order = order_with_lines from to.lines (length-set k.lines n xs ∙ size) (order_of from h);
      placed = left_spot from to (OnLine n) t h.placed (subst (λ (ys : List ℕ). Contains ys t) (sym before) (0, omega arith, refl)) (λ u. refl)
          (same_but_line from n to.lines others)
          (λ u ne c. subst (λ (ys : List ℕ). Contains ys u) (sym after) (remove_keeps (t ∷ xs) 0 u (omega arith) ne (subst (λ (ys : List ℕ). Contains ys u) before c)))
          (λ u c.
          let r : Contains (t ∷ xs) u × (u ≢ t) = remove_from (t ∷ xs) 0 u (omega arith) once (subst (λ (ys : List ℕ). Contains ys u) after c) in
          (subst (λ (ys : List ℕ). Contains ys u) (sym before) r.0, r.1))
          (subst (λ (ys : List ℕ). AllPairs (λ x y. x ≢ y) ys) (sym after) (all_pairs_remove (λ x y. x ≢ y) (t ∷ xs) 0 (omega arith) once));
    }

-- a thread comes to the end of a line's list
pub comes_to_line : (k : Kernel) (t n : ℕ) → IsOrderlyBut k t → t < 32 → n < 14 → (thread_at k t).state ≡ on_line → (thread_at k t).object ≡ n
    → IsOrderly (with_line k n (line_at k n ++ t ∷ []))
comes_to_line k t n but l ln e f =
    let xs : List ℕ = line_at k n in
    let to : Kernel = with_line k n (xs ++ t ∷ []) in
    let size : length k.lines ≡ 14 = but.order.shape.line_lists in
    let after : listed to (OnLine n) ≡ xs ++ t ∷ [] = get_or-set_same k.lines n (xs ++ t ∷ []) [] (omega arith) in
    let others : SameLines n k.lines to.lines = λ m ne. get_or-set_other k.lines n m (xs ++ t ∷ []) [] ne in
    orderly_from to (order_with_lines k to.lines (length-set k.lines n (xs ++ t ∷ []) ∙ size) but.order)
    (came_to_spot k to (OnLine n) t but.placed l (spot_on_line _ _ _ n e f) (λ u. refl) (same_but_line k n to.lines others)
    (subst (λ (ys : List ℕ). Contains ys t) (sym after) (Contains-push xs t))
    (λ u c. subst (λ (ys : List ℕ). Contains ys u) (sym after) (Contains-append_left xs (t ∷ []) u c))
    (λ u c. ⊎_elim
    (λ (d : Contains xs u). inr d)
    (λ (q : t ≡ u). inl (sym q))
    (Contains-push_cases xs t u (subst (λ (ys : List ℕ). Contains ys u) after c)))
    (subst (λ (ys : List ℕ). AllPairs (λ x y. x ≢ y) ys) (sym after)
    (all_pairs_push (λ x y. x ≢ y) xs t (but.placed.once (OnLine n)) (λ i d h. not_member xs t (but.placed.unlisted (OnLine n)) i d h))))
