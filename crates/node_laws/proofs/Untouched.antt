-- A kernel in which what isn't the step's own is as before, and what a dispatch from it leaves.
use Rattle.std.proofs.Common.{◌≡◌, ◌≢◌, ℕ, zero, suc, ◌<◌, Bool, true, false, not, eqb, cond, List, [], ◌∷◌, length, get_or, insert, remove, refl, sym, ap, ◌∙◌, subst, inl, inr, arith, Option, Contains}
use Rattle.std.proofs.lemmas.Bool.{eqb-false, cond-true, cond-false, cases_eq, ne_eqb, eq-eqb}
use Rattle.std.proofs.lemmas.List.{get_or-set_same, get_or-set_other}
use Rattle.std.proofs.lemmas.List.Elements.{Contains-get_or}
use Rattle.kernel_model.specs.Kernel.{Kernel, thread_at, with_thread, with_ready, app_at, module_at, mutex_at, condition_at, line_at, free_thread}
use Rattle.kernel_model.specs.Words.{running_state, tick_number, omit}
use Rattle.kernel_model.specs.declared.rows.ThreadRow.{ThreadRow}
use Rattle.kernel_model.specs.Running.{idle_context}
use Rattle.kernel_model.specs.Dispatching.{chosen_place, chosen_thread, nothing_ready, dispatched, dispatched_context}
use Rattle.thread_laws.specs.Facts.{IsReady}
use Rattle.thread_laws.proofs.Spots.{ready_is}
use Rattle.thread_laws.proofs.ListEdits.{remove_from}
use Rattle.thread_laws.proofs.Filtered.{filter_whole, filter_had}
use Rattle.kernel_model.specs.Orderly.{IsOrderly}
use Rattle.kernel_model.specs.Orderly.Spot.{Ready}
use Rattle.node_model.specs.Steps.{pending}
use Rattle.node_model.specs.Kept.{Own, KernelKept, IsDispatched, without_own, ReadyKept}
use Rattle.node_laws.proofs.Resting.{begun, chosen-within}

pub record IsUntouched (own : Own) (before after : Kernel) : Type 0 where
  pub rows : (b : ℕ) → b < 8 → own.apps b ≡ false → app_at after b ≡ app_at before b
  pub threads : (t : ℕ) → t < 32 → own.threads t ≡ false → thread_at after t ≡ thread_at before t
  pub mutexes : (b i : ℕ) → b < 8 → i < 4 → own.apps b ≡ false → mutex_at after b i ≡ mutex_at before b i
  pub conditions : (b i : ℕ) → b < 8 → i < 4 → own.apps b ≡ false → condition_at after b i ≡ condition_at before b i
  pub ready : without_own own.threads after.ready ≡ without_own own.threads before.ready
  pub sleepers : without_own own.threads after.sleepers ≡ without_own own.threads before.sleepers
  pub lines : (n : ℕ) → n < 14 → without_own own.threads (line_at after n) ≡ without_own own.threads (line_at before n)
  pub functions : after.functions ≡ before.functions
  pub modules : (i : ℕ) → i < 4 → own.modules i ≡ false → module_at after i ≡ module_at before i
  pub ticks : tick_number after ≡ tick_number before
  pub lines_pending : pending after ≡ pending before

-- other words of who runs
pub untouched-words : (own : Own) (k : Kernel) (limit top thread callee count : ℕ)
    → IsUntouched own k (record k { cur_lim = limit; cur_top = top; running = thread; module_now = callee; budget = count })
untouched-words own k limit top thread callee count = record {
  rows = λ b l e. refl;
  threads = λ t l e. refl;
  mutexes = λ b i l m e. refl;
  conditions = λ b i l m e. refl;
  ready = refl;
  sleepers = refl;
  lines = λ n l. refl;
  functions = refl;
  modules = λ i l e. refl;
  ticks = refl;
  lines_pending = refl;
}

pub untouched-all : (own : Own) (k : Kernel) → IsUntouched own k k
untouched-all own k = untouched-words own k k.cur_lim k.cur_top k.running k.module_now k.budget

pub untouched-twice : (own : Own) (k j i : Kernel) → IsUntouched own k j → IsUntouched own j i → IsUntouched own k i
untouched-twice own k j i a b = record {
  rows = λ n l e. b.rows n l e ∙ a.rows n l e;
  threads = λ t l e. b.threads t l e ∙ a.threads t l e;
  mutexes = λ n m l u e. b.mutexes n m l u e ∙ a.mutexes n m l u e;
  conditions = λ n m l u e. b.conditions n m l u e ∙ a.conditions n m l u e;
  ready = b.ready ∙ a.ready;
  sleepers = b.sleepers ∙ a.sleepers;
  lines = λ n l. b.lines n l ∙ a.lines n l;
  functions = b.functions ∙ a.functions;
  modules = λ n l e. b.modules n l e ∙ a.modules n l e;
  ticks = b.ticks ∙ a.ticks;
  lines_pending = b.lines_pending ∙ a.lines_pending;
}

-- ---- an own thread's row, and its place in the ready list

ne-own : (own : ℕ → Bool) (t u : ℕ) → own t ≡ true → own u ≡ false → u ≢ t
ne-own own t u a b e = absurd (cc (ap own e))

pub untouched-row : (own : Own) (k : Kernel) (t : ℕ) (row : ThreadRow) → own.threads t ≡ true
    → IsUntouched own k (with_thread k t row)
untouched-row own k t row e = record {
  rows = λ b l f. refl;
  threads = λ u l f. get_or-set_other k.threads t u row free_thread (ne-own own.threads t u e f);
  mutexes = λ b i l m f. refl;
  conditions = λ b i l m f. refl;
  ready = refl;
  sleepers = refl;
  lines = λ n l. refl;
  functions = refl;
  modules = λ i l f. refl;
  ticks = refl;
  lines_pending = refl;
}

-- a member that is left out may be put anywhere
pub without-insert : (own : ℕ → Bool) (xs : List ℕ) (i t : ℕ) → own t ≡ true → without_own own (insert xs i t) ≡ without_own own xs
without-insert own xs zero t e = cond-false (not (own t)) _ _ (ap not e)
without-insert own [] (suc i) t e = cond-false (not (own t)) (t ∷ []) [] (ap not e)
without-insert own (x ∷ xs) (suc i) t e = ap (λ (ys : List ℕ). cond (not (own x)) (x ∷ ys) ys) (without-insert own xs i t e)

pub untouched-ready : (own : Own) (k : Kernel) (i t : ℕ) → own.threads t ≡ true
    → IsUntouched own k (with_ready k (insert k.ready i t))
untouched-ready own k i t e = record {
  rows = λ b l f. refl;
  threads = λ u l f. refl;
  mutexes = λ b i l m f. refl;
  conditions = λ b i l m f. refl;
  ready = without-insert own.threads k.ready i t e;
  sleepers = refl;
  lines = λ n l. refl;
  functions = refl;
  modules = λ i l f. refl;
  ticks = refl;
  lines_pending = refl;
}

-- ---- a member is removed

without-remove : (own : ℕ → Bool) (xs : List ℕ) (i : ℕ) → i < length xs → own (get_or xs i 0) ≡ true
    → without_own own (remove xs i) ≡ without_own own xs
without-remove own [] i l e = absurd (omega arith)
without-remove own (x ∷ xs) zero l e = sym (cond-false (not (own x)) _ _ (ap not e))
without-remove own (x ∷ xs) (suc i) l e =
    ap (λ (ys : List ℕ). cond (not (own x)) (x ∷ ys) ys) (without-remove own xs i (omega arith) e)

omit-none : (own : ℕ → Bool) (xs : List ℕ) (t : ℕ) → ((u : ℕ) → Contains xs u → u ≢ t)
    → omit t (without_own own xs) ≡ without_own own xs
omit-none own xs t h = filter_whole (λ x. not (eqb x t)) (without_own own xs)
    (λ u c. ap not (ne_eqb u t (h u (filter_had (λ x. not (own x)) xs u c).0)))

omit-step : (own : ℕ → Bool) (x t : ℕ) (ys xs : List ℕ) → x ≢ t → (b : Bool) → own x ≡ b
    → without_own own ys ≡ omit t (without_own own xs)
    → cond (not (own x)) (x ∷ without_own own ys) (without_own own ys) ≡ omit t
    (cond (not (own x)) (x ∷ without_own own xs) (without_own own xs))
omit-step own x t ys xs n true f there = cond-false (not (own x)) _ _ (ap not f) ∙ there
    ∙ sym (ap (omit t) (cond-false (not (own x)) (x ∷ without_own own xs) (without_own own xs) (ap not f)))
omit-step own x t ys xs n false f there =
    cond-true (not (own x)) _ _ (ap not f)
    ∙ ap (λ (zs : List ℕ). x ∷ zs) there
    ∙ sym (ap (omit t) (cond-true (not (own x)) (x ∷ without_own own xs) (without_own own xs) (ap not f))
    ∙ cond-true (not (eqb x t)) _ _ (ap not (ne_eqb x t n)))

omit-remove : (own : ℕ → Bool) (xs : List ℕ) (i : ℕ) → i < length xs → own (get_or xs i 0) ≡ false
    → ((u : ℕ) → Contains (remove xs i) u → u ≢ get_or xs i 0)
    → without_own own (remove xs i) ≡ omit (get_or xs i 0) (without_own own xs)
omit-remove own [] i l e h = absurd (omega arith)
omit-remove own (x ∷ xs) zero l e h =
    sym (ap (omit x) (cond-true (not (own x)) (x ∷ without_own own xs) (without_own own xs) (ap not e))
    ∙ cond-false (not (eqb x x)) _ _ (ap not (eq-eqb x x refl))
    ∙ omit-none own xs x h)
omit-remove own (x ∷ xs) (suc i) l e h =
    omit-step own x (get_or xs i 0) (remove xs i) xs (h x (0, omega arith, refl)) (own x) refl
    (omit-remove own xs i (omega arith) e (λ u c. h u (suc c.0, omega (arith, c.1), c.2)))

-- ---- a dispatch

-- without a dispatch
pub kept-straight : (own : Own) (k j : Kernel) (c : List ℕ) → IsUntouched own k j → KernelKept own k j c
kept-straight own k j c h = record {
  rows = h.rows;
  threads = λ t l f. inl (h.threads t l f);
  mutexes = h.mutexes;
  conditions = h.conditions;
  ready = inl h.ready;
  sleepers = h.sleepers;
  lines = h.lines;
  functions = h.functions;
  modules = h.modules;
  ticks = h.ticks;
  lines_pending = h.lines_pending;
}

by-ready : (own : Own) (k j : Kernel) (pick : Option ℕ) → IsUntouched own k j → IsOrderly j → (b : Bool) → nothing_ready j ≡ b
    → KernelKept own k (cond b j (begun j pick)) (cond b idle_context (thread_at j (chosen_thread j pick)).regs)
by-ready own k j pick h o true e = kept-straight own k j idle_context h
by-ready own k j pick h o false e = record {
  rows = h.rows;
  threads = λ u l f. elim (cases_eq u t) [
    | inl s ↦ inr (subst (λ (v : ℕ). IsDispatched k next c v) (sym s) (chosen (subst (λ (v : ℕ). own.threads v ≡ false) s f)))
    | inr n ↦ inl (get_or-set_other j.threads t u row free_thread n ∙ h.threads u l f)
  ];
  mutexes = h.mutexes;
  conditions = h.conditions;
  ready = by-own (own.threads t) refl;
  sleepers = h.sleepers;
  lines = h.lines;
  functions = h.functions;
  modules = h.modules;
  ticks = h.ticks;
  lines_pending = h.lines_pending;
}
  where
    i : ℕ
    i = chosen_place pick j.ready

    t : ℕ
    t = chosen_thread j pick

    next : Kernel
    next = begun j pick

    c : List ℕ
    c = (thread_at j t).regs

    row : ThreadRow
    row = record (thread_at j t) { state = running_state }

    within : i < length j.ready
    within = chosen-within pick j.ready (eqb-false (length j.ready) 0 e)

    is : IsReady j t
    is = ready_is j o t (Contains-get_or j.ready i 0 within)

    chosen : own.threads t ≡ false → IsDispatched k next c t
    chosen f =
        let same : thread_at j t ≡ thread_at k t = h.threads t is.number f in
        record {
          was_ready = ap (λ (r : ThreadRow). r.state) (sym same) ∙ is.state;
          runs = refl;
          row = get_or-set_same j.threads t row free_thread (let x = is.number in let y = o.shape.thread_rows in omega arith)
              ∙ ap (λ (r : ThreadRow). record r { state = running_state }) same;
          context_is = ap (λ (r : ThreadRow). r.regs) same;
        }

    by-own : (b : Bool) → own.threads t ≡ b → ReadyKept own.threads k next c
    by-own true f = inl (without-remove own.threads j.ready i within f ∙ h.ready)
    by-own false f = inr (
      t,
      chosen f,
      omit-remove own.threads j.ready i within f (λ u m. (remove_from j.ready i u within (o.placed.once Ready) m).1)
          ∙ ap (omit t) h.ready,
    )

pub kept-dispatch : (own : Own) (k j : Kernel) (pick : Option ℕ) → IsUntouched own k j → IsOrderly j
    → KernelKept own k (dispatched j pick) (dispatched_context j pick)
kept-dispatch own k j pick h o = by-ready own k j pick h o (nothing_ready j) refl
