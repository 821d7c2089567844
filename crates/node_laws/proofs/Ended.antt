-- The end of the running application keeps a kernel sound, and touches nothing of the others.
use Rattle.std.proofs.Common.{◌≡◌, ◌≢◌, ℕ, ◌+◌, ◌*◌, ◌<◌, ◌≤◌, ◌⊎◌, Bool, true, false, not, eqb, cond, List, [], length, get_or, set, map, refl, sym, ap, ◌∙◌, subst, inl, inr, arith, Option}
use Rattle.std.proofs.lemmas.Bool.{cases_eq, cases_lt, cond-true, eqb-false}
use Rattle.std.proofs.lemmas.List.{length-map, get_or-map, get_or_past, get_or-set_same, get_or-set_other}
use Rattle.std.proofs.lemmas.List.Elements.{Contains-get_or}
use Rattle.kernel_model.specs.declared.states.TheConstants.{FAULTED}
use Rattle.kernel_model.specs.declared.kinds.Kind.{Kind}
use Rattle.kernel_model.specs.declared.kinds.Kind.TheVariants.{App, Module}
use Rattle.kernel_model.specs.Kernel.{Kernel, app_at, thread_at, line_at, free_app, free_thread, free_mutex, empty_row}
use Rattle.kernel_model.specs.Words.{live, free, running, running_state, app_of, number_of, identity, none_running}
use Rattle.kernel_model.specs.declared.rows.AppRow.{AppRow}
use Rattle.kernel_model.specs.declared.rows.ModuleRow.{ModuleRow}
use Rattle.kernel_model.specs.declared.rows.ThreadRow.{ThreadRow}
use Rattle.kernel_model.specs.Orderly.{IsOrderly}
use Rattle.kernel_model.specs.Running.{ThreadRuns}
use Rattle.kernel_model.specs.Dispatching.{dispatched, chosen_place, chosen_thread, nothing_ready}
use Rattle.kernel_model.specs.declared.ends.AppEnd.{AppEnd}
use Rattle.kernel_model.specs.declared.ends.AppEnd.TheVariants.{Done, Faulted}
use Rattle.kernel_model.specs.Ending.{is_of, others, end_state, ended}
use Rattle.thread_laws.specs.Facts.{IsRunning as IsRunningRow, IsReady}
use Rattle.thread_laws.proofs.Spots.{running_is, ready_is}
use Rattle.thread_laws.proofs.Filtered.{filter_whole, filter_had}
use Rattle.thread_laws.proofs.FourRows.{four, four_in, four_out}
use Rattle.thread_laws.proofs.EndedKernel.{stopped, ended_is, is_of_same}
use Rattle.thread_laws.proofs.EndedLost.{other_app}
use Rattle.thread_laws.proofs.EndedLemmas.{ended_settled}
use Rattle.place_model.specs.Settled.{IsSettledKernel}
use Rattle.load_model.specs.Domains.{Domain}
use Rattle.node_model.specs.Systems.{kind_of}
use Rattle.node_model.specs.Sound.{IsDomain, HasRow, IsAppRowOf, AreDomains, IsSavedWell, AreSaved, IsGoodIn, HasThread, ArePopulated, IsSoundKernel}
use Rattle.node_model.specs.Kept.{of_app, IsFaulted}
use Rattle.node_laws.proofs.Resting.{begun, chosen-within}
use Rattle.node_laws.proofs.Untouched.{IsUntouched}

-- ---- the kernel after the end

-- the kernel after the end of the application that runs
abbrev pub stopped_app : Kernel → AppEnd → Kernel
stopped_app k how = none_running (stopped k (app_of (running k)) how)

pub ended-running : (k : Kernel) (how : AppEnd) → ended k (app_of (running k)) how ≡ stopped_app k how
ended-running k how = ended_is k (app_of (running k)) how
    ∙ cond-true (is_of (app_of (running k)) (running k)) _ _ (is_of_same (app_of (running k)) (running k) refl)

end-row : AppRow → AppEnd → AppRow
end-row r how = record r { state = end_state how }

not-free : (how : AppEnd) → end_state how ≢ free
not-free Done = omega arith
not-free Faulted = omega arith

known : (how : AppEnd) → end_state how ≤ FAULTED
known Done = omega arith
known Faulted = omega arith

not-live : (how : AppEnd) → end_state how ≢ live
not-live Done = omega arith
not-live Faulted = omega arith

-- ---- domains

row-ended : (apps : List AppRow) (modules : List ModuleRow) (a n : ℕ) (d : Domain) (how : AppEnd) → a < length apps → (k : Kind)
    → HasRow k apps modules n d
    → HasRow k (set apps a (record (get_or apps a free_app) { state = end_state how })) modules n d
row-ended apps modules a n d how l App h = elim (cases_eq n a) [
  | inl e ↦ subst (λ (r : AppRow). IsAppRowOf d r)
      (sym (ap (λ (m : ℕ). get_or (set apps a (record (get_or apps a free_app) { state = end_state how })) m free_app) e
      ∙ get_or-set_same apps a (record (get_or apps a free_app) { state = end_state how }) free_app l)) (here e)
  | inr x ↦ subst (λ (r : AppRow). IsAppRowOf d r)
      (sym (get_or-set_other apps a n (record (get_or apps a free_app) { state = end_state how }) free_app x)) h
]
  where
    here : n ≡ a → IsAppRowOf d (record (get_or apps a free_app) { state = end_state how })
    here e =
        let old : IsAppRowOf d (get_or apps a free_app) = subst (λ (m : ℕ). IsAppRowOf d (get_or apps m free_app)) e h in
        record {
          used = not-free how;
          known = known how;
          code_lo = old.code_lo;
          code_hi = old.code_hi;
          lo = old.lo;
          hi = old.hi;
          z =
              old.z;
          stack = old.stack;
          threads = old.threads;
        }
row-ended apps modules a n d how l Module h = h

domains-ended : (apps : List AppRow) (modules : List ModuleRow) (ds : List (Option Domain)) (a : ℕ) (how : AppEnd) → a < length apps
    → (get_or apps a free_app).state ≢ free → AreDomains apps modules ds
    → AreDomains (set apps a (record (get_or apps a free_app) { state = end_state how })) modules ds
domains-ended apps modules ds a how l used h = record {
  twelve = h.twelve;
  placed = λ n d e. let is : IsDomain apps modules n d = h.placed n d e in
      record {
        below = is.below;
        accepted = is.accepted;
        kind = is.kind;
        region = is.region;
        row =
            row-ended apps modules a n d how l (kind_of n) is.row;
      };
  apps_used = λ b lb u. elim (cases_eq b a) [
    | inl e ↦ h.apps_used b lb (subst (λ (m : ℕ). (get_or apps m free_app).state ≢ free) (sym e) used)
    | inr x ↦ h.apps_used b lb (subst (λ (r : AppRow). r.state ≢ free)
        (get_or-set_other apps a b (record (get_or apps a free_app) { state = end_state how }) free_app x) u)
  ];
  modules_used = h.modules_used;
}

-- ---- saved contexts

saved-ended : (apps : List AppRow) (ds : List (Option Domain)) (threads : List ThreadRow) (a : ℕ) (new : AppRow)
    → length threads ≡ 32 → AreSaved apps ds threads
    → AreSaved (set apps a new) ds (four threads a empty_row)
saved-ended apps ds threads a new size h t l on other = elim (cases_eq (app_of t) a) [
  | inl e ↦ absurd (on (ap (λ (r : ThreadRow). r.state) (four_in threads a t empty_row free_thread (omega arith) e)))
  | inr x ↦ kept x
]
  where
    kept : app_of t ≢ a → IsSavedWell (set apps a new) ds t (get_or (four threads a empty_row) t free_thread)
    kept x =
        let same : get_or (four threads a empty_row) t free_thread ≡ get_or threads t free_thread =
        four_out threads a t empty_row free_thread x in
        let row : get_or (set apps a new) (app_of t) free_app ≡ get_or apps (app_of t) free_app =
        get_or-set_other apps a (app_of t) new free_app x in
        let old : IsSavedWell apps ds t (get_or threads t free_thread) =
        h t l (subst (λ (r : ThreadRow). r.state ≢ free) same on)
        (subst (λ (r : ThreadRow). r.state ≢ running_state) same other) in
        subst (λ (r : ThreadRow). IsSavedWell (set apps a new) ds t r) (sym same) record {
          good = subst (λ (r : AppRow). IsGoodIn ds (app_of t) (r.lo + r.z + number_of t * r.stack)
              (r.lo + r.z + number_of t * r.stack + r.stack) (get_or threads t free_thread).regs) (sym row) old.good;
          mark = old.mark;
        }

-- ---- live threads

populated-ended : (apps : List AppRow) (threads : List ThreadRow) (a : ℕ) (how : AppEnd) → a < length apps
    → ArePopulated apps threads
    → ArePopulated (set apps a (record (get_or apps a free_app) { state = end_state how })) (four threads a empty_row)
populated-ended apps threads a how l h b lb alive = elim (cases_eq b a) [
  | inl e ↦ absurd (not-live how
      (ap (λ (r : AppRow). r.state) (sym
      (get_or-set_same apps a (record (get_or apps a free_app) { state = end_state how }) free_app l))
      ∙ ap (λ (m : ℕ). (get_or (set apps a (record (get_or apps a free_app) { state = end_state how })) m free_app).state) (sym e)
      ∙ alive))
  | inr x ↦ kept x (h b lb (ap (λ (r : AppRow). r.state)
      (sym (get_or-set_other apps a b (record (get_or apps a free_app) { state = end_state how }) free_app x)) ∙ alive))
]
  where
    kept : b ≢ a → HasThread threads b → HasThread (four threads a empty_row) b
    kept x has = (
      has.0,
      has.1,
      subst (λ (r : ThreadRow). r.state ≢ free)
          (sym (four_out threads a (identity b has.0) empty_row free_thread (λ q. x (of-identity b has.0 has.1 ∙ q)))) has.2,
    )
      where
        of-identity : (c n : ℕ) → n < 4 → c ≡ app_of (identity c n)
        of-identity c n m = omega arith

-- ---- all of it

pub sound-ended : (k : Kernel) (ds : List (Option Domain)) (n : ℕ) (how : AppEnd) → IsSoundKernel k ds n → ThreadRuns k
    → IsSoundKernel (stopped_app k how) ds n
sound-ended k ds n how h r =
    let a : ℕ = app_of (running k) in
    let is : IsRunningRow k (running k) = running_is k h.settled.orderly r in
    let la : a < length k.apps = (let x = is.number in let y = h.settled.orderly.shape.app_rows in omega arith) in
    record {
      settled = subst (λ (j : Kernel). IsSettledKernel j) (ended-running k how)
          (ended_settled k a how h.settled (let x = is.number in omega arith) is.app r.no_module);
      domains = domains-ended k.apps k.modules ds a how la (λ e. omega (arith, is.app)) h.domains;
      saved = saved-ended k.apps ds k.threads a (record (app_at k a) { state = end_state how }) h.settled.orderly.shape.thread_rows
          h.saved;
      populated = populated-ended k.apps k.threads a how la h.populated;
      functions = h.functions;
      bounded = h.bounded;
    }

-- ---- what stays

of-other : (b i a : ℕ) → i < 4 → eqb b a ≡ false → app_of (identity b i) ≢ a
of-other b i a l e = let n = eqb-false b a e in omega arith

twice : (a : ℕ) (xs : List ℕ) → others a (others a xs) ≡ others a xs
twice a xs = filter_whole (λ t. not (is_of a t)) (others a xs) (λ t c. (filter_had (λ t. not (is_of a t)) xs t c).1)

line-others : (a : ℕ) (lines : List (List ℕ)) (n : ℕ) → get_or (map (others a) lines) n [] ≡ others a (get_or lines n [])
line-others a lines n = elim (cases_lt n (length lines)) [
  | inl h ↦ get_or-map (others a) lines n [] [] h
  | inr h ↦ get_or_past (map (others a) lines) n [] (omega (arith, length-map lines (others a)))
      ∙ ap (others a) (sym (get_or_past lines n [] h))
]

pub untouched-ended : (k : Kernel) (how : AppEnd) → IsUntouched (of_app (app_of (running k))) k (stopped_app k how)
untouched-ended k how =
    let a : ℕ = app_of (running k) in
    record {
      rows = λ b l e. other_app k a how b (eqb-false b a e);
      threads = λ t l e. four_out k.threads a t empty_row free_thread (eqb-false (app_of t) a e);
      mutexes = λ b i lb li e. four_out k.mutexes a (identity b i) free_mutex free_mutex (of-other b i a li e);
      conditions = λ b i lb li e. four_out k.conditions a (identity b i) [] [] (of-other b i a li e);
      ready = twice a k.ready;
      sleepers = twice a k.sleepers;
      lines = λ n l. ap (others a) (line-others a k.lines n) ∙ twice a (line_at k n);
      functions = refl;
      modules = λ i l e. refl;
      ticks = refl;
      lines_pending = refl;
    }

-- ---- the application is faulted behind a dispatch

faulted : (k : Kernel) → length k.apps ≡ 8 → length k.threads ≡ 32 → ThreadRuns k
    → IsFaulted (stopped_app k Faulted) (app_of (running k))
faulted k apps threads r = record {
  row = ap (λ (x : AppRow). x.state)
      (get_or-set_same k.apps (app_of (running k)) (record (app_at k (app_of (running k))) { state = end_state Faulted }) free_app
      (let x = r.thread in omega arith));
  threads = λ n l. ap (λ (x : ThreadRow). x.state)
      (four_in k.threads (app_of (running k)) (identity (app_of (running k)) n) empty_row free_thread
      (let x = r.thread in omega arith) (omega arith));
}

-- a dispatch changes no row of an application, and no thread that is free
still-faulted : (k : Kernel) (pick : Option ℕ) (a : ℕ) → IsOrderly k → IsFaulted k a → (b : Bool) → nothing_ready k ≡ b
    → IsFaulted (cond b k (begun k pick)) a
still-faulted k pick a o h true e = h
still-faulted k pick a o h false e =
    record { row = h.row; threads = λ n l. from n l (cases_eq (identity a n) (chosen_thread k pick)) }
  where
    t : ℕ
    t = chosen_thread k pick

    is : IsReady k t
    is = ready_is k o t (Contains-get_or k.ready (chosen_place pick k.ready) 0
        (chosen-within pick k.ready (eqb-false (length k.ready) 0 e)))

    from : (n : ℕ) → n < 4 → (identity a n ≡ t) ⊎ (identity a n ≢ t) → (thread_at (begun k pick) (identity a n)).state ≡ free
    from n l (inl s) = absurd (omega (arith, is.state, ap (λ (u : ℕ). (thread_at k u).state) s, h.threads n l))
    from n l (inr x) = ap (λ (r : ThreadRow). r.state)
        (get_or-set_other k.threads t (identity a n) (record (thread_at k t) { state = running_state }) free_thread x)
        ∙ h.threads n l

pub faulted-then : (k : Kernel) (pick : Option ℕ) → IsOrderly k → ThreadRuns k → IsOrderly (stopped_app k Faulted)
    → IsFaulted (dispatched (stopped_app k Faulted) pick) (app_of (running k))
faulted-then k pick o r o' = still-faulted (stopped_app k Faulted) pick (app_of (running k)) o'
    (faulted k o.shape.app_rows o.shape.thread_rows r) (nothing_ready (stopped_app k Faulted)) refl
