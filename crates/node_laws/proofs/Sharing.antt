-- A kernel in which mutexes, conditions and the threads that waited for them changed, and nothing else.
use Rattle.std.proofs.Common.{◌≡◌, ◌≢◌, ℕ, ◌+◌, ◌*◌, ◌<◌, ◌⊎◌, Bool, true, false, cond, List, [], ◌∷◌, ◌++◌, length, refl, sym, ap, ◌∙◌, subst, inl, inr, arith, Option, length-set}
use Rattle.std.specs.List.{fold}
use Rattle.std.proofs.lemmas.Bool.{cases_eq, eq-eqb}
use Rattle.std.proofs.lemmas.List.{get_or-set_same, get_or-set_other}
use Rattle.kernel_model.specs.Kernel.{Kernel, thread_at, with_thread, with_mutex, with_condition, free_thread, free_mutex}
use Rattle.kernel_model.specs.Words.{free, ready, running_state, on_mutex, on_condition, app_of, identity, ready_row, waiters_of}
use Rattle.kernel_model.specs.Queues.{to_ready_end}
use Rattle.kernel_model.specs.declared.rows.AppRow.{AppRow}
use Rattle.kernel_model.specs.declared.rows.ModuleRow.{ModuleRow}
use Rattle.kernel_model.specs.declared.rows.FnRow.{FnRow}
use Rattle.kernel_model.specs.declared.rows.MutexRow.{MutexRow}
use Rattle.kernel_model.specs.declared.rows.ThreadRow.{ThreadRow}
use Rattle.place_model.specs.Settled.{IsSettledKernel}
use Rattle.kernel_model.specs.Sync.{with_mutex_row, is_free_mutex, queued, handed_to, gone_for}
use Rattle.sync_laws.proofs.Mutexes.{IsFirst, first_owner_leaves}
use Rattle.sync_laws.proofs.WokenRules.{IsGoing, going, gone_stays_settled}
use Rattle.load_model.specs.Domains.{Domain}
use Rattle.node_model.specs.Sound.{IsSaved, IsSavedWell, AreSaved, HasThread, ArePopulated, AreDomains, AreFunctions, IsGoodFor, IsSoundKernel}
use Rattle.machine_model.specs.Context.{reg}
use Rattle.node_model.specs.Systems.{is_mark}
use Rattle.node_model.specs.Kept.{Own, of_app}
use Rattle.node_laws.proofs.Untouched.{IsUntouched, untouched-all, untouched-twice, untouched-row, untouched-ready}
use Rattle.node_laws.proofs.Waking.{IsWoken, woken-but, same-words}

-- ---- what isn't the step's own stays

ne-app : (own : ℕ → Bool) (a b : ℕ) → own a ≡ true → own b ≡ false → b ≢ a
ne-app own a b x y e = absurd (cc (ap own e))

pub untouched-mutex : (own : Own) (k : Kernel) (a i : ℕ) (row : MutexRow) → i < 4 → own.apps a ≡ true
    → IsUntouched own k (with_mutex k a i row)
untouched-mutex own k a i row li e = record {
  rows = λ b l f. refl;
  threads = λ u l f. refl;
  mutexes = λ b j l m f. get_or-set_other k.mutexes (4 * a + i) (4 * b + j) row free_mutex
      (λ q. ne-app own.apps a b e f (omega arith));
  conditions = λ b j l m f. refl;
  ready = refl;
  sleepers = refl;
  lines = λ n l. refl;
  functions = refl;
  modules = λ i l f. refl;
  ticks = refl;
  lines_pending = refl;
}

pub untouched-condition : (own : Own) (k : Kernel) (a c : ℕ) (xs : List ℕ) → c < 4 → own.apps a ≡ true
    → IsUntouched own k (with_condition k a c xs)
untouched-condition own k a c xs lc e = record {
  rows = λ b l f. refl;
  threads = λ u l f. refl;
  mutexes = λ b j l m f. refl;
  conditions = λ b j l m f. get_or-set_other k.conditions (4 * a + c) (4 * b + j) xs []
      (λ q. ne-app own.apps a b e f (omega arith));
  ready = refl;
  sleepers = refl;
  lines = λ n l. refl;
  functions = refl;
  modules = λ i l f. refl;
  ticks = refl;
  lines_pending = refl;
}

-- ---- a thread that waited waits for something else, or is ready

pub record IsRowShifted (old new : ThreadRow) : Type 0 where
  pub regs : new.regs ≡ old.regs
  pub live : new.state ≢ free
  pub rests : new.state ≢ running_state
  pub was_live : old.state ≢ free
  pub waited : old.state ≢ ready
  pub rested : old.state ≢ running_state

pub record IsShifted (own : Own) (k j : Kernel) : Type 0 where
  pub words : IsWoken k j
  pub size : length j.threads ≡ length k.threads
  pub rows : (t : ℕ) → (thread_at j t ≡ thread_at k t) ⊎ IsRowShifted (thread_at k t) (thread_at j t)
  pub untouched : IsUntouched own k j

pub shifted-all : (own : Own) (k : Kernel) → IsShifted own k k
shifted-all own k = record { words = same-words k; size = refl; rows = λ t. inl refl; untouched = untouched-all own k }

both-rows : (a b c : ThreadRow) → (b ≡ a) ⊎ IsRowShifted a b → (c ≡ b) ⊎ IsRowShifted b c → (c ≡ a) ⊎ IsRowShifted a c
both-rows a b c (inl x) (inl y) = inl (y ∙ x)
both-rows a b c (inl x) (inr y) = inr (subst (λ (r : ThreadRow). IsRowShifted r c) x y)
both-rows a b c (inr x) (inl y) = inr (subst (λ (r : ThreadRow). IsRowShifted a r) (sym y) x)
both-rows a b c (inr x) (inr y) =
    inr record {
      regs = y.regs ∙ x.regs;
      live = y.live;
      rests = y.rests;
      was_live = x.was_live;
      waited = x.waited;
      rested =
          x.rested;
    }

pub shifted-twice : (own : Own) (k j i : Kernel) → IsShifted own k j → IsShifted own j i → IsShifted own k i
shifted-twice own k j i a b = record {
  words = record {
    apps = b.words.apps ∙ a.words.apps;
    modules = b.words.modules ∙ a.words.modules;
    functions = b.words.functions ∙ a.words.functions;
    running = b.words.running ∙ a.words.running;
    in_module = b.words.in_module ∙ a.words.in_module;
    counted = b.words.counted ∙ a.words.counted;
    mask = b.words.mask ∙ a.words.mask;
    low = b.words.low ∙ a.words.low;
    high = b.words.high ∙ a.words.high;
  };
  size = b.size ∙ a.size;
  rows = λ t. both-rows (thread_at k t) (thread_at j t) (thread_at i t) (a.rows t) (b.rows t);
  untouched = untouched-twice own k j i a.untouched b.untouched;
}

pub shifted-mutex : (own : Own) (k : Kernel) (a i : ℕ) (row : MutexRow) → i < 4 → own.apps a ≡ true
    → IsShifted own k (with_mutex k a i row)
shifted-mutex own k a i row li e =
    record {
      words = woken-but k k.ready k.threads _ k.conditions;
      size = refl;
      rows = λ t. inl refl;
      untouched = untouched-mutex own k a i row li e;
    }

pub shifted-condition : (own : Own) (k : Kernel) (a c : ℕ) (xs : List ℕ) → c < 4 → own.apps a ≡ true
    → IsShifted own k (with_condition k a c xs)
shifted-condition own k a c xs lc e =
    record {
      words = woken-but k k.ready k.threads k.mutexes _;
      size = refl;
      rows = λ t. inl refl;
      untouched = untouched-condition own k a c xs lc e;
    }

pub shifted-row : (own : Own) (k : Kernel) (t : ℕ) (row : ThreadRow) → t < length k.threads → own.threads t ≡ true
    → IsRowShifted (thread_at k t) row → IsShifted own k (with_thread k t row)
shifted-row own k t row l e s = record {
  words = woken-but k k.ready _ k.mutexes k.conditions;
  size = length-set k.threads t row;
  rows = λ u. elim (cases_eq u t) [
    | inl q ↦ inr (subst (λ (v : ℕ). IsRowShifted (thread_at k v) (thread_at (with_thread k t row) v)) (sym q)
        (subst (λ (r : ThreadRow). IsRowShifted (thread_at k t) r) (sym (get_or-set_same k.threads t row free_thread l)) s))
    | inr n ↦ inl (get_or-set_other k.threads t u row free_thread n)
  ];
  untouched = untouched-row own k t row e;
}

-- a waiting thread goes to the ready list
pub shifted-ready : (own : Own) (k : Kernel) (t : ℕ) → t < length k.threads → own.threads t ≡ true
    → IsRowShifted (thread_at k t) (ready_row (thread_at k t)) → IsShifted own k (to_ready_end k t)
shifted-ready own k t l e s =
    let one : IsShifted own k (with_thread k t (ready_row (thread_at k t))) =
    shifted-row own k t (ready_row (thread_at k t)) l e s in
    record {
      words = woken-but k _ _ k.mutexes k.conditions;
      size = one.size;
      rows = one.rows;
      untouched = untouched-twice own k (with_thread k t (ready_row (thread_at k t))) (to_ready_end k t) one.untouched
          (untouched-ready own (with_thread k t (ready_row (thread_at k t))) _ t e);
    }

-- ---- it is sound

saved-shifted : (apps : List AppRow) (ds : List (Option Domain)) (t : ℕ) (old new : ThreadRow) → (new ≡ old) ⊎ IsRowShifted old new
    → IsSaved apps ds t old → IsSaved apps ds t new
saved-shifted apps ds t old new (inl e) h = subst (IsSaved apps ds t) (sym e) h
saved-shifted apps ds t old new (inr s) h = λ _ _.
    let well : IsSavedWell apps ds t old = h s.was_live s.rested in
    record {
      good = subst (IsGoodFor apps ds t) (sym s.regs) well.good;
      mark =
          λ _. subst (λ (c : List ℕ). is_mark ds (app_of t) (reg c 0) ≡ true) (sym s.regs) (well.mark s.waited);
    }

live-shifted : (old new : ThreadRow) → (new ≡ old) ⊎ IsRowShifted old new → old.state ≢ free → new.state ≢ free
live-shifted old new (inl e) h = subst (λ (r : ThreadRow). r.state ≢ free) (sym e) h
live-shifted old new (inr s) h = s.live

pub sound-shifted : (own : Own) (k j : Kernel) (ds : List (Option Domain)) (n : ℕ) → IsSoundKernel k ds n → IsShifted own k j
    → IsSettledKernel j → IsSoundKernel j ds n
sound-shifted own k j ds n h s settled = record {
  settled = settled;
  domains = subst (λ (x : List AppRow). AreDomains x j.modules ds) (sym s.words.apps)
      (subst (λ (x : List ModuleRow). AreDomains k.apps x ds) (sym s.words.modules) h.domains);
  saved = subst (λ (x : List AppRow). AreSaved x ds j.threads) (sym s.words.apps)
      (λ t l. saved-shifted k.apps ds t (thread_at k t) (thread_at j t) (s.rows t) (h.saved t l));
  populated = subst (λ (x : List AppRow). ArePopulated x j.threads) (sym s.words.apps) (λ a l alive. has a (h.populated a l alive));
  functions = subst (λ (x : List FnRow). AreFunctions x ds) (sym s.words.functions) h.functions;
  bounded = record {
    ticks = omega (arith, s.words.low, s.words.high, h.bounded.ticks);
    count = omega (arith, s.words.counted, h.bounded.count);
    no_count = λ e. s.words.counted ∙ h.bounded.no_count (sym s.words.in_module ∙ e);
    lines = omega (arith, s.words.mask, h.bounded.lines);
  };
}
  where
    has : (a : ℕ) → HasThread k.threads a → HasThread j.threads a
    has a x = (x.0, x.1, live-shifted (thread_at k (identity a x.0)) (thread_at j (identity a x.0)) (s.rows (identity a x.0)) x.2)

-- ---- handing over

abbrev pub IsOwnApp : Own → (a : ℕ) → Type 0
IsOwnApp own a = (own.apps a ≡ true) × ((n : ℕ) → n < 4 → own.threads (identity a n) ≡ true)

pub own-app : (a : ℕ) → IsOwnApp (of_app a) a
own-app a = (eq-eqb a a refl, λ n l. eq-eqb (app_of (identity a n)) a (omega arith))

pub shifted-handed : (own : Own) (k : Kernel) (a i : ℕ) (ws : List ℕ) → IsOwnApp own a → IsSettledKernel k → a < 8 → i < 4
    → waiters_of k a i ≡ ws → IsShifted own k (handed_to k a i ws)
shifted-handed own k a i ws o h la li e = by ws e
  where
    by : (ws : List ℕ) → waiters_of k a i ≡ ws → IsShifted own k (handed_to k a i ws)
    by [] e = shifted-mutex own k a i _ li o.0
    by (n ∷ ns) e =
        let is : IsFirst k a n on_mutex = (first_owner_leaves k a i n ns la li h.orderly e).1 in
        let few : n < 4 = is.few in
        let state : (thread_at k (identity a n)).state ≡ on_mutex = is.state_is in
        shifted-twice own k (with_mutex_row k a i n ns) _ (shifted-mutex own k a i _ li o.0)
        (shifted-ready own (with_mutex_row k a i n ns) (identity a n) (let x = h.orderly.shape.thread_rows in omega arith)
        (o.1 n few)
        record {
          regs = refl;
          live = omega arith;
          rests = omega arith;
          was_live = omega arith;
          waited = omega arith;
          rested =
              omega arith;
        })

-- ---- waking

shifted-by : (own : Own) (k : Kernel) (a i n : ℕ) → IsOwnApp own a → a < 8 → i < 4 → n < 4 → length k.threads ≡ 32
    → (thread_at k (identity a n)).state ≡ on_condition → (b : Bool)
    → IsShifted own k (cond b (to_ready_end (with_mutex_row k a i n (waiters_of k a i)) (identity a n)) (queued k a i n))
shifted-by own k a i n o la li ln size state true =
    shifted-twice own k (with_mutex_row k a i n (waiters_of k a i)) _ (shifted-mutex own k a i _ li o.0)
    (shifted-ready own (with_mutex_row k a i n (waiters_of k a i)) (identity a n) (omega arith) (o.1 n ln)
    record {
      regs = refl;
      live = omega arith;
      rests = omega arith;
      was_live = omega arith;
      waited = omega arith;
      rested =
          omega arith;
    })
shifted-by own k a i n o la li ln size state false =
    shifted-twice own k (with_mutex_row k a i _ _) _ (shifted-mutex own k a i _ li o.0)
    (shifted-row own (with_mutex_row k a i _ _) (identity a n) _ (omega arith) (o.1 n ln)
    record {
      regs = refl;
      live = omega arith;
      rests = omega arith;
      was_live = omega arith;
      waited = omega arith;
      rested =
          omega arith;
    })

pub shifted-go : (own : Own) (ts rest : List ℕ) (k : Kernel) (a c : ℕ) → IsOwnApp own a → a < 8 → c < 4
    → IsSettledKernel (with_condition k a c (ts ++ rest)) → IsShifted own k (fold (λ k n. gone_for k a n) k ts)
shifted-go own [] rest k a c o la lc h = shifted-all own k
shifted-go own (n ∷ ts) rest k a c o la lc h =
    let g : IsGoing k a c n (ts ++ rest) = going k a c n (ts ++ rest) la lc h.orderly in
    let i : ℕ = (thread_at k (identity a n)).mutex in
    shifted-twice own k (gone_for k a n) _
    (shifted-by own k a i n o la g.number g.few h.orderly.shape.thread_rows g.first.state_is (is_free_mutex k a i))
    (shifted-go own ts rest (gone_for k a n) a c o la lc (gone_stays_settled k a c n (ts ++ rest) la lc h))
