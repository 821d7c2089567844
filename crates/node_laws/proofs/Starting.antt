-- Thread 0 of each application starts.
use Rattle.std.proofs.Common.{true, ◌≡◌, ◌≢◌, ℕ, zero, suc, ◌+◌, ◌<◌, ◌≤◌, List, length, refl, sym, ap, ◌∙◌, subst, inl, inr, arith, length-set, Option, None, Some}
use Rattle.std.specs.List.{fold, range_with_len}
use Rattle.std.proofs.lemmas.Bool.{cases_eq}
use Rattle.std.proofs.lemmas.List.{get_or-set_same, get_or-set_other}
use Rattle.machine_model.specs.Context.{reg}
use Rattle.machine_laws.specs.Steady.{IsSteady}
use Rattle.kernel_model.specs.Kernel.{Kernel, word_of, thread_at, with_thread, app_at, free_thread}
use Rattle.kernel_model.specs.Words.{free, live, app_of, identity, tick_number, running_module, ready_row, stack_high}
use Rattle.kernel_model.specs.declared.rows.SysWord.TheVariants.{Budget}
use Rattle.kernel_model.specs.declared.rows.ThreadRow.{ThreadRow}
use Rattle.place_model.specs.Settled.{IsSettledKernel}
use Rattle.kernel_model.specs.Running.{NoneRuns, new_context}
use Rattle.kernel_model.specs.Starting.{MayBegin}
use Rattle.thread_laws.proofs.MovingRules.{row_put}
use Rattle.thread_laws.proofs.ReadyRules.{begun_stays_settled}
use Rattle.load_model.specs.Domains.{Domain}
use Rattle.node_model.specs.Placed.{IsWellPlaced, bits}
use Rattle.node_model.specs.Systems.{System, domain_in, is_mark}
use Rattle.node_model.specs.Steps.{pending}
use Rattle.node_model.specs.Booting.{started_if, started_below, all_started}
use Rattle.node_model.specs.Sound.{IsDomain, IsAppRowOf, HasDomain, HasThread, AreDomains, AreSaved, AreFunctions, AreBounded, IsGoodFor, low_in, top_in}
use Rattle.node_model.specs.Laws.{StartedLaw, IsLoading}
use Rattle.node_laws.proofs.Rows.{saved-put}
use Rattle.node_laws.proofs.Domains.{of-app, IsStack, stack-in}
use Rattle.node_laws.proofs.Stepping.{well-placed}
use Rattle.node_laws.proofs.Contexts.{IsMark, mark-of, good-mark}
use Rattle.node_laws.proofs.Spawning.{new-context, status-new}

-- the applications below m have a thread, and those from m on have none yet
pub record IsStarting (ds : List (Option Domain)) (k : Kernel) (m : ℕ) : Type 0 where
  pub settled : IsSettledKernel k
  pub domains : AreDomains k.apps k.modules ds
  pub saved : AreSaved k.apps ds k.threads
  pub functions : AreFunctions k.functions ds
  pub bounded : AreBounded (tick_number k) (word_of k Budget) (running_module k) (pending k) 0
  pub none_runs : NoneRuns k
  pub populated : (a : ℕ) → a < m → a < 8 → (app_at k a).state ≡ live → HasThread k.threads a
  pub unborn : (a : ℕ) → m ≤ a → a < 8 → (thread_at k (identity a 0)).state ≡ free
  pub entries : (a : ℕ) (d : Domain) → m ≤ a → a < 8 → domain_in ds a ≡ Some d
      → is_mark ds a (reg (thread_at k (identity a 0)).regs 0) ≡ true
  pub all_live : (a : ℕ) → a < 8 → (app_at k a).state ≢ free → (app_at k a).state ≡ live

-- its first context
pub record IsFirst (ds : List (Option Domain)) (k : Kernel) (t pc : ℕ) : Type 0 where
  pub may : MayBegin k t
  pub good : IsGoodFor k.apps ds t (new_context pc (stack_high k t) 0)

pub first-is : (ds : List (Option Domain)) (k : Kernel) (m : ℕ) (d : Domain) → m < 8 → IsStarting ds k m → domain_in ds m ≡ Some d
    → IsFirst ds k (identity m 0) (reg (thread_at k (identity m 0)).regs 0)
first-is ds k m d l h e =
    let t : ℕ = identity m 0 in
    let pc : ℕ = reg (thread_at k t).regs 0 in
    let app : app_of t ≡ m = omega arith in
    let is : IsDomain k.apps k.modules m d = h.domains.placed m d e in
    let own = of-app k.apps k.modules m d l is in
    let row : IsAppRowOf d (app_at k m) = own.1 in
    let well : IsWellPlaced d = well-placed k m d h.settled is in
    let mark : IsMark d pc = mark-of ds m pc d e is.accepted (h.entries m d (omega arith) l e) in
    let least : 1 ≤ d.object.threads = (d.object.form.app own.0).threads_least in
    let row-t : IsAppRowOf d (app_at k (app_of t)) = subst (λ (a : ℕ). IsAppRowOf d (app_at k a)) (sym app) row in
    let stack : IsStack d (low_in k.apps t) (top_in k.apps t) = stack-in k.apps t d well own.0 is.region row-t (omega arith) in
    let steady : IsSteady (bits d) (low_in k.apps t) (top_in k.apps t) (new_context pc (stack_high k t) 0) = record {
      context = new-context pc (stack_high k t) 0 mark.even_at stack.top_even (omega (arith, mark.to, well.code_high))
          (omega (arith, stack.within_top, well.hi_high)) (omega arith);
      room = omega (arith, stack.room);
      within = omega arith;
      status = status-new d.object.kind own.0;
    } in
    record {
      may = record {
        number = omega arith;
        app = ap (λ (a : ℕ). (app_at k a).state) app ∙ h.all_live m l row.used;
        within = subst (λ (a : ℕ). t < identity a (app_at k a).threads) (sym app) (omega (arith, row.threads));
        free = h.unborn m (omega arith) l;
      };
      good = record {
        domain = d;
        placed = ap (domain_in ds) app ∙ e;
        good =
            good-mark d _ _ (new_context pc (stack_high k t) 0) steady well mark;
      };
    }

first-row : (k : Kernel) (t pc : ℕ) → ThreadRow
first-row k t pc = record (thread_at k t) { regs = new_context pc (stack_high k t) 0; priority = 3 }

-- one starts
pub one-starts : (ds : List (Option Domain)) (k : Kernel) (m : ℕ) (o : Option Domain) → m < 8 → IsStarting ds k m → domain_in ds m ≡ o
    → IsStarting ds (started_if o k m) (m + 1)
unfolding first-row
one-starts ds k m None l h e = record {
  settled = h.settled;
  domains = h.domains;
  saved = h.saved;
  functions = h.functions;
  bounded = h.bounded;
  none_runs = h.none_runs;
  populated = λ a la lb alive. elim (cases_eq a m) [
    | inl q ↦ let has : HasDomain ds a = h.domains.apps_used a lb (λ z. omega (arith, alive)) in let clash : Some has.0 ≡ None =
        sym has.1 ∙ ap (domain_in ds) q ∙ e in absurd (cc clash)
    | inr n ↦ h.populated a (omega arith) lb alive
  ];
  unborn = λ a la lb. h.unborn a (omega arith) lb;
  entries = λ a d la lb f. h.entries a d (omega arith) lb f;
  all_live = h.all_live;
}
one-starts ds k m (Some d) l h e = record {
  settled = begun_stays_settled k t pc 3 0 h.settled first.may (omega arith);
  domains = h.domains;
  saved = saved-put k.apps ds k1.threads t (ready_row (thread_at k1 t)) lt1
      (λ _ _. record {
        good = subst (λ (r : ThreadRow). IsGoodFor k.apps ds t r.regs) (sym same) first.good;
        mark =
            λ other. absurd (other refl);
      })
      (saved-put k.apps ds k.threads t (first-row k t pc) lt (λ on. absurd (on first.may.free)) h.saved);
  functions = h.functions;
  bounded = h.bounded;
  none_runs = record { no_thread = h.none_runs.no_thread; no_module = h.none_runs.no_module };
  populated = λ a la lb alive. elim (cases_eq a m) [
    | inl q ↦ (
      0,
      omega arith,
      (λ z. let here =
          ap (λ (r : ThreadRow). r.state) (get_or-set_same k1.threads t (ready_row (thread_at k1 t)) free_thread lt1) in let there =
          ap (λ (b : ℕ). (thread_at k2 (identity b 0)).state) q in omega (arith, here, there, z)),
    )
    | inr n ↦ still a n (h.populated a (omega arith) lb alive)
  ];
  unborn = λ a la lb. ap (λ (r : ThreadRow). r.state) (other (identity a 0) (λ q. omega arith)) ∙ h.unborn a (omega arith) lb;
  entries = λ a x la lb f. ap (λ (r : ThreadRow). is_mark ds a (reg r.regs 0)) (other (identity a 0) (λ q. omega arith))
      ∙ h.entries a x (omega arith) lb f;
  all_live = h.all_live;
}
  where
    t : ℕ
    t = identity m 0

    pc : ℕ
    pc = reg (thread_at k t).regs 0

    first : IsFirst ds k t pc
    first = first-is ds k m d l h e

    lt : t < length k.threads
    lt = let size = h.settled.orderly.shape.thread_rows in omega arith

    k1 : Kernel
    k1 = with_thread k t (first-row k t pc)

    k2 : Kernel
    k2 = with_thread k1 t (ready_row (thread_at k1 t))

    same : thread_at k1 t ≡ first-row k t pc
    same = row_put k t (first-row k t pc) (omega arith) h.settled.orderly.shape.thread_rows

    lt1 : t < length k1.threads
    lt1 = omega (arith, lt, length-set k.threads t (first-row k t pc))

    other : (u : ℕ) → u ≢ t → thread_at k2 u ≡ thread_at k u
    other u n = get_or-set_other k1.threads t u (ready_row (thread_at k1 t)) free_thread n
        ∙ get_or-set_other k.threads t u (first-row k t pc) free_thread n

    still : (a : ℕ) → a ≢ m → HasThread k.threads a → HasThread k2.threads a
    still a n x = (x.0, x.1, subst (λ (r : ThreadRow). r.state ≢ free) (sym (other (identity a x.0) (apart x.0 x.1))) x.2)
      where
        apart : (i : ℕ) → i < 4 → identity a i ≢ t
        apart i li q = n (omega arith)

-- ---- all of them

-- before any starts
pub none-started : (s : System) → IsLoading s → IsStarting s.placed s.kernel 0
none-started s h = record {
  settled = h.settled;
  domains = h.domains;
  saved = λ t l on. absurd (on (h.unborn t l));
  functions = h.functions;
  bounded = record {
    ticks = omega (arith, h.fresh.0);
    count = omega (arith, h.fresh.1);
    no_count = λ _. h.fresh.1;
    lines = omega (arith, h.fresh.2);
  };
  none_runs = h.none_runs;
  populated = λ a la. absurd (omega arith);
  unborn = λ a la lb. h.unborn (identity a 0) (omega arith);
  entries = λ a d la lb e. h.entries a d lb e;
  all_live = h.all_live;
}

-- below a number
next-started : (f : Kernel → ℕ → Kernel) (k : Kernel) (a n : ℕ)
    → fold f k (range_with_len a (suc n)) ≡ f (fold f k (range_with_len a n)) (a + n)
next-started f k a zero = ap (f k) (omega arith)
next-started f k a (suc n) = next-started f (f k a) (a + 1) n
    ∙ ap (f (fold f k (range_with_len a (suc n)))) (let same : a + 1 + n ≡ a + suc n = omega arith in same)

pub started-next : (ds : List (Option Domain)) (k : Kernel) (n : ℕ)
    → started_below ds k (n + 1) ≡ started_if (domain_in ds n) (started_below ds k n) n
started-next ds k n =
    ap (λ (i : ℕ). started_below ds k i) (let same : n + 1 ≡ suc n = omega arith in same)
    ∙ next-started (λ j i. started_if (domain_in ds i) j i) k 0 n
    ∙ ap (λ (i : ℕ). started_if (domain_in ds i) (started_below ds k n) i) (let same : 0 + n ≡ n = omega arith in same)

pub starting-below : (s : System) (n : ℕ) → IsLoading s → n ≤ 8 → IsStarting s.placed (started_below s.placed s.kernel n) n
starting-below s zero h l = none-started s h
starting-below s (suc n) h l =
    let k : Kernel = started_below s.placed s.kernel n in
    let more : IsStarting s.placed (started_if (domain_in s.placed n) k n) (n + 1) =
    one-starts s.placed k n (domain_in s.placed n) (omega arith) (starting-below s n h (omega arith)) refl in
    let one : n + 1 ≡ suc n = omega arith in
    subst (λ (i : ℕ). IsStarting s.placed (started_below s.placed s.kernel i) i) one
    (subst (λ (j : Kernel). IsStarting s.placed j (n + 1)) (sym (started-next s.placed s.kernel n)) more)

pub started-sound : StartedLaw
started-sound s h =
    let h8 : IsStarting s.placed (all_started s.placed s.kernel) 8 = starting-below s 8 h (omega arith) in (
      record {
        settled = h8.settled;
        domains = h8.domains;
        saved = h8.saved;
        populated = λ a la alive. h8.populated a la la alive;
        functions = h8.functions;
        bounded = h8.bounded;
      },
      h8.none_runs,
    )
