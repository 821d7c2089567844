-- An instruction of a thread keeps a system sound, is confined, and keeps the others.
use Rattle.std.proofs.Common.{◌≡◌, ◌≢◌, ℕ, ◌+◌, ◌*◌, ◌-◌, ◌%◌, ◌<◌, ◌≤◌, ◌⊎◌, false, not, eqb, cond, List, [], ◌∷◌, length, get_or, set, refl, sym, ap, ◌∙◌, subst, inl, inr, arith, Option, Some}
use Rattle.std.specs.Prelude.{nat_lt, IsTrue}
use Rattle.std.specs.List.{AllByRecursion}
use Rattle.std.proofs.lemmas.Bool.{cases_lt, cases_eq, cond-true, cond-false, ne_eqb, eqb-false, lt-ltb, le-ltb}
use Rattle.std.proofs.lemmas.List.{length-set, get_or-set_same, get_or-set_other, get_or_past}
use Rattle.msp_encode.specs.declared.instr.Instr.{Instr}
use Rattle.machine_model.specs.Memory.{word_at, put_all, IsMemory, even}
use Rattle.machine_model.specs.Context.{reg}
use Rattle.machine_model.specs.Does.{does, Effect}
use Rattle.machine_laws.proofs.Memory.{part-stays, word-stays}
use Rattle.machine_laws.specs.Steady.{Limits}
use Rattle.kernel_model.specs.declared.map.TheConstants.{CODE_POOL, CODE_POOL_END, KERNEL_STACK, KERNEL_TOP, VECTORS}
use Rattle.kernel_model.specs.declared.entries.TheConstants.{FIRST_ENTRY}
use Rattle.kernel_model.specs.declared.kinds.Kind.{Kind}
use Rattle.kernel_model.specs.declared.kinds.Kind.TheVariants.{App, Module}
use Rattle.kernel_model.specs.Kernel.{Kernel, app_at, module_at}
use Rattle.kernel_model.specs.Words.{none, free, running, app_of, number_of}
use Rattle.place_model.specs.declared.places.Pool.TheVariants.{Code, Data}
use Rattle.place_model.specs.declared.places.Range.{Range}
use Rattle.place_model.specs.declared.places.DomainRow.{DomainRow}
use Rattle.place_model.specs.Gaps.{holds}
use Rattle.place_model.specs.Placing.{domain_at, app_domain, module_domain, pool_range}
use Rattle.place_model.proofs.GapLemmas.{holds_from}
use Rattle.place_model.specs.Settled.{IsSettledKernel, IsInPool}
use Rattle.kernel_model.specs.Running.{ThreadRuns, running_domain}
use Rattle.load_model.specs.Domains.{Domain, code_length}
use Rattle.load_model.specs.Images.{code_image}
use Rattle.load_model.specs.Standing.{HasBytes, CodeImageLaw}
use Rattle.load_model.specs.Standing as image
use Rattle.trace_model.specs.declared.records.Who.{Who}
use Rattle.trace_model.specs.declared.records.Who.TheVariants as who
use Rattle.trace_model.specs.declared.records.Record.{Record}
use Rattle.trace_model.specs.declared.records.Record.TheVariants as record_of
use Rattle.node_model.specs.Placed.{IsWellPlaced, CodeStands, StandsIn}
use Rattle.node_model.specs.Instructions.{Inside, Leads, StaysInStack, StepsAt}
use Rattle.node_model.specs.Systems.{System, seen, domain_in, kind_of}
use Rattle.node_model.specs.Entries.{module_runs, who_runs}
use Rattle.node_model.specs.Steps.{by_effect, instruction, counted, fetched}
use Rattle.node_model.specs.Sound.{AreDomains, IsDomain, HasRow, IsAppRowOf, IsModuleRowOf, IsCodeInPlace, IsSound, IsSoundKernel, AThread, IsGoodFor, low_in, top_in}
use Rattle.node_model.specs.Confined.{Within, MayWrite, stack_low_in, stack_top_in}
use Rattle.node_model.specs.Kept.{Own, of_app, KernelKept, MemoryKept, OthersKept, StepKeeps}
use Rattle.node_model.specs.Laws.{IsSeen, IsSafe, IsInPools, WritesLaw}
use Rattle.node_laws.specs.Facts.{Given}
use Rattle.node_laws.proofs.Domains.{of-app, IsStack}
use Rattle.node_laws.proofs.Seeing.{limits-seen, IsOnStack, on-stack}

pub all-map : (P Q : ℕ × ℕ → Type 0) → ((w : ℕ × ℕ) → P w → Q w) → (ws : List (ℕ × ℕ)) → AllByRecursion P ws → AllByRecursion Q ws
all-map P Q f [] h = tt
all-map P Q f (w ∷ ws) h = (f w h.0, all-map P Q f ws h.1)

-- ---- places of any domain, application or module

pub record HasPlaces (r : DomainRow) (d : Domain) : Type 0 where
  pub used : r.state ≢ free
  pub code_from : r.code.from ≡ d.code_lo
  pub code_to : r.code.to ≡ d.code_lo + code_length d.object
  pub from : r.region.from ≡ d.lo
  pub to : r.region.to ≡ d.hi

pub places-of : (k : Kernel) (n : ℕ) (d : Domain) → IsDomain k.apps k.modules n d → HasPlaces (domain_at k n) d
places-of k n d h = elim (cases_lt n 8) [ inl l ↦ app l | inr l ↦ of-module l ]
  where
    app : n < 8 → HasPlaces (domain_at k n) d
    app l =
        let row : IsAppRowOf d (app_at k n) = (of-app k.apps k.modules n d l h).1 in
        subst (λ (r : DomainRow). HasPlaces r d) (sym (cond-true (nat_lt n 8) (app_domain (app_at k n)) _ (lt-ltb n 8 l)))
        record { used = row.used; code_from = row.code_lo; code_to = row.code_hi; from = row.lo; to = row.hi }

    of-module : 8 ≤ n → HasPlaces (domain_at k n) d
    of-module l =
        let e : kind_of n ≡ Module = cond-false (nat_lt n 8) App Module (le-ltb n 8 l) in
        let row : HasRow Module k.apps k.modules n d = subst (λ (x : Kind). HasRow x k.apps k.modules n d) e h.row in
        let here : n - 8 ≡ row.0 = (let x = row.1 in omega arith) in
        subst (λ (r : DomainRow). HasPlaces r d)
        (sym (cond-false (nat_lt n 8) _ (module_domain (module_at k (n - 8))) (le-ltb n 8 l)))
        (subst (λ (m : ℕ). HasPlaces (module_domain (module_at k m)) d) (sym here)
        record { used = row.2.used; code_from = row.2.code_lo; code_to = row.2.code_hi; from = row.2.lo; to = row.2.hi })

-- code lies in the code pool
pub code-in-pool : (k : Kernel) (n : ℕ) (d : Domain) → IsSettledKernel k → IsDomain k.apps k.modules n d → (CODE_POOL ≤ d.code_lo)
    × (d.code_lo + code_length d.object ≤ CODE_POOL_END)
code-in-pool k n d h is =
    let p : HasPlaces (domain_at k n) d = places-of k n d is in
    let i : IsInPool (pool_range Code) (domain_at k n).code = h.inside Code n is.below p.used in
    (omega (arith, i.from, p.code_from), omega (arith, i.to, p.code_to))

-- the code of one domain isn't that of another
pub code-apart : (j : Kernel) (ds : List (Option Domain)) (n i : ℕ) (x d : Domain) → IsSettledKernel j → AreDomains j.apps j.modules ds
    → domain_in ds n ≡ Some x → domain_in ds i ≡ Some d → n ≢ i → (a : ℕ) → x.code_lo ≤ a → a < x.code_lo + code_length x.object
    → (a < d.code_lo) ⊎ (d.code_lo + code_length d.object ≤ a)
code-apart j ds n i x d h domains en ei ne a from to = elim (cases_lt a d.code_lo) [
  | inl l ↦ inl l
  | inr g ↦ elim (cases_lt a (d.code_lo + code_length d.object)) [ inl l ↦ absurd (both g l) | inr above ↦ inr above ]
]
  where
    is-x : IsDomain j.apps j.modules n x
    is-x = domains.placed n x en

    is-d : IsDomain j.apps j.modules i d
    is-d = domains.placed i d ei

    p : HasPlaces (domain_at j n) x
    p = places-of j n x is-x

    q : HasPlaces (domain_at j i) d
    q = places-of j i d is-d

    both : d.code_lo ≤ a → a < d.code_lo + code_length d.object → ⊥
    both g l = h.apart Code n i is-x.below is-d.below ne p.used q.used a
        (holds_from a (domain_at j n).code (omega (arith, from, p.code_from)) (omega (arith, to, p.code_to)))
        (holds_from a (domain_at j i).code (omega (arith, g, q.code_from)) (omega (arith, l, q.code_to)))

-- any domain is placed well
pub well-placed : (k : Kernel) (n : ℕ) (d : Domain) → IsSettledKernel k → IsDomain k.apps k.modules n d → IsWellPlaced d
well-placed k n d h is =
    let p : HasPlaces (domain_at k n) d = places-of k n d is in
    let code : IsInPool (pool_range Code) (domain_at k n).code = h.inside Code n is.below p.used in
    let region : IsInPool (pool_range Data) (domain_at k n).region = h.inside Data n is.below p.used in
    record {
      code_even = omega (arith, code.from_even, p.code_from);
      code_low = omega (arith, code.from, p.code_from);
      code_high = omega (arith, code.to, p.code_to);
      lo_even = omega (arith, region.from_even, p.from);
      hi_even = omega (arith, region.to_even, p.to);
      lo_low = omega (arith, region.from, p.from);
      hi_high = omega (arith, region.to, p.to);
      statics = omega (arith, is.region);
    }

-- a module's row
pub of-module : (k : Kernel) (i : ℕ) (d : Domain) → IsDomain k.apps k.modules (8 + i) d → (d.object.kind ≡ Module)
    × IsModuleRowOf d (module_at k i)
of-module k i d h =
    let e : kind_of (8 + i) ≡ Module = cond-false (nat_lt (8 + i) 8) App Module (le-ltb (8 + i) 8 (omega arith)) in
    let row : HasRow Module k.apps k.modules (8 + i) d = subst (λ (x : Kind). HasRow x k.apps k.modules (8 + i) d) e h.row in
    let same : row.0 ≡ i = (let x = row.1 in omega arith) in
    (h.kind ∙ e, subst (λ (m : ℕ). IsModuleRowOf d (module_at k m)) same row.2)

-- ---- writes

avoids : (from to : ℕ) (ws : List (ℕ × ℕ)) → CODE_POOL ≤ from → AllByRecursion IsInPools ws
    → AllByRecursion (λ w. (w.0 < from) ⊎ (to ≤ w.0)) ws
avoids from to ws l h = all-map IsInPools (λ w. (w.0 < from) ⊎ (to ≤ w.0)) each ws h
  where
    each : (w : ℕ × ℕ) → IsInPools w → (w.0 < from) ⊎ (to ≤ w.0)
    each w (inl i) = inl (omega (arith, i.1))
    each w (inr i) = inl (omega (arith, i.1))

pub writes : WritesLaw
writes s ws h k inside memory = record {
  memory = memory;
  code = λ n d e j l.
      let pool : (CODE_POOL ≤ d.code_lo) × (d.code_lo + code_length d.object ≤ CODE_POOL_END) =
      code-in-pool s.kernel n d k.settled (k.domains.placed n d e) in
      part-stays d.code_lo (d.code_lo + j + 1) s.memory ws (avoids d.code_lo (d.code_lo + j + 1) ws pool.0 inside) (d.code_lo + j)
      (omega arith) (omega arith) ∙ h.code n d e j l;
  vectors = λ n l.
      word-stays VECTORS 65536 s.memory (put_all s.memory ws) (VECTORS + 2 * n)
      (part-stays VECTORS 65536 s.memory ws (avoids VECTORS 65536 ws (omega arith) inside)) (omega arith) (omega arith)
      ∙ h.vectors n l;
}

-- ---- what is seen of a domain's code

pub code-seen : (s : System) (n : ℕ) (d : Domain) → IsSeen s → IsCodeInPlace s.memory s.placed
    → IsSoundKernel s.kernel s.placed s.steps → domain_in s.placed n ≡ Some d → HasBytes (seen s) d.code_lo (code_image d)
code-seen s n d see h k e j l =
    let pool : (CODE_POOL ≤ d.code_lo) × (d.code_lo + code_length d.object ≤ CODE_POOL_END) =
    code-in-pool s.kernel n d k.settled (k.domains.placed n d e) in
    see.above (d.code_lo + j) (omega (arith, pool.0)) ∙ h.code n d e j l

pub stands-so : Given → (d : Domain) (m : List ℕ) → d.code_lo % 2 ≡ 0 → HasBytes m d.code_lo (code_image d) → CodeStands d m
unfolding word_at
stands-so laws d m e h =
    let stands : image.CodeStands d m = laws.image d m e h in
    record { plain = λ at l u. stands.plain at l u; moved = λ at k l r. stands.moved at k l r }

-- ---- a thread that runs

pub record IsThread (s : System) (d : Domain) : Type 0 where
  pub app : app_of (running s.kernel) < 8
  pub kind : d.object.kind ≡ App
  pub is : IsDomain s.kernel.apps s.kernel.modules (app_of (running s.kernel)) d
  pub well : IsWellPlaced d
  pub stands : StandsIn d (seen s)
  pub stack : IsStack d (low_in s.kernel.apps (running s.kernel)) (top_in s.kernel.apps (running s.kernel))
  pub limits : Limits (seen s) (low_in s.kernel.apps (running s.kernel)) (top_in s.kernel.apps (running s.kernel))

pub thread-facts : Given → (s : System) (d : Domain) → IsSeen s → IsSound s → ThreadRuns s.kernel
    → domain_in s.placed (app_of (running s.kernel)) ≡ Some d → IsThread s d
thread-facts laws s d see h r e =
    let t : ℕ = running s.kernel in
    let is : IsDomain s.kernel.apps s.kernel.modules (app_of t) d = h.kernel.domains.placed (app_of t) d e in
    let on : IsOnStack s d = on-stack s d h r e in
    record {
      app = (let x = r.thread in omega arith);
      kind = on.kind;
      is = is;
      well = on.well;
      stands = record {
        memory = see.memory;
        placed = on.well;
        accepted = is.accepted;
        code = stands-so laws d (seen s) on.well.code_even (code-seen s (app_of t) d see h.code h.kernel e);
      };
      stack = on.stack;
      limits = limits-seen s d see h.kernel.settled.orderly r on.well on.stack;
    }

-- ---- who runs

pub no-module : (k : Kernel) → ThreadRuns k → module_runs k ≡ false
no-module k r = ap (λ (i : ℕ). not (eqb i none)) r.no_module

pub who-runs : (k : Kernel) → ThreadRuns k → who_runs k ≡ who.Thread (app_of (running k)) (number_of (running k))
who-runs k r =
    cond-false (module_runs k) _ _ (no-module k r)
    ∙ cond-false (eqb (running k) none) who.Idle _ (ne_eqb (running k) none (λ e. let l = r.thread in omega arith))

pub domain-runs : (k : Kernel) → ThreadRuns k → running_domain k ≡ app_of (running k)
domain-runs k r = ap (λ (i : ℕ). cond (eqb i none) (app_of (running k)) (8 + i)) r.no_module

not-counted : (k : Kernel) → ThreadRuns k → counted k ≡ k
not-counted k r = cond-false (module_runs k) _ k (no-module k r)

-- ---- one more step

pub later : (k : Kernel) (ds : List (Option Domain)) (n : ℕ) → IsSoundKernel k ds n → IsSoundKernel k ds (n + 1)
later k ds n h = record {
  settled = h.settled;
  domains = h.domains;
  saved = h.saved;
  populated = h.populated;
  functions = h.functions;
  bounded = record {
    ticks = omega (arith, h.bounded.ticks);
    count = h.bounded.count;
    no_count = h.bounded.no_count;
    lines =
        h.bounded.lines;
  };
}

-- ---- what stays

pub kernel-same : (own : Own) (k : Kernel) (c : List ℕ) → KernelKept own k k c
kernel-same own k c = record {
  rows = λ b l e. refl;
  threads = λ t l e. inl refl;
  mutexes = λ b i l m e. refl;
  conditions = λ b i l m e. refl;
  ready = inl refl;
  sleepers = refl;
  lines = λ n l. refl;
  functions = refl;
  modules = λ i l e. refl;
  ticks = refl;
  lines_pending = refl;
}

-- an address of one domain's region isn't one of another's
beside : (k : Kernel) (a n : ℕ) (d e : Domain) (w : ℕ) → IsSettledKernel k → IsDomain k.apps k.modules a d
    → IsDomain k.apps k.modules n e → a ≢ n → d.lo ≤ w → w < d.hi → (w < e.lo) ⊎ (e.hi ≤ w)
beside k a n d e w h da en ne l u =
    elim (cases_lt w e.lo) [ inl x ↦ inl x | inr x ↦ elim (cases_lt w e.hi) [ inl y ↦ absurd (both x y) | inr y ↦ inr y ] ]
  where
    p : HasPlaces (domain_at k a) d
    p = places-of k a d da

    q : HasPlaces (domain_at k n) e
    q = places-of k n e en

    both : e.lo ≤ w → w < e.hi → ⊥
    both x y = h.apart Data a n da.below en.below ne p.used q.used w
        (within (domain_at k a).region (omega (arith, p.from)) (omega (arith, p.to)))
        (within (domain_at k n).region (omega (arith, q.from)) (omega (arith, q.to)))
      where
        within : (r : Range) → r.from ≤ w → w < r.to → IsTrue (holds w r)
        within r f t = grind (arith, f, t)

-- ---- the step

steady-small : (w : ℕ × ℕ) → w.1 < 256 → w.1 < 256
steady-small w h = h

pub memory-after : (ws : List (ℕ × ℕ)) (m : List ℕ) → IsMemory m → AllByRecursion (λ w. w.1 < 256) ws → IsMemory (put_all m ws)
memory-after [] m h s = h
memory-after (w ∷ ws) m h s = memory-after ws (set m w.0 w.1) record { bytes = length-set m w.0 w.1 ∙ h.bytes; small = small } s.1
  where
    small : (k : ℕ) → get_or (set m w.0 w.1) k 0 < 256
    small k = elim (cases_eq k w.0)
        [ inl e ↦ there e | inr d ↦ subst (λ (x : ℕ). x < 256) (sym (get_or-set_other m w.0 k w.1 0 d)) (h.small k) ]
      where
        there : k ≡ w.0 → get_or (set m w.0 w.1) k 0 < 256
        there e = elim (cases_lt w.0 (length m)) [
          | inl i ↦ subst (λ (x : ℕ). x < 256) (sym (ap (λ (j : ℕ). get_or (set m w.0 w.1) j 0) e ∙ get_or-set_same m w.0 w.1 0 i))
              s.0
          | inr i ↦ subst (λ (x : ℕ). x < 256) (sym (get_or_past (set m w.0 w.1) k 0 (omega (arith, length-set m w.0 w.1))))
              (omega arith)
        ]

-- what a thread writes lies in its region
in-region : (d : Domain) (low top : ℕ) (w : ℕ × ℕ) → IsStack d low top → Inside d low top w → Within d.lo d.hi w
in-region d low top w s (inl i) = i
in-region d low top w s (inr i) = (omega (arith, i.0, s.within_low), omega (arith, i.1, s.within_top))

memory-kept : (s : System) (a : ℕ) (d : Domain) (ws : List (ℕ × ℕ)) → IsSound s → IsDomain s.kernel.apps s.kernel.modules a d
    → AllByRecursion (Within d.lo d.hi) ws → AllByRecursion IsInPools ws
    → MemoryKept (of_app a) s.placed s.memory (put_all s.memory ws)
memory-kept s a d ws h da inside pools = record {
  code = λ n e other here k l u.
      let pool : (CODE_POOL ≤ e.code_lo) × (e.code_lo + code_length e.object ≤ CODE_POOL_END) =
      code-in-pool s.kernel n e h.kernel.settled (h.kernel.domains.placed n e here) in
      part-stays e.code_lo (e.code_lo + code_length e.object) s.memory ws
      (avoids e.code_lo (e.code_lo + code_length e.object) ws pool.0 pools) k l u;
  region = λ n e other here.
      part-stays e.lo e.hi s.memory ws (all-map (Within d.lo d.hi) (λ w. (w.0 < e.lo) ⊎ (e.hi ≤ w.0))
      (λ w i. beside s.kernel a n d e w.0 h.kernel.settled da (h.kernel.domains.placed n e here)
      (λ same. eqb-false n a other (sym same)) i.0 i.1) ws inside);
}

pub step-keeps : (s after : System) → ThreadRuns s.kernel → OthersKept (app_of (running s.kernel)) s after
    → StepKeeps (who_runs s.kernel) s after
step-keeps s after r h = subst (λ (w : Who). StepKeeps w s after) (sym (who-runs s.kernel r)) h

-- the stack of a running thread
pub own-stack : (k : Kernel) (c : List ℕ) (i : Instr) (e : Effect) → ThreadRuns k
    → StaysInStack (low_in k.apps (running k)) (top_in k.apps (running k)) c i e
    → StaysInStack (stack_low_in k) (stack_top_in k) c i e
own-stack k c i e r h =
    subst (λ (l : ℕ). StaysInStack l (stack_top_in k) c i e)
    (sym (cond-false (module_runs k) KERNEL_STACK (low_in k.apps (running k)) (no-module k r)))
    (subst (λ (u : ℕ). StaysInStack (low_in k.apps (running k)) u c i e)
    (sym (cond-false (module_runs k) KERNEL_TOP (top_in k.apps (running k)) (no-module k r))) h)

-- by the kernel that is as it was, and by who runs
by-thread : (s : System) (d : Domain) → IsSeen s → IsSound s → (r : ThreadRuns s.kernel)
    → domain_in s.placed (app_of (running s.kernel)) ≡ Some d → IsThread s d
    → (place : StepsAt d (seen s) s.context) → IsMemory (put_all s.memory (does (seen s) s.context place.instr place.words).written)
    → Leads d (low_in s.kernel.apps (running s.kernel)) (top_in s.kernel.apps (running s.kernel))
    (does (seen s) s.context place.instr place.words)
    → StaysInStack (low_in s.kernel.apps (running s.kernel)) (top_in s.kernel.apps (running s.kernel)) s.context place.instr
    (does (seen s) s.context place.instr place.words)
    → IsSafe s (by_effect s s.kernel (does (seen s) s.context place.instr place.words)
    (record_of.Instr (s.steps + 1) (who_runs s.kernel) (reg s.context 0) (word_at (seen s) (reg s.context 0))
    (does (seen s) s.context place.instr place.words).written))
by-thread s d see h r e f place memory leads stays =
    let t : ℕ = running s.kernel in
    let does-so : Effect = does (seen s) s.context place.instr place.words in
    let ws : List (ℕ × ℕ) = does-so.written in
    let own : AllByRecursion (Within d.lo d.hi) ws =
    all-map (Inside d (low_in s.kernel.apps t) (top_in s.kernel.apps t)) (Within d.lo d.hi)
    (λ w i. in-region d (low_in s.kernel.apps t) (top_in s.kernel.apps t) w f.stack i) ws leads.inside in
    let pools : AllByRecursion IsInPools ws =
    all-map (Within d.lo d.hi) IsInPools (λ w i. inr (omega (arith, i.0, f.well.lo_low), omega (arith, i.1, f.well.hi_high))) ws
    own in
    record {
      sound = record {
        code = writes s ws h.code h.kernel pools memory;
        kernel = later s.kernel s.placed s.steps h.kernel;
        running = AThread r record { domain = d; placed = e; good = leads.good };
      };
      confined = record {
        domain = d;
        runs = record { placed = ap (domain_in s.placed) (domain-runs s.kernel r) ∙ e; who = refl };
        at_pc = refl;
        first = refl;
        place = place;
        image = code-seen s (app_of t) d see h.code h.kernel e;
        written = refl;
        inside = subst (λ (k : Kind). AllByRecursion (MayWrite k d) ws) (sym f.kind) own;
        stack = own-stack s.kernel s.context place.instr does-so r stays;
      };
      keeps = step-keeps s (record s { memory = put_all s.memory ws; context = does-so.context; steps = s.steps + 1 }) r record {
        memory = memory-kept s (app_of t) d ws h f.is own pools;
        kernel = kernel-same (of_app (app_of t)) s.kernel does-so.context;
        placed = refl;
      };
      spelled = record { instr = place.instr; words = place.words; fetched = place.fetched; context = refl; memory = refl };
    }

pub word-small : (m : List ℕ) (a : ℕ) → IsMemory m → word_at m a < 65536
unfolding word_at
word-small m a h = omega (arith, h.small (even a), h.small (even a + 1))

same-counted : (s : System) (e : Effect) (told : Record) → ThreadRuns s.kernel → IsSafe s (by_effect s s.kernel e told)
    → IsSafe s (by_effect s (counted s.kernel) e told)
same-counted s e told r h = subst (λ (k : Kernel). IsSafe s (by_effect s k e told)) (sym (not-counted s.kernel r)) h

-- the instruction that a thread stands at
pub thread-steps : Given → (s : System) → IsSeen s → IsSound s → (r : ThreadRuns s.kernel)
    → IsGoodFor s.kernel.apps s.placed (running s.kernel) s.context → reg s.context 0 < FIRST_ENTRY
    → IsSafe s (instruction s (fetched (seen s) (reg s.context 0)))
thread-steps laws s see h r good l =
    let d : Domain = good.domain in
    let low : ℕ = low_in s.kernel.apps (running s.kernel) in
    let top : ℕ = top_in s.kernel.apps (running s.kernel) in
    let f : IsThread s d = thread-facts laws s d see h r good.placed in
    let place : StepsAt d (seen s) s.context = laws.fetches d low top (seen s) s.context f.stands good.good l in
    let is : fetched (seen s) (reg s.context 0) ≡ Some (place.instr, place.words) =
    (laws.fetched (seen s) (reg s.context 0) place.instr place.words see.memory).1 place.fetched in
    subst (λ (o : Option (Instr × ℕ)). IsSafe s (instruction s o)) (sym is)
    (same-counted s (does (seen s) s.context place.instr place.words) _ r
    (by-thread s d see h r good.placed f place
    (memory-after (does (seen s) s.context place.instr place.words).written s.memory h.code.memory
    (laws.written (seen s) s.context place.instr place.words see.memory good.good.steady.context))
    (laws.instruction d low top (seen s) s.context place.instr place.words f.stands f.limits good.good l place.fetched)
    (laws.stack d low top (seen s) s.context place.instr place.words f.stands f.limits good.good l place.fetched)))
