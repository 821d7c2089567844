-- A thread that a running thread spawns.
use Rattle.std.proofs.Common.{◌≡◌, ◌≢◌, ℕ, zero, suc, ◌%◌, ◌<◌, ◌≤◌, ◌⊎◌, Bool, true, false, not, eqb, cond, List, [], ◌∷◌, length, get_or, set, refl, sym, ap, ◌∙◌, subst, inl, inr, arith, Option, None, Some, Contains}
use Rattle.std.specs.Prelude.{nat_lt, ◌||◌}
use Rattle.std.specs.List.{AllByRecursion}
use Rattle.std.proofs.lemmas.Bool.{cases_eq, eq-eqb, eqb-true, eqb-false, ltb-false}
use Rattle.std.proofs.lemmas.List.{get_or-set_same, get_or-set_other, length-set}
use Rattle.std.proofs.lemmas.List.Elements.{Contains-get_or}
use Rattle.std.proofs.lemmas.List.FromFn.{get_or-map-range_with_len, length-map-range_with_len}
use Rattle.machine_model.specs.Memory.{word_at}
use Rattle.machine_model.specs.Context.{reg, set_reg, IsContext}
use Rattle.machine_laws.specs.Steady.{IsSteady, IsStatus}
use Rattle.kernel_model.specs.declared.entries.TheConstants.{CALLS, SPAWN}
use Rattle.kernel_model.specs.declared.kinds.Kind.{Kind}
use Rattle.kernel_model.specs.declared.kinds.Kind.TheVariants.{App, Module}
use Rattle.kernel_model.specs.Kernel.{Kernel, thread_at, with_thread, app_at, free_thread}
use Rattle.kernel_model.specs.Words.{free, live, running, app_of, number_of, identity, ready_row, stack_high}
use Rattle.kernel_model.specs.declared.rows.AppRow.{AppRow}
use Rattle.kernel_model.specs.declared.rows.ThreadRow.{ThreadRow}
use Rattle.kernel_model.specs.Running.{ThreadRuns, running_domain, new_context}
use Rattle.kernel_model.specs.Starting.{begun, MayBegin, is_free_thread, threads_of, free_threads}
use Rattle.kernel_model.specs.Entries.{next_thread, spawned}
use Rattle.kernel_model.specs.declared.code.Code.TheVariants.{Full, BadArgument}
use Rattle.thread_laws.specs.Facts.{IsRunning as IsRunningRow}
use Rattle.thread_laws.proofs.Spots.{running_is}
use Rattle.thread_laws.proofs.Filtered.{filter_had}
use Rattle.thread_laws.proofs.MovingRules.{row_put}
use Rattle.thread_laws.proofs.ReadyRules.{begun_stays_settled}
use Rattle.load_model.specs.Domains.{Domain}
use Rattle.node_model.specs.Placed.{bits, control_bits}
use Rattle.node_model.specs.Systems.{System, seen, domain_in, is_mark}
use Rattle.node_model.specs.Entries.{Spawn, work, row, returning, unless, after_giving}
use Rattle.node_model.specs.Steps.{by_turn}
use Rattle.node_model.specs.Sound.{IsAppRowOf, HasThread, ArePopulated, IsSoundKernel, IsGoodFor, low_in, top_in}
use Rattle.node_model.specs.Laws.{IsSafe}
use Rattle.node_laws.specs.Facts.{Given}
use Rattle.node_laws.proofs.Rows.{saved-put, populated-put}
use Rattle.node_laws.proofs.Domains.{of-app, IsStack, stack-in}
use Rattle.node_laws.proofs.Stepping.{domain-runs}
use Rattle.node_laws.proofs.Contexts.{IsMark, mark-of, good-mark, returned}
use Rattle.node_laws.proofs.Untouched.{IsUntouched, untouched-twice, untouched-row, untouched-ready}
use Rattle.node_laws.proofs.Calls.{IsCalling, own_of, own-thread, IsReturned, with-register, good-returned}
use Rattle.node_laws.proofs.Faulting.{goes-safe, code-safe, entered-by, behind-return}

-- ---- the thread that is next

pub record IsNext (k : Kernel) (t : ℕ) : Type 0 where
  pub app : app_of t ≡ app_of (running k)
  pub within : number_of t < (app_at k (app_of (running k))).threads
  pub below : t < 32
  pub free : (thread_at k t).state ≡ free

next-is : (k : Kernel) (ds : List (Option Domain)) (n : ℕ) → IsSoundKernel k ds n → ThreadRuns k
    → length (free_threads k (app_of (running k))) ≢ 0 → IsNext k (next_thread k)
next-is k ds n h r some = from
    (filter_had (is_free_thread k) (threads_of k a) t (Contains-get_or (free_threads k a) 0 0 (omega arith)))
  where
    a : ℕ
    a = app_of (running k)

    t : ℕ
    t = next_thread k

    live-app : (app_at k a).state ≡ live
    live-app = (running_is k h.settled.orderly r).app

    few : (app_at k a).threads ≤ 4
    few = (h.settled.apps a (let x = r.thread in omega arith) (λ e. omega (arith, live-app))).threads

    from : Contains (threads_of k a) t × (is_free_thread k t ≡ true) → IsNext k t
    from (c, f) =
        let l : c.0 < (app_at k a).threads = omega (arith, c.1, length-map-range_with_len (identity a) 0 (app_at k a).threads) in
        let here : identity a c.0 ≡ t =
        sym (get_or-map-range_with_len (identity a) 0 (app_at k a).threads c.0 c.0 _ l (omega arith)) ∙ c.2 in
        let below : running k < 32 = r.thread in
        record {
          app = omega (arith, here, few);
          within = omega (arith, here, few);
          below = omega (arith, here, few);
          free = eqb-true (thread_at k t).state free f;
        }

may-begin : (k : Kernel) (t : ℕ) → IsNext k t → (app_at k (app_of (running k))).state ≡ live → MayBegin k t
may-begin k t n alive = record {
  number = n.below;
  app = ap (λ (a : ℕ). (app_at k a).state) n.app ∙ alive;
  within = subst (λ (a : ℕ). t < identity a (app_at k a).threads) (sym n.app) (let x = n.app in let y = n.within in omega arith);
  free = n.free;
}

-- ---- its first context

small-list : (xs : List ℕ) → AllByRecursion (λ x. x < 65536) xs → (k : ℕ) → get_or xs k 0 < 65536
small-list [] h k = omega arith
small-list (x ∷ xs) h zero = h.0
small-list (x ∷ xs) h (suc k) = small-list xs h.1 k

pub new-context : (pc sp r12 : ℕ) → pc % 2 ≡ 0 → sp % 2 ≡ 0 → pc < 65536 → sp < 65536 → r12 < 65536
    → IsContext (new_context pc sp r12)
new-context pc sp r12 a b c d e =
    let z : 0 < 65536 = omega arith in
    record {
      words = refl;
      pc_even = a;
      sp_even = b;
      zero = refl;
      small = small-list (new_context pc sp r12)
          (c, (d, (omega arith, (z, (z, (z, (z, (z, (z, (z, (z, (z, (e, (z, (z, (z, tt))))))))))))))));
    }

pub status-new : (k : Kind) → k ≡ App → IsStatus (control_bits k) 8
status-new App e = record { high = refl; control = refl }
status-new Module e = absurd (cc)

-- ---- the kernel with it

same-populated : (apps : List AppRow) (threads : List ThreadRow) (t : ℕ) (row : ThreadRow) → t < length threads
    → row.state ≡ (get_or threads t free_thread).state → ArePopulated apps threads → ArePopulated apps (set threads t row)
same-populated apps threads t row l e h a la alive = from (h a la alive)
  where
    from : HasThread threads a → HasThread (set threads t row) a
    from has = (has.0, has.1, on (cases_eq (identity a has.0) t))
      where
        on : (identity a has.0 ≡ t) ⊎ (identity a has.0 ≢ t)
            → (get_or (set threads t row) (identity a has.0) free_thread).state ≢ free
        on (inl s) = λ f. has.2 (ap (λ (u : ℕ). (get_or threads u free_thread).state) s ∙ sym e
            ∙ ap (λ (r : ThreadRow). r.state) (sym (get_or-set_same threads t row free_thread l))
            ∙ ap (λ (u : ℕ). (get_or (set threads t row) u free_thread).state) (sym s) ∙ f)
        on (inr n) = subst (λ (r : ThreadRow). r.state ≢ free)
            (sym (get_or-set_other threads t (identity a has.0) row free_thread n)) has.2

first-row : (k : Kernel) (t pc p r12 : ℕ) → ThreadRow
first-row k t pc p r12 = record (thread_at k t) { regs = new_context pc (stack_high k t) r12; priority = p }

sound-begun : (k : Kernel) (ds : List (Option Domain)) (n t pc p r12 : ℕ) → IsSoundKernel k ds n → MayBegin k t → p ≤ 7
    → IsGoodFor k.apps ds t (new_context pc (stack_high k t) r12)
    → IsSoundKernel (begun k t pc p r12) ds n
unfolding first-row
sound-begun k ds n t pc p r12 h may l good =
    let size : length k.threads ≡ 32 = h.settled.orderly.shape.thread_rows in
    let lt : t < length k.threads = (let x = may.number in omega arith) in
    let k1 : Kernel = with_thread k t (first-row k t pc p r12) in
    let same : thread_at k1 t ≡ first-row k t pc p r12 = row_put k t (first-row k t pc p r12) may.number size in
    let lt1 : t < length k1.threads = omega (arith, length-set k.threads t (first-row k t pc p r12)) in
    record {
      settled = begun_stays_settled k t pc p r12 h.settled may l;
      domains = h.domains;
      saved = saved-put k.apps ds k1.threads t (ready_row (thread_at k1 t)) lt1
          (λ _ _. record {
            good = subst (λ (r : ThreadRow). IsGoodFor k.apps ds t r.regs) (sym same) good;
            mark =
                λ other. absurd (other refl);
          })
          (saved-put k.apps ds k.threads t (first-row k t pc p r12) lt (λ on. absurd (on may.free)) h.saved);
      populated = populated-put k.apps k1.threads t (ready_row (thread_at k1 t)) lt1 (λ off. omega arith)
          (same-populated k.apps k.threads t (first-row k t pc p r12) lt refl h.populated);
      functions = h.functions;
      bounded = h.bounded;
    }

untouched-begun : (s : System) (t pc p r12 : ℕ) → app_of t ≡ app_of (running s.kernel)
    → IsUntouched (own_of s) s.kernel (begun s.kernel t pc p r12)
unfolding first-row
untouched-begun s t pc p r12 e =
    let k : Kernel = s.kernel in
    let own : (own_of s).threads t ≡ true = eq-eqb (app_of t) (app_of (running k)) e in
    let k1 : Kernel = with_thread k t (first-row k t pc p r12) in
    let k2 : Kernel = with_thread k1 t (ready_row (thread_at k1 t)) in
    untouched-twice (own_of s) k k1 (begun k t pc p r12) (untouched-row (own_of s) k t (first-row k t pc p r12) own)
    (untouched-twice (own_of s) k1 k2 (begun k t pc p r12) (untouched-row (own_of s) k1 t (ready_row (thread_at k1 t)) own)
    (untouched-ready (own_of s) k2 _ t own))

-- ---- the call

spawns : Given → (s : System) (d : Domain) (pick : Option ℕ) (c : List ℕ) → IsCalling s d SPAWN → IsReturned s d c
    → is_mark s.placed (running_domain s.kernel) (reg c 12) ≡ true → reg c 13 ≤ 7
    → length (free_threads s.kernel (app_of (running s.kernel))) ≢ 0
    → IsSafe s (by_turn s (after_giving Spawn (record (work s pick) { context = c }) (spawned s.kernel c)
    (number_of (next_thread s.kernel))))
spawns laws s d pick c x is e p some =
    let k : Kernel = s.kernel in
    let t : ℕ = next_thread k in
    let next : IsNext k t = next-is k s.placed s.steps x.sound.kernel x.runs some in
    let run : IsRunningRow k (running k) = running_is k x.sound.kernel.settled.orderly x.runs in
    let may : MayBegin k t = may-begin k t next run.app in
    let row : IsAppRowOf d (app_at k (app_of (running k))) =
    (of-app k.apps k.modules (app_of (running k)) d x.facts.app x.facts.is).1 in
    let row-t : IsAppRowOf d (app_at k (app_of t)) = subst (λ (a : ℕ). IsAppRowOf d (app_at k a)) (sym next.app) row in
    let stack : IsStack d (low_in k.apps t) (top_in k.apps t) =
    stack-in k.apps t d x.facts.well x.facts.kind x.facts.is.region row-t (omega (arith, next.within, row.threads)) in
    let mark : IsMark d (reg c 12) =
    mark-of s.placed (app_of (running k)) (reg c 12) d x.placed x.facts.is.accepted
    (subst (λ (n : ℕ). is_mark s.placed n (reg c 12) ≡ true) (domain-runs k x.runs) e) in
    let new : List ℕ = new_context (reg c 12) (stack_high k t) (reg c 14) in
    let steady : IsSteady (bits d) (low_in k.apps t) (top_in k.apps t) new = record {
      context = new-context (reg c 12) (stack_high k t) (reg c 14) mark.even_at stack.top_even (is.steady.context.small 12)
          (omega (arith, stack.within_top, x.facts.well.hi_high)) (is.steady.context.small 14);
      room = omega (arith, stack.room);
      within = omega arith;
      status = status-new d.object.kind x.facts.kind;
    } in
    let good : IsGoodFor k.apps s.placed t new =
    record {
      domain = d;
      placed = ap (domain_in s.placed) next.app ∙ x.placed;
      good =
          good-mark d (low_in k.apps t) (top_in k.apps t) new steady x.facts.well mark;
    } in
    goes-safe laws s d pick (spawned k c) (set_reg (set_reg c 13 (number_of t)) 12 0) _ x
    record {
      sound = sound-begun k s.placed s.steps t (reg c 12) (reg c 13) (reg c 14) x.sound.kernel may p good;
      runs = record { thread = x.runs.thread; no_module = x.runs.no_module };
      own = own-thread s;
      untouched = untouched-begun s t (reg c 12) (reg c 13) (reg c 14) next.app;
    }
    (good-returned s d _ x (with-register s d _ 12 0 (omega arith) (omega arith)
    (with-register s d c 13 (number_of t) (omega arith) (omega arith) is))) (entered-by s SPAWN)

spawn-by : Given → (s : System) (d : Domain) (pick : Option ℕ) (c : List ℕ) → IsCalling s d SPAWN → IsReturned s d c
    → (m : Bool) → is_mark s.placed (running_domain s.kernel) (reg c 12) ≡ m → (p : Bool) → nat_lt 7 (reg c 13) ≡ p → (f : Bool)
    → eqb (length (free_threads s.kernel (app_of (running s.kernel)))) 0 ≡ f
    → IsSafe s (by_turn s (unless Spawn (record (work s pick) { context = c })
    (cond (not m || p) (Some BadArgument) (cond f (Some Full) None))
    (after_giving Spawn (record (work s pick) { context = c }) (spawned s.kernel c) (number_of (next_thread s.kernel)))))
spawn-by laws s d pick c x is false em p ep f ef = code-safe laws s d pick Spawn BadArgument c x is
spawn-by laws s d pick c x is true em true ep f ef = code-safe laws s d pick Spawn BadArgument c x is
spawn-by laws s d pick c x is true em false ep true ef = code-safe laws s d pick Spawn Full c x is
spawn-by laws s d pick c x is true em false ep false ef =
    spawns laws s d pick c x is em (ltb-false 7 (reg c 13) ep) (eqb-false _ 0 ef)

pub spawn-safe : Given → (s : System) (d : Domain) (pick : Option ℕ) → IsCalling s d SPAWN → CALLS ≤ reg s.context 0
    → is_mark s.placed (running_domain s.kernel) (word_at (seen s) (reg s.context 1)) ≡ true
    → IsSafe s (by_turn s (row Spawn (returning (work s pick))))
spawn-safe laws s d pick x l is =
    let c : List ℕ = returned s.context (word_at (seen s) (reg s.context 1)) in
    spawn-by laws s d pick c x (behind-return laws s d x l is) (is_mark s.placed (running_domain s.kernel) (reg c 12)) refl
    (nat_lt 7 (reg c 13)) refl (eqb (length (free_threads s.kernel (app_of (running s.kernel)))) 0) refl
