-- The kernel of a booted system is orderly, and its one domain lies in the pools.
use Rattle.std.proofs.Common.{◌≡◌, ◌≢◌, ℕ, zero, suc, ◌+◌, ◌*◌, ◌-◌, ◌%◌, ◌<◌, List, [], ◌∷◌, map, replicate, get_or, Bool, true, false, cond, ltb, refl, ap, sym, ◌∙◌, subst, arith, AllPairs, Contains}
use Rattle.std.proofs.lemmas.List.{get_or-replicate}
use Rattle.kernel_model.specs.Kernel.{thread_at, app_at, mutex_at, condition_at, line_at, function_at, module_at, free_app, free_module, free_thread, free_function, free_mutex, empty_row}
use Rattle.kernel_model.specs.Words.{on_condition, app_of, identity, waiters_of}
use Rattle.kernel_model.specs.Orderly.{IsOrderly, IsPlaced, IsThreadRow, IsLiveThread, IsMutex, IsOnCondition, Spot, spot, spot_of, listed, of_four}
use Rattle.kernel_model.specs.Orderly.Spot.{Nowhere, Ready, Runs, Asleep, OnMutex, OnCondition, OnLine, Calls}
use Rattle.kernel_model.specs.declared.rows.AppRow.{AppRow}
use Rattle.kernel_model.specs.declared.rows.ModuleRow.{ModuleRow}
use Rattle.kernel_model.specs.declared.rows.ThreadRow.{ThreadRow}
use Rattle.kernel_model.specs.declared.rows.MutexRow.{MutexRow}
use Rattle.kernel_model.specs.declared.rows.FnRow.{FnRow}
use Rattle.kernel_model.proofs.EmptyLemmas.{same_row, none_of_four, nobody, empty_row_is, free_mutex_is}
use Rattle.place_model.specs.declared.places.Pool.{Pool}
use Rattle.place_model.specs.declared.places.Pool.TheVariants.{Code, Data}
use Rattle.place_model.specs.Placing.{app_domain, module_domain, domain_at, pool_range, range_in}
use Rattle.place_model.specs.Settled.{IsSettledKernel, IsInUse, IsInPool, IsAppPlace, AreApart}
use Rattle.node_examples.specs.First.{first_row, first_thread, first_kernel}

-- ---- its rows and lists

other-thread : (t : ℕ) → suc t < 32 → thread_at first_kernel (suc t) ≡ empty_row
unfolding first_kernel
other-thread t l = get_or-replicate 31 t empty_row free_thread (omega arith)

mutex : (a i : ℕ) → mutex_at first_kernel a i ≡ free_mutex
unfolding first_kernel
mutex a i = same_row 32 (4 * a + i) free_mutex

condition : (a i : ℕ) → condition_at first_kernel a i ≡ []
unfolding first_kernel
condition a i = same_row 32 (4 * a + i) []

line : (n : ℕ) → line_at first_kernel n ≡ []
unfolding first_kernel
line n = same_row 14 n []

function : (f : ℕ) → function_at first_kernel f ≡ free_function
unfolding first_kernel
function f = same_row 64 f free_function

-- ---- who is listed where: thread 0 runs, and nobody else is listed

-- the spot is where the running thread is listed
listed-there : Spot → List ℕ
listed-there Runs = 0 ∷ []
listed-there _ = []

listed-is : (s : Spot) → listed first_kernel s ≡ listed-there s
unfolding first_kernel listed-there
listed-is Nowhere = refl
listed-is Ready = refl
listed-is Runs = refl
listed-is Asleep = refl
listed-is (OnMutex a i) = ap (λ (r : MutexRow). of_four i (map (identity a) r.waiters.items)) (mutex a i) ∙ none_of_four i
listed-is (OnCondition a c) = ap (λ (xs : List ℕ). of_four c (map (identity a) xs)) (condition a c) ∙ none_of_four c
listed-is (OnLine n) = line n
listed-is Calls = refl

alone : (t k : ℕ) → k < 1 → get_or (0 ∷ []) k t ≡ t → t ≡ 0
alone t zero l e = sym e
alone t (suc k) l e = absurd (omega arith)

elsewhere : (s : Spot) (t : ℕ) → Contains (listed-there s) t → (t < 32) × (spot_of first_kernel t ≡ s)
unfolding listed-there first_kernel
elsewhere Runs t c =
    let at : t ≡ 0 = alone t c.0 c.1 c.2 in
    let runs : spot_of first_kernel 0 ≡ Runs = refl in
    (omega arith, ap (λ (n : ℕ). spot_of first_kernel n) at ∙ runs)
elsewhere s t c = absurd (nobody t c)

one-each : (s : Spot) → AllPairs (λ x y. x ≢ y) (listed-there s)
unfolding listed-there
one-each Runs = λ i j d lt l. absurd (omega arith)
one-each s = λ i j d lt l. absurd (omega arith)

there : (t : ℕ) → t < 32 → spot_of first_kernel t ≢ Nowhere → Contains (listed first_kernel (spot_of first_kernel t)) t
unfolding first_kernel
there zero l away = (0, omega arith, refl)
there (suc t) l away = absurd (away (ap (λ (r : ThreadRow). spot (app_of (suc t)) r.state r.object) (other-thread t l)))

placed : IsPlaced first_kernel
placed = record {
  there = there;
  nowhere_else = λ s t c. elsewhere s t (subst (λ (xs : List ℕ). Contains xs t) (listed-is s) c);
  once = λ s. subst (λ (xs : List ℕ). AllPairs (λ x y. x ≢ y) xs) (sym (listed-is s)) (one-each s);
}

-- ---- its rows

rows : (t : ℕ) → t < 32 → IsThreadRow (thread_at first_kernel t)
unfolding first_kernel
rows zero l = record { registers = refl; state = omega arith; priority = omega arith; waits = λ a b c. refl; takes = λ a. refl; wakes = λ a. (refl, refl) }
rows (suc t) l = subst (λ (r : ThreadRow). IsThreadRow r) (sym (other-thread t l)) empty_row_is

none-lives : (t : ℕ) → suc t < 32 → (thread_at first_kernel (suc t)).state ≡ 0
none-lives t l = ap (λ (r : ThreadRow). r.state) (other-thread t l)

threads : (t : ℕ) → t < 32 → (thread_at first_kernel t).state ≢ 0 → IsLiveThread (app_at first_kernel (app_of t)) t
unfolding first_kernel
threads zero l alive = record { alive = refl; number = omega arith }
threads (suc t) l alive = absurd (alive (none-lives t l))

conditions : (t : ℕ) → t < 32 → (thread_at first_kernel t).state ≡ on_condition → IsOnCondition first_kernel.mutexes t (thread_at first_kernel t)
unfolding first_kernel
conditions zero l on = let clash : 2 ≡ 5 = on in absurd (omega arith)
conditions (suc t) l on = let clash : 0 ≡ on_condition = sym (none-lives t l) ∙ on in absurd (omega arith)

orderly : IsOrderly first_kernel
unfolding first_kernel
orderly = record {
  shape = record { app_rows = refl; module_rows = refl; function_rows = refl; thread_rows = refl; mutex_rows = refl; condition_lists = refl; line_lists = refl };
  limit = refl;
  top = refl;
  rows = rows;
  threads = threads;
  placed = placed;
  caller = λ calls. absurd (calls refl);
  callee = λ calls. absurd (calls refl);
  mutexes = λ a i h l. subst (λ (r : MutexRow). IsMutex first_kernel.threads a r) (sym (mutex a i)) (free_mutex_is first_kernel.threads a);
  conditions = conditions;
  by_priority = λ i j d lt l. absurd (omega arith);
  by_wake_time = λ i j d lt l. absurd (omega arith);
  later = λ k d l. absurd (omega arith);
  functions = λ f h exported. absurd (exported (ap (λ (r : FnRow). r.module) (function f)));
}

-- ---- its places

free-state : (n : ℕ) → (domain_at first_kernel (suc n)).state ≡ 0
unfolding first_kernel
free-state n =
    elim (ltb (suc n) 8) as (λ (b : Bool). (cond b (app_domain (app_at first_kernel (suc n))) (module_domain (module_at first_kernel (suc n - 8)))).state ≡ 0)
    [ true ↦ ap (λ (r : AppRow). r.state) (same_row 7 n free_app) | false ↦ ap (λ (r : ModuleRow). r.state) (same_row 4 (suc n - 8) free_module) ]

unused : (n : ℕ) → IsInUse first_kernel (suc n) → ⊥
unused n used = used (free-state n)

inside : (p : Pool) (n : ℕ) → n < 12 → IsInUse first_kernel n → IsInPool (pool_range p) (range_in p (domain_at first_kernel n))
unfolding first_kernel
inside Code zero l used = record { from_even = refl; to_even = refl; from = omega arith; up = omega arith; to = omega arith }
inside Data zero l used = record { from_even = refl; to_even = refl; from = omega arith; up = omega arith; to = omega arith }
inside p (suc n) l used = absurd (unused n used)

apart : (p : Pool) (n i : ℕ) → n < 12 → i < 12 → n ≢ i → IsInUse first_kernel n → IsInUse first_kernel i
    → AreApart (range_in p (domain_at first_kernel n)) (range_in p (domain_at first_kernel i))
apart p zero zero l h other a b = absurd (other refl)
apart p zero (suc i) l h other a b = absurd (unused i b)
apart p (suc n) i l h other a b = absurd (unused n a)

apps : (a : ℕ) → a < 8 → (app_at first_kernel a).state ≢ 0 → IsAppPlace (app_at first_kernel a)
unfolding first_kernel
apps zero l used = record { threads = omega arith; z_even = refl; stack_even = refl; fits = omega arith }
apps (suc a) l used = absurd (used (ap (λ (r : AppRow). r.state) (same_row 7 a free_app)))

pub settled : IsSettledKernel first_kernel
settled = record {
  orderly = orderly;
  inside = inside;
  apart = apart;
  apps = apps;
  functions = λ f l. ap (λ (r : FnRow). r.address % 2) (function f);
}
