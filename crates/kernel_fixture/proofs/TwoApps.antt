-- The kernel of the tests is settled: two applications are loaded, and no thread is live.
use Rattle.std.proofs.Common.{◌≡◌, ◌≢◌, ℕ, zero, suc, ◌+◌, ◌-◌, ◌*◌, ◌%◌, ◌<◌, ◌≤◌, Bool, true, false, List, [], get_or, set, replicate, refl, sym, ap, ◌∙◌, subst, inl, inr, arith, lit≤, AllPairs, Contains, IsTrue}
use Rattle.std.specs.Prelude.{nat_lt, if◌then◌else◌}
use Rattle.std.proofs.lemmas.Bool.{cases_eq}
use Rattle.std.proofs.lemmas.Bool.Decides.{nat_tests}
use Rattle.std.proofs.lemmas.List.{get_or-replicate, get_or-set_other, length-set}
use Rattle.kernel_model.specs.Kernel.{Kernel, with_app, app_at, module_at, thread_at, free_app, free_module, free_function, free_thread, free_mutex, empty_row}
use Rattle.kernel_model.specs.Words.{free, app_of, identity, saved_register}
use Rattle.kernel_model.specs.Layout.{kernel_of, empty}
use Rattle.kernel_model.specs.Queues.{Leaves}
use Rattle.kernel_model.specs.Orderly.{IsOrderly, IsThreadRow, IsMutex, Spot, spot, spot_of, listed}
use Rattle.kernel_model.specs.Orderly.Spot.{Nowhere, Ready, Runs, Asleep, OnMutex, OnCondition, OnLine, Calls}
use Rattle.kernel_model.specs.declared.rows.AppRow.{AppRow}
use Rattle.kernel_model.specs.declared.rows.ModuleRow.{ModuleRow}
use Rattle.kernel_model.specs.declared.rows.FnRow.{FnRow}
use Rattle.kernel_model.specs.declared.rows.ThreadRow.{ThreadRow}
use Rattle.kernel_tables.specs.Clearing.{Cleared}
use Rattle.place_model.specs.declared.places.DomainRow.{DomainRow}
use Rattle.place_model.specs.declared.places.Range.{Range}
use Rattle.place_model.specs.declared.places.Pool.{Pool}
use Rattle.place_model.specs.declared.places.Pool.TheVariants.{Code, Data}
use Rattle.place_model.specs.Gaps.{holds}
use Rattle.place_model.specs.Placing.{app_domain, module_domain, domain_at, pool_range, range_in}
use Rattle.place_model.specs.Settled.{IsInPool, AreApart, IsAppPlace, IsInUse, IsSettledKernel, IsSettled}

-- ---- rows

abbrev pub first_app : AppRow
first_app = record { state = 1; code_lo = 0x6000; code_hi = 0x6010; lo = 0x2000; hi = 0x2022; z = 2; stack = 16; threads = 2 }

abbrev pub second_app : AppRow
second_app = record { state = 1; code_lo = 0x6010; code_hi = 0x6020; lo = 0x2022; hi = 0x2066; z = 4; stack = 32; threads = 2 }

-- a row that keeps an entry in register R0
abbrev pub entry_row : (entry : ℕ) → ThreadRow
entry_row e = record empty_row { regs = set empty_row.regs 0 e }

abbrev rows : List ThreadRow
rows = set (set (replicate 32 empty_row) 0 (entry_row 0x6004)) 4 (entry_row 0x6010)

abbrev apps : List AppRow
apps = set (set (replicate 8 free_app) 0 first_app) 1 second_app

abbrev two_apps : Kernel
two_apps = saved_register (saved_register (with_app (with_app empty 0 first_app) 1 second_app) 0 0 0x6004) 4 0 0x6010

-- each row is one of the three
row_is : (P : ThreadRow → Type 0) → P empty_row → P (entry_row 0x6004) → P (entry_row 0x6010) → (t : ℕ) → t < 32 → P (thread_at two_apps t)
unfolding empty
row_is P e f g t h = elim (cases_eq t 4) [
  | inl four ↦ subst (λ (i : ℕ). P (get_or rows i free_thread)) (sym four) g
  | inr not4 ↦ elim (cases_eq t 0) [
    | inl none ↦ subst (λ (i : ℕ). P (get_or rows i free_thread)) (sym none) f
    | inr not0 ↦
        subst (λ (r : ThreadRow). P r)
        (sym (get_or-set_other (set (replicate 32 empty_row) 0 (entry_row 0x6004)) 4 t (entry_row 0x6010) free_thread not4
        ∙ get_or-set_other (replicate 32 empty_row) 0 t (entry_row 0x6004) free_thread not0 ∙ get_or-replicate 32 t empty_row free_thread h)) e
  ]
]

no_live : (t : ℕ) → t < 32 → (thread_at two_apps t).state ≡ free
no_live = row_is (λ r. r.state ≡ free) refl refl refl

nowhere : (t : ℕ) → t < 32 → spot_of two_apps t ≡ Nowhere
nowhere t h = ap (λ s. spot (app_of t) s (thread_at two_apps t).object) (no_live t h)

pub entry_row_is : (e : ℕ) → IsThreadRow (entry_row e)
entry_row_is e = record {
  registers = length-set empty_row.regs 0 e;
  state = lit≤ tt;
  priority = lit≤ tt;
  waits = λ a b c. refl;
  takes = λ a. refl;
  wakes = λ a. (refl, refl);
}

pub empty_row_is : IsThreadRow empty_row
empty_row_is = record {
  registers = refl;
  state = lit≤ tt;
  priority = lit≤ tt;
  waits = λ a b c. refl;
  takes = λ a. refl;
  wakes = λ a. (refl, refl);
}

-- ---- orderly

pub empty_state : (t : ℕ) → t < 32 → (thread_at empty t).state ≡ free
unfolding empty
empty_state t h = ap (λ (r : ThreadRow). r.state) (get_or-replicate 32 t empty_row free_thread h)

same_listed : (s : Spot) → listed two_apps s ≡ listed empty s
unfolding empty
same_listed Nowhere = refl
same_listed Ready = refl
same_listed Runs = refl
same_listed Asleep = refl
same_listed (OnMutex a i) = refl
same_listed (OnCondition a c) = refl
same_listed (OnLine n) = refl
same_listed Calls = refl

pub no_pairs : (R : ℕ → ℕ → Type 0) → AllPairs R []
no_pairs R i j d l h = absurd (let past : j < 0 = h in omega arith)

orderly : IsOrderly empty → IsOrderly two_apps
unfolding empty
orderly h = record {
  shape = record {
    app_rows = refl;
    module_rows = h.shape.module_rows;
    function_rows = h.shape.function_rows;
    thread_rows = refl;
    mutex_rows = h.shape.mutex_rows;
    condition_lists = h.shape.condition_lists;
    line_lists = h.shape.line_lists;
  };
  limit = refl;
  top = refl;
  rows = row_is IsThreadRow empty_row_is (entry_row_is 0x6004) (entry_row_is 0x6010);
  threads = λ t l u. absurd (u (no_live t l));
  placed = record {
    there = λ t l away. absurd (away (nowhere t l));
    nowhere_else = λ s t c.
        let old = h.placed.nowhere_else s t (subst (λ (xs : List ℕ). Contains xs t) (same_listed s) c) in
        (old.0, nowhere t old.0 ∙ sym (ap (λ x. spot (app_of t) x (thread_at empty t).object) (empty_state t old.0)) ∙ old.1);
    once = λ s. subst (λ (xs : List ℕ). AllPairs (λ x y. x ≢ y) xs) (sym (same_listed s)) (h.placed.once s);
  };
  caller = λ runs. absurd (runs refl);
  callee = λ runs. absurd (runs refl);
  mutexes = λ a i b c.
      let old : IsMutex empty.threads a (get_or empty.mutexes (4 * a + i) free_mutex) = h.mutexes a i b c in
      record {
        owned = λ o. absurd ((old.owned o).1 (empty_state (identity a (get_or empty.mutexes (4 * a + i) free_mutex).owner) (omega (arith, b, (old.owned o).0))));
        not_waiting = old.not_waiting;
        unwanted = old.unwanted;
      };
  conditions = λ t l s. absurd (omega (arith, s, no_live t l));
  by_priority = no_pairs (λ x y. (thread_at two_apps y).priority ≤ (thread_at two_apps x).priority);
  by_wake_time = λ i j d l b. absurd (let past : j < 0 = b in omega arith);
  later = λ i d b. absurd (let past : i < 0 = b in omega arith);
  functions = h.functions;
}

-- ---- settled

same_all : {X : Type 0} (n i : ℕ) (x : X) → get_or (replicate n x) i x ≡ x
same_all zero i x = refl
same_all (suc n) zero x = refl
same_all (suc n) (suc i) x = same_all n i x

-- the third domain and those behind it are free
rest_free : (n : ℕ) → (domain_at two_apps (suc (suc n))).state ≡ free
unfolding empty
rest_free n =
    ap (λ (r : AppRow). (let d : DomainRow = if nat_lt (suc (suc n)) 8 then app_domain r else module_domain (module_at two_apps (suc (suc n) - 8)) in d.state)) (same_all 6 n free_app)
    ∙ ap (λ (r : ModuleRow). (let d : DomainRow = if nat_lt (suc (suc n)) 8 then app_domain free_app else module_domain r in d.state)) (same_all 4 (suc (suc n) - 8) free_module)
    ∙ either (nat_lt (suc (suc n)) 8)
  where
    either : (b : Bool) → (let d : DomainRow = if b then app_domain free_app else module_domain free_module in d.state) ≡ free
    either true = refl
    either false = refl

inside : (p : Pool) (n : ℕ) → n < 12 → IsInUse two_apps n → IsInPool (pool_range p) (range_in p (domain_at two_apps n))
unfolding empty
inside Code zero h u = record { from_even = refl; to_even = refl; from = lit≤ tt; up = lit≤ tt; to = lit≤ tt }
inside Data zero h u = record { from_even = refl; to_even = refl; from = lit≤ tt; up = lit≤ tt; to = lit≤ tt }
inside Code (suc zero) h u = record { from_even = refl; to_even = refl; from = lit≤ tt; up = lit≤ tt; to = lit≤ tt }
inside Data (suc zero) h u = record { from_even = refl; to_even = refl; from = lit≤ tt; up = lit≤ tt; to = lit≤ tt }
inside p (suc (suc n)) h u = absurd (u (rest_free n))

-- a range that begins where another ends, or behind it, is apart from it
behind : (r s : Range) → r.to ≤ s.from → AreApart r s × AreApart s r
behind r s h = (λ at a b. apart at a b, λ at a b. apart at b a)
  where
    apart : (at : ℕ) → IsTrue (holds at r) → IsTrue (holds at s) → ⊥
    apart at a b = grind (arith, nat_tests)

apart : (p : Pool) (n i : ℕ) → n < 12 → i < 12 → n ≢ i → IsInUse two_apps n → IsInUse two_apps i → AreApart (range_in p (domain_at two_apps n)) (range_in p (domain_at two_apps i))
unfolding empty
apart p zero zero h l ne u v = absurd (ne refl)
apart Code zero (suc zero) h l ne u v = (behind (range_in Code (app_domain first_app)) (range_in Code (app_domain second_app)) (lit≤ tt)).0
apart Data zero (suc zero) h l ne u v = (behind (range_in Data (app_domain first_app)) (range_in Data (app_domain second_app)) (lit≤ tt)).0
apart p zero (suc (suc i)) h l ne u v = absurd (v (rest_free i))
apart Code (suc zero) zero h l ne u v = (behind (range_in Code (app_domain first_app)) (range_in Code (app_domain second_app)) (lit≤ tt)).1
apart Data (suc zero) zero h l ne u v = (behind (range_in Data (app_domain first_app)) (range_in Data (app_domain second_app)) (lit≤ tt)).1
apart p (suc zero) (suc zero) h l ne u v = absurd (ne refl)
apart p (suc zero) (suc (suc i)) h l ne u v = absurd (v (rest_free i))
apart p (suc (suc n)) i h l ne u v = absurd (u (rest_free n))

places : (a : ℕ) → a < 8 → (app_at two_apps a).state ≢ free → IsAppPlace (app_at two_apps a)
unfolding empty
places zero h u = record { threads = lit≤ tt; z_even = refl; stack_even = refl; fits = lit≤ tt }
places (suc zero) h u = record { threads = lit≤ tt; z_even = refl; stack_even = refl; fits = lit≤ tt }
places (suc (suc a)) h u = absurd (u (ap (λ (r : AppRow). r.state) (same_all 6 a free_app)))

settled : IsOrderly empty → IsSettledKernel two_apps
unfolding empty
settled h = record {
  orderly = orderly h;
  inside = inside;
  apart = apart;
  apps = places;
  functions = λ f l. ap (λ (r : FnRow). r.address % 2) (same_all 64 f free_function);
}

pub fixture_settled : (m m0 m1 m2 m3 m4 : List ℕ) → IsOrderly empty → Cleared m m0 → Leaves m0 m1 (with_app (kernel_of m0) 0 first_app) → Leaves m1 m2 (with_app (kernel_of m1) 1 second_app)
    → Leaves m2 m3 (saved_register (kernel_of m2) 0 0 0x6004) → Leaves m3 m4 (saved_register (kernel_of m3) 4 0 0x6010) → IsSettled m4
fixture_settled m m0 m1 m2 m3 m4 h c l1 l2 l3 l4 =
    let is1 : kernel_of m1 ≡ with_app empty 0 first_app = l1.kernel ∙ ap (λ (k : Kernel). with_app k 0 first_app) c.kernel in
    let is2 : kernel_of m2 ≡ with_app (with_app empty 0 first_app) 1 second_app = l2.kernel ∙ ap (λ (k : Kernel). with_app k 1 second_app) is1 in
    let is3 : kernel_of m3 ≡ saved_register (with_app (with_app empty 0 first_app) 1 second_app) 0 0 0x6004 = l3.kernel ∙ ap (λ (k : Kernel). saved_register k 0 0 0x6004) is2 in
    record {
      laid_out = l4.laid_out (l3.laid_out (l2.laid_out (l1.laid_out c.laid_out)));
      kernel = subst (λ (k : Kernel). IsSettledKernel k) (sym (l4.kernel ∙ ap (λ (k : Kernel). saved_register k 4 0 0x6010) is3)) (settled h);
    }
