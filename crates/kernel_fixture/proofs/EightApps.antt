-- The kernel of eight applications that the tests begin with is settled: they lie one behind the other, and no thread is live.
use Rattle.std.proofs.Common.{◌≡◌, ◌≢◌, ℕ, zero, suc, ◌+◌, ◌-◌, ◌*◌, ◌%◌, ◌<◌, ◌≤◌, List, map, set, replicate, ◌++◌, refl, sym, ap, ◌∙◌, subst, ⊎_elim, arith, add-one, lit≤}
use Rattle.std.specs.Prelude.{if◌then◌else◌}
use Rattle.std.specs.List.{range_with_len}
use Rattle.std.proofs.lemmas.Bool.{cases_lt, lt-ltb, le-ltb}
use Rattle.std.proofs.lemmas.Bool.Decides.{nat_tests}
use Rattle.std.proofs.lemmas.List.{get_or-replicate}
use Rattle.std.proofs.lemmas.List.FromFn.{get_or-map-range_with_len}
use Rattle.kernel_model.specs.Kernel.{Kernel, with_app, app_at, module_at, free_app, free_module, free_function}
use Rattle.kernel_model.specs.Words.{free}
use Rattle.kernel_model.specs.Layout.{kernel_of, empty, IsLaidOut}
use Rattle.kernel_model.specs.Queues.{Leaves}
use Rattle.kernel_model.specs.Orderly.{IsOrderly}
use Rattle.kernel_model.specs.declared.rows.AppRow.{AppRow}
use Rattle.kernel_model.specs.declared.rows.FnRow.{FnRow}
use Rattle.kernel_model.specs.declared.rows.ModuleRow.{ModuleRow}
use Rattle.kernel_tables.specs.Clearing.{Cleared}
use Rattle.place_model.specs.declared.places.DomainRow.{DomainRow}
use Rattle.place_model.specs.declared.places.Pool.{Pool}
use Rattle.place_model.specs.declared.places.Pool.TheVariants.{Code, Data}
use Rattle.place_model.specs.Placing.{app_domain, module_domain, domain_at, pool_range, range_in}
use Rattle.kernel_fixture.proofs.TwoApps.{empty_state}
use Rattle.place_model.specs.Settled.{IsInPool, AreApart, IsAppPlace, IsInUse, IsSettledKernel, IsSettled}

-- application a's row: 16 bytes of code and four stacks of 32 bytes
abbrev pub row_of : ℕ → AppRow
row_of a = record { state = 1; code_lo = 0x6000 + 16 * a; code_hi = 0x6010 + 16 * a; lo = 0x2000 + 128 * a; hi = 0x2080 + 128 * a; z = 0; stack = 32; threads = 4 }

-- the first n rows, and free ones
abbrev pub first_rows : ℕ → List AppRow
first_rows n = map row_of (range_with_len 0 n) ++ replicate (8 - n) free_app

abbrev pub with_rows : ℕ → Kernel
with_rows n = record empty { apps = first_rows n }

next_rows : (n : ℕ) → n < 8 → set (first_rows n) n (row_of n) ≡ first_rows (suc n)
next_rows zero h = refl
next_rows (suc zero) h = refl
next_rows (suc (suc zero)) h = refl
next_rows (suc (suc (suc zero))) h = refl
next_rows (suc (suc (suc (suc zero)))) h = refl
next_rows (suc (suc (suc (suc (suc zero))))) h = refl
next_rows (suc (suc (suc (suc (suc (suc zero)))))) h = refl
next_rows (suc (suc (suc (suc (suc (suc (suc zero))))))) h = refl
next_rows (suc (suc (suc (suc (suc (suc (suc (suc n)))))))) h = absurd (omega arith)

-- ---- orderly

orderly : IsOrderly empty → IsOrderly (with_rows 8)
unfolding empty
orderly h = record {
  shape = record {
    app_rows = refl;
    module_rows = h.shape.module_rows;
    function_rows = h.shape.function_rows;
    thread_rows = h.shape.thread_rows;
    mutex_rows = h.shape.mutex_rows;
    condition_lists = h.shape.condition_lists;
    line_lists = h.shape.line_lists;
  };
  limit = refl;
  top = refl;
  rows = h.rows;
  threads = λ t l u. absurd (u (empty_state t l));
  placed = record { there = h.placed.there; nowhere_else = h.placed.nowhere_else; once = h.placed.once };
  caller = h.caller;
  callee = h.callee;
  mutexes = h.mutexes;
  conditions = h.conditions;
  by_priority = h.by_priority;
  by_wake_time = h.by_wake_time;
  later = h.later;
  functions = h.functions;
}

-- ---- places

row_at : (n : ℕ) → n < 8 → app_at (with_rows 8) n ≡ row_of n
unfolding empty
row_at n h = get_or-map-range_with_len row_of 0 8 n n free_app h (omega arith)

domain_is : (n : ℕ) → n < 8 → domain_at (with_rows 8) n ≡ app_domain (row_of n)
domain_is n h =
    ap (λ b. if b then app_domain (app_at (with_rows 8) n) else module_domain (module_at (with_rows 8) (n - 8))) (lt-ltb n 8 h) ∙ ap (λ (r : AppRow). app_domain r) (row_at n h)

modules_free : (n : ℕ) → 8 ≤ n → n < 12 → (domain_at (with_rows 8) n).state ≡ free
unfolding empty
modules_free n h l =
    ap (λ b. (let d : DomainRow = if b then app_domain (app_at (with_rows 8) n) else module_domain (module_at (with_rows 8) (n - 8)) in d.state)) (le-ltb n 8 h)
    ∙ ap (λ (r : ModuleRow). r.state) (get_or-replicate 4 (n - 8) free_module free_module (omega arith))

-- what holds of the eight holds of each that is in use
each_used : (P : ℕ → DomainRow → Type 0) → ((n : ℕ) → n < 8 → P n (app_domain (row_of n))) → (n : ℕ) → n < 12 → IsInUse (with_rows 8) n → P n (domain_at (with_rows 8) n)
each_used P f n h u =
    ⊎_elim
    (λ (l : n < 8). subst (λ (d : DomainRow). P n d) (sym (domain_is n l)) (f n l))
    (λ (past : 8 ≤ n). absurd (u (modules_free n past h)))
    (cases_lt n 8)

in_pool : (p : Pool) (n : ℕ) → n < 8 → IsInPool (pool_range p) (range_in p (app_domain (row_of n)))
in_pool Code n h = record { from_even = omega arith; to_even = omega arith; from = omega arith; up = omega arith; to = omega arith }
in_pool Data n h = record { from_even = omega arith; to_even = omega arith; from = omega arith; up = omega arith; to = omega arith }

rows_apart : (p : Pool) (n i : ℕ) → n ≢ i → AreApart (range_in p (app_domain (row_of n))) (range_in p (app_domain (row_of i)))
rows_apart Code n i ne at a b = grind (arith, nat_tests)
rows_apart Data n i ne at a b = grind (arith, nat_tests)

settled : IsOrderly empty → IsSettledKernel (with_rows 8)
unfolding empty
settled h = record {
  orderly = orderly h;
  inside = λ p n l u. each_used (λ _ d. IsInPool (pool_range p) (range_in p d)) (in_pool p) n l u;
  apart = λ p n i l m ne u v.
      each_used (λ a d. a ≢ i → AreApart (range_in p d) (range_in p (domain_at (with_rows 8) i)))
      (λ a la. each_used (λ b e. a ≢ b → AreApart (range_in p (app_domain (row_of a))) (range_in p e)) (λ b lb na. rows_apart p a b na) i m v) n l u ne;
  apps = λ a l u.
      subst (λ (r : AppRow). IsAppPlace r) (sym (row_at a l)) (record { threads = lit≤ tt; z_even = refl; stack_even = refl; fits = omega arith });
  functions = λ f l. ap (λ (r : FnRow). r.address % 2) (get_or-replicate 64 f free_function free_function l);
}

-- ---- memory

-- memory in which the first n rows are written
pub record HasRows (m : List ℕ) (n : ℕ) : Type 0 where
  pub kernel : kernel_of m ≡ with_rows n
  pub laid_out : IsLaidOut m

pub no_rows : (before m : List ℕ) → Cleared before m → HasRows m 0
unfolding empty
no_rows before m c = record { kernel = c.kernel; laid_out = c.laid_out }

pub more_rows : (m m' : List ℕ) (n : ℕ) → n < 8 → HasRows m n → Leaves m m' (with_app (kernel_of m) n (row_of n)) → HasRows m' (n + 1)
more_rows m m' n h is l = record {
  kernel = l.kernel ∙ ap (λ (k : Kernel). with_app k n (row_of n)) is.kernel ∙ ap (λ (rs : List AppRow). record empty { apps = rs }) (next_rows n h)
      ∙ ap (λ i. with_rows i) (sym (add-one n));
  laid_out = l.laid_out is.laid_out;
}

pub all_rows : (m : List ℕ) → IsOrderly empty → HasRows m 8 → IsSettled m
all_rows m h is = record {
  laid_out = is.laid_out;
  kernel = subst (λ (k : Kernel). IsSettledKernel k) (sym is.kernel) (settled h);
}
