-- What always holds of a system holds of a booted one.
use Rattle.std.proofs.Common.{◌≡◌, ◌≢◌, ℕ, zero, suc, ◌+◌, ◌<◌, List, [], ◌∷◌, replicate, get_or, Option, None, Some, refl, sym, ap, subst, ◌∙◌, arith}
use Rattle.std.specs.Option.{unwrap_or}
use Rattle.machine_model.specs.Context.{reg, IsContext}
use Rattle.kernel_model.specs.Kernel.{free_app, free_module, free_thread, free_function, empty_row}
use Rattle.kernel_model.specs.Running.{ThreadRuns}
use Rattle.kernel_model.proofs.EmptyLemmas.{same_row}
use Rattle.kernel_model.specs.declared.rows.AppRow.{AppRow}
use Rattle.kernel_model.specs.declared.rows.ModuleRow.{ModuleRow}
use Rattle.kernel_model.specs.declared.rows.FnRow.{FnRow}
use Rattle.code_model.specs.Guards.{UnitStart}
use Rattle.code_model.specs.Verdicts.{IsAccepted}
use Rattle.machine_laws.specs.Steady.{IsSteady, IsStatus}
use Rattle.load_model.specs.Domains.{Domain}
use Rattle.node_model.specs.Placed.{address}
use Rattle.node_model.specs.Good.{IsGood, AtUnit}
use Rattle.node_model.specs.Systems.{domain_in}
use Rattle.node_model.specs.Sound.{IsAppRowOf, IsDomain, AreDomains, HasDomain, IsGoodIn, IsRunning, AThread, AreSaved, ArePopulated, AreFunctions, AreBounded, HasThread, IsSoundKernel}
use Rattle.node_examples.specs.Programs.{emitting_form, emitting, emitting_code, emitting_relocs}
use Rattle.node_examples.proofs.Settled.{settled}
use Rattle.node_examples.specs.First.{first_row, first_context, first_kernel, first_domain, first_placed}

-- ---- lists of one value

no-thread : (n i : ℕ) → (get_or (replicate n empty_row) i free_thread).state ≡ 0
no-thread zero i = refl
no-thread (suc n) zero = refl
no-thread (suc n) (suc i) = no-thread n i

IsNothing : Option Domain → Type 0
IsNothing None = Unit {0}
IsNothing (Some d) = ⊥

nothing-some : (d : Domain) → None ≡ Some d → ⊥
unfolding IsNothing
nothing-some d e = subst IsNothing e tt

zero-one : (n : ℕ) → n ≡ 0 → n ≡ 1 → ⊥
zero-one n is isnt = omega arith

-- ---- domains

-- that the object is accepted is the checker's to say, and is taken as given
the-domain : (f : emitting_form) → IsAccepted (first_domain f).object (first_domain f).units → IsDomain first_kernel.apps first_kernel.modules 0 (first_domain f)
unfolding first_kernel first_domain emitting emitting_code emitting_relocs
the-domain f a = record {
  below = omega arith;
  accepted = a;
  kind = refl;
  region = refl;
  row = record {
    used = λ e. let x : 1 ≡ 0 = e in omega arith;
    known = omega arith;
    code_lo = refl;
    code_hi = refl;
    lo = refl;
    hi = refl;
    z = refl;
    stack = refl;
    threads = refl;
  };
}

placed : (f : emitting_form) → IsAccepted (first_domain f).object (first_domain f).units → (n : ℕ) (d : Domain) → domain_in (first_placed f) n ≡ Some d
    → IsDomain first_kernel.apps first_kernel.modules n d
unfolding first_placed
placed f a zero d e =
    let same : first_domain f ≡ d = ap (λ (o : Option Domain). unwrap_or o (first_domain f)) e in
    subst (λ (x : Domain). IsDomain first_kernel.apps first_kernel.modules 0 x) same (the-domain f a)
placed f a (suc n) d e = absurd (nothing-some d (sym (same_row 11 n None) ∙ e))

apps-used : (f : emitting_form) (a : ℕ) → a < 8 → (get_or first_kernel.apps a free_app).state ≢ 0 → HasDomain (first_placed f) a
unfolding first_kernel first_placed
apps-used f zero l used = (first_domain f, refl)
apps-used f (suc a) l used = absurd (used (ap (λ (r : AppRow). r.state) (same_row 7 a free_app)))

modules-used : (f : emitting_form) (i : ℕ) → i < 4 → (get_or first_kernel.modules i free_module).state ≢ 0 → HasDomain (first_placed f) (8 + i)
unfolding first_kernel
modules-used f i l used = absurd (used (ap (λ (r : ModuleRow). r.state) (same_row 4 i free_module)))

pub domains : (f : emitting_form) → IsAccepted (first_domain f).object (first_domain f).units → AreDomains first_kernel.apps first_kernel.modules (first_placed f)
unfolding first_placed
domains f a = record { twelve = refl; placed = placed f a; apps_used = apps-used f; modules_used = modules-used f }

-- ---- threads, functions, bounds

pub saved : (f : emitting_form) → AreSaved first_kernel.apps (first_placed f) first_kernel.threads
unfolding first_kernel
saved f zero l live resting = absurd (resting refl)
saved f (suc t) l live resting = absurd (live (no-thread 31 t))

pub populated : ArePopulated first_kernel.apps first_kernel.threads
unfolding first_kernel
populated zero l live = (0, omega arith, λ e. let x : 2 ≡ 0 = e in omega arith)
populated (suc a) l live = absurd (zero-one (get_or (replicate 7 free_app) a free_app).state (ap (λ (r : AppRow). r.state) (same_row 7 a free_app)) live)

pub functions : (f : emitting_form) → AreFunctions first_kernel.functions (first_placed f)
unfolding first_kernel
functions f n l used = absurd (used (ap (λ (r : FnRow). r.module) (same_row 64 n free_function)))

pub bounded : AreBounded 0 first_kernel.budget first_kernel.module_now first_kernel.pending 0
unfolding first_kernel
bounded = record { ticks = omega arith; count = omega arith; no_count = λ e. refl; lines = omega arith }

-- ---- who runs

small-zero : (k : ℕ) → get_or (replicate 13 0) k 0 < 65536
small-zero k = subst (λ (x : ℕ). x < 65536) (sym (same_row 13 k 0)) (omega arith)

small : (k : ℕ) → reg first_context k < 65536
small zero = omega arith
small (suc zero) = omega arith
small (suc (suc zero)) = omega arith
small (suc (suc (suc k))) = small-zero k

steady : IsSteady 1 0x2000 0x2010 first_context
steady = record {
  context = record { words = refl; pc_even = refl; sp_even = refl; zero = refl; small = small };
  room = omega arith;
  within = omega arith;
  status = record { high = refl; control = refl };
}

first-unit : (f : emitting_form) → IsAccepted (first_domain f).object (first_domain f).units → UnitStart (first_domain f).object 0
unfolding first_domain emitting
first-unit f a = (a.units 0).0 refl

good : (f : emitting_form) → IsAccepted (first_domain f).object (first_domain f).units → IsGood (first_domain f) 0x2000 0x2010 first_context
unfolding first_domain emitting
good f a = record { steady = steady; somewhere = AtUnit 0 (first-unit f a) refl }

pub running : (f : emitting_form) (m : List ℕ) → IsAccepted (first_domain f).object (first_domain f).units → IsRunning m first_context first_kernel (first_placed f)
unfolding first_kernel first_placed
running f m a = AThread (record { thread = omega arith; no_module = refl }) (record { domain = first_domain f; placed = refl; good = good f a })

-- ---- all of the kernel

pub sound : (f : emitting_form) → IsAccepted (first_domain f).object (first_domain f).units → IsSoundKernel first_kernel (first_placed f) 0
unfolding first_kernel
sound f a = record { settled = settled; domains = domains f a; saved = saved f; populated = populated; functions = functions f; bounded = bounded }
