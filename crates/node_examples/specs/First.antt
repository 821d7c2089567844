-- The system behind boot of one application that emits and exits: 21 code words, stack 16, one thread, no static part.
use Rattle.std.specs.Prelude.{◌≡◌, ℕ, List, [], ◌∷◌, replicate, Option, None, Some, Result, Ok, Err}
use Rattle.kernel_model.specs.Kernel.{Kernel, free_app, free_module, free_function, free_mutex, empty_row}
use Rattle.kernel_model.specs.Words.{live, none, running_state}
use Rattle.kernel_model.specs.declared.rows.AppRow.{AppRow}
use Rattle.kernel_model.specs.declared.rows.ThreadRow.{ThreadRow}
use Rattle.load_model.specs.Domains.{Domain}
use Rattle.node_model.specs.Systems.{System}
use Rattle.node_model.specs.Booting.{Refusal}
use Rattle.node_examples.specs.Programs.{emitting_form, emitting}

abbrev pub first_row : AppRow
first_row = record { state = live; code_lo = 0x6000; code_hi = 0x602A; lo = 0x2000; hi = 0x2010; z = 0; stack = 16; threads = 1 }

-- PC at the entry, SP at the stack's top, interrupts allowed
abbrev pub first_context : List ℕ
first_context = 0x6000 ∷ 0x2010 ∷ 0x0008 ∷ 0 ∷ 0 ∷ 0 ∷ 0 ∷ 0 ∷ 0 ∷ 0 ∷ 0 ∷ 0 ∷ 0 ∷ 0 ∷ 0 ∷ 0 ∷ []

abbrev pub first_thread : ThreadRow
first_thread = record { regs = first_context; state = running_state; priority = 3; wake_low = 0; wake_high = 0; object = 0; mutex = 0 }

-- its limits are those of thread 0
unfoldable pub first_kernel : Kernel
first_kernel = record {
  cur_lim = 0x2006;
  cur_top = 0x2010;
  running = 0;
  module_now = none;
  budget = 0;
  pending = 0;
  tick_low = 0;
  tick_high = 0;
  ready = [];
  sleepers = [];
  apps = first_row ∷ replicate 7 free_app;
  modules = replicate 4 free_module;
  functions = replicate 64 free_function;
  threads = first_thread ∷ replicate 31 empty_row;
  mutexes = replicate 32 free_mutex;
  conditions = replicate 32 [];
  lines = replicate 14 [];
}

unfoldable pub first_domain : emitting_form → Domain
first_domain f = record { object = (emitting f).object; units = (emitting f).units; code_lo = 0x6000; lo = 0x2000; hi = 0x2010 }

unfoldable pub first_placed : emitting_form → List (Option Domain)
first_placed f = Some (first_domain f) ∷ replicate 11 None

-- ---- parts of a booted system

-- the system was booted, and has these parts
pub record HasParts (s : System) (k : Kernel) (c : List ℕ) (ds : List (Option Domain)) : Type 0 where
  pub kernel : s.kernel ≡ k
  pub context : s.context ≡ c
  pub placed : s.placed ≡ ds
  pub owner : s.owner ≡ 0 ∷ replicate 11 255
  pub steps : s.steps ≡ 0

abbrev pub BootsAs : Result System Refusal → Kernel → (context : List ℕ) → List (Option Domain) → Type 0
BootsAs (Ok s) k c ds = HasParts s k c ds
BootsAs (Err e) k c ds = ⊥
