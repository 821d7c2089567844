-- Threads that wake, and the routine of a line.
use Rattle.std.proofs.Common.{◌≡◌, ◌≢◌, ℕ, ◌<◌, List, [], ◌∷◌, length, get_or, set, refl, sym, ap, ◌∙◌, subst, inl, inr, arith, Option, length-set}
use Rattle.std.specs.List.{AllByRecursion}
use Rattle.std.proofs.lemmas.Bool.{cases_eq}
use Rattle.std.proofs.lemmas.List.{get_or-set_same, get_or-set_other}
use Rattle.kernel_model.specs.Kernel.{Kernel, thread_at, free_thread}
use Rattle.kernel_model.specs.Words.{free, ready, running_state, ready_row}
use Rattle.kernel_model.specs.Queues.{to_ready_end}
use Rattle.kernel_model.specs.declared.rows.AppRow.{AppRow}
use Rattle.kernel_model.specs.declared.rows.ThreadRow.{ThreadRow}
use Rattle.kernel_model.specs.declared.rows.MutexRow.{MutexRow}
use Rattle.kernel_model.specs.Waking.{each_to_end}
use Rattle.load_model.specs.Domains.{Domain}
use Rattle.node_model.specs.Sound.{IsSavedWell, AreSaved, ArePopulated}
use Rattle.node_laws.proofs.Rows.{saved-put, populated-put}

-- what waking leaves as it was
pub record IsWoken (k j : Kernel) : Type 0 where
  pub apps : j.apps ≡ k.apps
  pub modules : j.modules ≡ k.modules
  pub functions : j.functions ≡ k.functions
  pub running : j.running ≡ k.running
  pub in_module : j.module_now ≡ k.module_now
  pub counted : j.budget ≡ k.budget
  pub mask : j.pending ≡ k.pending
  pub low : j.tick_low ≡ k.tick_low
  pub high : j.tick_high ≡ k.tick_high

-- another ready list, and other threads, mutexes and conditions
pub woken-but : (k : Kernel) (rs : List ℕ) (ts : List ThreadRow) (ms : List MutexRow) (cs : List (List ℕ))
    → IsWoken k (record k { ready = rs; threads = ts; mutexes = ms; conditions = cs })
woken-but k rs ts ms cs = record {
  apps = refl;
  modules = refl;
  functions = refl;
  running = refl;
  in_module = refl;
  counted = refl;
  mask = refl;
  low = refl;
  high = refl;
}

pub same-words : (k : Kernel) → IsWoken k k
same-words k = woken-but k k.ready k.threads k.mutexes k.conditions

pub each-leaves : (ts : List ℕ) (k : Kernel) → IsWoken k (each_to_end k ts)
each-leaves [] k = same-words k
each-leaves (t ∷ ts) k =
    let h : IsWoken (to_ready_end k t) (each_to_end (to_ready_end k t) ts) = each-leaves ts (to_ready_end k t) in
    record {
      apps = h.apps;
      modules = h.modules;
      functions = h.functions;
      running = h.running;
      in_module = h.in_module;
      counted =
          h.counted;
      mask = h.mask;
      low = h.low;
      high = h.high;
    }

-- a thread that waits
pub record Waits (threads : List ThreadRow) (t : ℕ) : Type 0 where
  pub below : t < 32
  pub live : (get_or threads t free_thread).state ≢ free
  pub rests : (get_or threads t free_thread).state ≢ running_state

-- the saved contexts and the live threads
pub record AreWell (apps : List AppRow) (ds : List (Option Domain)) (threads : List ThreadRow) : Type 0 where
  pub size : length threads ≡ 32
  pub saved : AreSaved apps ds threads
  pub populated : ArePopulated apps threads

still-waits : (threads : List ThreadRow) (t u : ℕ) → length threads ≡ 32 → t < 32 → Waits threads u
    → Waits (set threads t (ready_row (get_or threads t free_thread))) u
still-waits threads t u size l w = elim (cases_eq u t) [
  | inl e ↦ record { below = w.below; live = here e free (omega arith); rests = here e running_state (omega arith) }
  | inr n ↦ record {
    below = w.below;
    live =
        subst (λ (r : ThreadRow). r.state ≢ free)
        (sym (get_or-set_other threads t u (ready_row (get_or threads t free_thread)) free_thread n)) w.live;
    rests =
        subst (λ (r : ThreadRow). r.state ≢ running_state)
        (sym (get_or-set_other threads t u (ready_row (get_or threads t free_thread)) free_thread n)) w.rests;
  }
]
  where
    here : u ≡ t → (s : ℕ) → ready ≢ s → (get_or (set threads t (ready_row (get_or threads t free_thread))) u free_thread).state ≢ s
    here e s n f = n (ap (λ (r : ThreadRow). r.state)
        (sym (get_or-set_same threads t (ready_row (get_or threads t free_thread)) free_thread (omega arith)))
        ∙ ap (λ (v : ℕ). (get_or (set threads t (ready_row (get_or threads t free_thread))) v free_thread).state) (sym e) ∙ f)

all-wait : (threads : List ThreadRow) (t : ℕ) (ts : List ℕ) → length threads ≡ 32 → t < 32 → AllByRecursion (Waits threads) ts
    → AllByRecursion (Waits (set threads t (ready_row (get_or threads t free_thread)))) ts
all-wait threads t [] size l h = tt
all-wait threads t (u ∷ ts) size l h = (still-waits threads t u size l h.0, all-wait threads t ts size l h.1)

pub each-well : (ts : List ℕ) (k : Kernel) (apps : List AppRow) (ds : List (Option Domain)) → AreWell apps ds k.threads
    → AllByRecursion (Waits k.threads) ts → AreWell apps ds (each_to_end k ts).threads
each-well [] k apps ds h w = h
each-well (t ∷ ts) k apps ds h w =
    let row : ThreadRow = ready_row (thread_at k t) in
    let l : t < length k.threads = (let x = h.size in let y = w.0.below in omega arith) in
    let well : IsSavedWell apps ds t (thread_at k t) = h.saved t w.0.below w.0.live w.0.rests in
    each-well ts (to_ready_end k t) apps ds
    record {
      size = length-set k.threads t row ∙ h.size;
      saved = saved-put apps ds k.threads t row l (λ _ _. record { good = well.good; mark = λ other. absurd (other refl) }) h.saved;
      populated = populated-put apps k.threads t row l (λ off. omega arith) h.populated;
    }
    (all-wait k.threads t ts h.size w.0.below w.1)
