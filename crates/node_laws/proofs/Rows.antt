-- A thread's row put in place keeps the saved contexts safe and the applications populated.
use Rattle.std.proofs.Common.{◌≡◌, ◌≢◌, ℕ, ◌<◌, ◌⊎◌, List, length, get_or, set, sym, subst, inl, inr, Option}
use Rattle.std.proofs.lemmas.Bool.{cases_eq}
use Rattle.std.proofs.lemmas.List.{get_or-set_same, get_or-set_other}
use Rattle.kernel_model.specs.Kernel.{free_thread}
use Rattle.kernel_model.specs.Words.{free, identity}
use Rattle.kernel_model.specs.declared.rows.AppRow.{AppRow}
use Rattle.kernel_model.specs.declared.rows.ThreadRow.{ThreadRow}
use Rattle.load_model.specs.Domains.{Domain}
use Rattle.node_model.specs.Sound.{IsSaved, AreSaved, HasThread, ArePopulated}

pub saved-put : (apps : List AppRow) (ds : List (Option Domain)) (threads : List ThreadRow) (t : ℕ) (row : ThreadRow)
    → t < length threads → IsSaved apps ds t row
    → AreSaved apps ds threads → AreSaved apps ds (set threads t row)
saved-put apps ds threads t row l new h u lu = from (cases_eq u t)
  where
    from : (u ≡ t) ⊎ (u ≢ t) → IsSaved apps ds u (get_or (set threads t row) u free_thread)
    from (inl e) = subst (λ (v : ℕ). IsSaved apps ds v (get_or (set threads t row) v free_thread)) (sym e)
        (subst (λ (r : ThreadRow). IsSaved apps ds t r) (sym (get_or-set_same threads t row free_thread l)) new)
    from (inr n) = subst (λ (r : ThreadRow). IsSaved apps ds u r) (sym (get_or-set_other threads t u row free_thread n)) (h u lu)

has-put : (threads : List ThreadRow) (t : ℕ) (row : ThreadRow) (a : ℕ) → t < length threads → row.state ≢ free → HasThread threads a
    → HasThread (set threads t row) a
has-put threads t row a l on h = (h.0, h.1, from (cases_eq (identity a h.0) t))
  where
    from : (identity a h.0 ≡ t) ⊎ (identity a h.0 ≢ t) → (get_or (set threads t row) (identity a h.0) free_thread).state ≢ free
    from (inl e) = subst (λ (v : ℕ). (get_or (set threads t row) v free_thread).state ≢ free) (sym e)
        (subst (λ (r : ThreadRow). r.state ≢ free) (sym (get_or-set_same threads t row free_thread l)) on)
    from (inr n) = subst (λ (r : ThreadRow). r.state ≢ free) (sym (get_or-set_other threads t (identity a h.0) row free_thread n))
        h.2

pub populated-put : (apps : List AppRow) (threads : List ThreadRow) (t : ℕ) (row : ThreadRow) → t < length threads
    → row.state ≢ free
    → ArePopulated apps threads → ArePopulated apps (set threads t row)
populated-put apps threads t row l on h a la e = has-put threads t row a l on (h a la e)
