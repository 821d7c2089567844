-- Threads that leave the first places of the sleepers, and threads that get ready, one by one.
use Rattle.std.proofs.Common.{◌≡◌, ℕ, ◌+◌, ◌<◌, ◌≤◌, not, eqb, cond, List, ◌∷◌, length, get_or, take, drop, remove, refl, sym, ap, ◌∙◌, subst, arith, Contains}
use Rattle.std.specs.List.{position_or_len}
use Rattle.std.proofs.lemmas.Bool.{eq-eqb}
use Rattle.std.proofs.lemmas.List.{get_or-take, length-take}
use Rattle.std.proofs.lemmas.List.Elements.{All-head}
use Rattle.std.proofs.lemmas.List.Sums.{fold_more}
use Rattle.kernel_model.specs.Kernel.{Kernel, with_sleepers}
use Rattle.kernel_model.specs.Layout.{kernel_of}
use Rattle.kernel_model.specs.Queues.{Leaves, without, to_ready_end}
use Rattle.kernel_model.specs.Waking.{each_to_end}
use Rattle.kernel_model.specs.Words.{priority_of}
use Rattle.thread_laws.specs.Facts.{IsUnlisted}
use Rattle.thread_laws.specs.Wakings.{AreUnlisted, NextLaw}
use Rattle.kernel_threads.proofs.ChainLemmas.{leaves_as, leaves_then}
use Rattle.kernel_threads.proofs.LeavingLemmas.{rest_is}

-- ---- sleepers that leave

-- the next of the first sleepers stands first in what is left
pub next_sleeper : (m m' : List ℕ) (first : List ℕ) (i : ℕ) → first ≡ take (length first) (kernel_of m).sleepers → i < length first
    → Leaves m m' (with_sleepers (kernel_of m) (drop i (kernel_of m).sleepers)) → (kernel_of m').sleepers ≡ get_or first i 0 ∷ drop (i + 1) (kernel_of m).sleepers
next_sleeper m m' first i e h l =
    let xs : List ℕ = (kernel_of m).sleepers in
    let size : length first ≤ length xs = omega (arith, ap (λ (ys : List ℕ). length ys) e, length-take (length first) xs) in
    let same : get_or first i 0 ≡ get_or xs i 0 = ap (λ (ys : List ℕ). get_or ys i 0) e ∙ get_or-take (length first) xs i 0 h in
    ap (λ (k : Kernel). k.sleepers) l.kernel ∙ rest_is xs i (omega arith) ∙ ap (λ x. x ∷ drop (i + 1) xs) (sym same)

pub sleeper_stands : (m m' : List ℕ) (first : List ℕ) (i : ℕ) → first ≡ take (length first) (kernel_of m).sleepers → i < length first
    → Leaves m m' (with_sleepers (kernel_of m) (drop i (kernel_of m).sleepers)) → Contains (kernel_of m').sleepers (get_or first i 0)
sleeper_stands m m' first i e h l = subst (λ (ys : List ℕ). Contains ys (get_or first i 0)) (sym (next_sleeper m m' first i e h l)) (0, omega arith, refl)

-- the first member is taken out
without_first : (x : ℕ) (xs : List ℕ) → without (x ∷ xs) x ≡ xs
without_first x xs = ap (λ b. remove (x ∷ xs) (cond (not b) (1 + position_or_len (λ y. eqb y x) xs) 0)) (eq-eqb x x refl)

pub sleeper_left : (m m' m'' : List ℕ) (first : List ℕ) (i : ℕ) → first ≡ take (length first) (kernel_of m).sleepers → i < length first
    → Leaves m m' (with_sleepers (kernel_of m) (drop i (kernel_of m).sleepers))
    → Leaves m' m'' (with_sleepers (kernel_of m') (without (kernel_of m').sleepers (get_or first i 0)))
    → Leaves m m'' (with_sleepers (kernel_of m) (drop (i + 1) (kernel_of m).sleepers))
sleeper_left m m' m'' first i e h l l' =
    let k : Kernel = kernel_of m in
    let x : ℕ = get_or first i 0 in
    let left : without (kernel_of m').sleepers x ≡ drop (i + 1) k.sleepers =
    ap (λ (ys : List ℕ). without ys x) (next_sleeper m m' first i e h l) ∙ without_first x (drop (i + 1) k.sleepers) in
    leaves_then (λ j. with_sleepers j (drop (i + 1) k.sleepers)) m m' m'' (with_sleepers k (drop i k.sleepers)) l
    (subst (λ (ys : List ℕ). Leaves m' m'' (with_sleepers (kernel_of m') ys)) left l')

-- ---- threads that get ready

-- a thread that may go to the ready list
pub record MayGo (k : Kernel) (t : ℕ) : Type 0 where
  pub number : t < 32
  pub unlisted : IsUnlisted k t
  pub priority : priority_of k t ≤ 7

-- the next of those that are unlisted
pub next_goes : (k : Kernel) (list : List ℕ) (i : ℕ) → i < length list → AreUnlisted k.threads k.ready k.sleepers (drop i list) → MayGo k (get_or list i 0)
next_goes k list i l h =
    let t : ℕ = get_or list i 0 in
    let rest : List ℕ = drop (i + 1) list in
    let is : AreUnlisted k.threads k.ready k.sleepers (t ∷ rest) = subst (λ (ts : List ℕ). AreUnlisted k.threads k.ready k.sleepers ts) (rest_is list i l) h in
    let first : Contains (t ∷ rest) t = (0, omega arith, refl) in
    record {
      number = All-head (λ u. u < 32) t rest is.numbers;
      unlisted = record { not_ready = is.not_ready t first; not_asleep = is.not_asleep t first };
      priority = All-head (λ u. priority_of k u ≤ 7) t rest is.priorities;
    }

pub next_went : (m m' m'' list : List ℕ) (i : ℕ) → i < length list → Leaves m m' (each_to_end (kernel_of m) (take i list))
    → Leaves m' m'' (to_ready_end (kernel_of m') (get_or list i 0)) → Leaves m m'' (each_to_end (kernel_of m) (take (i + 1) list))
next_went m m' m'' list i h l l' =
    let k : Kernel = kernel_of m in
    leaves_as m m'' (to_ready_end (each_to_end k (take i list)) (get_or list i 0)) (each_to_end k (take (i + 1) list)) (sym (fold_more to_ready_end k list i 0 h))
    (leaves_then (λ j. to_ready_end j (get_or list i 0)) m m' m'' (each_to_end k (take i list)) l l')

pub rest_unlisted : (m' m'' list : List ℕ) (i : ℕ) → NextLaw → i < length list → (let k = kernel_of m' in AreUnlisted k.threads k.ready k.sleepers (drop i list))
    → Leaves m' m'' (to_ready_end (kernel_of m') (get_or list i 0)) → (let k = kernel_of m'' in AreUnlisted k.threads k.ready k.sleepers (drop (i + 1) list))
rest_unlisted m' m'' list i law l h l' =
    let k : Kernel = kernel_of m' in
    let is : AreUnlisted k.threads k.ready k.sleepers (get_or list i 0 ∷ drop (i + 1) list) =
    subst (λ (ts : List ℕ). AreUnlisted k.threads k.ready k.sleepers ts) (rest_is list i l) h in
    subst (λ (j : Kernel). AreUnlisted j.threads j.ready j.sleepers (drop (i + 1) list)) (sym l'.kernel) (law k (get_or list i 0) (drop (i + 1) list) is)
