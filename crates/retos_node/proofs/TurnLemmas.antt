-- How the parts of a turn make the whole.
use Rattle.std.proofs.Common.{◌≡◌, ℕ, ◌<◌, Bool, List, length, set, Option, ap, ◌∙◌, subst}
use Rattle.std.proofs.lemmas.List.{set-set, set-get_or, get_or-set_same}
use Rattle.machine_model.specs.Memory.{word_at}
use Rattle.machine_model.specs.Context.{reg, set_reg, IsContext}
use Rattle.kernel_model.specs.Kernel.{Kernel, thread_at, free_thread}
use Rattle.kernel_model.specs.Words.{running}
use Rattle.kernel_model.specs.Layout.{kernel_of}
use Rattle.kernel_model.specs.Queues.{Leaves}
use Rattle.kernel_model.specs.Dispatching.{saved, dispatched, dispatched_context}
use Rattle.kernel_model.specs.declared.rows.ThreadRow.{ThreadRow}
use Rattle.kernel_threads.proofs.ChainLemmas.{leaves_then}
use Rattle.retos_node.specs.declared.turns.Moment.{Moment}
use Rattle.trace_model.specs.declared.records.Record.{Record}
use Rattle.node_model.specs.Entries.{Work, Turn}
use Rattle.retos_node.specs.Turns.{AreOwnMarks, DispatchesFrom, Turned, TurnsBy, work_of}

-- a dispatch behind another call
pub dispatches_by : (rule : Kernel → Kernel) (m m1 m' r' : List ℕ) (moment : Moment) (j : Kernel) → Leaves m m1 j
    → DispatchesFrom m1 m' r' moment (rule (kernel_of m1)) → DispatchesFrom m m' r' moment (rule j)
dispatches_by rule m m1 m' r' moment j x d = record {
  leaves = leaves_then (λ k. dispatched (rule k) moment.pick) m m1 m' j x d.leaves;
  registers_are =
      subst (λ (k : Kernel). IsContext (dispatched_context (rule k) moment.pick) → r' ≡ dispatched_context (rule k) moment.pick) x.kernel
      d.registers_are;
}

-- registers that had another value in R12 for a while
pub restored : (r r1 r2 : List ℕ) (v w : ℕ) → r1 ≡ set_reg r 12 v → w ≡ reg r 12 → r2 ≡ set_reg r1 12 w → r2 ≡ r
unfolding set_reg
restored r r1 r2 v w e is e2 =
    e2 ∙ ap (λ (xs : List ℕ). set xs 12 w) e ∙ set-set r 12 v w ∙ ap (λ x. set r 12 x) is ∙ set-get_or r 12 0

-- what was saved is saved again
pub saved_again : (k : Kernel) (r r1 : List ℕ) → running k < length k.threads → saved (saved k r) r1 ≡ saved k r1
saved_again k r r1 h =
    let row : ThreadRow = record (thread_at k (running k)) { regs = r } in
    let there : thread_at (saved k r) (running k) ≡ row = get_or-set_same k.threads (running k) row free_thread h in
    ap (λ (x : ThreadRow). record k { threads = set (set k.threads (running k) row) (running k) (record x { regs = r1 }) }) there
    ∙ ap (λ (xs : List ThreadRow). record k { threads = xs }) (set-set k.threads (running k) row (record (thread_at k (running k)) { regs = r1 }))

-- the work of memory and registers is each that they have
pub turns_by : (m m' r r' : List ℕ) (moment : Moment) (told : Record) (turn : Work → Turn)
    → ((own : ℕ → Bool) → AreOwnMarks m own → Turned m m' r' told (turn (work_of m r moment own (word_at m (reg r 1)))))
    → TurnsBy m m' r r' moment told turn
turns_by m m' r r' moment told turn h w i =
    let P : Kernel → List ℕ → ℕ → ℕ → Option ℕ → Type 0 = λ k c at n p.
    Turned m m' r' told (turn (record { kernel = k; context = c; is_own = w.is_own; stacked = at; step = n; pick = p })) in
    subst (λ (k : Kernel). P k w.context w.stacked w.step w.pick) i.kernel
    (subst (λ (c : List ℕ). P (kernel_of m) c w.stacked w.step w.pick) i.context
    (subst (λ (at : ℕ). P (kernel_of m) r at w.step w.pick) i.stacked
    (subst (λ (n : ℕ). P (kernel_of m) r (word_at m (reg r 1)) n w.pick) i.step_is
    (subst (λ (p : Option ℕ). P (kernel_of m) r (word_at m (reg r 1)) moment.step p) i.pick_is (h w.is_own i.marks)))))
