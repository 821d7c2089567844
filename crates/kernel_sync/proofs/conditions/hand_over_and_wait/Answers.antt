use Rattle.std.proofs.Common.{◌≡◌, sym, ap, ◌∙◌, subst, All, ◌<◌, ◌∷◌, ◌++◌, [], ℕ, List}
use Rattle.kernel_model.specs.Kernel.{Kernel, condition_at}
use Rattle.kernel_model.specs.Words.{app_of, owner_of}
use Rattle.kernel_model.specs.Layout.{kernel_of}
use Rattle.kernel_model.specs.Sync.{own_app, own_number, waiting_condition}
use Rattle.sync_laws.specs.Waiters.{HasRoom}
use Rattle.kernel_sync.proofs.RuleLemmas.{pushed_below, runs_after, waited_left, keeps_by}
use Rattle.kernel_threads.proofs.ChainLemmas.{settled_by}
use Rattle.std.proofs.lemmas.Bool.{eqb-true}
use Rattle.kernel_sync.proofs.conditions.hand_over_and_wait.Goals as goal

pub set_cond-requires-clause-members : goal.set_cond-requires-clause-members
set_cond-requires-clause-members c =
    let k : Kernel = kernel_of c.args.m.now in
    let j : Kernel = kernel_of c.hand_over.new.m in
    let same : own_app j ≡ c.own_app-a.result = ap app_of c.hand_over.ensures.runs.thread ∙ sym c.own_app-a.ensures.value in
    let room : HasRoom (condition_at j (own_app j) c.args.c) =
    (c.running_thread_has_room.ensures j c.args.c c.hand_over.ensures.settled.kernel (runs_after k j c.hand_over.ensures.runs c.requires.runs) c.requires.condition).1 in
    pushed_below c.cond-list.result.items c.push.new.self.items c.own_number-n.result
    (subst (λ xs. All (λ x. x < 4) xs) (ap (λ x. condition_at j x c.args.c) same ∙ sym c.cond-list.ensures) room.numbers) c.own_number-n.ensures.below c.push.ensures.items

pub returns-clause-leaves : goal.returns-clause-leaves
returns-clause-leaves c =
    waited_left c.args.m.now c.hand_over.new.m c.set_cond.new.m c.set_waiting.new.m c.run_none.new.m c.own_app-a.result c.own_number-n.result c.args.c c.args.i c.push.new.self.items
    c.own_app-a.ensures.value c.own_number-n.ensures.value (c.push.ensures.items ∙ ap (λ (xs : List ℕ). xs ++ c.own_number-n.result ∷ []) c.cond-list.ensures)
    c.hand_over.ensures.leaves c.set_cond.ensures c.set_waiting.ensures c.run_none.ensures

pub returns-clause-locks : goal.returns-clause-locks
returns-clause-locks c =
    let k : Kernel = kernel_of c.args.m.now in
    keeps_by c.args.m.now c.run_none.new.m (waiting_condition k c.args.c c.args.i) (returns-clause-leaves c)
    (c.waiting_keeps_locks.ensures k c.args.c c.args.i c.requires.settled.kernel c.requires.runs c.requires.condition c.requires.number (eqb-true (owner_of k (own_app k) c.args.i) (own_number k) c.requires.own))

pub returns-clause-settled : goal.returns-clause-settled
returns-clause-settled c =
    let k : Kernel = kernel_of c.args.m.now in
    settled_by c.args.m.now c.run_none.new.m (waiting_condition k c.args.c c.args.i) c.requires.settled (returns-clause-leaves c)
    (c.waited_is_settled.ensures k c.args.c c.args.i c.requires.settled.kernel c.requires.runs c.requires.condition c.requires.number (eqb-true (owner_of k (own_app k) c.args.i) (own_number k) c.requires.own))
