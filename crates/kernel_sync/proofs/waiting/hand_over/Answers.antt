use Rattle.std.proofs.Common.{◌≡◌, ℕ, List, Some, None, refl, ap, sym, ◌∙◌, remove}
use Rattle.std.specs.List.{slice_get}
use Rattle.kernel_model.specs.Kernel.{Kernel}
use Rattle.kernel_model.specs.Words.{waiters_of}
use Rattle.kernel_model.specs.Layout.{kernel_of}
use Rattle.kernel_model.specs.Sync.{handed_over}
use Rattle.kernel_model.specs.declared.rows.MutexRow.{MutexRow}
use Rattle.kernel_threads.proofs.ChainLemmas.{settled_by}
use Rattle.kernel_sync.proofs.RuleLemmas.{first_waits, behind_below, handed_free, handed_first}
use Rattle.kernel_sync.proofs.waiting.hand_over.Goals as goal

pub give-requires-clause-may : goal.give-requires-clause-may
give-requires-clause-may c =
    let k : Kernel = kernel_of c.args.m.now in
    let list : c.mutex-waiters.result.waiters.items ≡ waiters_of k c.args.a c.args.i = ap (λ (r : MutexRow). r.waiters.items) c.mutex-waiters.ensures in
    let first : slice_get (waiters_of k c.args.a c.args.i) 0 ≡ Some c.in-Some.n = ap (λ (xs : List ℕ). slice_get xs 0) (sym list) ∙ sym c.in-Some.ensures.value in
    c.waiter_may_get_ready.ensures k c.args.a c.args.i c.in-Some.n c.requires.settled.kernel c.requires.app c.requires.number (first_waits (waiters_of k c.args.a c.args.i) c.in-Some.n first)

pub give-requires-clause-waiters : goal.give-requires-clause-waiters
give-requires-clause-waiters c =
    let k : Kernel = kernel_of c.args.m.now in
    let list : c.mutex-waiters.result.waiters.items ≡ waiters_of k c.args.a c.args.i = ap (λ (r : MutexRow). r.waiters.items) c.mutex-waiters.ensures in
    behind_below (waiters_of k c.args.a c.args.i) c.pop_at.new.self.items (c.waiters_are_numbers.ensures k c.args.a c.args.i c.requires.settled.kernel c.requires.app c.requires.number).0
    (c.in-Some.ensures.items ∙ ap (λ (xs : List ℕ). remove xs 0) list)

pub returns-in-None-clause-leaves : goal.returns-in-None-clause-leaves
returns-in-None-clause-leaves c =
    let k : Kernel = kernel_of c.args.m.now in
    let list : c.mutex-waiters.result.waiters.items ≡ waiters_of k c.args.a c.args.i = ap (λ (r : MutexRow). r.waiters.items) c.mutex-waiters.ensures in
    let first : slice_get (waiters_of k c.args.a c.args.i) 0 ≡ None = ap (λ (xs : List ℕ). slice_get xs 0) (sym list) ∙ sym c.in-None.ensures.value in
    handed_free c.args.m.now c.free.new.m c.args.a c.args.i first c.free.ensures

pub returns-in-None-clause-settled : goal.returns-in-None-clause-settled
returns-in-None-clause-settled c =
    let k : Kernel = kernel_of c.args.m.now in
    settled_by c.args.m.now c.free.new.m (handed_over k c.args.a c.args.i) c.requires.settled (returns-in-None-clause-leaves c)
    (c.handed_is_settled.ensures.handed k c.args.a c.args.i (waiters_of k c.args.a c.args.i) c.requires.settled.kernel c.requires.app c.requires.number refl)

pub returns-in-Some-clause-leaves : goal.returns-in-Some-clause-leaves
returns-in-Some-clause-leaves c =
    let k : Kernel = kernel_of c.args.m.now in
    let list : c.mutex-waiters.result.waiters.items ≡ waiters_of k c.args.a c.args.i = ap (λ (r : MutexRow). r.waiters.items) c.mutex-waiters.ensures in
    let first : slice_get (waiters_of k c.args.a c.args.i) 0 ≡ Some c.in-Some.n = ap (λ (xs : List ℕ). slice_get xs 0) (sym list) ∙ sym c.in-Some.ensures.value in
    handed_first c.args.m.now c.give.new.m c.args.a c.args.i c.in-Some.n c.pop_at.new.self.items first (c.in-Some.ensures.items ∙ ap (λ (xs : List ℕ). remove xs 0) list) c.give.ensures

pub returns-in-Some-clause-settled : goal.returns-in-Some-clause-settled
returns-in-Some-clause-settled c =
    let k : Kernel = kernel_of c.args.m.now in
    settled_by c.args.m.now c.give.new.m (handed_over k c.args.a c.args.i) c.requires.settled (returns-in-Some-clause-leaves c)
    (c.handed_is_settled.ensures.handed k c.args.a c.args.i (waiters_of k c.args.a c.args.i) c.requires.settled.kernel c.requires.app c.requires.number refl)
