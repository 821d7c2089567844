-- What calls answer, as turns.
use Rattle.std.proofs.Common.{◌≡◌, ℕ, ◌<◌, Bool, List, length, Option, None, Some, Result, Ok, Err, refl, ap, sym, ◌∙◌, subst}
use Rattle.machine_model.specs.Context.{set_reg}
use Rattle.kernel_model.specs.Kernel.{Kernel}
use Rattle.kernel_model.specs.Words.{running, number_of}
use Rattle.kernel_model.specs.Layout.{kernel_of}
use Rattle.kernel_model.specs.Queues.{Leaves}
use Rattle.kernel_model.specs.Dispatching.{saved, moved_to_front}
use Rattle.kernel_model.specs.Entries.{next_thread, spawned}
use Rattle.kernel_model.specs.declared.code.Code.{Code}
use Rattle.kernel_threads.specs.Entries.{AnswersBy, SpawnedBy}
use Rattle.kernel_modules.specs.Calls.{BecomesBy}
use Rattle.trace_model.specs.declared.records.Record.{Record}
use Rattle.node_model.specs.Entries.{Work, Turn, Call, Spawn, dispatches, called, unless, after, after_giving, after_leaving, code_number, entry_address}
use Rattle.retos_node.specs.declared.turns.Moment.{Moment}
use Rattle.retos_node.specs.Codes.{answer_number}
use Rattle.retos_node.specs.Turns.{DispatchesFrom, Turned, work_of}
use Rattle.retos_node.proofs.TurnLemmas.{dispatches_by, saved_again}

-- ---- a dispatch is a turn

pub dispatched_turn : (m m' r r' : List ℕ) (moment : Moment) (told shown : Record) (own : ℕ → Bool) (at : ℕ) (k : Kernel)
    → DispatchesFrom m m' r' moment k → told ≡ shown → Turned m m' r' told (dispatches (work_of m r moment own at) k shown)
dispatched_turn m m' r r' moment told shown own at k d e = record { leaves = d.leaves; registers_are = d.registers_are; shown = e }

-- ---- a code other than 0

pub refused_turn : (m m' r r' : List ℕ) (moment : Moment) (told : Record) (own : ℕ → Bool) (at : ℕ) (e : Call) (o : Option Code) (code : Code) (n : ℕ) (t : Turn)
    → o ≡ Some code → n ≡ code_number code → told ≡ called (work_of m r moment own at) (entry_address e)
    → DispatchesFrom m m' r' moment (moved_to_front (saved (kernel_of m) (set_reg r 12 n)))
    → Turned m m' r' told (unless e (work_of m r moment own at) o t)
refused_turn m m' r r' moment told own at e o code n t is number shown d =
    let w : Work = work_of m r moment own at in
    subst (λ (x : Option Code). Turned m m' r' told (unless e w x t)) (sym is)
    (dispatched_turn m m' r r' moment told (called w (entry_address e)) own at (moved_to_front (saved (kernel_of m) (set_reg r 12 (code_number code))))
    (subst (λ (x : ℕ). DispatchesFrom m m' r' moment (moved_to_front (saved (kernel_of m) (set_reg r 12 x)))) number d) shown)

-- no code
pub allowed_turn : (m m' r' : List ℕ) (told : Record) (e : Call) (w : Work) (o : Option Code) (t : Turn) → o ≡ None → Turned m m' r' told t
    → Turned m m' r' told (unless e w o t)
allowed_turn m m' r' told e w o t is h = subst (λ (x : Option Code). Turned m m' r' told (unless e w x t)) (sym is) h

-- ---- what an answer says

pub record IsAllowed (m m' : List ℕ) (o : Option Code) (k : Kernel) : Type 0 where
  pub code : o ≡ None
  pub leaves : Leaves m m' k

pub record IsRefused (m m' : List ℕ) (o : Option Code) (code : Code) : Type 0 where
  pub code_is : o ≡ Some code
  pub same : m' ≡ m

pub allowed_by : {A : Type 0} (m m' : List ℕ) (o : Option Code) (k : Kernel) (v u : A) → AnswersBy m m' o k v (Ok u) → IsAllowed m m' o k
allowed_by m m' None k v u h = record { code = refl; leaves = h.1 }
allowed_by m m' (Some d) k v u h = absurd (let e = h.0 in cc)

pub refused_by : {A : Type 0} (m m' : List ℕ) (o : Option Code) (k : Kernel) (v : A) (code : Code) → AnswersBy m m' o k v (Err code) → IsRefused m m' o code
refused_by m m' None k v code h = absurd (let e = h.0 in cc)
refused_by m m' (Some d) k v code h = record { code_is = let e = h.0 in cc; same = h.1 }

pub value_by : {A : Type 0} (m m' : List ℕ) (o : Option Code) (k : Kernel) (v u : A) → AnswersBy m m' o k v (Ok u) → u ≡ v
value_by m m' None k v u h = let e = h.0 in cc
value_by m m' (Some d) k v u h = absurd (let e = h.0 in cc)

-- ---- a call that goes on with its answer

pub answered_turn : (m m1 m' r r' : List ℕ) (moment : Moment) (told : Record) (own : ℕ → Bool) (at : ℕ) (e : Call) (o : Option Code) (k : Kernel) (answer : Result (Unit {0}) Code)
    (n : ℕ) → AnswersBy m m1 o k tt answer → n ≡ answer_number answer → told ≡ called (work_of m r moment own at) (entry_address e)
    → DispatchesFrom m1 m' r' moment (moved_to_front (saved (kernel_of m1) (set_reg r 12 n)))
    → Turned m m' r' told (unless e (work_of m r moment own at) o (after e (work_of m r moment own at) k))
answered_turn m m1 m' r r' moment told own at e None k answer n h is shown d =
    let w : Work = work_of m r moment own at in
    let zero : n ≡ 0 = is ∙ ap answer_number h.0 in
    dispatched_turn m m' r r' moment told (called w (entry_address e)) own at (moved_to_front (saved k (set_reg r 12 0)))
    (dispatches_by (λ j. moved_to_front (saved j (set_reg r 12 0))) m m1 m' r' moment k h.1
    (subst (λ (x : ℕ). DispatchesFrom m1 m' r' moment (moved_to_front (saved (kernel_of m1) (set_reg r 12 x)))) zero d))
    shown
answered_turn m m1 m' r r' moment told own at e (Some code) k answer n h is shown d =
    refused_turn m m' r r' moment told own at e (Some code) code n (after e (work_of m r moment own at) k) refl (is ∙ ap answer_number h.0) shown
    (subst (λ (x : List ℕ). DispatchesFrom x m' r' moment (moved_to_front (saved (kernel_of x) (set_reg r 12 n)))) h.1 d)

-- ---- a call that is answered when the caller's registers are saved with code 0

-- it waits, and the next thread runs
pub left_turn : (m m1 m2 m' r r' : List ℕ) (moment : Moment) (told : Record) (own : ℕ → Bool) (at : ℕ) (e : Call) (o : Option Code) (rule : Kernel → Kernel)
    → Leaves m m1 (saved (kernel_of m) (set_reg r 12 0)) → IsAllowed m1 m2 o (rule (kernel_of m1)) → told ≡ called (work_of m r moment own at) (entry_address e)
    → DispatchesFrom m2 m' r' moment (kernel_of m2)
    → Turned m m' r' told (unless e (work_of m r moment own at) o (after_leaving e (work_of m r moment own at) (rule (saved (kernel_of m) (set_reg r 12 0)))))
left_turn m m1 m2 m' r r' moment told own at e o rule z a shown d =
    let w : Work = work_of m r moment own at in
    let k : Kernel = saved (kernel_of m) (set_reg r 12 0) in
    allowed_turn m m' r' told e w o (after_leaving e w (rule k)) a.code
    (dispatched_turn m m' r r' moment told (called w (entry_address e)) own at (rule k)
    (dispatches_by rule m m1 m' r' moment k z (dispatches_by (λ j. j) m1 m2 m' r' moment (rule (kernel_of m1)) a.leaves d)) shown)

-- it is refused, and its registers are saved again
pub undone_turn : (m m1 m2 m' r r' : List ℕ) (moment : Moment) (told : Record) (own : ℕ → Bool) (at : ℕ) (e : Call) (o : Option Code) (code : Code) (n : ℕ) (t : Turn)
    → running (kernel_of m) < length (kernel_of m).threads
    → Leaves m m1 (saved (kernel_of m) (set_reg r 12 0)) → IsRefused m1 m2 o code → n ≡ code_number code → told ≡ called (work_of m r moment own at) (entry_address e)
    → DispatchesFrom m2 m' r' moment (moved_to_front (saved (kernel_of m2) (set_reg r 12 n)))
    → Turned m m' r' told (unless e (work_of m r moment own at) o t)
undone_turn m m1 m2 m' r r' moment told own at e o code n t row z a number shown d =
    let k : Kernel = kernel_of m in
    let x : List ℕ = set_reg r 12 n in
    refused_turn m m' r r' moment told own at e o code n t a.code_is number shown
    (subst (λ (j : Kernel). DispatchesFrom m m' r' moment (moved_to_front j)) (saved_again k (set_reg r 12 0) x row)
    (dispatches_by (λ j. moved_to_front (saved j x)) m m1 m' r' moment (saved k (set_reg r 12 0)) z
    (subst (λ (y : List ℕ). DispatchesFrom y m' r' moment (moved_to_front (saved (kernel_of y) x))) a.same d)))

-- registers stay where a module isn't entered
pub stays_by : (r r' : List ℕ) (o : Option Code) (context : List ℕ) (code : Code) → o ≡ Some code → BecomesBy r r' o context → r' ≡ r
stays_by r r' o context code is h = let at : BecomesBy r r' (Some code) context = subst (λ (x : Option Code). BecomesBy r r' x context) is h in at

-- a new thread's number is answered
pub spawned_turn : (m m1 m' r r1 r' : List ℕ) (moment : Moment) (told : Record) (own : ℕ → Bool) (at : ℕ) (o : Option Code) (n : ℕ)
    → SpawnedBy m m1 r o (Ok n) → r1 ≡ set_reg r 13 n → told ≡ called (work_of m r moment own at) (entry_address Spawn)
    → DispatchesFrom m1 m' r' moment (moved_to_front (saved (kernel_of m1) (set_reg r1 12 0)))
    → Turned m m' r' told
    (unless Spawn (work_of m r moment own at) o (after_giving Spawn (work_of m r moment own at) (spawned (kernel_of m) r) (number_of (next_thread (kernel_of m)))))
spawned_turn m m1 m' r r1 r' moment told own at o n h is shown d =
    let w : Work = work_of m r moment own at in
    let k : Kernel = spawned (kernel_of m) r in
    let v : ℕ = number_of (next_thread (kernel_of m)) in
    let a : IsAllowed m m1 o k = allowed_by m m1 o k v n h in
    let value : n ≡ v = value_by m m1 o k v n h in
    let x : List ℕ = set_reg (set_reg r 13 v) 12 0 in
    allowed_turn m m' r' told Spawn w o (after_giving Spawn w k v) a.code
    (dispatched_turn m m' r r' moment told (called w (entry_address Spawn)) own at (moved_to_front (saved k x))
    (dispatches_by (λ j. moved_to_front (saved j x)) m m1 m' r' moment k a.leaves
    (subst (λ (y : List ℕ). DispatchesFrom m1 m' r' moment (moved_to_front (saved (kernel_of m1) (set_reg y 12 0)))) (is ∙ ap (λ z. set_reg r 13 z) value) d))
    shown)

-- the code is another's
pub allowed_as : (m m' : List ℕ) (o o' : Option Code) (k : Kernel) → o ≡ o' → IsAllowed m m' o k → IsAllowed m m' o' k
allowed_as m m' o o' k e h = record { code = sym e ∙ h.code; leaves = h.leaves }

pub refused_as : (m m' : List ℕ) (o o' : Option Code) (code : Code) → o ≡ o' → IsRefused m m' o code → IsRefused m m' o' code
refused_as m m' o o' code e h = record { code_is = sym e ∙ h.code_is; same = h.same }
