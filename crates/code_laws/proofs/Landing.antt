-- What follows on what in an object, and where the code of an accepted object goes.
use Rattle.std.proofs.Common.{◌≡◌, ℕ, ◌+◌, ◌≤◌, ◌<◌, inl, inr, length, drop, refl, sym, subst, ap, ◌∙◌, arith}
use Rattle.std.proofs.Math.Nat.{eq-or-lt_of_le}
use Rattle.std.proofs.lemmas.Bool.{cases_lt}
use Rattle.msp_encode.specs.declared.instr.Instr.TheVariants as instr
use Rattle.code_model.specs.declared.object.Object.{Object}
use Rattle.code_model.specs.declared.guards.GuardKind.{GuardKind}
use Rattle.code_model.specs.declared.rules.Rule.TheVariants as rule
use Rattle.code_model.specs.Starts.{Start}
use Rattle.code_model.specs.Guards.{Guarded, guard_words, Covered, Covers, CoversBy, Own, OwnBy}
use Rattle.code_laws.specs.Laws.{OneStands, BeforeInterior, GoesOnFirst, GuardedGoesOn, GuardedLeaves, GuardedFree, JumpLands, BranchLands, CallLands, NamedUnits, IsOneGuard}
use Rattle.code_laws.proofs.Standing.{same_instr, same_size, size_least}
use Rattle.code_laws.proofs.Starting.{starts_apart, next_start}
use Rattle.code_laws.proofs.Runs.{base_before, first_before, served_alone, also_guarded}
use Rattle.code_laws.proofs.Inside.{guards_apart}
use Rattle.code_laws.proofs.Deciding.{stable, unit-or-not, branch-or-not, call-or-not, jump-or-not}

pub one_stands : OneStands
one_stands code at i j m n g h = record { instr = same_instr i j (drop at code) m n g h; words = same_size i j (drop at code) m n g h }

pub before_interior : BeforeInterior
before_interior o at a b g i n h low high start stands ends =
    elim (cases_lt b h.first) [
      | inl less ↦ let t : b + n ≤ h.first = starts_apart o.code b h.first i n start stands h.begins less in absurd (omega arith)
      | inr more ↦ more
    ]

-- a place behind a guard's first is covered
covered : (o : Object) (at a : ℕ) (g : GuardKind) (h : Guarded o a g) → h.first < at → at ≤ a → Covered o at
unfolding Covered Covers CoversBy
covered o at a g h low high = (a, high, (g, (h, low)))

pub goes_on_first : GoesOnFirst
goes_on_first o at a g i n h unit stands low high =
    let t : h.first ≤ at = before_interior o (at + n) a at g i n h low high unit.0 stands refl in
    elim (eq-or-lt_of_le t) [
      | inl same ↦ sym same
      | inr less ↦
          let least : 1 ≤ n = size_least i (drop at o.code) n stands in
          absurd (unit.1 (unit.0, covered o at a g h less (omega arith)))
    ]

pub guarded_free : GuardedFree
unfolding Own OwnBy
guarded_free o at g h (a, (k, (j, (low, high)))) =
    let one : IsOneGuard o at a g k h j = guards_apart o at a at g k h j (omega (arith, first_before o at g h)) (omega arith) low (omega (arith, base_before o a k j)) in
    omega (arith, one.first, h.ends, j.ends, ap (λ (x : GuardKind). length (guard_words x)) one.kind, base_before o at g h)

moved : (o : Object) (x : ℕ) (f : ℕ) (g k : GuardKind) → g ≡ k → (j : Guarded o x k) → f ≡ j.first → (i : Guarded o x g) × (i.first ≡ f)
moved o x f g k e = subst (λ (q : GuardKind). (j : Guarded o x q) → f ≡ j.first → (i : Guarded o x g) × (i.first ≡ f)) e (λ j same. (j, sym same))

pub guarded_goes_on : GuardedGoesOn
unfolding Covered Covers CoversBy
guarded_goes_on o at g h (start, (a, less, (k, (j, before)))) =
    let least : 1 ≤ h.words = size_least h.instr (drop at o.code) h.words h.stands in
    let low : j.first ≤ at = before_interior o (at + h.words) a at k h.instr h.words j before less h.start h.stands refl in
    let one : IsOneGuard o at a g k h j = guards_apart o at a at g k h j (omega (arith, first_before o at g h)) (omega arith) low (omega arith) in
    let base : j.base ≡ h.base = omega (arith, one.first, h.ends, j.ends, ap (λ (x : GuardKind). length (guard_words x)) one.kind) in
    let also = also_guarded o a (at + h.words) k j start (omega (arith, base, base_before o at g h)) less in
    let to = moved o (at + h.words) h.first g k one.kind also.guarded (one.first ∙ sym also.first) in
    record { guarded = to.0; first = to.1 }

pub guarded_leaves : GuardedLeaves
guarded_leaves o at g h alone inside =
    let start : Start o.code (at + h.words) = next_start o.code at h.instr h.words h.start h.stands inside in
    let least : 1 ≤ h.words = size_least h.instr (drop at o.code) h.words h.stands in
    let here : at ≡ h.base = served_alone o at g h alone in (
      start,
      λ interior.
          let on = guarded_goes_on o at g h interior in
          omega (arith, here, served_alone o (at + h.words) g on.guarded alone, on.guarded.ends, h.ends, on.first),
    )

-- ---- accepted objects

pub jump_lands : JumpLands
jump_lands o m at n c k accepted start stands free =
    stable (jump-or-not o m at k accepted)
    (λ misses. accepted.none at rule.Jump (free, record { start = start; instr = instr.Jump c k; words = n; stands = stands; breaks = misses }))

pub branch_lands : BranchLands
branch_lands o m at n op w s d accepted start stands free branch =
    stable (branch-or-not o m (at + 1) s accepted)
    (λ misses. accepted.none at rule.Target (free, record { start = start; instr = instr.Two op w s d; words = n; stands = stands; breaks = (branch, misses) }))

pub call_lands : CallLands
call_lands o m at n op w s accepted start stands free call =
    stable (call-or-not o m (at + 1) s accepted)
    (λ misses. accepted.none at rule.Target (free, record { start = start; instr = instr.One op w s; words = n; stands = stands; breaks = (call, misses) }))

pub named_units : NamedUnits
named_units o m at accepted named = stable (unit-or-not o m at accepted) (λ no_unit. accepted.none at rule.Entry (named, no_unit))
