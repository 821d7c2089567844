-- In an accepted object each dangerous instruction is guarded.
use Rattle.std.proofs.Common.{◌≡◌, ℕ, List, inl, inr, slice_index, subst, arith}
use Rattle.std.proofs.Math.Nat.{eq-or-lt_of_le}
use Rattle.msp_encode.specs.declared.instr.Src.TheVariants as src
use Rattle.msp_encode.specs.declared.instr.Dst.TheVariants as dst
use Rattle.msp_encode.specs.declared.instr.Instr.{Instr}
use Rattle.msp_encode.specs.declared.instr.Instr.TheVariants as instr
use Rattle.msp_encode.specs.Spelling.{First}
use Rattle.msp_encode.specs.Forms.{WritesReg}
use Rattle.code_model.specs.declared.object.Object.{Object}
use Rattle.code_model.specs.declared.guards.GuardKind.{GuardKind}
use Rattle.code_model.specs.declared.guards.GuardKind.TheVariants as guard
use Rattle.code_model.specs.declared.rules.Rule.{Rule}
use Rattle.code_model.specs.declared.rules.Rule.TheVariants as rule
use Rattle.code_model.specs.Starts.{Stands}
use Rattle.code_model.specs.Guards.{Guarded, CoversBy, Covers, Covered, OwnBy, Own, Interior, UnitStart}
use Rattle.code_model.specs.Rules.{IsGuardedStore, Breaks, BreaksAt, ReadsStack}
use Rattle.code_model.specs.Verdicts.{IsAccepted}
use Rattle.code_model.specs.Dangers.{Acts, IsDangerous, DangersGuarded, WritesAbsolute}
use Rattle.code_laws.proofs.Begins.{stands_first, guard_begins, quiet_src}
use Rattle.code_laws.proofs.Runs.{base_before, first_before}

-- saving the status isn't dangerous
pub saves_quietly : (i : Instr) → First i 0x4205 → Acts i → ⊥
saves_quietly (instr.Two op w s (dst.Reg n)) f a = go a
  where
    is : 5 ≡ n
    is = f.destination.0

    go : Acts (instr.Two op w s (dst.Reg n)) → ⊥
    go (inl x) = x.1
    go (inr (inl x)) = x.1
    go (inr (inr (inl x))) = omega (arith, x.1, is)
    go (inr (inr (inr (inl x)))) = omega (arith, x.1, is)
    go (inr (inr (inr (inr (inl x))))) = omega (arith, x.1, is)
    go (inr (inr (inr (inr (inr (inl x)))))) = quiet_src s f.source x
    go (inr (inr (inr (inr (inr (inr (inl x))))))) = x
    go (inr (inr (inr (inr (inr (inr (inr x))))))) = x
saves_quietly (instr.Two op w s (dst.Indexed n x)) f a = omega (arith, f.destination.1)
saves_quietly (instr.Two op w s (dst.Symbolic x)) f a = omega (arith, f.destination.1)
saves_quietly (instr.Two op w s (dst.Absolute x)) f a = omega (arith, f.destination.1)
saves_quietly (instr.One op w s) f a = omega (arith, f.form)
saves_quietly instr.Reti f a = omega (arith, f)
saves_quietly (instr.Jump c k) f a = omega (arith, f.form)

-- ---- guards and unit starts

-- a guarded instruction is interior
pub guarded_interior : (o : Object) (at : ℕ) (g : GuardKind) → Guarded o at g → Interior o at
unfolding Covered Covers CoversBy
guarded_interior o at g h = (h.start, (at, omega arith, (g, (h, first_before o at g h))))

pub record BeginsAt (o : Object) (at : ℕ) : Type 0 where
  pub guarded : ℕ
  pub kind : GuardKind
  pub by : Guarded o guarded kind
  pub first : by.first ≡ at

-- a unit start among a guard's own words is the guard's first
pub own_first : (o : Object) (at : ℕ) → UnitStart o at → Own o at → BeginsAt o at
unfolding Covered Covers CoversBy Own OwnBy
own_first o at unit (guarded, (g, (h, (most, before)))) =
    elim (eq-or-lt_of_le most) [
      | inl same ↦ record { guarded = guarded; kind = g; by = h; first = same }
      | inr earlier ↦ absurd (unit.1 (unit.0, (guarded, omega (arith, base_before o guarded g h), (g, (h, earlier)))))
    ]

-- a dangerous instruction that starts a unit is none of a guard's own
danger_free : (o : Object) (at : ℕ) (i : Instr) (n : ℕ) → UnitStart o at → Stands o.code at i n → Acts i → Own o at → ⊥
danger_free o at i n unit stands acts own =
    let b = own_first o at unit own in
    let word : slice_index o.code at ≡ 0x4205 = subst (λ (k : ℕ). slice_index o.code k ≡ 0x4205) b.first (guard_begins o b.by.first b.kind b.by.fit) in
    saves_quietly i (subst (λ (w : ℕ). First i w) word (stands_first o.code at i n stands)) acts

-- ---- what the rules leave

module _ (o : Object) (m : List ℕ) (accepted : IsAccepted o m) (at : ℕ) (n : ℕ) (unit : UnitStart o at) where
  broken : (r : Rule) (i : Instr) → Stands o.code at i n → Breaks r o at i n → BreaksAt r o at
  broken r i stands b = record { start = unit.0; instr = i; words = n; stands = stands; breaks = b }

  unguarded : (g : GuardKind) → Guarded o at g → ⊥
  unguarded g h = unit.1 (guarded_interior o at g h)

  pop_free : (i : Instr) → Stands o.code at i n → (Own o at → ⊥) → ReadsStack i → ⊥
  pop_free i st free x = accepted.none at rule.Pop (free, broken rule.Pop i st (x, unguarded guard.Pop))

  two_absolute : (i : Instr) → Stands o.code at i n → IsDangerous o at i → (Own o at → ⊥) → WritesAbsolute i → ⊥
  two_absolute (instr.Two op w s (dst.Absolute x)) st d free a =
      accepted.none at rule.Static (free, broken rule.Static (instr.Two op w s (dst.Absolute x)) st (a.0, λ inside. d.no_static (a.0, inside, pop_free (instr.Two op w s (dst.Absolute x)) st free)))
  two_absolute (instr.Two op w s (dst.Reg k)) st d free a = a.1
  two_absolute (instr.Two op w s (dst.Indexed k x)) st d free a = a.1
  two_absolute (instr.Two op w s (dst.Symbolic x)) st d free a = a.1
  two_absolute (instr.One op w (src.Absolute x)) st d free a =
      accepted.none at rule.Static (free, broken rule.Static (instr.One op w (src.Absolute x)) st (a.0, λ inside. d.no_static (a.0, inside)))
  two_absolute (instr.One op w (src.Reg k)) st d free a = a.1
  two_absolute (instr.One op w (src.Indexed k x)) st d free a = a.1
  two_absolute (instr.One op w (src.Symbolic x)) st d free a = a.1
  two_absolute (instr.One op w (src.Indirect k)) st d free a = a.1
  two_absolute (instr.One op w (src.AutoInc k)) st d free a = a.1
  two_absolute (instr.One op w (src.Immediate x)) st d free a = a.1
  two_absolute (instr.One op w (src.Const c)) st d free a = a.1
  two_absolute instr.Reti st d free a = a
  two_absolute (instr.Jump c k) st d free a = a

  writes_pc : (i : Instr) → Stands o.code at i n → IsDangerous o at i → (Own o at → ⊥) → WritesReg i 0 → ⊥
  writes_pc (instr.Two op w s t) st d free a =
      accepted.none at rule.Pc (
        free,
        broken rule.Pc (instr.Two op w s t) st (
          a,
          λ branch.
              accepted.none at rule.Target (free, broken rule.Target (instr.Two op w s t) st (branch, λ target. d.no_branch (branch, target))),
        ),
      )
  writes_pc (instr.One op w s) st d free a = accepted.none at rule.Pc (free, broken rule.Pc (instr.One op w s) st (a, λ branch. branch))
  writes_pc instr.Reti st d free a = a
  writes_pc (instr.Jump c k) st d free a = a

  no_store : IsGuardedStore o at → ⊥
  unfolding IsGuardedStore
  no_store (g, (keeps, h)) = unguarded g h

  no_danger : (i : Instr) → Stands o.code at i n → IsDangerous o at i → ⊥
  no_danger i st d = go d.acts
    where
      free : Own o at → ⊥
      free = danger_free o at i n unit st d.acts

      go : Acts i → ⊥
      go (inl x) = accepted.none at rule.Store (free, broken rule.Store i st (x, no_store))
      go (inr (inl x)) = two_absolute i st d free x
      go (inr (inr (inl x))) = writes_pc i st d free x
      go (inr (inr (inr (inl x)))) = accepted.none at rule.Sp (free, broken rule.Sp i st (x, unguarded guard.Sp))
      go (inr (inr (inr (inr (inl x))))) = accepted.none at rule.Sr (free, broken rule.Sr i st (x, λ flags. d.no_flags (flags, x)))
      go (inr (inr (inr (inr (inr (inl x)))))) = pop_free i st free x
      go (inr (inr (inr (inr (inr (inr (inl x))))))) = accepted.none at rule.Push (free, broken rule.Push i st (x, unguarded guard.Growth))
      go (inr (inr (inr (inr (inr (inr (inr x))))))) = accepted.none at rule.Reti (broken rule.Reti i st x)

pub accepted_guarded : (o : Object) (m : List ℕ) → IsAccepted o m → DangersGuarded o
accepted_guarded o m accepted at i n start stands danger =
    elim (accepted.each at start) [ inl interior ↦ interior | inr unit ↦ absurd (no_danger o m accepted at n unit i stands danger) ]
