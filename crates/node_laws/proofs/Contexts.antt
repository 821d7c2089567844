-- Contexts at marks, at entries, and behind a return.
use Rattle.std.proofs.Common.{◌≡◌, ℕ, ◌+◌, ◌-◌, ◌/◌, ◌%◌, ◌<◌, ◌≤◌, ◌⊎◌, true, eqb, List, ◌∙◌, subst, inl, inr, arith, Option, Some}
use Rattle.std.specs.Prelude.{nat_lt, nat_le, ◌&&◌}
use Rattle.std.proofs.lemmas.Bool.{and_parts, ltb-true, leb-true, eqb-true}
use Rattle.kernel_model.specs.declared.entries.TheConstants.{CALLS, FIRST_ENTRY}
use Rattle.kernel_model.specs.declared.kinds.Kind.{Kind}
use Rattle.kernel_model.specs.declared.kinds.Kind.TheVariants.{App, Module}
use Rattle.code_model.specs.Guards.{UnitStart}
use Rattle.code_model.specs.Rules.{IsJumpEntry, IsCallEntry}
use Rattle.code_model.specs.Verdicts.{IsAccepted}
use Rattle.machine_model.specs.Context.{reg, set_reg}
use Rattle.machine_model.specs.Memory.{even}
use Rattle.machine_model.specs.Operands.{sum_of}
use Rattle.machine_model.specs.Does.{raised}
use Rattle.machine_laws.specs.Steady.{IsSteady}
use Rattle.machine_laws.proofs.Registers.{pc_same, steady-reg, steady-sp}
use Rattle.load_model.specs.Domains.{Domain, code_length}
use Rattle.node_model.specs.Placed.{IsWellPlaced, StandsIn, bits}
use Rattle.node_model.specs.Good.{IsGood, AtUnit}
use Rattle.node_laws.specs.Facts.{Given}
use Rattle.node_model.specs.Systems.{domain_in, is_mark, is_mark_in, is_unit_address, has_bit}

-- ---- marks

pub record IsMark (d : Domain) (at : ℕ) : Type 0 where
  pub from : d.code_lo ≤ at
  pub to : at < d.code_lo + code_length d.object
  pub even_at : at % 2 ≡ 0
  pub unit : UnitStart d.object ((at - d.code_lo) / 2)

pub mark-is : (d : Domain) (at : ℕ) → IsAccepted d.object d.units → is_unit_address d at ≡ true → IsMark d at
unfolding is_unit_address
mark-is d at acc e =
    let a : (((nat_le d.code_lo at && nat_lt at (d.code_lo + code_length d.object)) && (eqb (at % 2) 0)) ≡ true)
    × (has_bit d.units ((at - d.code_lo) / 2) ≡ true) = and_parts _ _ e in
    let b : ((nat_le d.code_lo at && nat_lt at (d.code_lo + code_length d.object)) ≡ true) × (eqb (at % 2) 0 ≡ true) =
    and_parts _ _ a.0 in
    let c : (nat_le d.code_lo at ≡ true) × (nat_lt at (d.code_lo + code_length d.object) ≡ true) = and_parts _ _ b.0 in
    record {
      from = leb-true d.code_lo at c.0;
      to = ltb-true at (d.code_lo + code_length d.object) c.1;
      even_at = eqb-true (at % 2) 0 b.1;
      unit = (acc.units ((at - d.code_lo) / 2)).0 (eqb-true _ 1 a.1);
    }

pub mark-of : (ds : List (Option Domain)) (n at : ℕ) (d : Domain) → domain_in ds n ≡ Some d → IsAccepted d.object d.units
    → is_mark ds n at ≡ true → IsMark d at
mark-of ds n at d here acc e = mark-is d at acc (subst (λ (o : Option Domain). is_mark_in o at ≡ true) here e)

pub good-mark : (d : Domain) (low top : ℕ) (c : List ℕ) → IsSteady (bits d) low top c → IsWellPlaced d → IsMark d (reg c 0)
    → IsGood d low top c
good-mark d low top c steady well mark = record {
  steady = steady;
  somewhere = AtUnit ((reg c 0 - d.code_lo) / 2) mark.unit (omega (arith, mark.from, mark.even_at, well.code_even));
}

-- ---- entries

-- where an application's context stands that is above the code
pub at-entry : Given → (d : Domain) (low top : ℕ) (m c : List ℕ) → StandsIn d m → IsGood d low top c → FIRST_ENTRY ≤ reg c 0
    → IsJumpEntry d.object.kind (reg c 0) ⊎ IsCallEntry d.object.kind (reg c 0)
at-entry laws d low top m c s good h = elim (laws.entries d low top m c s good h) [ inl j ↦ inl j | inr e ↦ inr e.0 ]

not-jump : (k : Kind) (pc : ℕ) → k ≡ App → CALLS ≤ pc → IsJumpEntry k pc → ⊥
not-jump App pc e l (inl x) = omega arith
not-jump App pc e l (inr (inl x)) = omega arith
not-jump App pc e l (inr (inr x)) = omega arith
not-jump Module pc e l j = absurd (cc)

-- at an entry of calls a word is on the stack
pub at-call : Given → (d : Domain) (low top : ℕ) (m c : List ℕ) → StandsIn d m → IsGood d low top c → d.object.kind ≡ App
    → CALLS ≤ reg c 0 → reg c 1 + 2 ≤ top
at-call laws d low top m c s good app h =
    elim (laws.entries d low top m c s good (omega arith))
    [ inl j ↦ absurd (not-jump d.object.kind (reg c 0) app h j) | inr e ↦ e.1 ]

-- ---- behind a return

abbrev pub returned : List ℕ → (at : ℕ) → List ℕ
returned c at = set_reg (raised c) 0 at

pub steady-returned : (kb low top : ℕ) (c : List ℕ) (at : ℕ) → IsSteady kb low top c → reg c 1 + 2 ≤ top → top < 65536 → at < 65536
    → IsSteady kb low top (returned c at)
steady-returned kb low top c at s room l small =
    let sp : even (sum_of (reg c 1) 2) ≡ reg c 1 + 2 = omega (arith, s.context.sp_even) in
    steady-reg kb low top (raised c) 0 at
    (steady-sp kb low top c (sum_of (reg c 1) 2) s (omega (arith, sp, s.room)) (omega (arith, sp)) (omega arith)) (omega arith)
    (omega arith) small

pub pc-returned : (kb low top : ℕ) (c : List ℕ) (at : ℕ) → IsSteady kb low top c → reg c 1 + 2 ≤ top → top < 65536 → at % 2 ≡ 0
    → reg (returned c at) 0 ≡ at
pc-returned kb low top c at s room l e =
    let sp : even (sum_of (reg c 1) 2) ≡ reg c 1 + 2 = omega (arith, s.context.sp_even) in
    let raised-is : IsSteady kb low top (raised c) =
    steady-sp kb low top c (sum_of (reg c 1) 2) s (omega (arith, sp, s.room)) (omega (arith, sp)) (omega arith) in
    pc_same (raised c) at raised-is.context ∙ omega (arith, e)
