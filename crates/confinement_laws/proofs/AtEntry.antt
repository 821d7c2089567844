-- Where a safe context above the code stands.
use Rattle.std.proofs.Common.{◌+◌, ◌≤◌, ◌⊎◌, inl, inr, arith}
use Rattle.machine_model.specs.Context.{reg}
use Rattle.code_model.specs.Rules.{IsJumpEntry, IsCallEntry}
use Rattle.node_model.specs.Good.{IsSomewhere, AtUnit, Within, Jumped, Called, bounds}
use Rattle.node_model.specs.Instructions.{AtEntryLaw}
use Rattle.confinement_laws.proofs.Runs.{place-start}

pub at-entry : AtEntryLaw
at-entry d low top m c s good h = from good.somewhere
  where
    from : IsSomewhere d (bounds d low top) c
        → IsJumpEntry d.object.kind (reg c 0) ⊎ (IsCallEntry d.object.kind (reg c 0) × (reg c 1 + 2 ≤ top))
    from (AtUnit at u here) = absurd (omega (arith, here, u.0.below, s.placed.code_high))
    from (Within p at) =
        absurd (omega (arith, at.pc, (place-start d.object at.guarded p at.kind at.of at.by).below, s.placed.code_high))
    from (Jumped e) = inl e
    from (Called e room) = inr (e, room)
