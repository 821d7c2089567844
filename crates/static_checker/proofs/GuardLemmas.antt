-- Which instructions a guard serves.
use Rattle.std.proofs.Common.{ℕ, drop, subst}
use Rattle.msp_encode.specs.declared.instr.Instr.{Instr}
use Rattle.code_model.specs.declared.object.Object.{Object}
use Rattle.code_model.specs.declared.guards.GuardKind.{GuardKind}
use Rattle.code_model.specs.Starts.{NoneStands}
use Rattle.code_model.specs.Guards.{Serves, ServesAt}
use Rattle.code_laws.proofs.Standing.{same_instr}
use Rattle.static_checker.specs.declared.spot.Spot.{Spot}
use Rattle.static_checker.specs.Spots.{IsSpot}

pub none_stands_served : (g : GuardKind) (o : Object) (first at : ℕ) → NoneStands o.code at → ServesAt g o first at → ⊥
none_stands_served g o first at none x = none x.instr x.words x.stands

pub spot_unserved : (g : GuardKind) (o : Object) (first at : ℕ) (s : Spot) → IsSpot o.code at s → (Serves g o first at s.instr → ⊥) → ServesAt g o first at → ⊥
spot_unserved g o first at s is never x =
    never (subst (λ (i : Instr). Serves g o first at i) (same_instr x.instr s.instr (drop at o.code) x.words s.words x.stands is.stands) x.serves)
