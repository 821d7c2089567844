-- The laws of the checker's definitions that a step rests on.
use Rattle.code_laws.specs.Laws.{GuardsApart, GoesOnFirst, GuardedGoesOn, GuardedLeaves, GuardedFree, JumpLands, BranchLands, CallLands}

-- what the checker's definitions say of guards and targets
pub record CheckerLaws : Type 0 where
  pub apart : GuardsApart
  pub first : GoesOnFirst
  pub goes_on : GuardedGoesOn
  pub leaves : GuardedLeaves
  pub free : GuardedFree
  pub jumps : JumpLands
  pub branches : BranchLands
  pub calls : CallLands
