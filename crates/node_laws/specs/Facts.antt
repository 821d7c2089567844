-- The laws that are taken as premises, each proved in another crate.
use Rattle.machine_laws.specs.Writes.{WrittenLaw}
use Rattle.load_model.specs.Standing.{CodeImageLaw}
use Rattle.node_model.specs.Instructions.{InstructionLaw, StackLaw, FetchLaw, AtEntryLaw}
use Rattle.node_model.specs.Laws.{FetchedLaw}

pub record Given : Type 0 where
  pub image : CodeImageLaw
  pub fetched : FetchedLaw
  pub written : WrittenLaw
  pub instruction : InstructionLaw
  pub stack : StackLaw
  pub fetches : FetchLaw
  pub entries : AtEntryLaw
