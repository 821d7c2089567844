use Rattle.confinement_laws.proofs.code_laws.Goals as goal

pub returns : goal.returns
returns c = record {
  apart = c.guards_apart.ensures;
  first = c.goes_on_first.ensures;
  goes_on = c.guarded_goes_on.ensures;
  leaves = c.guarded_leaves.ensures;
  free = c.guarded_free.ensures;
  jumps = c.jump_lands.ensures;
  branches = c.branch_lands.ensures;
  calls = c.call_lands.ensures;
}
