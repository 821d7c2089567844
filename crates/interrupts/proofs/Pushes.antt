-- SP behind a push, the bit of SR that stays, and memory behind two pushes.
use Rattle.std.proofs.Common.{◌≡◌, ℕ, ◌%◌, List, ◌∙◌, arith, bit_and}
use Rattle.std.proofs.lemmas.List.{get_or-set_same}
use Rattle.std.proofs.lemmas.Nat.Bits.{and_pow}
use Rattle.machine_model.specs.Memory.{even}
use Rattle.machine_model.specs.Context.{reg, set_reg, IsContext}
use Rattle.machine_model.specs.Accepting.{only_scg0}
use Rattle.interrupts.proofs.Pairs.{pushed_memory}

pub sp_after : (r : List ℕ) (v : ℕ) → IsContext r → v % 2 ≡ 0 → reg (set_reg r 1 v) 1 ≡ v
unfolding set_reg
sp_after r v h e = get_or-set_same r 1 (even v) 0 (omega (arith, h.words)) ∙ omega arith

pub scg0_kept : (sr : ℕ) → bit_and sr 64 ≡ only_scg0 sr
scg0_kept sr = and_pow sr 6

pub ruleset pushes = (scg0_kept, pushed_memory)
