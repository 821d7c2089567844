-- Where the running domain may go on.
use Rattle.std.specs.Prelude.{◌≡◌, ℕ, List, Result, Ok, Err}
use Rattle.msp_encode.specs.declared.registers.TheConstants.{PC, SP}
use Rattle.machine_model.specs.Context.{reg, set_reg}
use Rattle.machine_model.specs.Operands.{sum_of}
use Rattle.place_model.specs.Marking.{IsOwnMark}

-- the registers that go on at an address
abbrev pub gone_to : (registers : List ℕ) → (at : ℕ) → List ℕ
gone_to r at = set_reg r PC at

-- those that take the return address off the stack, too
abbrev pub returned_to : (registers : List ℕ) → (at : ℕ) → List ℕ
returned_to r at = gone_to (set_reg r SP (sum_of (reg r SP) 2)) at

-- where the address is a mark of the running domain, the registers go on there; else the address is told, and they are as before
abbrev pub GoesOn : (m before after : List ℕ) → (at : ℕ) → (going : List ℕ) → Result (Unit {0}) ℕ → Type 0
GoesOn m r r' at going (Ok _) = IsOwnMark m at × (r' ≡ going)
GoesOn m r r' at going (Err told) = (told ≡ at) × (IsOwnMark m at → ⊥) × (r' ≡ r)
