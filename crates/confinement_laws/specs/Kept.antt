-- What a step of accepted code leaves.
use Rattle.std.specs.Prelude.{ℕ, ◌+◌, ◌*◌, ◌≤◌, ◌⊎◌, List, length}
use Rattle.std.specs.List.{AllByRecursion}
use Rattle.msp_encode.specs.declared.instr.Instr.{Instr}
use Rattle.machine_model.specs.Memory.{put_all}
use Rattle.machine_model.specs.Context.{IsContext}
use Rattle.machine_model.specs.Does.{does, memory_after}
use Rattle.machine_laws.specs.Steady.{Limits}
use Rattle.machine_laws.specs.Writes.{SamePart}
use Rattle.load_model.specs.Domains.{Domain}
use Rattle.node_model.specs.Placed.{IsWellPlaced, CodeStands, StandsIn}
use Rattle.node_model.specs.Instructions.{Inside}
use Rattle.kernel_model.specs.declared.map.TheConstants.{DATA_POOL_END, KERNEL_STACK}

-- code stands as long as its bytes are the same
abbrev pub CodeLaw : Type 0
CodeLaw = (d : Domain) (m n : List ℕ) → IsWellPlaced d → SamePart d.code_lo (d.code_lo + 2 * length d.object.code) m n → CodeStands d m → CodeStands d n

-- writes inside of a domain's region and stack leave the code of each domain
abbrev pub CodeLeftLaw : Type 0
CodeLeftLaw = (d e : Domain) (low top : ℕ) (m : List ℕ) (ws : List (ℕ × ℕ)) → IsWellPlaced d → IsWellPlaced e → top ≤ DATA_POOL_END
    → AllByRecursion (Inside d low top) ws → CodeStands e m → CodeStands e (put_all m ws)

-- they leave each part that is apart from both
abbrev pub PartLeftLaw : Type 0
PartLeftLaw = (d : Domain) (low top from to : ℕ) (m : List ℕ) (ws : List (ℕ × ℕ)) → (to ≤ d.lo) ⊎ (d.hi ≤ from) → (to ≤ low) ⊎ (top ≤ from)
    → AllByRecursion (Inside d low top) ws → SamePart from to m (put_all m ws)

-- they leave the words for the current limit and the current top
abbrev pub LimitsLeftLaw : Type 0
LimitsLeftLaw = (d : Domain) (low top from to : ℕ) (m : List ℕ) (ws : List (ℕ × ℕ)) → IsWellPlaced d → KERNEL_STACK ≤ low
    → AllByRecursion (Inside d low top) ws → Limits m from to → Limits (put_all m ws) from to

-- behind an instruction that wrote inside of a domain's region and stack each domain still stands
abbrev pub StandsLeftLaw : Type 0
StandsLeftLaw = (d e : Domain) (low top : ℕ) (m c : List ℕ) (i : Instr) (n : ℕ) → IsWellPlaced d → top ≤ DATA_POOL_END → IsContext c
    → AllByRecursion (Inside d low top) (does m c i n).written → StandsIn e m → StandsIn e (memory_after m (does m c i n))
