-- Running the unit of a source instruction: steps that write nothing, and a last one.
use Rattle.std.specs.Prelude.{◌≡◌, ℕ, zero, suc, ◌+◌, ◌<◌, List, [], ◌∷◌}
use Rattle.machine_model.specs.Context.{reg}
use Rattle.machine_model.specs.Does.{does, Effect}
use Rattle.machine_model.specs.Fetching.{IsFetched}
use Rattle.msp_encode.specs.declared.registers.TheConstants.{PC}
use Rattle.msp_encode.specs.declared.instr.Instr.{Instr}

-- the sixteen registers: PC, SR, R4 and R5 are given, and the others are those of a context
abbrev pub held : List ℕ → (pc sr x y : ℕ) → List ℕ
held r pc sr x y = pc ∷ reg r 1 ∷ sr ∷ reg r 3 ∷ x ∷ y ∷ reg r 6 ∷ reg r 7 ∷ reg r 8 ∷ reg r 9 ∷ reg r 10 ∷ reg r 11 ∷ reg r 12 ∷ reg r 13 ∷ reg r 14 ∷ reg r 15 ∷ []

-- a step that writes nothing
abbrev pub silent : List ℕ → Effect
silent q = record { context = q; written = [] }

-- an address behind a unit's first word and before its end
abbrev pub IsInside : (first past : ℕ) → ℕ → Type 0
IsInside first past a = (first < a) × (a < past)

-- So many steps lead from a context to another. Each is of the instruction that is fetched, writes nothing, and leads inside the
-- unit.
pub data Runs (m : List ℕ) (first past : ℕ) : ℕ → List ℕ → List ℕ → Type 0 where
  Stays : (c : List ℕ) → Runs m first past zero c c
  Goes : (k : ℕ) (c q d : List ℕ) (i : Instr) (n : ℕ) → IsFetched m (reg c PC) i n → does m c i n ≡ silent q → IsInside first past (reg q PC) → Runs m first past k q d → Runs m first past (suc k) c d

-- Running a unit from a context ends with an effect: steps inside it, and one that leads out
pub record RunsUnit (m : List ℕ) (first past : ℕ) (c : List ℕ) (e : Effect) : Type 0 where
  pub steps : ℕ
  pub before : List ℕ
  pub runs : Runs m first past steps c before
  pub instr : Instr
  pub words : ℕ
  pub fetched : IsFetched m (reg before PC) instr words
  pub last : does m before instr words ≡ e
  pub leaves : IsInside first past (reg e.context PC) → ⊥

-- ---- laws of runs

-- a run is followed by a run of what it leads to
abbrev pub JoinLaw : Type 0
JoinLaw = (m : List ℕ) (first past j k : ℕ) (b c d : List ℕ) → Runs m first past j b c → Runs m first past k c d → Runs m first past (j + k) b d

-- running a unit goes on where a run inside it leads
abbrev pub FollowLaw : Type 0
FollowLaw = (m : List ℕ) (first past k : ℕ) (c d : List ℕ) (e : Effect) → Runs m first past k c d → RunsUnit m first past d e → RunsUnit m first past c e

-- running a unit ends in one way
abbrev pub OnceLaw : Type 0
OnceLaw = (m : List ℕ) (first past : ℕ) (c : List ℕ) (e f : Effect) → RunsUnit m first past c e → RunsUnit m first past c f → e ≡ f
