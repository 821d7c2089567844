-- The load guard.
use Rattle.std.proofs.Common.{◌≡◌, ℕ, ◌+◌, ◌*◌, ◌<◌, ◌⊎◌, List, sym, subst, refl, inl, inr, arith}
use Rattle.msp_encode.specs.declared.instr.Instr.{Instr}
use Rattle.code_model.specs.declared.guards.GuardKind.{GuardKind}
use Rattle.code_model.specs.declared.guards.GuardKind.TheVariants as guard
use Rattle.code_model.specs.Guards.{IsLoadForm, Guarded}
use Rattle.code_model.specs.Rules.{KeepsStores}
use Rattle.machine_model.specs.Context.{reg}
use Rattle.machine_model.specs.Does.{does}
use Rattle.machine_model.specs.Fetching.{IsFetched}
use Rattle.machine_laws.specs.Steady.{IsSteady}
use Rattle.machine_laws.specs.Places.{Stores}
use Rattle.machine_laws.specs.Plain.{Plain, PlainLaw}
use Rattle.load_model.specs.Domains.{Domain}
use Rattle.node_model.specs.Placed.{StandsIn, address, bits}
use Rattle.node_model.specs.Good.{KeepsRegion, IsAtPlace, bounds}
use Rattle.node_model.specs.Instructions.{Leads}
use Rattle.confinement_laws.specs.Given.{CheckerLaws}
use Rattle.confinement_laws.proofs.Placing.{placed}
use Rattle.confinement_laws.proofs.Fetching.{words_in, fetched-is}
use Rattle.confinement_laws.proofs.Leading.{are-bounds}
use Rattle.confinement_laws.proofs.Passing.{region-leads}
use Rattle.confinement_laws.proofs.Storing.{guarded-next}
use Rattle.confinement_laws.proofs.Units.{Sort, IsPlain, Branches, Jumps, loaded-free}
use Rattle.confinement_laws.proofs.UnitSorts.{free-sort}

-- a guard that keeps an address in the region is one of stores or of a load
pub stores-or-loads : (k : GuardKind) → KeepsRegion k → KeepsStores k ⊎ (k ≡ guard.Load)
stores-or-loads guard.Store h = inl tt
stores-or-loads (guard.Wide r) h = inl tt
stores-or-loads guard.Load h = inr refl
stores-or-loads guard.Growth h = absurd h
stores-or-loads guard.Pop h = absurd h
stores-or-loads guard.Sp h = absurd h

-- the instruction of a load guard is one that needs no guard
loaded-plain : (d : Domain) (m : List ℕ) (at first : ℕ) (i : Instr) → IsLoadForm d.object first at i → Sort d m at i → Plain d.lo d.hi (placed i (words_in d m at))
loaded-plain d m at first i h (IsPlain j p) = p
loaded-plain d m at first i (inl h) (Branches x t) = absurd h.0
loaded-plain d m at first i (inr h) (Branches x t) = absurd h.0
loaded-plain d m at first i h (Jumps c k t) = absurd h

pub loaded-sort : CheckerLaws → (d : Domain) (m : List ℕ) (at : ℕ) (h : Guarded d.object at guard.Load) → StandsIn d m → Plain d.lo d.hi (placed h.instr (words_in d m at))
loaded-sort laws d m at h s = loaded-plain d m at h.first h.instr h.serves (free-sort laws d m at h.instr h.words (loaded-free laws d m at h s))

loaded-leads : CheckerLaws → PlainLaw → (d : Domain) (low top : ℕ) (m c : List ℕ) (i : Instr) (n guarded : ℕ) (h : Guarded d.object guarded guard.Load) → StandsIn d m
    → IsSteady (bits d) low top c → reg c 0 ≡ address d guarded → IsFetched m (reg c 0) i n → Leads d low top (does m c i n)
loaded-leads laws plain-passes d low top m c i n guarded h s st here f =
    let same = fetched-is d m guarded h.instr i h.words n (reg c 0) s h.start h.stands here f in
    let next = guarded-next laws d m guarded guard.Load h refl s in
    let fits : reg c 0 + 2 * n < 65536 = omega (arith, here, same.1, s.placed.code_high, next.0.below) in
    region-leads d low top (reg c 0 + 2 * n) (guarded + h.words) (does m c i n)
    (plain-passes (bounds d low top) (bits d) m c i n (are-bounds d low top s.placed) s.memory st fits (subst (Plain d.lo d.hi) (sym same.0) (loaded-sort laws d m guarded h s)))
    (omega (arith, here, same.1)) next

pub loads-lead : CheckerLaws → PlainLaw → (d : Domain) (low top : ℕ) (m c : List ℕ) (i : Instr) (n : ℕ) → StandsIn d m
    → IsSteady (bits d) low top c → (at : IsAtPlace d (bounds d low top) c Stores) → at.kind ≡ guard.Load → IsFetched m (reg c 0) i n → Leads d low top (does m c i n)
loads-lead laws plain-passes d low top m c i n s st at load f =
    loaded-leads laws plain-passes d low top m c i n at.guarded (subst (λ (k : GuardKind). Guarded d.object at.guarded k) load at.by) s st at.pc f
