-- A step of accepted code.
use Rattle.std.proofs.Common.{◌≡◌, ℕ, ◌≤◌, List, refl, inl, inr, arith}
use Rattle.kernel_model.specs.declared.entries.TheConstants.{FIRST_ENTRY}
use Rattle.kernel_model.specs.declared.kinds.Kind.{Kind}
use Rattle.kernel_model.specs.declared.kinds.Kind.TheVariants.{App, Module}
use Rattle.code_model.specs.declared.guards.Reach.{Reach}
use Rattle.code_model.specs.declared.guards.GuardKind.{GuardKind}
use Rattle.code_model.specs.declared.guards.GuardKind.TheVariants as guard
use Rattle.code_model.specs.Starts.{Start}
use Rattle.code_model.specs.Rules.{IsJumpEntry, IsCallEntry}
use Rattle.machine_model.specs.Context.{reg}
use Rattle.machine_model.specs.Does.{does}
use Rattle.machine_model.specs.Fetching.{IsFetched}
use Rattle.msp_encode.specs.declared.instr.Instr.{Instr}
use Rattle.machine_laws.specs.Steady.{IsSteady}
use Rattle.machine_laws.specs.Places.{TakesAddress, AddsIndex, ComparesLow, JumpsIfLow, ComparesHigh, JumpsIfHigh, StoreFails, StoreRestores, ComparesLimit, JumpsIfRoom, GrowthFails, GrowthRestores, ComparesTop, JumpsIfFilled, PopFails, PopRestores, ComparesNewLow, JumpsIfNewLow, ComparesNewHigh, JumpsIfNewHigh, SpFails, SpRestores, Stores, Grows, Pops, SetsSp, GuardPlace}
use Rattle.machine_laws.specs.Own.{OwnLaw, SameLaw}
use Rattle.machine_laws.specs.Guarded.{StoreLaw, StoreLeavesLaw, PushLaw, CallLaw, PopLaw, SpLaw}
use Rattle.machine_laws.specs.Plain.{PlainLaw}
use Rattle.confinement_laws.specs.Given.{CheckerLaws}
use Rattle.load_model.specs.Domains.{Domain}
use Rattle.node_model.specs.Placed.{StandsIn, address, bits}
use Rattle.node_model.specs.Good.{guard_of, place_at, IsAtPlace, IsSomewhere, AtUnit, Within, Jumped, Called, bounds}
use Rattle.node_model.specs.Instructions.{Leads, GuardLaw, UnitLaw, InstructionLaw, FetchLaw, StepsAt}
use Rattle.confinement_laws.proofs.Placing.{placed}
use Rattle.confinement_laws.proofs.Runs.{place-start}
use Rattle.confinement_laws.proofs.Fetching.{words_in, placed-fetched}
use Rattle.confinement_laws.proofs.Leading.{line-leads}
use Rattle.confinement_laws.proofs.Storing.{stores-lead}
use Rattle.confinement_laws.proofs.Loading.{stores-or-loads, loads-lead}
use Rattle.confinement_laws.proofs.Stacking.{grows-lead, pops-lead, sp-leads}

-- a step at an instruction that a guard of the region serves
region-served-leads : CheckerLaws → StoreLaw → StoreLeavesLaw → PlainLaw → (d : Domain) (low top : ℕ) (m c : List ℕ) (i : Instr) (n : ℕ) → StandsIn d m
    → IsSteady (bits d) low top c → (at : IsAtPlace d (bounds d low top) c Stores) → IsFetched m (reg c 0) i n → Leads d low top (does m c i n)
region-served-leads laws store-stays store-leaves plain-passes d low top m c i n s st at f = elim (stores-or-loads at.kind at.of) [
  | inl keeps ↦ stores-lead laws store-stays store-leaves d low top m c i n s st at keeps f
  | inr load ↦ loads-lead laws plain-passes d low top m c i n s st at load f
]

pub store-guard_leads : CheckerLaws → OwnLaw → SameLaw → StoreLaw → StoreLeavesLaw → PlainLaw → GuardLaw guard.Store
store-guard_leads laws own-leads same-stays store-stays store-leaves plain-passes d low top m c TakesAddress i n e s li st at f = line-leads own-leads same-stays d low top m c TakesAddress i n tt s li st at f
store-guard_leads laws own-leads same-stays store-stays store-leaves plain-passes d low top m c AddsIndex i n e s li st at f = line-leads own-leads same-stays d low top m c AddsIndex i n tt s li st at f
store-guard_leads laws own-leads same-stays store-stays store-leaves plain-passes d low top m c ComparesLow i n e s li st at f = line-leads own-leads same-stays d low top m c ComparesLow i n tt s li st at f
store-guard_leads laws own-leads same-stays store-stays store-leaves plain-passes d low top m c JumpsIfLow i n e s li st at f = line-leads own-leads same-stays d low top m c JumpsIfLow i n tt s li st at f
store-guard_leads laws own-leads same-stays store-stays store-leaves plain-passes d low top m c ComparesHigh i n e s li st at f = line-leads own-leads same-stays d low top m c ComparesHigh i n tt s li st at f
store-guard_leads laws own-leads same-stays store-stays store-leaves plain-passes d low top m c JumpsIfHigh i n e s li st at f = line-leads own-leads same-stays d low top m c JumpsIfHigh i n tt s li st at f
store-guard_leads laws own-leads same-stays store-stays store-leaves plain-passes d low top m c StoreFails i n e s li st at f = line-leads own-leads same-stays d low top m c StoreFails i n tt s li st at f
store-guard_leads laws own-leads same-stays store-stays store-leaves plain-passes d low top m c StoreRestores i n e s li st at f = line-leads own-leads same-stays d low top m c StoreRestores i n tt s li st at f
store-guard_leads laws own-leads same-stays store-stays store-leaves plain-passes d low top m c Stores i n e s li st at f = region-served-leads laws store-stays store-leaves plain-passes d low top m c i n s st at f
store-guard_leads laws own-leads same-stays store-stays store-leaves plain-passes d low top m c ComparesLimit i n e s li st at f = cc
store-guard_leads laws own-leads same-stays store-stays store-leaves plain-passes d low top m c JumpsIfRoom i n e s li st at f = cc
store-guard_leads laws own-leads same-stays store-stays store-leaves plain-passes d low top m c GrowthFails i n e s li st at f = cc
store-guard_leads laws own-leads same-stays store-stays store-leaves plain-passes d low top m c GrowthRestores i n e s li st at f = cc
store-guard_leads laws own-leads same-stays store-stays store-leaves plain-passes d low top m c Grows i n e s li st at f = cc
store-guard_leads laws own-leads same-stays store-stays store-leaves plain-passes d low top m c ComparesTop i n e s li st at f = cc
store-guard_leads laws own-leads same-stays store-stays store-leaves plain-passes d low top m c JumpsIfFilled i n e s li st at f = cc
store-guard_leads laws own-leads same-stays store-stays store-leaves plain-passes d low top m c PopFails i n e s li st at f = cc
store-guard_leads laws own-leads same-stays store-stays store-leaves plain-passes d low top m c PopRestores i n e s li st at f = cc
store-guard_leads laws own-leads same-stays store-stays store-leaves plain-passes d low top m c Pops i n e s li st at f = cc
store-guard_leads laws own-leads same-stays store-stays store-leaves plain-passes d low top m c ComparesNewLow i n e s li st at f = cc
store-guard_leads laws own-leads same-stays store-stays store-leaves plain-passes d low top m c JumpsIfNewLow i n e s li st at f = cc
store-guard_leads laws own-leads same-stays store-stays store-leaves plain-passes d low top m c ComparesNewHigh i n e s li st at f = cc
store-guard_leads laws own-leads same-stays store-stays store-leaves plain-passes d low top m c JumpsIfNewHigh i n e s li st at f = cc
store-guard_leads laws own-leads same-stays store-stays store-leaves plain-passes d low top m c SpFails i n e s li st at f = cc
store-guard_leads laws own-leads same-stays store-stays store-leaves plain-passes d low top m c SpRestores i n e s li st at f = cc
store-guard_leads laws own-leads same-stays store-stays store-leaves plain-passes d low top m c SetsSp i n e s li st at f = cc

pub growth-guard_leads : CheckerLaws → OwnLaw → SameLaw → PushLaw → CallLaw → GuardLaw guard.Growth
growth-guard_leads laws own-leads same-stays push-stays call-stays d low top m c TakesAddress i n e s li st at f = cc
growth-guard_leads laws own-leads same-stays push-stays call-stays d low top m c AddsIndex i n e s li st at f = cc
growth-guard_leads laws own-leads same-stays push-stays call-stays d low top m c ComparesLow i n e s li st at f = cc
growth-guard_leads laws own-leads same-stays push-stays call-stays d low top m c JumpsIfLow i n e s li st at f = cc
growth-guard_leads laws own-leads same-stays push-stays call-stays d low top m c ComparesHigh i n e s li st at f = cc
growth-guard_leads laws own-leads same-stays push-stays call-stays d low top m c JumpsIfHigh i n e s li st at f = cc
growth-guard_leads laws own-leads same-stays push-stays call-stays d low top m c StoreFails i n e s li st at f = cc
growth-guard_leads laws own-leads same-stays push-stays call-stays d low top m c StoreRestores i n e s li st at f = cc
growth-guard_leads laws own-leads same-stays push-stays call-stays d low top m c Stores i n e s li st at f = cc
growth-guard_leads laws own-leads same-stays push-stays call-stays d low top m c ComparesLimit i n e s li st at f = line-leads own-leads same-stays d low top m c ComparesLimit i n tt s li st at f
growth-guard_leads laws own-leads same-stays push-stays call-stays d low top m c JumpsIfRoom i n e s li st at f = line-leads own-leads same-stays d low top m c JumpsIfRoom i n tt s li st at f
growth-guard_leads laws own-leads same-stays push-stays call-stays d low top m c GrowthFails i n e s li st at f = line-leads own-leads same-stays d low top m c GrowthFails i n tt s li st at f
growth-guard_leads laws own-leads same-stays push-stays call-stays d low top m c GrowthRestores i n e s li st at f = line-leads own-leads same-stays d low top m c GrowthRestores i n tt s li st at f
growth-guard_leads laws own-leads same-stays push-stays call-stays d low top m c Grows i n e s li st at f = grows-lead laws push-stays call-stays d low top m c i n s li st at f
growth-guard_leads laws own-leads same-stays push-stays call-stays d low top m c ComparesTop i n e s li st at f = cc
growth-guard_leads laws own-leads same-stays push-stays call-stays d low top m c JumpsIfFilled i n e s li st at f = cc
growth-guard_leads laws own-leads same-stays push-stays call-stays d low top m c PopFails i n e s li st at f = cc
growth-guard_leads laws own-leads same-stays push-stays call-stays d low top m c PopRestores i n e s li st at f = cc
growth-guard_leads laws own-leads same-stays push-stays call-stays d low top m c Pops i n e s li st at f = cc
growth-guard_leads laws own-leads same-stays push-stays call-stays d low top m c ComparesNewLow i n e s li st at f = cc
growth-guard_leads laws own-leads same-stays push-stays call-stays d low top m c JumpsIfNewLow i n e s li st at f = cc
growth-guard_leads laws own-leads same-stays push-stays call-stays d low top m c ComparesNewHigh i n e s li st at f = cc
growth-guard_leads laws own-leads same-stays push-stays call-stays d low top m c JumpsIfNewHigh i n e s li st at f = cc
growth-guard_leads laws own-leads same-stays push-stays call-stays d low top m c SpFails i n e s li st at f = cc
growth-guard_leads laws own-leads same-stays push-stays call-stays d low top m c SpRestores i n e s li st at f = cc
growth-guard_leads laws own-leads same-stays push-stays call-stays d low top m c SetsSp i n e s li st at f = cc

pub pop-guard_leads : CheckerLaws → OwnLaw → SameLaw → PopLaw → GuardLaw guard.Pop
pop-guard_leads laws own-leads same-stays pop-stays d low top m c TakesAddress i n e s li st at f = cc
pop-guard_leads laws own-leads same-stays pop-stays d low top m c AddsIndex i n e s li st at f = cc
pop-guard_leads laws own-leads same-stays pop-stays d low top m c ComparesLow i n e s li st at f = cc
pop-guard_leads laws own-leads same-stays pop-stays d low top m c JumpsIfLow i n e s li st at f = cc
pop-guard_leads laws own-leads same-stays pop-stays d low top m c ComparesHigh i n e s li st at f = cc
pop-guard_leads laws own-leads same-stays pop-stays d low top m c JumpsIfHigh i n e s li st at f = cc
pop-guard_leads laws own-leads same-stays pop-stays d low top m c StoreFails i n e s li st at f = cc
pop-guard_leads laws own-leads same-stays pop-stays d low top m c StoreRestores i n e s li st at f = cc
pop-guard_leads laws own-leads same-stays pop-stays d low top m c Stores i n e s li st at f = cc
pop-guard_leads laws own-leads same-stays pop-stays d low top m c ComparesLimit i n e s li st at f = cc
pop-guard_leads laws own-leads same-stays pop-stays d low top m c JumpsIfRoom i n e s li st at f = cc
pop-guard_leads laws own-leads same-stays pop-stays d low top m c GrowthFails i n e s li st at f = cc
pop-guard_leads laws own-leads same-stays pop-stays d low top m c GrowthRestores i n e s li st at f = cc
pop-guard_leads laws own-leads same-stays pop-stays d low top m c Grows i n e s li st at f = cc
pop-guard_leads laws own-leads same-stays pop-stays d low top m c ComparesTop i n e s li st at f = line-leads own-leads same-stays d low top m c ComparesTop i n tt s li st at f
pop-guard_leads laws own-leads same-stays pop-stays d low top m c JumpsIfFilled i n e s li st at f = line-leads own-leads same-stays d low top m c JumpsIfFilled i n tt s li st at f
pop-guard_leads laws own-leads same-stays pop-stays d low top m c PopFails i n e s li st at f = line-leads own-leads same-stays d low top m c PopFails i n tt s li st at f
pop-guard_leads laws own-leads same-stays pop-stays d low top m c PopRestores i n e s li st at f = line-leads own-leads same-stays d low top m c PopRestores i n tt s li st at f
pop-guard_leads laws own-leads same-stays pop-stays d low top m c Pops i n e s li st at f = pops-lead laws pop-stays d low top m c i n s li st at f
pop-guard_leads laws own-leads same-stays pop-stays d low top m c ComparesNewLow i n e s li st at f = cc
pop-guard_leads laws own-leads same-stays pop-stays d low top m c JumpsIfNewLow i n e s li st at f = cc
pop-guard_leads laws own-leads same-stays pop-stays d low top m c ComparesNewHigh i n e s li st at f = cc
pop-guard_leads laws own-leads same-stays pop-stays d low top m c JumpsIfNewHigh i n e s li st at f = cc
pop-guard_leads laws own-leads same-stays pop-stays d low top m c SpFails i n e s li st at f = cc
pop-guard_leads laws own-leads same-stays pop-stays d low top m c SpRestores i n e s li st at f = cc
pop-guard_leads laws own-leads same-stays pop-stays d low top m c SetsSp i n e s li st at f = cc

pub sp-guard_leads : CheckerLaws → OwnLaw → SameLaw → SpLaw → GuardLaw guard.Sp
sp-guard_leads laws own-leads same-stays sp-stays d low top m c TakesAddress i n e s li st at f = cc
sp-guard_leads laws own-leads same-stays sp-stays d low top m c AddsIndex i n e s li st at f = cc
sp-guard_leads laws own-leads same-stays sp-stays d low top m c ComparesLow i n e s li st at f = cc
sp-guard_leads laws own-leads same-stays sp-stays d low top m c JumpsIfLow i n e s li st at f = cc
sp-guard_leads laws own-leads same-stays sp-stays d low top m c ComparesHigh i n e s li st at f = cc
sp-guard_leads laws own-leads same-stays sp-stays d low top m c JumpsIfHigh i n e s li st at f = cc
sp-guard_leads laws own-leads same-stays sp-stays d low top m c StoreFails i n e s li st at f = cc
sp-guard_leads laws own-leads same-stays sp-stays d low top m c StoreRestores i n e s li st at f = cc
sp-guard_leads laws own-leads same-stays sp-stays d low top m c Stores i n e s li st at f = cc
sp-guard_leads laws own-leads same-stays sp-stays d low top m c ComparesLimit i n e s li st at f = cc
sp-guard_leads laws own-leads same-stays sp-stays d low top m c JumpsIfRoom i n e s li st at f = cc
sp-guard_leads laws own-leads same-stays sp-stays d low top m c GrowthFails i n e s li st at f = cc
sp-guard_leads laws own-leads same-stays sp-stays d low top m c GrowthRestores i n e s li st at f = cc
sp-guard_leads laws own-leads same-stays sp-stays d low top m c Grows i n e s li st at f = cc
sp-guard_leads laws own-leads same-stays sp-stays d low top m c ComparesTop i n e s li st at f = cc
sp-guard_leads laws own-leads same-stays sp-stays d low top m c JumpsIfFilled i n e s li st at f = cc
sp-guard_leads laws own-leads same-stays sp-stays d low top m c PopFails i n e s li st at f = cc
sp-guard_leads laws own-leads same-stays sp-stays d low top m c PopRestores i n e s li st at f = cc
sp-guard_leads laws own-leads same-stays sp-stays d low top m c Pops i n e s li st at f = cc
sp-guard_leads laws own-leads same-stays sp-stays d low top m c ComparesNewLow i n e s li st at f = line-leads own-leads same-stays d low top m c ComparesNewLow i n tt s li st at f
sp-guard_leads laws own-leads same-stays sp-stays d low top m c JumpsIfNewLow i n e s li st at f = line-leads own-leads same-stays d low top m c JumpsIfNewLow i n tt s li st at f
sp-guard_leads laws own-leads same-stays sp-stays d low top m c ComparesNewHigh i n e s li st at f = line-leads own-leads same-stays d low top m c ComparesNewHigh i n tt s li st at f
sp-guard_leads laws own-leads same-stays sp-stays d low top m c JumpsIfNewHigh i n e s li st at f = line-leads own-leads same-stays d low top m c JumpsIfNewHigh i n tt s li st at f
sp-guard_leads laws own-leads same-stays sp-stays d low top m c SpFails i n e s li st at f = line-leads own-leads same-stays d low top m c SpFails i n tt s li st at f
sp-guard_leads laws own-leads same-stays sp-stays d low top m c SpRestores i n e s li st at f = line-leads own-leads same-stays d low top m c SpRestores i n tt s li st at f
sp-guard_leads laws own-leads same-stays sp-stays d low top m c SetsSp i n e s li st at f = sp-leads laws sp-stays d low top m c i n s li st at f

-- the laws of all four guards
pub record GuardLaws : Type 0 where
  pub store : GuardLaw guard.Store
  pub growth : GuardLaw guard.Growth
  pub pop : GuardLaw guard.Pop
  pub sp : GuardLaw guard.Sp

-- no place stands for a wide or a load guard
not-wide : (p : GuardPlace) (r : Reach) → guard_of p ≡ guard.Wide r → ⊥
not-wide TakesAddress r e = cc
not-wide AddsIndex r e = cc
not-wide ComparesLow r e = cc
not-wide JumpsIfLow r e = cc
not-wide ComparesHigh r e = cc
not-wide JumpsIfHigh r e = cc
not-wide StoreFails r e = cc
not-wide StoreRestores r e = cc
not-wide Stores r e = cc
not-wide ComparesLimit r e = cc
not-wide JumpsIfRoom r e = cc
not-wide GrowthFails r e = cc
not-wide GrowthRestores r e = cc
not-wide Grows r e = cc
not-wide ComparesTop r e = cc
not-wide JumpsIfFilled r e = cc
not-wide PopFails r e = cc
not-wide PopRestores r e = cc
not-wide Pops r e = cc
not-wide ComparesNewLow r e = cc
not-wide JumpsIfNewLow r e = cc
not-wide ComparesNewHigh r e = cc
not-wide JumpsIfNewHigh r e = cc
not-wide SpFails r e = cc
not-wide SpRestores r e = cc
not-wide SetsSp r e = cc

not-load : (p : GuardPlace) → guard_of p ≡ guard.Load → ⊥
not-load TakesAddress e = cc
not-load AddsIndex e = cc
not-load ComparesLow e = cc
not-load JumpsIfLow e = cc
not-load ComparesHigh e = cc
not-load JumpsIfHigh e = cc
not-load StoreFails e = cc
not-load StoreRestores e = cc
not-load Stores e = cc
not-load ComparesLimit e = cc
not-load JumpsIfRoom e = cc
not-load GrowthFails e = cc
not-load GrowthRestores e = cc
not-load Grows e = cc
not-load ComparesTop e = cc
not-load JumpsIfFilled e = cc
not-load PopFails e = cc
not-load PopRestores e = cc
not-load Pops e = cc
not-load ComparesNewLow e = cc
not-load JumpsIfNewLow e = cc
not-load ComparesNewHigh e = cc
not-load JumpsIfNewHigh e = cc
not-load SpFails e = cc
not-load SpRestores e = cc
not-load SetsSp e = cc

guard-law : GuardLaws → (g : GuardKind) → GuardLaw g
guard-law l guard.Store = l.store
guard-law l (guard.Wide r) = λ d low top m c p i n e. absurd (not-wide p r e)
guard-law l guard.Load = λ d low top m c p i n e. absurd (not-load p e)
guard-law l guard.Growth = l.growth
guard-law l guard.Pop = l.pop
guard-law l guard.Sp = l.sp

pub jump-entry-high : (k : Kind) (x : ℕ) → IsJumpEntry k x → FIRST_ENTRY ≤ x
jump-entry-high App x (inl e) = omega arith
jump-entry-high App x (inr (inl e)) = omega arith
jump-entry-high App x (inr (inr e)) = omega arith
jump-entry-high Module x (inl e) = omega arith
jump-entry-high Module x (inr (inl e)) = omega arith
jump-entry-high Module x (inr (inr (inl e))) = omega arith
jump-entry-high Module x (inr (inr (inr e))) = omega arith

pub call-entry-high : (k : Kind) (x : ℕ) → IsCallEntry k x → FIRST_ENTRY ≤ x
call-entry-high App x h = omega (arith, h.0)
call-entry-high Module x (inl e) = omega arith
call-entry-high Module x (inr e) = omega arith

pub instruction-leads : GuardLaws → UnitLaw → InstructionLaw
instruction-leads laws unit_law d low top m c i n s li good h f = from good.somewhere
  where
    from : IsSomewhere d (bounds d low top) c → Leads d low top (does m c i n)
    from (AtUnit at u here) = unit_law d low top m c at i n s good.steady u here f
    from (Within p at) = guard-law laws (guard_of p) d low top m c p i n refl s li good.steady at f
    from (Jumped e) = absurd (omega (arith, jump-entry-high d.object.kind (reg c 0) e))
    from (Called e room) = absurd (omega (arith, call-entry-high d.object.kind (reg c 0) e))

steps-at : (d : Domain) (m c : List ℕ) (at : ℕ) → StandsIn d m → Start d.object.code at → reg c 0 ≡ address d at → StepsAt d m c
steps-at d m c at s b here =
    let sp = s.accepted.spelled at b in
    record { at = at; start = b; pc = here; source = sp.instr; words = sp.words; stands = sp.stands; instr = placed sp.instr (words_in d m at); fetched = placed-fetched d m at sp.instr sp.words (reg c 0) s b sp.stands here }

pub good-fetches : FetchLaw
good-fetches d low top m c s good h = from good.somewhere
  where
    from : IsSomewhere d (bounds d low top) c → StepsAt d m c
    from (AtUnit at u here) = steps-at d m c at s u.0 here
    from (Within p at) = steps-at d m c (place_at p at.by.first at.guarded) s (place-start d.object at.guarded p at.kind at.of at.by) at.pc
    from (Jumped e) = absurd (omega (arith, jump-entry-high d.object.kind (reg c 0) e))
    from (Called e room) = absurd (omega (arith, call-entry-high d.object.kind (reg c 0) e))
