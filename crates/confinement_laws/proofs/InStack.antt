-- What is pushed and popped lies in the stack.
use Rattle.std.proofs.Common.{◌≡◌, ℕ, ◌/◌, ◌%◌, ◌<◌, ◌≤◌, Bool, true, false, List, [], ◌∷◌, sym, ap, ◌∙◌, subst, inl, inr, arith}
use Rattle.std.specs.Prelude.{◌==◌}
use Rattle.msp_encode.specs.declared.instr.Op1.{Op1}
use Rattle.msp_encode.specs.declared.instr.Op1.TheVariants.{Rrc, Swpb, Rra, Sxt, Push, Call}
use Rattle.msp_encode.specs.declared.instr.Width.{Width}
use Rattle.msp_encode.specs.declared.instr.Src.{Src}
use Rattle.msp_encode.specs.declared.instr.Src.TheVariants as src
use Rattle.msp_encode.specs.declared.instr.Dst.TheVariants as dst
use Rattle.msp_encode.specs.declared.instr.Instr.{Instr}
use Rattle.msp_encode.specs.declared.instr.Instr.TheVariants as instr
use Rattle.msp_encode.specs.Forms.{Pops as PopsOf, changes}
use Rattle.code_model.specs.Guards.{Guarded, UnitStart, IsGrowthForm}
use Rattle.code_model.specs.Guards as guards
use Rattle.code_model.specs.declared.guards.GuardKind.{GuardKind}
use Rattle.code_model.specs.declared.guards.GuardKind.TheVariants as guard
use Rattle.code_model.specs.Rules.{IsPushOrCall, ReadsStack, KeepsStores}
use Rattle.machine_model.specs.Context.{reg}
use Rattle.machine_model.specs.Does.{does, Effect}
use Rattle.machine_model.specs.Fetching.{IsFetched}
use Rattle.machine_laws.specs.Steady.{IsSteady, Limits}
use Rattle.machine_laws.specs.Places.{GuardPlace, TakesAddress, AddsIndex, ComparesLow, JumpsIfLow, ComparesHigh, JumpsIfHigh, StoreFails, StoreRestores, ComparesLimit, JumpsIfRoom, GrowthFails, GrowthRestores, ComparesTop, JumpsIfFilled, PopFails, PopRestores, ComparesNewLow, JumpsIfNewLow, ComparesNewHigh, JumpsIfNewHigh, SpFails, SpRestores, Stores, Grows, Pops, SetsSp}
use Rattle.machine_laws.specs.Guarded.{StepsHigh, IsStore, PushLaw, CallLaw}
use Rattle.machine_laws.specs.Plain.{IsCalm, Plain, Tests, ToReg, ToData, SetsBits, ClearsBits, SetsConst, ClearsConst, ChangesReg, ChangesData}
use Rattle.confinement_laws.specs.Given.{CheckerLaws}
use Rattle.load_model.specs.Domains.{Domain}
use Rattle.node_model.specs.Placed.{StandsIn, address, bits}
use Rattle.node_model.specs.Good.{IsAtPlace, IsSomewhere, AtUnit, Within, Jumped, Called, bounds}
use Rattle.node_model.specs.Instructions.{Inside, StaysInStack, StackLaw, RegionLaw}
use Rattle.confinement_laws.proofs.Lines.{line, line_words, IsLine, load_of}
use Rattle.confinement_laws.proofs.Placing.{placed, placed_src}
use Rattle.confinement_laws.proofs.Fetching.{words_in, fetched-is, fetched-same, line-fetched}
use Rattle.confinement_laws.proofs.Units.{Sort, IsPlain, Branches, Jumps}
use Rattle.confinement_laws.proofs.UnitSorts.{sort-of}
use Rattle.confinement_laws.proofs.Leading.{line-pc}
use Rattle.confinement_laws.proofs.Storing.{reach_of, is-store}
use Rattle.confinement_laws.proofs.Loading.{stores-or-loads, loaded-sort}
use Rattle.confinement_laws.proofs.Stacking.{pop-form, sp-form, serves-as, grows}
use Rattle.confinement_laws.proofs.Steps.{jump-entry-high, call-entry-high}

-- an instruction that neither pushes nor pops
pub record IsStill (i : Instr) : Type 0 where
  pub no_push : IsPushOrCall i → ⊥
  pub no_pop : ReadsStack i → ⊥

still-stays : (low top : ℕ) (c : List ℕ) (i : Instr) (e : Effect) → IsStill i → StaysInStack low top c i e
still-stays low top c i e h = record { pushed = λ p. absurd (h.no_push p); popped = λ p. absurd (h.no_pop p) }

calm-no_pop : (s : Src) → IsCalm s → PopsOf s 1 → ⊥
calm-no_pop (src.AutoInc n) c p = omega (arith, c.0, p)
calm-no_pop (src.Reg n) c p = p
calm-no_pop (src.Indexed n x) c p = p
calm-no_pop (src.Symbolic x) c p = p
calm-no_pop (src.Absolute x) c p = p
calm-no_pop (src.Indirect n) c p = p
calm-no_pop (src.Immediate x) c p = p
calm-no_pop (src.Const k) c p = p

quiet-no_pop : (s : Src) → StepsHigh s → PopsOf s 1 → ⊥
quiet-no_pop (src.AutoInc n) c p = omega (arith, c.0, p)
quiet-no_pop (src.Reg n) c p = p
quiet-no_pop (src.Indexed n x) c p = p
quiet-no_pop (src.Symbolic x) c p = p
quiet-no_pop (src.Absolute x) c p = p
quiet-no_pop (src.Indirect n) c p = p
quiet-no_pop (src.Immediate x) c p = p
quiet-no_pop (src.Const k) c p = p

changes-no_push : (op : Op1) (w : Width) (s : Src) → changes op ≡ true → IsPushOrCall (instr.One op w s) → ⊥
changes-no_push Rrc w s h p = p
changes-no_push Swpb w s h p = p
changes-no_push Rra w s h p = p
changes-no_push Sxt w s h p = p
changes-no_push Push w s h p = cc
changes-no_push Call w s h p = cc

plain-still : (lo hi : ℕ) (i : Instr) → Plain lo hi i → IsStill i
plain-still lo hi i (Tests op w s d h c) = record { no_push = λ p. p; no_pop = calm-no_pop s c }
plain-still lo hi i (ToReg op w s n h c l u) = record { no_push = λ p. p; no_pop = calm-no_pop s c }
plain-still lo hi i (ToData op w s x h c l u) = record { no_push = λ p. p; no_pop = calm-no_pop s c }
plain-still lo hi i (SetsBits x h) = record { no_push = λ p. p; no_pop = λ p. p }
plain-still lo hi i (ClearsBits x h) = record { no_push = λ p. p; no_pop = λ p. p }
plain-still lo hi i (SetsConst k h) = record { no_push = λ p. p; no_pop = λ p. p }
plain-still lo hi i (ClearsConst k h) = record { no_push = λ p. p; no_pop = λ p. p }
plain-still lo hi i (ChangesReg op w n h l u) = record { no_push = changes-no_push op w (src.Reg n) h; no_pop = λ p. p }
plain-still lo hi i (ChangesData op w x h l u) = record { no_push = changes-no_push op w (src.Absolute x) h; no_pop = λ p. p }

sort-still : (d : Domain) (m : List ℕ) (at : ℕ) (i : Instr) → Sort d m at i → IsStill (placed i (words_in d m at))
sort-still d m at i (IsPlain j p) = plain-still d.lo d.hi (placed j (words_in d m at)) p
sort-still d m at i (Branches x t) = record { no_push = λ p. p; no_pop = λ p. p }
sort-still d m at i (Jumps c k t) = record { no_push = λ p. p; no_pop = λ p. p }

store-still : (most : ℕ) (i : Instr) → IsStore most i → IsStill i
store-still most (instr.Two op w s (dst.Indexed n x)) h = record { no_push = λ p. p; no_pop = quiet-no_pop s h.3 }
store-still most (instr.Two op w s (dst.Reg n)) h = absurd h
store-still most (instr.Two op w s (dst.Symbolic x)) h = absurd h
store-still most (instr.Two op w s (dst.Absolute x)) h = absurd h
store-still most (instr.One op w (src.Indirect n)) h = record { no_push = changes-no_push op w (src.Indirect n) h.0; no_pop = λ p. p }
store-still most (instr.One op w (src.Reg n)) h = absurd h
store-still most (instr.One op w (src.Indexed n x)) h = absurd h
store-still most (instr.One op w (src.Symbolic x)) h = absurd h
store-still most (instr.One op w (src.Absolute x)) h = absurd h
store-still most (instr.One op w (src.AutoInc n)) h = absurd h
store-still most (instr.One op w (src.Immediate x)) h = absurd h
store-still most (instr.One op w (src.Const k)) h = absurd h
store-still most instr.Reti h = absurd h
store-still most (instr.Jump c k) h = absurd h

load-no_pop : (b : Bool) (n : ℕ) → PopsOf (load_of b n) 1 → ⊥
load-no_pop true n p = p
load-no_pop false n p = p

line-still : (p : GuardPlace) (w : ℕ → ℕ) → IsLine p → IsStill (line p w)
line-still TakesAddress w t = record { no_push = λ q. q; no_pop = load-no_pop (w 1 / 256 % 16 == 3) (w 1 / 256 % 16) }
line-still AddsIndex w t = record { no_push = λ q. q; no_pop = λ q. q }
line-still ComparesLow w t = record { no_push = λ q. q; no_pop = λ q. q }
line-still JumpsIfLow w t = record { no_push = λ q. q; no_pop = λ q. q }
line-still ComparesHigh w t = record { no_push = λ q. q; no_pop = λ q. q }
line-still JumpsIfHigh w t = record { no_push = λ q. q; no_pop = λ q. q }
line-still StoreFails w t = record { no_push = λ q. q; no_pop = λ q. q }
line-still StoreRestores w t = record { no_push = λ q. q; no_pop = λ q. q }
line-still ComparesLimit w t = record { no_push = λ q. q; no_pop = λ q. q }
line-still JumpsIfRoom w t = record { no_push = λ q. q; no_pop = λ q. q }
line-still GrowthFails w t = record { no_push = λ q. q; no_pop = λ q. q }
line-still GrowthRestores w t = record { no_push = λ q. q; no_pop = λ q. q }
line-still ComparesTop w t = record { no_push = λ q. q; no_pop = λ q. q }
line-still JumpsIfFilled w t = record { no_push = λ q. q; no_pop = λ q. q }
line-still PopFails w t = record { no_push = λ q. q; no_pop = λ q. q }
line-still PopRestores w t = record { no_push = λ q. q; no_pop = λ q. q }
line-still ComparesNewLow w t = record { no_push = λ q. q; no_pop = λ q. q }
line-still JumpsIfNewLow w t = record { no_push = λ q. q; no_pop = λ q. q }
line-still ComparesNewHigh w t = record { no_push = λ q. q; no_pop = λ q. q }
line-still JumpsIfNewHigh w t = record { no_push = λ q. q; no_pop = λ q. q }
line-still SpFails w t = record { no_push = λ q. q; no_pop = λ q. q }
line-still SpRestores w t = record { no_push = λ q. q; no_pop = λ q. q }
line-still Stores w t = absurd t
line-still Grows w t = absurd t
line-still Pops w t = absurd t
line-still SetsSp w t = absurd t

-- ---- at each place

line-stays : (d : Domain) (low top : ℕ) (m c : List ℕ) (p : GuardPlace) (i : Instr) (n : ℕ) → IsLine p → StandsIn d m → IsAtPlace d (bounds d low top) c p → IsFetched m (reg c 0) i n → StaysInStack low top c i (does m c i n)
line-stays d low top m c p i n t s at f =
    let same = fetched-same m (reg c 0) i (line p (words_in d m at.by.first)) n (line_words p) f (line-fetched d m at.guarded p at.kind at.of at.by (reg c 0) s t (line-pc d (bounds d low top) c p at t)) in
    still-stays low top c i (does m c i n) (subst IsStill (sym same.0) (line-still p (words_in d m at.by.first) t))

stores-stay : (d : Domain) (low top : ℕ) (m c : List ℕ) (i : Instr) (n : ℕ) → StandsIn d m → (at : IsAtPlace d (bounds d low top) c Stores) → KeepsStores at.kind → IsFetched m (reg c 0) i n → StaysInStack low top c i (does m c i n)
stores-stay d low top m c i n s at keeps f =
    let same = fetched-is d m at.guarded at.by.instr i at.by.words n (reg c 0) s at.by.start at.by.stands at.pc f in
    still-stays low top c i (does m c i n) (subst IsStill (sym same.0)
    (store-still (reach_of at.kind) (placed at.by.instr (words_in d m at.guarded)) (is-store d m at.guarded at.by.first at.kind at.by.instr at.by.words keeps s.code at.by.start at.by.stands at.by.serves)))

loaded-stays : CheckerLaws → (d : Domain) (low top : ℕ) (m c : List ℕ) (i : Instr) (n guarded : ℕ) (h : Guarded d.object guarded guard.Load) → StandsIn d m → reg c 0 ≡ address d guarded → IsFetched m (reg c 0) i n → StaysInStack low top c i (does m c i n)
loaded-stays laws d low top m c i n guarded h s here f =
    let same = fetched-is d m guarded h.instr i h.words n (reg c 0) s h.start h.stands here f in
    still-stays low top c i (does m c i n) (subst IsStill (sym same.0) (plain-still d.lo d.hi (placed h.instr (words_in d m guarded)) (loaded-sort laws d m guarded h s)))

served-stays : CheckerLaws → (d : Domain) (low top : ℕ) (m c : List ℕ) (i : Instr) (n : ℕ) → StandsIn d m → (at : IsAtPlace d (bounds d low top) c Stores) → IsFetched m (reg c 0) i n → StaysInStack low top c i (does m c i n)
served-stays laws d low top m c i n s at f = elim (stores-or-loads at.kind at.of) [
  | inl keeps ↦ stores-stay d low top m c i n s at keeps f
  | inr load ↦ loaded-stays laws d low top m c i n at.guarded (subst (λ (k : GuardKind). Guarded d.object at.guarded k) load at.by) s at.pc f
]

pops-stay : (d : Domain) (low top : ℕ) (m c : List ℕ) (i : Instr) (n : ℕ) → StandsIn d m → Limits m low top → IsSteady (bits d) low top c → IsAtPlace d (bounds d low top) c Pops → IsFetched m (reg c 0) i n → StaysInStack low top c i (does m c i n)
pops-stay d low top m c i n s li st at f =
    let here : reg c 0 ≡ address d at.guarded = at.pc in
    let same = fetched-is d m at.guarded at.by.instr i at.by.words n (reg c 0) s at.by.start at.by.stands here f in
    let form = pop-form at.by.instr (serves-as guard.Pop d.object at.by.first at.guarded at.by.instr at.kind at.of at.by.serves) in
    let is = same.0 ∙ ap (λ (x : Instr). placed x (words_in d m at.guarded)) form.is in
    let no_push : IsPushOrCall i → ⊥ = λ p. subst IsPushOrCall is p in
    record {
      pushed = λ p. absurd (no_push p);
      popped = λ p. (omega (arith, st.room), omega (arith, st.within, st.context.sp_even, li.top_even, at.known));
    }

sp-stays : (d : Domain) (low top : ℕ) (m c : List ℕ) (i : Instr) (n : ℕ) → StandsIn d m → IsAtPlace d (bounds d low top) c SetsSp → IsFetched m (reg c 0) i n → StaysInStack low top c i (does m c i n)
sp-stays d low top m c i n s at f =
    let here : reg c 0 ≡ address d at.guarded = at.pc in
    let same = fetched-is d m at.guarded at.by.instr i at.by.words n (reg c 0) s at.by.start at.by.stands here f in
    let is = same.0 ∙ ap (λ (x : Instr). placed x (words_in d m at.guarded)) (sp-form at.by.instr (serves-as guard.Sp d.object at.by.first at.guarded at.by.instr at.kind at.of at.by.serves)) in
    still-stays low top c i (does m c i n) (subst IsStill (sym is) record { no_push = λ p. p; no_pop = λ p. p })

grow-no_pop : (j : Instr) (f : ℕ → ℕ) → IsGrowthForm j → ReadsStack (placed j f) → ⊥
grow-no_pop (instr.One op w s) f g p = one s g.1 p
  where
    one : (s : Src) → guards.StepsNoPointer s → PopsOf (placed_src s (f 1)) 1 → ⊥
    one (src.AutoInc n) q p = q.1 p
    one (src.Reg n) q p = p
    one (src.Indexed n x) q p = p
    one (src.Symbolic x) q p = p
    one (src.Absolute x) q p = p
    one (src.Indirect n) q p = p
    one (src.Immediate x) q p = p
    one (src.Const k) q p = p
grow-no_pop (instr.Two op w s d) f g p = absurd g
grow-no_pop instr.Reti f g p = absurd g
grow-no_pop (instr.Jump c k) f g p = absurd g

grows-stay : CheckerLaws → PushLaw → CallLaw → (d : Domain) (low top : ℕ) (m c : List ℕ) (i : Instr) (n : ℕ) → StandsIn d m → IsSteady (bits d) low top c → IsAtPlace d (bounds d low top) c Grows → IsFetched m (reg c 0) i n → StaysInStack low top c i (does m c i n)
grows-stay laws push-stays call-stays d low top m c i n s st at f =
    let here : reg c 0 ≡ address d at.guarded = at.pc in
    let same = fetched-is d m at.guarded at.by.instr i at.by.words n (reg c 0) s at.by.start at.by.stands here f in
    record {
      pushed = λ p. (grows laws push-stays call-stays d low top m c i n s st at f).inside;
      popped = λ p. absurd (grow-no_pop at.by.instr (words_in d m at.guarded) (serves-as guard.Growth d.object at.by.first at.guarded at.by.instr at.kind at.of at.by.serves) (subst ReadsStack same.0 p));
    }

place-stays : CheckerLaws → PushLaw → CallLaw → (d : Domain) (low top : ℕ) (m c : List ℕ) (p : GuardPlace) (i : Instr) (n : ℕ) → StandsIn d m → Limits m low top → IsSteady (bits d) low top c → IsAtPlace d (bounds d low top) c p → IsFetched m (reg c 0) i n
    → StaysInStack low top c i (does m c i n)
place-stays laws push-stays call-stays d low top m c TakesAddress i n s li st at f = line-stays d low top m c TakesAddress i n tt s at f
place-stays laws push-stays call-stays d low top m c AddsIndex i n s li st at f = line-stays d low top m c AddsIndex i n tt s at f
place-stays laws push-stays call-stays d low top m c ComparesLow i n s li st at f = line-stays d low top m c ComparesLow i n tt s at f
place-stays laws push-stays call-stays d low top m c JumpsIfLow i n s li st at f = line-stays d low top m c JumpsIfLow i n tt s at f
place-stays laws push-stays call-stays d low top m c ComparesHigh i n s li st at f = line-stays d low top m c ComparesHigh i n tt s at f
place-stays laws push-stays call-stays d low top m c JumpsIfHigh i n s li st at f = line-stays d low top m c JumpsIfHigh i n tt s at f
place-stays laws push-stays call-stays d low top m c StoreFails i n s li st at f = line-stays d low top m c StoreFails i n tt s at f
place-stays laws push-stays call-stays d low top m c StoreRestores i n s li st at f = line-stays d low top m c StoreRestores i n tt s at f
place-stays laws push-stays call-stays d low top m c ComparesLimit i n s li st at f = line-stays d low top m c ComparesLimit i n tt s at f
place-stays laws push-stays call-stays d low top m c JumpsIfRoom i n s li st at f = line-stays d low top m c JumpsIfRoom i n tt s at f
place-stays laws push-stays call-stays d low top m c GrowthFails i n s li st at f = line-stays d low top m c GrowthFails i n tt s at f
place-stays laws push-stays call-stays d low top m c GrowthRestores i n s li st at f = line-stays d low top m c GrowthRestores i n tt s at f
place-stays laws push-stays call-stays d low top m c ComparesTop i n s li st at f = line-stays d low top m c ComparesTop i n tt s at f
place-stays laws push-stays call-stays d low top m c JumpsIfFilled i n s li st at f = line-stays d low top m c JumpsIfFilled i n tt s at f
place-stays laws push-stays call-stays d low top m c PopFails i n s li st at f = line-stays d low top m c PopFails i n tt s at f
place-stays laws push-stays call-stays d low top m c PopRestores i n s li st at f = line-stays d low top m c PopRestores i n tt s at f
place-stays laws push-stays call-stays d low top m c ComparesNewLow i n s li st at f = line-stays d low top m c ComparesNewLow i n tt s at f
place-stays laws push-stays call-stays d low top m c JumpsIfNewLow i n s li st at f = line-stays d low top m c JumpsIfNewLow i n tt s at f
place-stays laws push-stays call-stays d low top m c ComparesNewHigh i n s li st at f = line-stays d low top m c ComparesNewHigh i n tt s at f
place-stays laws push-stays call-stays d low top m c JumpsIfNewHigh i n s li st at f = line-stays d low top m c JumpsIfNewHigh i n tt s at f
place-stays laws push-stays call-stays d low top m c SpFails i n s li st at f = line-stays d low top m c SpFails i n tt s at f
place-stays laws push-stays call-stays d low top m c SpRestores i n s li st at f = line-stays d low top m c SpRestores i n tt s at f
place-stays laws push-stays call-stays d low top m c Stores i n s li st at f = served-stays laws d low top m c i n s at f
place-stays laws push-stays call-stays d low top m c Grows i n s li st at f = grows-stay laws push-stays call-stays d low top m c i n s st at f
place-stays laws push-stays call-stays d low top m c Pops i n s li st at f = pops-stay d low top m c i n s li st at f
place-stays laws push-stays call-stays d low top m c SetsSp i n s li st at f = sp-stays d low top m c i n s at f

pub stack-stays : CheckerLaws → PushLaw → CallLaw → StackLaw
stack-stays laws push-stays call-stays d low top m c i n s li good h f = from good.somewhere
  where
    from : IsSomewhere d (bounds d low top) c → StaysInStack low top c i (does m c i n)
    from (AtUnit at u here) =
        let sp = s.accepted.spelled at u.0 in
        let same = fetched-is d m at sp.instr i sp.words n (reg c 0) s u.0 sp.stands here f in
        still-stays low top c i (does m c i n) (subst IsStill (sym same.0) (sort-still d m at sp.instr (sort-of laws d m at sp.instr sp.words s u sp.stands)))
    from (Within p at) = place-stays laws push-stays call-stays d low top m c p i n s li good.steady at f
    from (Jumped e) = absurd (omega (arith, jump-entry-high d.object.kind (reg c 0) e))
    from (Called e room) = absurd (omega (arith, call-entry-high d.object.kind (reg c 0) e))

pub region-stays : RegionLaw
region-stays d low top [] l u h = tt
region-stays d low top (w ∷ ws) l u h = (one h.0, region-stays d low top ws l u h.1)
  where
    one : Inside d low top w → (d.lo ≤ w.0) × (w.0 < d.hi)
    one (inl g) = g
    one (inr g) = (omega (arith, g.0), omega (arith, g.1))
