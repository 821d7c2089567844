-- A step at a guard's own instructions leads to a safe context.
use Rattle.std.proofs.Common.{◌≡◌, ℕ, ◌+◌, ◌*◌, ◌/◌, ◌%◌, ◌<◌, ◌≤◌, ◌==◌, Bool, false, List, [], length, get_or, drop, refl, sym, ap, ◌∙◌, subst, inl, inr, arith}
use Rattle.std.proofs.lemmas.Bool.Decides.{nat_tests}
use Rattle.std.specs.List.{AllByRecursion}
use Rattle.msp_encode.specs.declared.instr.Width.TheVariants.{Wide}
use Rattle.msp_encode.specs.declared.instr.Op2.TheVariants.{Mov, Cmp}
use Rattle.msp_encode.specs.declared.instr.Src.TheVariants as src
use Rattle.msp_encode.specs.declared.instr.Dst.TheVariants as dst
use Rattle.msp_encode.specs.declared.instr.Instr.{Instr}
use Rattle.msp_encode.specs.declared.instr.Instr.TheVariants as instr
use Rattle.kernel_model.specs.declared.entries.TheConstants.{STACK_FAULT, STORE_FAULT}
use Rattle.kernel_model.specs.declared.kinds.Kind.{Kind}
use Rattle.kernel_model.specs.declared.kinds.Kind.TheVariants.{App, Module}
use Rattle.code_model.specs.declared.parts.RelKind.TheVariants.{Lo, Hi}
use Rattle.code_model.specs.declared.guards.GuardKind.TheVariants as guard
use Rattle.code_model.specs.declared.guards.GuardKind.{GuardKind}
use Rattle.code_model.specs.declared.guards.Reach.TheVariants as reach
use Rattle.code_model.specs.declared.object.Object.{Object}
use Rattle.code_model.specs.Starts.{Stands}
use Rattle.code_model.specs.Relocs.{Unrelocated}
use Rattle.code_model.specs.Guards.{high_word, region_slots, guard_words, FitAll, IsLoadForm, most_served, Guarded}
use Rattle.code_model.specs.Rules.{IsJumpEntry}
use Rattle.machine_model.specs.Context.{reg, IsContext}
use Rattle.machine_model.specs.Does.{does, Effect}
use Rattle.machine_model.specs.Fetching.{IsFetched}
use Rattle.machine_laws.specs.Steady.{IsSteady, Bounds, AreBounds, Limits}
use Rattle.machine_laws.specs.Places.{GuardPlace, TakesAddress, AddsIndex, ComparesLow, JumpsIfLow, ComparesHigh, JumpsIfHigh, StoreFails, StoreRestores, ComparesLimit, JumpsIfRoom, GrowthFails, GrowthRestores, ComparesTop, JumpsIfFilled, PopFails, PopRestores, ComparesNewLow, JumpsIfNewLow, ComparesNewHigh, JumpsIfNewHigh, SpFails, SpRestores, Stores, Grows, Pops, SetsSp, place_offset}
use Rattle.machine_laws.specs.Own.{GuardAt, IsGuardAt, IsOwn, GoesTo, Faults, Next, OwnLaw, TakesFrom, SameLaw}
use Rattle.code_laws.proofs.Standing.{same_instr}
use Rattle.code_laws.proofs.Runs.{base_before, base_start, served_alone, also_guarded}
use Rattle.load_model.specs.Domains.{Domain}
use Rattle.node_model.specs.Placed.{IsWellPlaced, StandsIn, address, bits}
use Rattle.node_model.specs.Good.{guard_of, IsOf, place_at, kept_bounds, Steps, HasAddress, IsAtPlace, Within, Jumped, bounds}
use Rattle.node_model.specs.Instructions.{Inside, Leads}
use Rattle.confinement_laws.proofs.Lines.{line, line_words, IsLine, load_of, load_src, load_src-takes, worded-as, words-as}
use Rattle.confinement_laws.proofs.Runs.{fit-at, some-words}
use Rattle.confinement_laws.proofs.Fetching.{words_in, worded-in, moved-zero, line-fetched, fetched-same}

pub are-bounds : (d : Domain) (low top : ℕ) → IsWellPlaced d → AreBounds (bounds d low top)
are-bounds d low top w = record { lo_even = w.lo_even; hi_even = w.hi_even; lo_word = omega (arith, w.hi_high, w.statics); hi_word = omega (arith, w.hi_high) }

-- a guard in memory
abbrev guard_at : Domain → List ℕ → ℕ → GuardAt
guard_at d m first = record { at = address d first; from = load_src (words_in d m first 1); x = words_in d m first 3 }

is-guard_at : (d : Domain) (m : List ℕ) (guarded : ℕ) (g : GuardKind) (h : Guarded d.object guarded g) → IsWellPlaced d → IsGuardAt (guard_at d m h.first)
is-guard_at d m guarded g h w = record {
  even = omega (arith, w.code_even);
  ends = omega (arith, w.code_high, h.ends, base_before d.object guarded g h, h.start.below, some-words g);
  load = load_src-takes (words_in d m h.first 1);
}

silent-inside : (d : Domain) (low top : ℕ) (ws : List (ℕ × ℕ)) → ws ≡ [] → AllByRecursion (Inside d low top) ws
silent-inside d low top ws e = subst (AllByRecursion (Inside d low top)) (sym e) tt

kept-are-bounds : (k : GuardKind) (d : Domain) (low top : ℕ) → IsWellPlaced d → AreBounds (kept_bounds k (bounds d low top))
kept-are-bounds guard.Store d low top w = are-bounds d low top w
kept-are-bounds guard.Load d low top w = are-bounds d low top w
kept-are-bounds guard.Growth d low top w = are-bounds d low top w
kept-are-bounds guard.Pop d low top w = are-bounds d low top w
kept-are-bounds guard.Sp d low top w = are-bounds d low top w
kept-are-bounds (guard.Wide reach.Two) d low top w = record { lo_even = w.lo_even; hi_even = omega (arith, w.hi_even, w.lo_low, w.statics); lo_word = omega (arith, w.hi_high, w.statics); hi_word = omega (arith, w.hi_high) }
kept-are-bounds (guard.Wide reach.Four) d low top w = record { lo_even = w.lo_even; hi_even = omega (arith, w.hi_even, w.lo_low, w.statics); lo_word = omega (arith, w.hi_high, w.statics); hi_word = omega (arith, w.hi_high) }
kept-are-bounds (guard.Wide reach.Six) d low top w = record { lo_even = w.lo_even; hi_even = omega (arith, w.hi_even, w.lo_low, w.statics); lo_word = omega (arith, w.hi_high, w.statics); hi_word = omega (arith, w.hi_high) }

-- what is known of the register that a load steps
abbrev pub SameAt : GuardKind → GuardPlace → Instr → List ℕ → Type 0
SameAt k q i c = (r : ℕ) → k ≡ guard.Load → HasAddress q → Steps i r → reg c 4 ≡ reg c r

-- to another of the guard's own instructions
goes-leads : (d : Domain) (low top : ℕ) (m : List ℕ) (q : GuardPlace) (guarded : ℕ) (k : GuardKind) (of : IsOf k (guard_of q)) (h : Guarded d.object guarded k) (e : Effect)
    → place_at q h.first guarded ≡ h.first + place_offset q → SameAt k q h.instr e.context
    → GoesTo q (guard_at d m h.first) (kept_bounds k (bounds d low top)) (bits d) e → Leads d low top e
goes-leads d low top m q guarded k of h e is same t = record {
  good = record {
    steady = t.steady;
    somewhere = Within q record { guarded = guarded; kind = k; of = of; by = h; pc = omega (arith, t.place.pc, is); saved = t.place.saved; known = t.place.known; same = same };
  };
  inside = silent-inside d low top e.written t.silent;
}

one-at : (o : Object) (x y : ℕ) (j k : GuardKind) (g : Guarded o x j) (h : Guarded o y k) → x ≡ y → g.instr ≡ h.instr
one-at o x y j k g h e =
    same_instr g.instr h.instr (drop y o.code) g.words h.words (subst (λ (z : ℕ). Stands o.code z g.instr g.words) e g.stands) h.stands

-- to the first instruction that the guard serves
served-leads : (d : Domain) (low top : ℕ) (m : List ℕ) (q : GuardPlace) (guarded : ℕ) (k : GuardKind) (of : IsOf k (guard_of q)) (h : Guarded d.object guarded k) (e : Effect)
    → ((f g : ℕ) → place_at q f g ≡ g) → place_offset q ≡ length (guard_words (guard_of q)) → SameAt k q h.instr e.context
    → GoesTo q (guard_at d m h.first) (kept_bounds k (bounds d low top)) (bits d) e → Leads d low top e
served-leads d low top m q guarded k of h e is ends same t =
    let first = also_guarded d.object guarded h.base k h (base_start d.object guarded k h) (omega arith) (base_before d.object guarded k h) in
    let j = first.guarded in
    let here : reg e.context 0 ≡ address d h.base = omega (arith, t.place.pc, ends, words-as k (guard_of q) of, h.ends) in
    let kept : (r : ℕ) → k ≡ guard.Load → HasAddress q → Steps j.instr r → reg e.context 4 ≡ reg e.context r = λ r load has s.
    let alone : guarded ≡ h.base = served_alone d.object guarded k h (ap most_served load) in
    same r load has (subst (λ (i : Instr). Steps i r) (one-at d.object h.base guarded k k j h (sym alone)) s) in
    record {
      good = record {
        steady = t.steady;
        somewhere = Within q record { guarded = h.base; kind = k; of = of; by = j; pc = here ∙ ap (address d) (sym (is j.first h.base)); saved = t.place.saved; known = t.place.known; same = kept };
      };
      inside = silent-inside d low top e.written t.silent;
    }

store-entry : (k : Kind) (x : ℕ) → x ≡ STORE_FAULT → IsJumpEntry k x
store-entry App x e = inl e
store-entry Module x e = inl e

stack-entry : (k : Kind) (x : ℕ) → x ≡ STACK_FAULT → IsJumpEntry k x
stack-entry App x e = inr (inl e)
stack-entry Module x e = inr (inl e)

faults-leads : (d : Domain) (low top entry : ℕ) (e : Effect) (j : GuardKind) → (reg e.context 0 ≡ entry → IsJumpEntry d.object.kind (reg e.context 0)) → Faults entry (kept_bounds j (bounds d low top)) (bits d) e → Leads d low top e
faults-leads d low top entry e j k t = record {
  good = record { steady = t.steady; somewhere = Jumped (k t.entry_is) };
  inside = silent-inside d low top e.written t.silent;
}

-- a guard of loads has an address behind its own instruction
abbrev pub TakesOn : GuardPlace → Type 0
TakesOn TakesAddress = Unit {0}
TakesOn AddsIndex = Unit {0}
TakesOn ComparesLow = Unit {0}
TakesOn JumpsIfLow = Unit {0}
TakesOn ComparesHigh = Unit {0}
TakesOn JumpsIfHigh = Unit {0}
TakesOn StoreRestores = Unit {0}
TakesOn _ = ⊥

next-leads : (d : Domain) (low top : ℕ) (m : List ℕ) (p : GuardPlace) (guarded : ℕ) (k : GuardKind) (of : IsOf k (guard_of p)) (h : Guarded d.object guarded k) (e : Effect) → IsLine p
    → ((r : ℕ) → k ≡ guard.Load → TakesOn p → Steps h.instr r → reg e.context 4 ≡ reg e.context r)
    → Next p (guard_at d m h.first) (kept_bounds k (bounds d low top)) (bits d) e → Leads d low top e
next-leads d low top m TakesAddress guarded k of h e t same n = goes-leads d low top m AddsIndex guarded k of h e refl (λ r load has st. same r load tt st) n
next-leads d low top m AddsIndex guarded k of h e t same n = goes-leads d low top m ComparesLow guarded k of h e refl (λ r load has st. same r load tt st) n
next-leads d low top m ComparesLow guarded k of h e t same n = goes-leads d low top m JumpsIfLow guarded k of h e refl (λ r load has st. same r load tt st) n
next-leads d low top m JumpsIfLow guarded k of h e t same (inl n) = goes-leads d low top m StoreFails guarded k of h e refl (λ r load has st. absurd has) n
next-leads d low top m JumpsIfLow guarded k of h e t same (inr n) = goes-leads d low top m ComparesHigh guarded k of h e refl (λ r load has st. same r load tt st) n
next-leads d low top m ComparesHigh guarded k of h e t same n = goes-leads d low top m JumpsIfHigh guarded k of h e refl (λ r load has st. same r load tt st) n
next-leads d low top m JumpsIfHigh guarded k of h e t same (inl n) = goes-leads d low top m StoreFails guarded k of h e refl (λ r load has st. absurd has) n
next-leads d low top m JumpsIfHigh guarded k of h e t same (inr n) = goes-leads d low top m StoreRestores guarded k of h e refl (λ r load has st. same r load tt st) n
next-leads d low top m StoreFails guarded k of h e t same n = faults-leads d low top STORE_FAULT e k (store-entry d.object.kind (reg e.context 0)) n
next-leads d low top m StoreRestores guarded k of h e t same n = served-leads d low top m Stores guarded k of h e (λ f x. refl) refl (λ r load has st. same r load tt st) n
next-leads d low top m ComparesLimit guarded k of h e t same n = goes-leads d low top m JumpsIfRoom guarded k of h e refl (λ r load has st. absurd has) n
next-leads d low top m JumpsIfRoom guarded k of h e t same (inl n) = goes-leads d low top m GrowthFails guarded k of h e refl (λ r load has st. absurd has) n
next-leads d low top m JumpsIfRoom guarded k of h e t same (inr n) = goes-leads d low top m GrowthRestores guarded k of h e refl (λ r load has st. absurd has) n
next-leads d low top m GrowthFails guarded k of h e t same n = faults-leads d low top STACK_FAULT e k (stack-entry d.object.kind (reg e.context 0)) n
next-leads d low top m GrowthRestores guarded k of h e t same n = served-leads d low top m Grows guarded k of h e (λ f x. refl) refl (λ r load has st. absurd has) n
next-leads d low top m ComparesTop guarded k of h e t same n = goes-leads d low top m JumpsIfFilled guarded k of h e refl (λ r load has st. absurd has) n
next-leads d low top m JumpsIfFilled guarded k of h e t same (inl n) = goes-leads d low top m PopFails guarded k of h e refl (λ r load has st. absurd has) n
next-leads d low top m JumpsIfFilled guarded k of h e t same (inr n) = goes-leads d low top m PopRestores guarded k of h e refl (λ r load has st. absurd has) n
next-leads d low top m PopFails guarded k of h e t same n = faults-leads d low top STACK_FAULT e k (stack-entry d.object.kind (reg e.context 0)) n
next-leads d low top m PopRestores guarded k of h e t same n = served-leads d low top m Pops guarded k of h e (λ f x. refl) refl (λ r load has st. absurd has) n
next-leads d low top m ComparesNewLow guarded k of h e t same n = goes-leads d low top m JumpsIfNewLow guarded k of h e refl (λ r load has st. absurd has) n
next-leads d low top m JumpsIfNewLow guarded k of h e t same (inl n) = goes-leads d low top m SpFails guarded k of h e refl (λ r load has st. absurd has) n
next-leads d low top m JumpsIfNewLow guarded k of h e t same (inr n) = goes-leads d low top m ComparesNewHigh guarded k of h e refl (λ r load has st. absurd has) n
next-leads d low top m ComparesNewHigh guarded k of h e t same n = goes-leads d low top m JumpsIfNewHigh guarded k of h e refl (λ r load has st. absurd has) n
next-leads d low top m JumpsIfNewHigh guarded k of h e t same (inl n) = goes-leads d low top m SpFails guarded k of h e refl (λ r load has st. absurd has) n
next-leads d low top m JumpsIfNewHigh guarded k of h e t same (inr n) = goes-leads d low top m SpRestores guarded k of h e refl (λ r load has st. absurd has) n
next-leads d low top m SpFails guarded k of h e t same n = faults-leads d low top STACK_FAULT e k (stack-entry d.object.kind (reg e.context 0)) n
next-leads d low top m SpRestores guarded k of h e t same n = served-leads d low top m SetsSp guarded k of h e (λ f x. refl) refl (λ r load has st. absurd has) n
next-leads d low top m Stores guarded k of h e t same n = absurd t
next-leads d low top m Grows guarded k of h e t same n = absurd t
next-leads d low top m Pops guarded k of h e t same n = absurd t
next-leads d low top m SetsSp guarded k of h e t same n = absurd t

-- the words LO and HI in memory
region-low : (d : Domain) (m : List ℕ) (high first : ℕ) → FitAll d.object first (region_slots high) → StandsIn d m → words_in d m first 5 ≡ d.lo
region-low d m high first fit s =
    let f = fit-at d.object (region_slots high) first 5 fit (omega arith) in
    moved-zero d m (first + 5) Lo s.code f.0 f.1.0 f.1.1 (omega (arith, s.placed.hi_high, s.placed.statics))

low-word : (d : Domain) (m : List ℕ) (guarded : ℕ) (k : GuardKind) → IsOf k guard.Store → (h : Guarded d.object guarded k) → StandsIn d m → words_in d m h.first 5 ≡ d.lo
low-word d m guarded guard.Store of h s = region-low d m 0 h.first h.fit s
low-word d m guarded (guard.Wide r) of h s = region-low d m (high_word r) h.first h.fit s
low-word d m guarded guard.Load of h s = region-low d m 0 h.first h.fit s
low-word d m guarded guard.Growth of h s = absurd of
low-word d m guarded guard.Pop of h s = absurd of
low-word d m guarded guard.Sp of h s = absurd of

region-high : (d : Domain) (m : List ℕ) (high first : ℕ) → FitAll d.object first (region_slots high) → StandsIn d m → words_in d m first 8 ≡ (high + d.hi) % 65536
region-high d m high first fit s =
    let f = fit-at d.object (region_slots high) first 8 fit (omega arith) in
    s.code.moved (first + 8) Hi f.0 f.1.1 ∙ ap (λ (x : ℕ). (x + d.hi) % 65536) f.1.0

high-word : (d : Domain) (low top guarded : ℕ) (mem : List ℕ) (k : GuardKind) → IsOf k guard.Store → (h : Guarded d.object guarded k) → StandsIn d mem
    → words_in d mem h.first 8 ≡ (kept_bounds k (bounds d low top)).hi
high-word d low top guarded mem guard.Store of h s = region-high d mem 0 h.first h.fit s ∙ omega (arith, s.placed.hi_high)
high-word d low top guarded mem (guard.Wide reach.Two) of h s = region-high d mem 0xFFFE h.first h.fit s ∙ omega (arith, s.placed.hi_high, s.placed.lo_low, s.placed.statics)
high-word d low top guarded mem (guard.Wide reach.Four) of h s = region-high d mem 0xFFFC h.first h.fit s ∙ omega (arith, s.placed.hi_high, s.placed.lo_low, s.placed.statics)
high-word d low top guarded mem (guard.Wide reach.Six) of h s = region-high d mem 0xFFFA h.first h.fit s ∙ omega (arith, s.placed.hi_high, s.placed.lo_low, s.placed.statics)
high-word d low top guarded mem guard.Load of h s = region-high d mem 0 h.first h.fit s ∙ omega (arith, s.placed.hi_high)
high-word d low top guarded mem guard.Growth of h s = absurd of
high-word d low top guarded mem guard.Pop of h s = absurd of
high-word d low top guarded mem guard.Sp of h s = absurd of

-- what is fetched at a place is the instruction of the place law
own-fetched : (d : Domain) (low top : ℕ) (m : List ℕ) (p : GuardPlace) (guarded : ℕ) (k : GuardKind) (of : IsOf k (guard_of p)) (h : Guarded d.object guarded k) (i : Instr) (n : ℕ) → StandsIn d m → IsLine p
    → i ≡ line p (words_in d m h.first) → n ≡ line_words p → IsOwn p (guard_at d m h.first) (kept_bounds k (bounds d low top)) i n
own-fetched d low top m TakesAddress guarded k of h i n s t e f = (e, f)
own-fetched d low top m AddsIndex guarded k of h i n s t e f = (e, f)
own-fetched d low top m ComparesLow guarded k of h i n s t e f = (e ∙ ap (λ (x : ℕ). instr.Two Cmp Wide (src.Immediate x) (dst.Reg 4)) (low-word d m guarded k of h s), f)
own-fetched d low top m JumpsIfLow guarded k of h i n s t e f = (e, f)
own-fetched d low top m ComparesHigh guarded k of h i n s t e f = (e ∙ ap (λ (x : ℕ). instr.Two Cmp Wide (src.Immediate x) (dst.Reg 4)) (high-word d low top guarded m k of h s), f)
own-fetched d low top m JumpsIfHigh guarded k of h i n s t e f = (e, f)
own-fetched d low top m StoreFails guarded k of h i n s t e f = (e ∙ ap (λ (x : ℕ). instr.Two Mov Wide (src.Immediate x) (dst.Reg 0)) (worded-as k guard.Store (words_in d m h.first) of (worded-in d m guarded k h s.code) 11 (omega arith)), f)
own-fetched d low top m StoreRestores guarded k of h i n s t e f = (e, f)
own-fetched d low top m ComparesLimit guarded k of h i n s t e f = (e ∙ ap (λ (x : ℕ). instr.Two Cmp Wide (src.Absolute x) (dst.Reg 1)) (worded-as k guard.Growth (words_in d m h.first) of (worded-in d m guarded k h s.code) 2 (omega arith)), f)
own-fetched d low top m JumpsIfRoom guarded k of h i n s t e f = (e, f)
own-fetched d low top m GrowthFails guarded k of h i n s t e f = (e ∙ ap (λ (x : ℕ). instr.Two Mov Wide (src.Immediate x) (dst.Reg 0)) (worded-as k guard.Growth (words_in d m h.first) of (worded-in d m guarded k h s.code) 5 (omega arith)), f)
own-fetched d low top m GrowthRestores guarded k of h i n s t e f = (e, f)
own-fetched d low top m ComparesTop guarded k of h i n s t e f = (e ∙ ap (λ (x : ℕ). instr.Two Cmp Wide (src.Reg 1) (dst.Absolute x)) (worded-as k guard.Pop (words_in d m h.first) of (worded-in d m guarded k h s.code) 2 (omega arith)), f)
own-fetched d low top m JumpsIfFilled guarded k of h i n s t e f = (e, f)
own-fetched d low top m PopFails guarded k of h i n s t e f = (e ∙ ap (λ (x : ℕ). instr.Two Mov Wide (src.Immediate x) (dst.Reg 0)) (worded-as k guard.Pop (words_in d m h.first) of (worded-in d m guarded k h s.code) 5 (omega arith)), f)
own-fetched d low top m PopRestores guarded k of h i n s t e f = (e, f)
own-fetched d low top m ComparesNewLow guarded k of h i n s t e f = (e ∙ ap (λ (x : ℕ). instr.Two Cmp Wide (src.Absolute x) (dst.Reg 4)) (worded-as k guard.Sp (words_in d m h.first) of (worded-in d m guarded k h s.code) 2 (omega arith)), f)
own-fetched d low top m JumpsIfNewLow guarded k of h i n s t e f = (e, f)
own-fetched d low top m ComparesNewHigh guarded k of h i n s t e f = (e ∙ ap (λ (x : ℕ). instr.Two Cmp Wide (src.Reg 4) (dst.Absolute x)) (worded-as k guard.Sp (words_in d m h.first) of (worded-in d m guarded k h s.code) 5 (omega arith)), f)
own-fetched d low top m JumpsIfNewHigh guarded k of h i n s t e f = (e, f)
own-fetched d low top m SpFails guarded k of h i n s t e f = (e ∙ ap (λ (x : ℕ). instr.Two Mov Wide (src.Immediate x) (dst.Reg 0)) (worded-as k guard.Sp (words_in d m h.first) of (worded-in d m guarded k h s.code) 8 (omega arith)), f)
own-fetched d low top m SpRestores guarded k of h i n s t e f = (e, f)
own-fetched d low top m Stores guarded k of h i n s t e f = absurd t
own-fetched d low top m Grows guarded k of h i n s t e f = absurd t
own-fetched d low top m Pops guarded k of h i n s t e f = absurd t
own-fetched d low top m SetsSp guarded k of h i n s t e f = absurd t

-- ---- the register that a load steps

-- a load that steps the register of its address
record LoadsThrough (o : Object) (first r : ℕ) : Type 0 where
  least : 6 ≤ r
  most : r < 16
  second : get_or o.code (first + 1) 0 ≡ 0x4004 + 256 * r
  index : get_or o.code (first + 3) 0 ≡ 0
  plain : Unrelocated o.relocs (first + 3)

loads-through : (o : Object) (first at r : ℕ) (i : Instr) → IsLoadForm o first at i → Steps i r → LoadsThrough o first r
loads-through o first at r (instr.Two op w (src.AutoInc n) (dst.Reg k)) (inl h) st =
    record {
      least = omega (arith, h.0.0, st);
      most = omega (arith, h.0.1, st);
      second = h.0.2 ∙ ap (λ (x : ℕ). 0x4004 + 256 * x) st;
      index = h.0.3;
      plain = h.0.4;
    }
loads-through o first at r (instr.Two op w (src.AutoInc n) (dst.Absolute x)) (inl h) st =
    record {
      least = omega (arith, h.0.0, st);
      most = omega (arith, h.0.1, st);
      second = h.0.2 ∙ ap (λ (y : ℕ). 0x4004 + 256 * y) st;
      index = h.0.3;
      plain = h.0.4;
    }
loads-through o first at r (instr.Two op w (src.AutoInc n) (dst.Reg k)) (inr h) st = absurd h.1
loads-through o first at r (instr.Two op w (src.AutoInc n) (dst.Absolute x)) (inr h) st = absurd h.1
loads-through o first at r (instr.Two op w (src.AutoInc n) (dst.Indexed k x)) h st = absurd st
loads-through o first at r (instr.Two op w (src.AutoInc n) (dst.Symbolic x)) h st = absurd st
loads-through o first at r (instr.Two op w (src.Reg n) d) h st = absurd st
loads-through o first at r (instr.Two op w (src.Indexed n x) d) h st = absurd st
loads-through o first at r (instr.Two op w (src.Symbolic x) d) h st = absurd st
loads-through o first at r (instr.Two op w (src.Absolute x) d) h st = absurd st
loads-through o first at r (instr.Two op w (src.Indirect n) d) h st = absurd st
loads-through o first at r (instr.Two op w (src.Immediate x) d) h st = absurd st
loads-through o first at r (instr.Two op w (src.Const c) d) h st = absurd st
loads-through o first at r (instr.One op w s) h st = absurd st
loads-through o first at r instr.Reti h st = absurd st
loads-through o first at r (instr.Jump c z) h st = absurd st

taken-from : (r : ℕ) → 6 ≤ r → r < 16 → load_src (0x4004 + 256 * r) ≡ src.Reg r
taken-from r low high =
    let n : (0x4004 + 256 * r) / 256 % 16 ≡ r = omega (arith, low, high) in
    let b : ((0x4004 + 256 * r) / 256 % 16 == 3) ≡ false = grind (arith, nat_tests, n, low) in
    ap (λ (x : Bool). load_of x ((0x4004 + 256 * r) / 256 % 16)) b ∙ ap src.Reg n

-- before each of its own instructions the register and R4 are as the law on them asks
takes-from : (d : Domain) (m c : List ℕ) (p : GuardPlace) (guarded : ℕ) (h : Guarded d.object guarded guard.Load) (r : ℕ) → StandsIn d m → TakesOn p
    → (HasAddress p → reg c 4 ≡ reg c r) → LoadsThrough d.object h.first r → TakesFrom p (guard_at d m h.first) r c
takes-from d m c TakesAddress guarded h r s t same l =
    let f = fit-at d.object (region_slots 0) h.first 1 h.fit (omega arith) in
    ap load_src (s.code.plain (h.first + 1) f.0 f.1.1 ∙ l.second) ∙ taken-from r l.least l.most
takes-from d m c AddsIndex guarded h r s t same l =
    let f = fit-at d.object (region_slots 0) h.first 3 h.fit (omega arith) in
    (s.code.plain (h.first + 3) f.0 l.plain ∙ l.index, same tt)
takes-from d m c ComparesLow guarded h r s t same l = same tt
takes-from d m c JumpsIfLow guarded h r s t same l = same tt
takes-from d m c ComparesHigh guarded h r s t same l = same tt
takes-from d m c JumpsIfHigh guarded h r s t same l = same tt
takes-from d m c StoreRestores guarded h r s t same l = same tt
takes-from d m c StoreFails guarded h r s t same l = absurd t
takes-from d m c Stores guarded h r s t same l = absurd t
takes-from d m c ComparesLimit guarded h r s t same l = absurd t
takes-from d m c JumpsIfRoom guarded h r s t same l = absurd t
takes-from d m c GrowthFails guarded h r s t same l = absurd t
takes-from d m c GrowthRestores guarded h r s t same l = absurd t
takes-from d m c Grows guarded h r s t same l = absurd t
takes-from d m c ComparesTop guarded h r s t same l = absurd t
takes-from d m c JumpsIfFilled guarded h r s t same l = absurd t
takes-from d m c PopFails guarded h r s t same l = absurd t
takes-from d m c PopRestores guarded h r s t same l = absurd t
takes-from d m c Pops guarded h r s t same l = absurd t
takes-from d m c ComparesNewLow guarded h r s t same l = absurd t
takes-from d m c JumpsIfNewLow guarded h r s t same l = absurd t
takes-from d m c ComparesNewHigh guarded h r s t same l = absurd t
takes-from d m c JumpsIfNewHigh guarded h r s t same l = absurd t
takes-from d m c SpFails guarded h r s t same l = absurd t
takes-from d m c SpRestores guarded h r s t same l = absurd t
takes-from d m c SetsSp guarded h r s t same l = absurd t

line-at : (p : GuardPlace) (first guarded : ℕ) → IsLine p → place_at p first guarded ≡ first + place_offset p
line-at TakesAddress first guarded t = refl
line-at AddsIndex first guarded t = refl
line-at ComparesLow first guarded t = refl
line-at JumpsIfLow first guarded t = refl
line-at ComparesHigh first guarded t = refl
line-at JumpsIfHigh first guarded t = refl
line-at StoreFails first guarded t = refl
line-at StoreRestores first guarded t = refl
line-at Stores first guarded t = absurd t
line-at ComparesLimit first guarded t = refl
line-at JumpsIfRoom first guarded t = refl
line-at GrowthFails first guarded t = refl
line-at GrowthRestores first guarded t = refl
line-at Grows first guarded t = absurd t
line-at ComparesTop first guarded t = refl
line-at JumpsIfFilled first guarded t = refl
line-at PopFails first guarded t = refl
line-at PopRestores first guarded t = refl
line-at Pops first guarded t = absurd t
line-at ComparesNewLow first guarded t = refl
line-at JumpsIfNewLow first guarded t = refl
line-at ComparesNewHigh first guarded t = refl
line-at JumpsIfNewHigh first guarded t = refl
line-at SpFails first guarded t = refl
line-at SpRestores first guarded t = refl
line-at SetsSp first guarded t = absurd t

pub line-pc : (d : Domain) (b : Bounds) (c : List ℕ) (p : GuardPlace) (at : IsAtPlace d b c p) → IsLine p → reg c 0 ≡ address d (at.by.first + place_offset p)
line-pc d b c p at t = at.pc ∙ ap (address d) (line-at p at.by.first at.guarded t)

kept-same : SameLaw → (d : Domain) (b : Bounds) (m c : List ℕ) (p : GuardPlace) (guarded : ℕ) (k : GuardKind) (h : Guarded d.object guarded k) (i : Instr) (n : ℕ) → StandsIn d m → IsContext c
    → SameAt k p h.instr c → IsOwn p (guard_at d m h.first) b i n → (r : ℕ) → k ≡ guard.Load → TakesOn p → Steps h.instr r → reg (does m c i n).context 4 ≡ reg (does m c i n).context r
kept-same same-stays d b m c p guarded k h i n s cc' same own r load t st =
    subst (λ (x : GuardKind). (h : Guarded d.object guarded x) → SameAt x p h.instr c → IsOwn p (guard_at d m h.first) b i n → Steps h.instr r → reg (does m c i n).context 4 ≡ reg (does m c i n).context r) (sym load)
    (λ h same own st.
    let l = loads-through d.object h.first guarded r h.instr h.serves st in
    same-stays p (guard_at d m h.first) b m c i n r cc' own l.least l.most (takes-from d m c p guarded h r s t (λ has. same r refl has st) l))
    h same own st

-- a step at a place of a guard's own instructions
pub line-leads : OwnLaw → SameLaw → (d : Domain) (low top : ℕ) (m c : List ℕ) (p : GuardPlace) (i : Instr) (n : ℕ) → IsLine p → StandsIn d m → Limits m low top
    → IsSteady (bits d) low top c → IsAtPlace d (bounds d low top) c p → IsFetched m (reg c 0) i n → Leads d low top (does m c i n)
line-leads own-leads same-stays d low top m c p i n t s li st at f =
    let here = line-pc d (bounds d low top) c p at t in
    let b = kept_bounds at.kind (bounds d low top) in
    let same = fetched-same m (reg c 0) i (line p (words_in d m at.by.first)) n (line_words p) f (line-fetched d m at.guarded p at.kind at.of at.by (reg c 0) s t here) in
    let own = own-fetched d low top m p at.guarded at.kind at.of at.by i n s t same.0 same.1 in
    next-leads d low top m p at.guarded at.kind at.of at.by (does m c i n) t
    (kept-same same-stays d b m c p at.guarded at.kind at.by i n s st.context at.same own)
    (own-leads p (guard_at d m at.by.first) b (bits d) m c i n (is-guard_at d m at.guarded at.kind at.by s.placed) (kept-are-bounds at.kind d low top s.placed) li st
    record { pc = omega (arith, here); saved = at.saved; known = at.known }
    own)
