-- The growth, pop and SP guards.
use Rattle.std.proofs.Common.{◌≡◌, ℕ, ◌+◌, ◌*◌, ◌%◌, ◌<◌, ◌≤◌, List, length, get_or, drop, refl, sym, ap, ◌∙◌, subst, inl, inr, arith}
use Rattle.std.specs.List.{AllByRecursion}
use Rattle.std.proofs.lemmas.List.{length-drop}
use Rattle.msp_encode.specs.declared.instr.Op2.{Op2}
use Rattle.msp_encode.specs.declared.instr.Op2.TheVariants.{Mov, Add, Addc, Subc, Sub, Cmp, Dadd, Bit, Bic, Bis, Xor, And}
use Rattle.msp_encode.specs.declared.instr.Op1.{Op1}
use Rattle.msp_encode.specs.declared.instr.Op1.TheVariants.{Rrc, Swpb, Rra, Sxt, Push, Call}
use Rattle.msp_encode.specs.declared.instr.Width.{Width}
use Rattle.msp_encode.specs.declared.instr.Width.TheVariants.{Wide, Byte}
use Rattle.msp_encode.specs.declared.instr.Src.{Src}
use Rattle.msp_encode.specs.declared.instr.Src.TheVariants as src
use Rattle.msp_encode.specs.declared.instr.Dst.{Dst}
use Rattle.msp_encode.specs.declared.instr.Dst.TheVariants as dst
use Rattle.msp_encode.specs.declared.instr.Instr.{Instr}
use Rattle.msp_encode.specs.declared.instr.Instr.TheVariants as instr
use Rattle.msp_encode.specs.Forms.{IsMov, IsWide, Pops, SrcIs, DstIs}
use Rattle.kernel_model.specs.declared.kinds.Kind.{Kind}
use Rattle.kernel_model.specs.declared.kinds.Kind.TheVariants.{App, Module}
use Rattle.code_model.specs.declared.parts.RelKind.TheVariants.{Code}
use Rattle.code_model.specs.declared.object.Object.{Object}
use Rattle.code_model.specs.declared.guards.GuardKind.{GuardKind}
use Rattle.code_model.specs.declared.guards.GuardKind.TheVariants as guard
use Rattle.code_model.specs.Starts.{Stands, Start}
use Rattle.code_model.specs.Guards.{IsGrowthForm, IsPopForm, IsSpForm, Serves, most_served, Guarded, UnitStart}
use Rattle.code_model.specs.Rules.{IsCallTarget, IsCallEntry, IsUnitOffset}
use Rattle.machine_model.specs.Context.{reg}
use Rattle.machine_model.specs.Does.{does, Effect}
use Rattle.machine_model.specs.Fetching.{IsFetched}
use Rattle.machine_laws.specs.Steady.{IsSteady, Limits}
use Rattle.machine_laws.specs.Places.{Grows, Pops as pops_place, SetsSp}
use Rattle.machine_laws.specs.Guarded.{Passes, PushLaw, CallLaw, PopLaw, SpLaw}
use Rattle.confinement_laws.specs.Given.{CheckerLaws}
use Rattle.load_model.specs.Domains.{Domain}
use Rattle.node_model.specs.Placed.{StandsIn, address, bits}
use Rattle.node_model.specs.Good.{IsAtPlace, Called, bounds}
use Rattle.node_model.specs.Instructions.{Leads}
use Rattle.confinement_laws.proofs.Placing.{placed, placed_src, size-is, operand-word}
use Rattle.code_laws.proofs.Begins.{stands_first}
use Rattle.confinement_laws.proofs.Fetching.{words_in, fetched-is}
use Rattle.confinement_laws.proofs.Storing.{guarded-next}
use Rattle.confinement_laws.proofs.Passing.{stack-leads, in-stack, quiet-src}

-- ---- forms

pub mov-is : (op : Op2) → IsMov op → op ≡ Mov
mov-is Mov h = refl
mov-is Add h = absurd h
mov-is Addc h = absurd h
mov-is Subc h = absurd h
mov-is Sub h = absurd h
mov-is Cmp h = absurd h
mov-is Dadd h = absurd h
mov-is Bit h = absurd h
mov-is Bic h = absurd h
mov-is Bis h = absurd h
mov-is Xor h = absurd h
mov-is And h = absurd h

pub wide-is : (w : Width) → IsWide w → w ≡ Wide
wide-is Wide h = refl
wide-is Byte h = absurd h

pops-is : (s : Src) (r : ℕ) → Pops s r → s ≡ src.AutoInc r
pops-is (src.AutoInc n) r h = ap src.AutoInc h
pops-is (src.Reg n) r h = absurd h
pops-is (src.Indexed n x) r h = absurd h
pops-is (src.Symbolic x) r h = absurd h
pops-is (src.Absolute x) r h = absurd h
pops-is (src.Indirect n) r h = absurd h
pops-is (src.Immediate x) r h = absurd h
pops-is (src.Const k) r h = absurd h

src-is : (s : Src) (r : ℕ) → SrcIs s r → s ≡ src.Reg r
src-is (src.Reg n) r h = ap src.Reg h
src-is (src.AutoInc n) r h = absurd h
src-is (src.Indexed n x) r h = absurd h
src-is (src.Symbolic x) r h = absurd h
src-is (src.Absolute x) r h = absurd h
src-is (src.Indirect n) r h = absurd h
src-is (src.Immediate x) r h = absurd h
src-is (src.Const k) r h = absurd h

dst-is : (d : Dst) (r : ℕ) → DstIs d r → d ≡ dst.Reg r
dst-is (dst.Reg n) r h = ap dst.Reg h
dst-is (dst.Indexed n x) r h = absurd h
dst-is (dst.Symbolic x) r h = absurd h
dst-is (dst.Absolute x) r h = absurd h

pub mov-form : (op : Op2) (w : Width) (s t : Src) (d e : Dst) → op ≡ Mov → w ≡ Wide → s ≡ t → d ≡ e → instr.Two op w s d ≡ instr.Two Mov Wide t e
mov-form op w s t d e a b c f =
    ap (λ (x : Op2). instr.Two x w s d) a ∙ (ap (λ (x : Width). instr.Two Mov x s d) b ∙ (ap (λ (x : Src). instr.Two Mov Wide x d) c ∙ ap (λ (x : Dst). instr.Two Mov Wide t x) f))

-- a popped register
pub record PopsInto (i : Instr) : Type 0 where
  pub number : ℕ
  pub is : i ≡ instr.Two Mov Wide (src.AutoInc 1) (dst.Reg number)
  pub least : 4 ≤ number
  pub most : number < 16

pub pop-form : (i : Instr) → IsPopForm i → PopsInto i
pop-form (instr.Two op w s (dst.Reg k)) h = record { number = k; is = mov-form op w s (src.AutoInc 1) (dst.Reg k) (dst.Reg k) (mov-is op h.0) (wide-is w h.1) (pops-is s 1 h.2) refl; least = h.3.0; most = omega (arith, h.3.1) }
pop-form (instr.Two op w s (dst.Indexed k x)) h = absurd h.3
pop-form (instr.Two op w s (dst.Symbolic x)) h = absurd h.3
pop-form (instr.Two op w s (dst.Absolute x)) h = absurd h.3
pop-form (instr.One op w s) h = absurd h
pop-form instr.Reti h = absurd h
pop-form (instr.Jump c k) h = absurd h

pub sp-form : (i : Instr) → IsSpForm i → i ≡ instr.Two Mov Wide (src.Reg 4) (dst.Reg 1)
sp-form (instr.Two op w s d) h = mov-form op w s (src.Reg 4) d (dst.Reg 1) (mov-is op h.0) (wide-is w h.1) (src-is s 4 h.2) (dst-is d 1 h.3)
sp-form (instr.One op w s) h = absurd h
sp-form instr.Reti h = absurd h
sp-form (instr.Jump c k) h = absurd h

-- what a guard of this kind serves
pub serves-as : (g : GuardKind) (o : Object) (first at : ℕ) (i : Instr) (k : GuardKind) → k ≡ g → Serves k o first at i → Serves g o first at i
serves-as g o first at i k e h = subst (λ (x : GuardKind). Serves x o first at i) e h

-- ---- pops and new stack pointers

pub pops-lead : CheckerLaws → PopLaw → (d : Domain) (low top : ℕ) (m c : List ℕ) (i : Instr) (n : ℕ) → StandsIn d m → Limits m low top
    → IsSteady (bits d) low top c → IsAtPlace d (bounds d low top) c pops_place → IsFetched m (reg c 0) i n → Leads d low top (does m c i n)
pops-lead laws pop-stays d low top m c i n s li st at f =
    let here : reg c 0 ≡ address d at.guarded = at.pc in
    let same = fetched-is d m at.guarded at.by.instr i at.by.words n (reg c 0) s at.by.start at.by.stands here f in
    let form = pop-form at.by.instr (serves-as guard.Pop d.object at.by.first at.guarded at.by.instr at.kind at.of at.by.serves) in
    let is : i ≡ instr.Two Mov Wide (src.AutoInc 1) (dst.Reg form.number) = same.0 ∙ ap (λ (x : Instr). placed x (words_in d m at.guarded)) form.is in
    let next = guarded-next laws d m at.guarded at.kind at.by (ap most_served at.of) s in
    let fits : reg c 0 + 2 * n < 65536 = omega (arith, here, same.1, s.placed.code_high, next.0.below) in
    stack-leads d low top (reg c 0 + 2 * n) (at.guarded + at.by.words) (does m c i n)
    (subst (λ (x : Instr). Passes low top (bounds d low top) (bits d) (reg c 0 + 2 * n) (does m c x n)) (sym is)
    (pop-stays (bounds d low top) (bits d) m c form.number n s.memory li.top_even li.word st fits form.least form.most at.known))
    (omega (arith, here, same.1)) next

pub sp-leads : CheckerLaws → SpLaw → (d : Domain) (low top : ℕ) (m c : List ℕ) (i : Instr) (n : ℕ) → StandsIn d m → Limits m low top
    → IsSteady (bits d) low top c → IsAtPlace d (bounds d low top) c SetsSp → IsFetched m (reg c 0) i n → Leads d low top (does m c i n)
sp-leads laws sp-stays d low top m c i n s li st at f =
    let here : reg c 0 ≡ address d at.guarded = at.pc in
    let same = fetched-is d m at.guarded at.by.instr i at.by.words n (reg c 0) s at.by.start at.by.stands here f in
    let is : i ≡ instr.Two Mov Wide (src.Reg 4) (dst.Reg 1) = same.0 ∙ ap (λ (x : Instr). placed x (words_in d m at.guarded)) (sp-form at.by.instr (serves-as guard.Sp d.object at.by.first at.guarded at.by.instr at.kind at.of at.by.serves)) in
    let next = guarded-next laws d m at.guarded at.kind at.by (ap most_served at.of) s in
    let fits : reg c 0 + 2 * n < 65536 = omega (arith, here, same.1, s.placed.code_high, next.0.below) in
    stack-leads d low top (reg c 0 + 2 * n) (at.guarded + at.by.words) (does m c i n)
    (subst (λ (x : Instr). Passes low top (bounds d low top) (bits d) (reg c 0 + 2 * n) (does m c x n)) (sym is)
    (sp-stays (bounds d low top) (bits d) m c n li.low_even st fits at.known.0 at.known.1))
    (omega (arith, here, same.1)) next

-- ---- pushes and calls

-- an immediate in code
pub immediate-word : (code : List ℕ) (at : ℕ) (op : Op1) (w : Width) (x n : ℕ) → Stands code at (instr.One op w (src.Immediate x)) n → get_or code (at + 1) 0 ≡ x
immediate-word code at op w x n h = operand-word code at (instr.One op w (src.Immediate x)) n 0 h (omega arith)

entry-even : (k : Kind) (x : ℕ) → IsCallEntry k x → (x % 2 ≡ 0) × (x < 65536)
entry-even App x h = (h.2, omega (arith, h.1))
entry-even Module x (inl e) = (omega (arith, e), omega (arith, e))
entry-even Module x (inr e) = (omega (arith, e), omega (arith, e))

-- behind a push or a call the context is safe, and all that was written lies in the stack
pub record Grown (d : Domain) (low top : ℕ) (e : Effect) : Type 0 where
  pub leads : Leads d low top e
  pub inside : AllByRecursion (λ (w : ℕ × ℕ). (low ≤ w.0) × (w.0 < top)) e.written

call-leads : CallLaw → (d : Domain) (low top : ℕ) (m c : List ℕ) (w : Width) (x n k at : ℕ) → StandsIn d m → IsSteady (bits d) low top c → Start d.object.code at
    → Stands d.object.code at (instr.One Call w (src.Immediate x)) k → low + 6 ≤ reg c 1 → IsCallTarget d.object (at + 1) (src.Immediate x)
    → Grown d low top (does m c (instr.One Call w (src.Immediate (words_in d m at 1))) n)
unfolding IsUnitOffset
call-leads call-stays d low top m c w x n k at s st b h room (inl t) =
    let word = immediate-word d.object.code at Call w x k h in
    let below : at + 1 < length d.object.code = omega (arith, size-is (drop at d.object.code) (instr.One Call w (src.Immediate x)) k h, h.0, length-drop at d.object.code, b.below) in
    let u : UnitStart d.object t.1.0 = t.1.1 in
    let a : words_in d m at 1 ≡ address d t.1.0 = s.code.moved (at + 1) Code below t.0 ∙ omega (arith, word, t.1.2, s.placed.code_high, t.1.1.0.below) in
    let r = call-stays (bounds d low top) (bits d) m c w (words_in d m at 1) n st (omega (arith, a, s.placed.code_even)) (omega (arith, a, s.placed.code_high, t.1.1.0.below)) room in
    record { leads = stack-leads d low top (words_in d m at 1) t.1.0 _ r.done a t.1.1; inside = r.done.inside }
call-leads call-stays d low top m c w x n k at s st b h room (inr t) =
    let word = immediate-word d.object.code at Call w x k h in
    let below : at + 1 < length d.object.code = omega (arith, size-is (drop at d.object.code) (instr.One Call w (src.Immediate x)) k h, h.0, length-drop at d.object.code, b.below) in
    let a : words_in d m at 1 ≡ x = s.code.plain (at + 1) below t.0 ∙ word in
    let e = entry-even d.object.kind x t.1 in
    let r = call-stays (bounds d low top) (bits d) m c w (words_in d m at 1) n st (omega (arith, a, e.0)) (omega (arith, a, e.1)) room in
    record {
      leads = record {
        good = record { steady = r.done.steady; somewhere = Called (subst (IsCallEntry d.object.kind) (sym (r.done.pc ∙ a)) t.1) r.pushed };
        inside = in-stack d low top _ r.done.inside;
      };
      inside = r.done.inside;
    }

one-leads : CheckerLaws → PushLaw → CallLaw → (d : Domain) (low top : ℕ) (m c : List ℕ) (op : Op1) (w : Width) (v : Src) (n k at : ℕ) → StandsIn d m → IsSteady (bits d) low top c
    → (h : Guarded d.object at guard.Growth) → Stands d.object.code at (instr.One op w v) k → IsGrowthForm (instr.One op w v) → reg c 0 ≡ address d at → UnitStart d.object (at + k) → n ≡ k → low + 6 ≤ reg c 1
    → Grown d low top (does m c (placed (instr.One op w v) (words_in d m at)) n)
one-leads laws push-stays call-stays d low top m c Push w v n k at s st h b f here next size room =
    let p = push-stays (bounds d low top) (bits d) m c w (placed_src v (words_in d m at 1)) n st (omega (arith, here, size, s.placed.code_high, next.0.below))
    (quiet-src v (words_in d m at 1) _ _ (stands_first d.object.code at (instr.One Push w v) k b).source (omega arith) f.1) room in
    record { leads = stack-leads d low top (reg c 0 + 2 * n) (at + k) _ p (omega (arith, here, size)) next; inside = p.inside }
one-leads laws push-stays call-stays d low top m c Call w v n k at s st h b f here next size room = called v b (laws.calls d.object d.units at k Call w v s.accepted h.start b (laws.free d.object at guard.Growth h) tt)
  where
    called : (v : Src) → Stands d.object.code at (instr.One Call w v) k → IsCallTarget d.object (at + 1) v → Grown d low top (does m c (placed (instr.One Call w v) (words_in d m at)) n)
    called (src.Immediate x) b t = call-leads call-stays d low top m c w x n k at s st h.start b room t
    called (src.Reg x) b t = absurd t
    called (src.Indexed y x) b t = absurd t
    called (src.Symbolic x) b t = absurd t
    called (src.Absolute x) b t = absurd t
    called (src.Indirect x) b t = absurd t
    called (src.AutoInc x) b t = absurd t
    called (src.Const x) b t = absurd t
one-leads laws push-stays call-stays d low top m c Rrc w v n k at s st h b f here next size room = absurd f.0
one-leads laws push-stays call-stays d low top m c Swpb w v n k at s st h b f here next size room = absurd f.0
one-leads laws push-stays call-stays d low top m c Rra w v n k at s st h b f here next size room = absurd f.0
one-leads laws push-stays call-stays d low top m c Sxt w v n k at s st h b f here next size room = absurd f.0

growth-leads : CheckerLaws → PushLaw → CallLaw → (d : Domain) (low top : ℕ) (m c : List ℕ) (j : Instr) (n k at : ℕ) → StandsIn d m → IsSteady (bits d) low top c
    → (h : Guarded d.object at guard.Growth) → Stands d.object.code at j k → IsGrowthForm j → reg c 0 ≡ address d at → UnitStart d.object (at + k) → n ≡ k → low + 6 ≤ reg c 1
    → Grown d low top (does m c (placed j (words_in d m at)) n)
growth-leads laws push-stays call-stays d low top m c (instr.One op w v) n k at s st h b f here next size room = one-leads laws push-stays call-stays d low top m c op w v n k at s st h b f here next size room
growth-leads laws push-stays call-stays d low top m c (instr.Two op w v e) n k at s st h b f here next size room = absurd f
growth-leads laws push-stays call-stays d low top m c instr.Reti n k at s st h b f here next size room = absurd f
growth-leads laws push-stays call-stays d low top m c (instr.Jump e z) n k at s st h b f here next size room = absurd f

pub grows : CheckerLaws → PushLaw → CallLaw → (d : Domain) (low top : ℕ) (m c : List ℕ) (i : Instr) (n : ℕ) → StandsIn d m
    → IsSteady (bits d) low top c → IsAtPlace d (bounds d low top) c Grows → IsFetched m (reg c 0) i n → Grown d low top (does m c i n)
grows laws push-stays call-stays d low top m c i n s st at f =
    let here : reg c 0 ≡ address d at.guarded = at.pc in
    let same = fetched-is d m at.guarded at.by.instr i at.by.words n (reg c 0) s at.by.start at.by.stands here f in
    subst (λ (x : Instr). Grown d low top (does m c x n)) (sym same.0)
    (growth-leads laws push-stays call-stays d low top m c at.by.instr n at.by.words at.guarded s st (subst (λ (x : GuardKind). Guarded d.object at.guarded x) at.of at.by) at.by.stands
    (serves-as guard.Growth d.object at.by.first at.guarded at.by.instr at.kind at.of at.by.serves) here (guarded-next laws d m at.guarded at.kind at.by (ap most_served at.of) s) same.1 at.known)

pub grows-lead : CheckerLaws → PushLaw → CallLaw → (d : Domain) (low top : ℕ) (m c : List ℕ) (i : Instr) (n : ℕ) → StandsIn d m → Limits m low top
    → IsSteady (bits d) low top c → IsAtPlace d (bounds d low top) c Grows → IsFetched m (reg c 0) i n → Leads d low top (does m c i n)
grows-lead laws push-stays call-stays d low top m c i n s li st at f = (grows laws push-stays call-stays d low top m c i n s st at f).leads
