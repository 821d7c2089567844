-- What a piece is among shaped pieces, and which rules on forms it breaks: none.
use Rattle.std.proofs.Common.{◌≡◌, ℕ, ◌<◌, List, [], ◌∷◌, ◌++◌, Option, refl, sym, subst, ap, ◌∙◌, arith}
use Rattle.std.proofs.lemmas.List.{append_assoc}
use Rattle.msp_encode.specs.declared.instr.Op1.{Op1}
use Rattle.msp_encode.specs.declared.instr.Op1.TheVariants.{Rrc, Swpb, Rra, Sxt, Push, Call}
use Rattle.msp_encode.specs.declared.instr.Src.{Src}
use Rattle.msp_encode.specs.declared.instr.Src.TheVariants as src
use Rattle.msp_encode.specs.declared.instr.Dst.{Dst}
use Rattle.msp_encode.specs.declared.instr.Dst.TheVariants as dst
use Rattle.msp_encode.specs.declared.instr.Instr.{Instr}
use Rattle.msp_encode.specs.declared.instr.Instr.TheVariants as instr
use Rattle.msp_encode.specs.Forms.{Changes, Stacks, SrcIs, DstIs, Pops, IsReti, WritesReg, IsImmediate}
use Rattle.code_model.specs.declared.parts.RelKind.{RelKind}
use Rattle.code_model.specs.declared.guards.GuardKind.{GuardKind}
use Rattle.code_model.specs.declared.guards.GuardKind.TheVariants as guard
use Rattle.code_model.specs.Guards.{reach_bytes, IsAtR4, IsHigh, IsGrowthForm, IsPopForm, IsSpForm}
use Rattle.code_model.specs.Rules.{IsBranch, IsMemoryDst, IsMemorySrc, WritesMemory, ReadsStack, IsPushOrCall, KeepsStores}
use Rattle.insert_model.specs.declared.piece.Piece.{Piece}
use Rattle.insert_laws.specs.Pieces.{moved_src, moved_dst, moved_instr, standing}
use Rattle.insert_laws.specs.Shapes.{IsThroughR4, IsNearR4, IsServed, IsGuarding, Shaped, Ends, Free, Guards}
use Rattle.insert_laws.proofs.Guarding.{heads, tails, no_cut, IsServedBy, served_of, first_served}

-- ---- roles

pub data Role (F : Piece → Type 0) (version : ℕ) (xs x : List Piece) (r : Piece) (z : List Piece) : Type 0 where
  IsFree : F r → Shaped F version x → Role F version xs x r z
  IsOwn : (a : List Piece) (g : GuardKind) (u y : List Piece) (p : Piece) (b : List Piece) → Shaped F version a → IsServedBy version g (u ++ r ∷ y) [] p → xs ≡ a ++ ((u ++ r ∷ y) ++ p ∷ b)
      → x ≡ a ++ u → Role F version xs x r z
  Serves : (a : List Piece) (g : GuardKind) (gs done : List Piece) → Shaped F version a → IsServedBy version g gs done r → x ≡ a ++ (gs ++ done) → Role F version xs x r z

-- where a cut of two lists lies
pub data Lies (a b x : List Piece) (r : Piece) (z : List Piece) : Type 0 where
  InFirst : (more : List Piece) → a ≡ x ++ r ∷ more → z ≡ more ++ b → Lies a b x r z
  InSecond : (less : List Piece) → x ≡ a ++ less → b ≡ less ++ r ∷ z → Lies a b x r z

pub lies : (a b x : List Piece) (r : Piece) (z : List Piece) → a ++ b ≡ x ++ r ∷ z → Lies a b x r z
lies [] b x r z e = InSecond x refl e
lies (m ∷ a) b [] r z e = InFirst a (ap (λ (n : Piece). n ∷ a) (heads m r (a ++ b) z e)) (sym (tails m r (a ++ b) z e))
lies (m ∷ a) b (n ∷ x) r z e =
    let h : m ≡ n = heads m n (a ++ b) (x ++ r ∷ z) e in
    elim (lies a b x r z (tails m n (a ++ b) (x ++ r ∷ z) e)) [
      | InFirst more f t ↦ InFirst more (λ j. h j ∷ f j) t
      | InSecond less f t ↦ InSecond less (λ j. sym h j ∷ f j) t
    ]

role_after : (F : Piece → Type 0) (version : ℕ) (front xs x : List Piece) (r : Piece) (z : List Piece) → ((ys : List Piece) → Shaped F version ys → Shaped F version (front ++ ys)) → Role F version xs x r z
    → Role F version (front ++ xs) (front ++ x) r z
role_after F version front xs x r z on (IsFree f s) = IsFree f (on x s)
role_after F version front xs x r z on (IsOwn a g u y p b s h e ex) =
    IsOwn (front ++ a) g u y p b (on a s) h (ap (λ (ys : List Piece). front ++ ys) e ∙ sym (append_assoc front a ((u ++ r ∷ y) ++ p ∷ b))) (ap (λ (ys : List Piece). front ++ ys) ex ∙ sym (append_assoc front a u))
role_after F version front xs x r z on (Serves a g gs done s h ex) =
    Serves (front ++ a) g gs done (on a s) h (ap (λ (ys : List Piece). front ++ ys) ex ∙ sym (append_assoc front a (gs ++ done)))

pub role_of : (F : Piece → Type 0) (version : ℕ) (xs x : List Piece) (r : Piece) (z : List Piece) → Shaped F version xs → xs ≡ x ++ r ∷ z → Role F version xs x r z
role_of F version xs x r z (Ends _ empty) e = absurd (no_cut x r z (sym empty ∙ e))
role_of F version xs [] r z (Free _ p ps is f rest) e = IsFree (subst F (heads p r ps z (sym is ∙ e)) f) (Ends [] refl)
role_of F version xs (n ∷ x) r z (Free _ p ps is f rest) e =
    let h : p ≡ n = heads p n ps (x ++ r ∷ z) (sym is ∙ e) in
    let q : Role F version ps x r z = role_of F version ps x r z rest (tails p n ps (x ++ r ∷ z) (sym is ∙ e)) in
    subst (λ (ys : List Piece). Role F version ys (n ∷ x) r z) (sym is)
    (subst (λ (m : Piece). Role F version (p ∷ ps) (m ∷ x) r z) h (role_after F version (p ∷ []) ps x r z (λ ys s. Free (p ∷ ys) p ys refl f s) q))
role_of F version xs x r z (Guards _ g gs p more ps are is rest) e = in_guard (lies gs (p ∷ (more ++ ps)) x r z (sym are ∙ e)) (λ less t. role_of F version ps less r z rest t)
  where
    whole : xs ≡ (gs ++ (p ∷ more)) ++ ps
    whole = are ∙ sym (append_assoc gs (p ∷ more) ps)

    on : (ys : List Piece) → Shaped F version ys → Shaped F version ((gs ++ (p ∷ more)) ++ ys)
    on ys s = Guards ((gs ++ (p ∷ more)) ++ ys) g gs p more ys (append_assoc gs (p ∷ more) ys) is s

    -- behind the guard, among what it serves or behind that
    in_served : (less : List Piece) → x ≡ gs ++ less → Lies (p ∷ more) ps less r z → ((less : List Piece) → ps ≡ less ++ r ∷ z → Role F version ps less r z) → Role F version xs x r z
    in_served less front (InFirst others f t) later = Serves [] g gs less (Ends [] refl) (served_of version g gs less r others (subst (IsGuarding version g gs) f is)) front
    in_served less front (InSecond behind f t) later =
        let place : x ≡ (gs ++ (p ∷ more)) ++ behind = front ∙ ap (λ (ys : List Piece). gs ++ ys) f ∙ sym (append_assoc gs (p ∷ more) behind) in
        subst (λ (ys : List Piece). Role F version ys x r z) (sym whole)
        (subst (λ (ys : List Piece). Role F version ((gs ++ (p ∷ more)) ++ ps) ys r z) (sym place) (role_after F version (gs ++ (p ∷ more)) ps behind r z on (later behind t)))

    in_guard : Lies gs (p ∷ (more ++ ps)) x r z → ((less : List Piece) → ps ≡ less ++ r ∷ z → Role F version ps less r z) → Role F version xs x r z
    in_guard (InFirst y f t) later =
        let h : IsServedBy version g gs [] p = first_served version g gs p more is in
        IsOwn [] g x y p (more ++ ps) (Ends [] refl) (subst (λ (ys : List Piece). IsServedBy version g ys [] p) f h) (are ∙ ap (λ (ys : List Piece). ys ++ (p ∷ (more ++ ps))) f) refl
    in_guard (InSecond less front t) later = in_served less front (lies (p ∷ more) ps less r z t) later

-- ---- forms stay where words move

src_back : (go : ℕ → ℕ) (k : Option RelKind) (s : Src) (r : ℕ) → SrcIs (moved_src go k s) r → SrcIs s r
src_back go k (src.Reg n) r h = h
src_back go k (src.Indexed n x) r h = h
src_back go k (src.Symbolic x) r h = h
src_back go k (src.Absolute x) r h = h
src_back go k (src.Indirect n) r h = h
src_back go k (src.AutoInc n) r h = h
src_back go k (src.Immediate x) r h = h
src_back go k (src.Const c) r h = h

pops_back : (go : ℕ → ℕ) (k : Option RelKind) (s : Src) (r : ℕ) → Pops (moved_src go k s) r → Pops s r
pops_back go k (src.Reg n) r h = h
pops_back go k (src.Indexed n x) r h = h
pops_back go k (src.Symbolic x) r h = h
pops_back go k (src.Absolute x) r h = h
pops_back go k (src.Indirect n) r h = h
pops_back go k (src.AutoInc n) r h = h
pops_back go k (src.Immediate x) r h = h
pops_back go k (src.Const c) r h = h

src_memory_back : (go : ℕ → ℕ) (k : Option RelKind) (s : Src) → IsMemorySrc (moved_src go k s) → IsMemorySrc s
src_memory_back go k (src.Reg n) h = h
src_memory_back go k (src.Indexed n x) h = h
src_memory_back go k (src.Symbolic x) h = h
src_memory_back go k (src.Absolute x) h = h
src_memory_back go k (src.Indirect n) h = h
src_memory_back go k (src.AutoInc n) h = h
src_memory_back go k (src.Immediate x) h = h
src_memory_back go k (src.Const c) h = h

immediate_on : (go : ℕ → ℕ) (k : Option RelKind) (s : Src) → IsImmediate s → IsImmediate (moved_src go k s)
immediate_on go k (src.Reg n) h = h
immediate_on go k (src.Indexed n x) h = h
immediate_on go k (src.Symbolic x) h = h
immediate_on go k (src.Absolute x) h = h
immediate_on go k (src.Indirect n) h = h
immediate_on go k (src.AutoInc n) h = h
immediate_on go k (src.Immediate x) h = h
immediate_on go k (src.Const c) h = h

dst_back : (go : ℕ → ℕ) (k : Option RelKind) (d : Dst) (r : ℕ) → DstIs (moved_dst go k d) r → DstIs d r
dst_back go k (dst.Reg n) r h = h
dst_back go k (dst.Indexed n x) r h = h
dst_back go k (dst.Symbolic x) r h = h
dst_back go k (dst.Absolute x) r h = h

dst_on : (go : ℕ → ℕ) (k : Option RelKind) (d : Dst) (r : ℕ) → DstIs d r → DstIs (moved_dst go k d) r
dst_on go k (dst.Reg n) r h = h
dst_on go k (dst.Indexed n x) r h = h
dst_on go k (dst.Symbolic x) r h = h
dst_on go k (dst.Absolute x) r h = h

dst_memory_back : (go : ℕ → ℕ) (k : Option RelKind) (d : Dst) → IsMemoryDst (moved_dst go k d) → IsMemoryDst d
dst_memory_back go k (dst.Reg n) h = h
dst_memory_back go k (dst.Indexed n x) h = h
dst_memory_back go k (dst.Symbolic x) h = h
dst_memory_back go k (dst.Absolute x) h = h

reti_moved : (go : ℕ → ℕ) (j k : Option RelKind) (i : Instr) → IsReti (moved_instr go j k i) → IsReti i
reti_moved go j k (instr.Two op w s d) h = h
reti_moved go j k (instr.One op w s) h = h
reti_moved go j k instr.Reti h = h
reti_moved go j k (instr.Jump c n) h = h

reg_moved : (go : ℕ → ℕ) (j k : Option RelKind) (i : Instr) (r : ℕ) → WritesReg (moved_instr go j k i) r → WritesReg i r
reg_moved go j k (instr.Two op w s d) r h = (h.0, dst_back go k d r h.1)
reg_moved go j k (instr.One op w s) r h = (h.0, src_back go j s r h.1)
reg_moved go j k instr.Reti r h = h
reg_moved go j k (instr.Jump c n) r h = h

memory_moved : (go : ℕ → ℕ) (j k : Option RelKind) (i : Instr) → WritesMemory (moved_instr go j k i) → WritesMemory i
memory_moved go j k (instr.Two op w s d) h = (h.0, dst_memory_back go k d h.1)
memory_moved go j k (instr.One op w s) h = (h.0, src_memory_back go j s h.1)
memory_moved go j k instr.Reti h = h
memory_moved go j k (instr.Jump c n) h = h

stack_moved : (go : ℕ → ℕ) (j k : Option RelKind) (i : Instr) → ReadsStack (moved_instr go j k i) → ReadsStack i
stack_moved go j k (instr.Two op w s d) h = pops_back go j s 1 h
stack_moved go j k (instr.One op w s) h = pops_back go j s 1 h
stack_moved go j k instr.Reti h = h
stack_moved go j k (instr.Jump c n) h = h

push_moved : (go : ℕ → ℕ) (j k : Option RelKind) (i : Instr) → IsPushOrCall (moved_instr go j k i) → IsPushOrCall i
push_moved go j k (instr.Two op w s d) h = h
push_moved go j k (instr.One op w s) h = h
push_moved go j k instr.Reti h = h
push_moved go j k (instr.Jump c n) h = h

branch_moved : (go : ℕ → ℕ) (j k : Option RelKind) (i : Instr) → IsBranch i → IsBranch (moved_instr go j k i)
branch_moved go j k (instr.Two op w s d) h = (h.0, h.1, immediate_on go j s h.2, dst_on go k d 0 h.3)
branch_moved go j k (instr.One op w s) h = h
branch_moved go j k instr.Reti h = h
branch_moved go j k (instr.Jump c n) h = h

module _ (go : ℕ → ℕ) (p : Piece) where
  pub reti_back : IsReti (standing go p) → IsReti p.instr
  unfolding standing
  reti_back h = reti_moved go p.source p.destination p.instr h

  pub reg_back : (r : ℕ) → WritesReg (standing go p) r → WritesReg p.instr r
  unfolding standing
  reg_back r h = reg_moved go p.source p.destination p.instr r h

  pub memory_back : WritesMemory (standing go p) → WritesMemory p.instr
  unfolding standing
  memory_back h = memory_moved go p.source p.destination p.instr h

  pub stack_back : ReadsStack (standing go p) → ReadsStack p.instr
  unfolding standing
  stack_back h = stack_moved go p.source p.destination p.instr h

  pub push_back : IsPushOrCall (standing go p) → IsPushOrCall p.instr
  unfolding standing
  push_back h = push_moved go p.source p.destination p.instr h

  pub branch_on : IsBranch p.instr → IsBranch (standing go p)
  unfolding standing
  branch_on h = branch_moved go p.source p.destination p.instr h

-- ---- what guarded pieces are

not_both : (op : Op1) → Changes op → Stacks op → ⊥
not_both Rrc c s = s
not_both Swpb c s = s
not_both Rra c s = s
not_both Sxt c s = s
not_both Push c s = c
not_both Call c s = c

through_dst : (d : Dst) (x r : ℕ) → d ≡ dst.Indexed 4 x → DstIs d r → ⊥
through_dst (dst.Reg n) x r e h = let f : dst.Reg n ≡ dst.Indexed 4 x = e in cc
through_dst (dst.Indexed n y) x r e h = h
through_dst (dst.Symbolic y) x r e h = h
through_dst (dst.Absolute y) x r e h = h

at_r4_src : (s : Src) (r : ℕ) → IsAtR4 s → SrcIs s r → ⊥
at_r4_src (src.Reg n) r a h = a
at_r4_src (src.Indexed n x) r a h = h
at_r4_src (src.Symbolic x) r a h = h
at_r4_src (src.Absolute x) r a h = h
at_r4_src (src.Indirect n) r a h = h
at_r4_src (src.AutoInc n) r a h = h
at_r4_src (src.Immediate x) r a h = h
at_r4_src (src.Const c) r a h = h

at_r4_pops : (s : Src) (r : ℕ) → IsAtR4 s → Pops s r → ⊥
at_r4_pops (src.Reg n) r a h = h
at_r4_pops (src.Indexed n x) r a h = h
at_r4_pops (src.Symbolic x) r a h = h
at_r4_pops (src.Absolute x) r a h = h
at_r4_pops (src.Indirect n) r a h = h
at_r4_pops (src.AutoInc n) r a h = a
at_r4_pops (src.Immediate x) r a h = h
at_r4_pops (src.Const c) r a h = h

high_reg : (d : Dst) (r : ℕ) → r < 4 → IsHigh d → DstIs d r → ⊥
high_reg (dst.Reg n) r low a h = omega (arith, a.0)
high_reg (dst.Indexed n x) r low a h = h
high_reg (dst.Symbolic x) r low a h = h
high_reg (dst.Absolute x) r low a h = h

high_memory : (d : Dst) → IsHigh d → IsMemoryDst d → ⊥
high_memory (dst.Reg n) a h = h
high_memory (dst.Indexed n x) a h = a
high_memory (dst.Symbolic x) a h = a
high_memory (dst.Absolute x) a h = a

is_reg_dst : (d : Dst) (r : ℕ) → DstIs d r → IsMemoryDst d → ⊥
is_reg_dst (dst.Reg n) r a h = h
is_reg_dst (dst.Indexed n x) r a h = a
is_reg_dst (dst.Symbolic x) r a h = a
is_reg_dst (dst.Absolute x) r a h = a

one_reg : (d : Dst) (a b : ℕ) → DstIs d a → DstIs d b → a ≡ b
one_reg (dst.Reg n) a b h k = omega (arith, h, k)
one_reg (dst.Indexed n x) a b h k = absurd h
one_reg (dst.Symbolic x) a b h k = absurd h
one_reg (dst.Absolute x) a b h k = absurd h

is_reg_src : (s : Src) (a b : ℕ) → SrcIs s a → Pops s b → ⊥
is_reg_src (src.Reg n) a b h k = k
is_reg_src (src.Indexed n x) a b h k = h
is_reg_src (src.Symbolic x) a b h k = h
is_reg_src (src.Absolute x) a b h k = h
is_reg_src (src.Indirect n) a b h k = h
is_reg_src (src.AutoInc n) a b h k = h
is_reg_src (src.Immediate x) a b h k = h
is_reg_src (src.Const c) a b h k = h

-- a guarded form, by its instruction
abbrev pub ServedForm : GuardKind → Option RelKind → Instr → Type 0
ServedForm guard.Store k i = IsThroughR4 k i
ServedForm (guard.Wide r) k i = IsNearR4 (reach_bytes r) k i
ServedForm guard.Load k i = ⊥
ServedForm guard.Growth k i = IsGrowthForm i
ServedForm guard.Pop k i = IsPopForm i
ServedForm guard.Sp k i = IsSpForm i

pub form_of : (g : GuardKind) (p : Piece) → IsServed g p → ServedForm g p.destination p.instr
form_of guard.Store p h = h
form_of (guard.Wide r) p h = h
form_of guard.Load p h = h
form_of guard.Growth p h = h
form_of guard.Pop p h = h
form_of guard.Sp p h = h

pub served_reti : (g : GuardKind) (k : Option RelKind) (i : Instr) → ServedForm g k i → IsReti i → ⊥
served_reti guard.Store k instr.Reti f h = f
served_reti (guard.Wide r) k instr.Reti f h = f
served_reti guard.Load k instr.Reti f h = f
served_reti guard.Growth k instr.Reti f h = f
served_reti guard.Pop k instr.Reti f h = f
served_reti guard.Sp k instr.Reti f h = f
served_reti g k (instr.Two op w s d) f h = h
served_reti g k (instr.One op w s) f h = h
served_reti g k (instr.Jump c n) f h = h

-- R0 to R3 are written by guarded pieces only as the SP guard's
pub served_reg : (g : GuardKind) (k : Option RelKind) (i : Instr) (r : ℕ) → r < 4 → ServedForm g k i → WritesReg i r → (g ≡ guard.Sp) × (r ≡ 1)
served_reg guard.Store k (instr.Two op w s d) r low f h = absurd (through_dst d 0 r f.1 h.1)
served_reg guard.Store k (instr.One op w s) r low f h = absurd (at_r4_src s r f.1 h.1)
served_reg guard.Store k instr.Reti r low f h = absurd h
served_reg guard.Store k (instr.Jump c n) r low f h = absurd h
served_reg (guard.Wide q) k (instr.Two op w s d) r low f h = absurd (through_dst d f.1.0 r f.1.1.0 h.1)
served_reg (guard.Wide q) k (instr.One op w s) r low f h = absurd f
served_reg (guard.Wide q) k instr.Reti r low f h = absurd f
served_reg (guard.Wide q) k (instr.Jump c n) r low f h = absurd f
served_reg guard.Load k i r low f h = absurd f
served_reg guard.Growth k (instr.Two op w s d) r low f h = absurd f
served_reg guard.Growth k (instr.One op w s) r low f h = absurd (not_both op h.0 f.0)
served_reg guard.Growth k instr.Reti r low f h = absurd h
served_reg guard.Growth k (instr.Jump c n) r low f h = absurd h
served_reg guard.Pop k (instr.Two op w s d) r low f h = absurd (high_reg d r low f.3 h.1)
served_reg guard.Pop k (instr.One op w s) r low f h = absurd f
served_reg guard.Pop k instr.Reti r low f h = absurd h
served_reg guard.Pop k (instr.Jump c n) r low f h = absurd h
served_reg guard.Sp k (instr.Two op w s d) r low f h = (refl, one_reg d r 1 h.1 f.3)
served_reg guard.Sp k (instr.One op w s) r low f h = absurd f
served_reg guard.Sp k instr.Reti r low f h = absurd h
served_reg guard.Sp k (instr.Jump c n) r low f h = absurd h

pub served_memory : (g : GuardKind) (k : Option RelKind) (i : Instr) → ServedForm g k i → WritesMemory i → KeepsStores g
served_memory guard.Store k i f h = tt
served_memory (guard.Wide r) k i f h = tt
served_memory guard.Load k i f h = absurd f
served_memory guard.Growth k (instr.Two op w s d) f h = absurd f
served_memory guard.Growth k (instr.One op w s) f h = absurd (not_both op h.0 f.0)
served_memory guard.Growth k instr.Reti f h = absurd h
served_memory guard.Growth k (instr.Jump c n) f h = absurd h
served_memory guard.Pop k (instr.Two op w s d) f h = absurd (high_memory d f.3 h.1)
served_memory guard.Pop k (instr.One op w s) f h = absurd f
served_memory guard.Pop k instr.Reti f h = absurd h
served_memory guard.Pop k (instr.Jump c n) f h = absurd h
served_memory guard.Sp k (instr.Two op w s d) f h = absurd (is_reg_dst d 1 f.3 h.1)
served_memory guard.Sp k (instr.One op w s) f h = absurd f
served_memory guard.Sp k instr.Reti f h = absurd h
served_memory guard.Sp k (instr.Jump c n) f h = absurd h

pub served_stack : (g : GuardKind) (k : Option RelKind) (i : Instr) → ServedForm g k i → ReadsStack i → g ≡ guard.Pop
served_stack guard.Pop k i f h = refl
served_stack guard.Store k (instr.Two op w s d) f h = absurd (f.3.1 h)
served_stack guard.Store k (instr.One op w s) f h = absurd (at_r4_pops s 1 f.1 h)
served_stack guard.Store k instr.Reti f h = absurd h
served_stack guard.Store k (instr.Jump c n) f h = absurd h
served_stack (guard.Wide r) k (instr.Two op w s d) f h = absurd (f.3.1 h)
served_stack (guard.Wide r) k (instr.One op w s) f h = absurd f
served_stack (guard.Wide r) k instr.Reti f h = absurd f
served_stack (guard.Wide r) k (instr.Jump c n) f h = absurd f
served_stack guard.Load k i f h = absurd f
served_stack guard.Growth k (instr.Two op w s d) f h = absurd f
served_stack guard.Growth k (instr.One op w s) f h = absurd (f.1.1 h)
served_stack guard.Growth k instr.Reti f h = absurd h
served_stack guard.Growth k (instr.Jump c n) f h = absurd h
served_stack guard.Sp k (instr.Two op w s d) f h = absurd (is_reg_src s 4 1 f.2 h)
served_stack guard.Sp k (instr.One op w s) f h = absurd f
served_stack guard.Sp k instr.Reti f h = absurd h
served_stack guard.Sp k (instr.Jump c n) f h = absurd h

pub served_push : (g : GuardKind) (k : Option RelKind) (i : Instr) → ServedForm g k i → IsPushOrCall i → g ≡ guard.Growth
served_push guard.Growth k i f h = refl
served_push guard.Store k (instr.Two op w s d) f h = absurd h
served_push guard.Store k (instr.One op w s) f h = absurd (not_both op f.0 h)
served_push guard.Store k instr.Reti f h = absurd h
served_push guard.Store k (instr.Jump c n) f h = absurd h
served_push (guard.Wide r) k (instr.Two op w s d) f h = absurd h
served_push (guard.Wide r) k (instr.One op w s) f h = absurd f
served_push (guard.Wide r) k instr.Reti f h = absurd f
served_push (guard.Wide r) k (instr.Jump c n) f h = absurd f
served_push guard.Load k i f h = absurd f
served_push guard.Pop k (instr.Two op w s d) f h = absurd h
served_push guard.Pop k (instr.One op w s) f h = absurd f
served_push guard.Pop k instr.Reti f h = absurd h
served_push guard.Pop k (instr.Jump c n) f h = absurd h
served_push guard.Sp k (instr.Two op w s d) f h = absurd h
served_push guard.Sp k (instr.One op w s) f h = absurd f
served_push guard.Sp k instr.Reti f h = absurd h
served_push guard.Sp k (instr.Jump c n) f h = absurd h
