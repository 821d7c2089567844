-- No piece writes an absolute word outside the static part.
use Rattle.std.proofs.Common.{◌≡◌, ℕ, ◌<◌, nat_eq, nat_lt, if◌then◌else◌, Bool, true, false, List, [], ◌∷◌, ◌++◌, inr, Option, None, Some, refl, sym, subst, ◌∙◌, rules}
use Rattle.msp_encode.specs.declared.instr.Op1.{Op1}
use Rattle.msp_encode.specs.declared.instr.Op1.TheVariants.{Rrc, Swpb, Rra, Sxt, Push, Call}
use Rattle.msp_encode.specs.declared.instr.Op2.{Op2}
use Rattle.msp_encode.specs.declared.instr.Op2.TheVariants.{Mov}
use Rattle.msp_encode.specs.declared.instr.Width.{Width}
use Rattle.msp_encode.specs.declared.instr.Width.TheVariants.{Wide}
use Rattle.msp_encode.specs.declared.instr.Cond.{Cond}
use Rattle.msp_encode.specs.declared.instr.Cond.TheVariants as cond
use Rattle.msp_encode.specs.declared.instr.Src.{Src}
use Rattle.msp_encode.specs.declared.instr.Src.TheVariants as src
use Rattle.msp_encode.specs.declared.instr.Dst.{Dst}
use Rattle.msp_encode.specs.declared.instr.Dst.TheVariants as dst
use Rattle.msp_encode.specs.declared.instr.Instr.{Instr}
use Rattle.msp_encode.specs.declared.instr.Instr.TheVariants as instr
use Rattle.msp_encode.specs.Forms.{Writes, Changes, Pops, writes, is_immediate}
use Rattle.code_model.specs.declared.object.Object.{Object}
use Rattle.code_model.specs.declared.parts.RelKind.{RelKind}
use Rattle.code_model.specs.declared.parts.RelKind.TheVariants.{Code, Data, Lo, Hi}
use Rattle.code_model.specs.Fields.{fields}
use Rattle.code_model.specs.Guards.{high_word}
use Rattle.insert_model.specs.declared.aim.Aim.TheVariants.{ToPc, ToSp, ToMemory, Elsewhere}
use Rattle.insert_model.specs.declared.line.Line.{Line}
use Rattle.insert_model.specs.declared.piece.Piece.{Piece}
use Rattle.insert_model.specs.Source.{own}
use Rattle.insert_model.specs.Guards.{plain, branch, take_sp, pop_r4, give_sp, region_guard, store_guard, growth_guard, pop_guard, sp_guard}
use Rattle.insert_model.specs.Units.{static_bytes, is_static, aim, aim_one, is_popped, is_pc, is_plain_pop, into_r4, through_r4, from_r4, popping, writing, two_unit, changing, calling_value, one_unit, target_offset, jump_unit, unit_of, unit}
use Rattle.insert_model.specs.Groups.{Cell, cell, Group}
use Rattle.insert_model.specs.Layout.{difference_of, beside}
use Rattle.insert_model.specs.Faults.{IsMemory}
use Rattle.insert_laws.specs.Pieces.{pieces_of}
use Rattle.insert_laws.specs.Shapes.{IsCleanLine}
use Rattle.insert_laws.proofs.UnitsFit.{own_instr}
use Rattle.insert_laws.proofs.Shaping.{IsTwo, popped_so, writes_not, no_pop_target}
use Rattle.insert_laws.proofs.CleanGroups.{AllGroups}
use Rattle.insert_laws.proofs.GroupUnits.{IsBeside, near_piece, beside_is, all_pieces}
use Rattle.kernel_model.specs.declared.entries.TheConstants.{CALLS, GOES}

-- the word of an absolute operand that is written is an address in the static part
abbrev pub IsStaticWord : (size x : ℕ) → Option RelKind → Type 0
IsStaticWord size x k = (k ≡ Some Data) × (x < size)

abbrev pub TameDst : ℕ → Op2 → Dst → Option RelKind → Type 0
TameDst size op (dst.Absolute x) k = Writes op → IsStaticWord size x k
TameDst size op (dst.Reg n) k = Unit {0}
TameDst size op (dst.Indexed n x) k = Unit {0}
TameDst size op (dst.Symbolic x) k = Unit {0}

abbrev pub TameSrc : ℕ → Op1 → Src → Option RelKind → Type 0
TameSrc size op (src.Absolute x) k = Changes op → IsStaticWord size x k
TameSrc size op (src.Reg n) k = Unit {0}
TameSrc size op (src.Indexed n x) k = Unit {0}
TameSrc size op (src.Symbolic x) k = Unit {0}
TameSrc size op (src.Indirect n) k = Unit {0}
TameSrc size op (src.AutoInc n) k = Unit {0}
TameSrc size op (src.Immediate x) k = Unit {0}
TameSrc size op (src.Const c) k = Unit {0}

abbrev pub TameInstr : ℕ → Instr → (source destination : Option RelKind) → Type 0
TameInstr size (instr.Two op w s d) j k = TameDst size op d k
TameInstr size (instr.One op w s) j k = TameSrc size op s j
TameInstr size instr.Reti j k = Unit {0}
TameInstr size (instr.Jump c n) j k = Unit {0}

abbrev pub Tame : ℕ → Piece → Type 0
Tame size p = TameInstr size p.instr p.source p.destination

abbrev pub AllTame : ℕ → List Piece → Type 0
AllTame size [] = Unit {0}
AllTame size (p ∷ ps) = Tame size p × AllTame size ps

tame_append : (size : ℕ) (xs ys : List Piece) → AllTame size xs → AllTame size ys → AllTame size (xs ++ ys)
tame_append size [] ys hx hy = hy
tame_append size (x ∷ xs) ys hx hy = (hx.0, tame_append size xs ys hx.1 hy)

tame_if : (size : ℕ) (b : Bool) (xs ys : List Piece) → (b ≡ true → AllTame size xs) → (b ≡ false → AllTame size ys) → AllTame size (if b then xs else ys)
tame_if size true xs ys hx hy = hx refl
tame_if size false xs ys hx hy = hy refl

pub tame_member : (size : ℕ) (xs : List Piece) (p : Piece) (ys : List Piece) → AllTame size (xs ++ p ∷ ys) → Tame size p
tame_member size [] p ys h = h.0
tame_member size (x ∷ xs) p ys h = tame_member size xs p ys h.1

region_tame : (size n x high : ℕ) (k : Option RelKind) → AllTame size (region_guard n x high k)
region_tame size n x high k = (tt, (tt, (tt, (tt, (tt, (tt, (tt, (tt, (tt, tt)))))))))

growth_tame : (size : ℕ) → AllTame size growth_guard
growth_tame size = (tt, (tt, (tt, (tt, (tt, tt)))))

pop_tame : (size : ℕ) → AllTame size pop_guard
pop_tame size = (tt, ((λ h. absurd h), (tt, (tt, (tt, tt)))))

sp_tame : (size : ℕ) → AllTame size sp_guard
sp_tame size = (tt, (tt, (tt, ((λ h. absurd h), (tt, (tt, (tt, tt)))))))

own_tame : (size : ℕ) (p : Piece) (i : Instr) → p.instr ≡ i → TameInstr size i p.source p.destination → AllTame size (p ∷ [])
own_tame size p i e h = (subst (λ (j : Instr). TameInstr size j p.source p.destination) (sym e) h, tt)

static_so : (size x : ℕ) (k : Option RelKind) → is_static size x k ≡ true → IsStaticWord size x k
static_so size x None e = let f : false ≡ true = e in absurd (cc)
static_so size x (Some Code) e = let f : false ≡ true = e in absurd (cc)
static_so size x (Some Data) e = let f : nat_lt x size ≡ true = e in (refl, search rules)
static_so size x (Some Lo) e = let f : false ≡ true = e in absurd (cc)
static_so size x (Some Hi) e = let f : false ≡ true = e in absurd (cc)

-- ---- two operands

not_memory : (size : ℕ) (op : Op2) (d : Dst) (k : Option RelKind) → (Writes op → IsMemory d → ⊥) → TameDst size op d k
not_memory size op (dst.Reg n) k never = tt
not_memory size op (dst.Indexed n x) k never = tt
not_memory size op (dst.Symbolic x) k never = tt
not_memory size op (dst.Absolute x) k never = λ h. absurd (never h tt)

module _ (o : Object) (l : Line) (p : Piece) (op : Op2) (w : Width) (s : Src) (d : Dst) (is : IsTwo o l p op w s d) (size : ℕ) where
  popping_tame : s ≡ src.AutoInc 1 → AllTame size (popping op w d p)
  popping_tame e =
      let pops : Pops s 1 = subst (λ (x : Src). Pops x 1) (sym e) refl in
      let never : Writes op → IsMemory d → ⊥ = λ h m. no_pop_target o l p op w s d is pops h (inr (inr m)) in
      tame_if size (is_pc d) (pop_guard ++ pop_r4 ∷ branch GOES None ∷ []) (if is_plain_pop op w d then pop_guard ++ p ∷ [] else pop_guard ++ pop_r4 ∷ from_r4 op w d p.destination ∷ [])
      (λ t. tame_append size pop_guard (pop_r4 ∷ branch GOES None ∷ []) (pop_tame size) (tt, (tt, tt)))
      (λ f. tame_if size (is_plain_pop op w d) (pop_guard ++ p ∷ []) (pop_guard ++ pop_r4 ∷ from_r4 op w d p.destination ∷ [])
      (λ t. tame_append size pop_guard (p ∷ []) (pop_tame size) (own_tame size p (instr.Two op w s d) is.piece (not_memory size op d p.destination never)))
      (λ g. tame_append size pop_guard (pop_r4 ∷ from_r4 op w d p.destination ∷ []) (pop_tame size) (tt, (not_memory size op d p.destination never, tt))))

  reading_tame : writes op ≡ false → AllTame size (p ∷ [])
  reading_tame e = own_tame size p (instr.Two op w s d) is.piece (not_memory size op d p.destination (λ h m. writes_not op e h))

to_register : (size : ℕ) (p : Piece) (op : Op2) (w : Width) (s : Src) (a b : Bool) → AllTame size (p ∷ []) → AllTame size (writing op w s p (if a then ToPc else (if b then ToSp else Elsewhere)))
to_register size p op w s true b own = tame_if size (is_immediate s) (p ∷ []) (into_r4 Mov Wide s p.source ∷ branch GOES None ∷ []) (λ t. own) (λ f. (tt, (tt, tt)))
to_register size p op w s false true own = tame_append size (take_sp ∷ into_r4 op w s p.source ∷ sp_guard) (give_sp ∷ []) (tt, (tt, sp_tame size)) (tt, tt)
to_register size p op w s false false own = own

stored_tame : (size : ℕ) (p : Piece) (op : Op2) (w : Width) (s : Src) (n x : ℕ) (k : Option RelKind) → AllTame size (writing op w s p (ToMemory n x k))
stored_tame size p op w s n x k = tame_append size (store_guard n x k) (through_r4 op w s p.source ∷ []) (region_tame size n x 0 k) (tt, tt)

to_absolute : (size : ℕ) (p : Piece) (op : Op2) (w : Width) (s : Src) (x : ℕ) (b : Bool) → (b ≡ true → AllTame size (p ∷ [])) → AllTame size (writing op w s p (if b then Elsewhere else ToMemory 3 x p.destination))
to_absolute size p op w s x true own = own refl
to_absolute size p op w s x false own = stored_tame size p op w s 3 x p.destination

writing_tame : (size : ℕ) (p : Piece) (op : Op2) (w : Width) (s : Src) (d : Dst) → p.instr ≡ instr.Two op w s d → AllTame size (writing op w s p (aim size d p.destination))
writing_tame size p op w s (dst.Reg n) e = to_register size p op w s (nat_eq n 0) (nat_eq n 1) (own_tame size p (instr.Two op w s (dst.Reg n)) e tt)
writing_tame size p op w s (dst.Indexed n x) e = stored_tame size p op w s n x p.destination
writing_tame size p op w s (dst.Symbolic x) e = own_tame size p (instr.Two op w s (dst.Symbolic x)) e tt
writing_tame size p op w s (dst.Absolute x) e =
    to_absolute size p op w s x (is_static size x p.destination) (λ t. own_tame size p (instr.Two op w s (dst.Absolute x)) e (λ h. static_so size x p.destination t))

two_tame : (o : Object) (l : Line) (p : Piece) (op : Op2) (w : Width) (s : Src) (d : Dst) (size : ℕ) → IsTwo o l p op w s d → AllTame size (two_unit size op w s d p)
two_tame o l p op w s d size is =
    tame_if size (is_popped s) (popping op w d p) (if writes op then writing op w s p (aim size d p.destination) else p ∷ []) (λ t. popping_tame o l p op w s d is size (popped_so s t))
    (λ f. tame_if size (writes op) (writing op w s p (aim size d p.destination)) (p ∷ []) (λ t. writing_tame size p op w s d is.piece) (λ g. reading_tame o l p op w s d is size g))

-- ---- one operand

one_absolute : (size : ℕ) (op : Op1) (w : Width) (p : Piece) (x : ℕ) (b : Bool) → (b ≡ true → AllTame size (p ∷ [])) → AllTame size (changing op w p (if b then Elsewhere else ToMemory 3 x p.source))
one_absolute size op w p x true own = own refl
one_absolute size op w p x false own = tame_append size (store_guard 3 x p.source) (plain (instr.One op w (src.Indirect 4)) ∷ []) (region_tame size 3 x 0 p.source) (tt, tt)

changing_tame : (size : ℕ) (op : Op1) (w : Width) (s : Src) (p : Piece) → p.instr ≡ instr.One op w s → AllTame size (changing op w p (aim_one size s p.source))
changing_tame size op w (src.Reg n) p e = own_tame size p (instr.One op w (src.Reg n)) e tt
changing_tame size op w (src.Indexed n x) p e = tame_append size (store_guard n x p.source) (plain (instr.One op w (src.Indirect 4)) ∷ []) (region_tame size n x 0 p.source) (tt, tt)
changing_tame size op w (src.Symbolic x) p e = own_tame size p (instr.One op w (src.Symbolic x)) e tt
changing_tame size op w (src.Absolute x) p e =
    one_absolute size op w p x (is_static size x p.source) (λ t. own_tame size p (instr.One op w (src.Absolute x)) e (λ h. static_so size x p.source t))
changing_tame size op w (src.Indirect n) p e = tame_append size (store_guard n 0 None) (plain (instr.One op w (src.Indirect 4)) ∷ []) (region_tame size n 0 0 None) (tt, tt)
changing_tame size op w (src.AutoInc n) p e = own_tame size p (instr.One op w (src.AutoInc n)) e tt
changing_tame size op w (src.Immediate x) p e = own_tame size p (instr.One op w (src.Immediate x)) e tt
changing_tame size op w (src.Const c) p e = own_tame size p (instr.One op w (src.Const c)) e tt

stacking_tame : (size : ℕ) (op : Op1) (w : Width) (s : Src) (p : Piece) → (Changes op → ⊥) → p.instr ≡ instr.One op w s → AllTame size (p ∷ [])
stacking_tame size op w s p never e = own_tame size p (instr.One op w s) e (by s)
  where
    by : (s : Src) → TameSrc size op s p.source
    by (src.Reg n) = tt
    by (src.Indexed n x) = tt
    by (src.Symbolic x) = tt
    by (src.Absolute x) = λ h. absurd (never h)
    by (src.Indirect n) = tt
    by (src.AutoInc n) = tt
    by (src.Immediate x) = tt
    by (src.Const c) = tt

one_tame : (size : ℕ) (op : Op1) (w : Width) (s : Src) (p : Piece) → p.instr ≡ instr.One op w s → AllTame size (one_unit size op w s p)
one_tame size Rrc w s p e = changing_tame size Rrc w s p e
one_tame size Swpb w s p e = changing_tame size Swpb w s p e
one_tame size Rra w s p e = changing_tame size Rra w s p e
one_tame size Sxt w s p e = changing_tame size Sxt w s p e
one_tame size Push w s p e = tame_append size growth_guard (p ∷ []) (growth_tame size) (stacking_tame size Push w s p (λ h. h) e)
one_tame size Call w s p e =
    tame_if size (is_immediate s) (growth_guard ++ p ∷ []) (calling_value s p.source) (λ t. tame_append size growth_guard (p ∷ []) (growth_tame size) (stacking_tame size Call w s p (λ h. h) e))
    (λ f. tame_append size (into_r4 Mov Wide s p.source ∷ growth_guard) (plain (instr.One Call Wide (src.Immediate CALLS)) ∷ []) (tt, growth_tame size) (tt, tt))

-- ---- all pieces

jump_tame : (size x : ℕ) (c : Cond) → AllTame size (jump_unit x c)
jump_tame size x cond.Ne = (tt, (tt, (tt, tt)))
jump_tame size x cond.Eq = (tt, (tt, (tt, tt)))
jump_tame size x cond.Nc = (tt, (tt, (tt, tt)))
jump_tame size x cond.C = (tt, (tt, (tt, tt)))
jump_tame size x cond.N = (tt, (tt, (tt, tt)))
jump_tame size x cond.Ge = (tt, (tt, (tt, tt)))
jump_tame size x cond.L = (tt, (tt, (tt, tt)))
jump_tame size x cond.Always = (tt, tt)

instr_tame : (o : Object) (l : Line) (size : ℕ) (i : Instr) → IsCleanLine o l → l.instr ≡ i → AllTame size (unit_of size l.at (own l) i)
instr_tame o l size (instr.Two op w s d) c e = two_tame o l (own l) op w s d size (record { clean = c; line = e; piece = own_instr l.instr l.second l.third ∙ e; same = refl })
instr_tame o l size (instr.One op w s) c e = one_tame size op w s (own l) (own_instr l.instr l.second l.third ∙ e)
instr_tame o l size instr.Reti c e = own_tame size (own l) instr.Reti (own_instr l.instr l.second l.third ∙ e) tt
instr_tame o l size (instr.Jump d k) c e = jump_tame size (target_offset l.at k) d

unit_tame : (o : Object) (l : Line) (size : ℕ) → IsCleanLine o l → AllTame size (unit size l)
unfolding unit
unit_tame o l size c = instr_tame o l size l.instr c refl

near_tame : (o : Object) (size most : ℕ) (c : Cell) (l : Line) → IsBeside o most c l → AllTame size (beside c l ∷ [])
near_tame o size most c l h =
    let p : AllTame size (near_piece h.op h.width h.source (difference_of c (cell l)) (own l).source ∷ []) = (tt, tt) in
    subst (λ (r : Piece). AllTame size (r ∷ [])) (sym (beside_is o most c l h)) p

pub pieces_tame : (o : Object) (gs : List Group) → AllGroups o gs → AllTame (static_bytes (fields o)) (pieces_of (fields o) gs)
pieces_tame o gs c =
    let size : ℕ = static_bytes (fields o) in
    all_pieces o (AllTame size) tt (tame_append size) (λ l h. unit_tame o l size h) (λ l d k e s. (tt, tt)) (λ r d f. region_tame size d.base d.index (high_word r) d.kind) (near_tame o size) gs c
