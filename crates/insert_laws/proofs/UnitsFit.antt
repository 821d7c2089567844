-- Units of legal instructions are legal.
use Rattle.std.proofs.Common.{◌≡◌, ℕ, zero, suc, ◌+◌, ◌-◌, ◌≤◌, ◌<◌, nat_le, if◌then◌else◌, Bool, true, false, List, [], ◌∷◌, ◌++◌, length, map, nat_eq, eq-eqb, rules, take, slice_index, Option, None, Some, MatchOption, pos, refl, sym, subst, ◌∙◌, arith}
use Rattle.std.specs.List.{AllByRecursion}
use Rattle.std.proofs.lemmas.Int.{ints}
use Rattle.msp_encode.specs.declared.instr.Op1.{Op1}
use Rattle.msp_encode.specs.declared.instr.Op1.TheVariants.{Rrc, Swpb, Rra, Sxt, Push, Call}
use Rattle.msp_encode.specs.declared.instr.Op2.{Op2}
use Rattle.msp_encode.specs.declared.instr.Op2.TheVariants.{Mov}
use Rattle.msp_encode.specs.declared.instr.Width.{Width}
use Rattle.msp_encode.specs.declared.instr.Width.TheVariants.{Wide}
use Rattle.msp_encode.specs.declared.instr.Cond.{Cond}
use Rattle.msp_encode.specs.declared.instr.Cond.TheVariants as cond
use Rattle.msp_encode.specs.declared.instr.Cg.TheVariants.{Zero}
use Rattle.msp_encode.specs.declared.instr.Src.{Src}
use Rattle.msp_encode.specs.declared.instr.Src.TheVariants as src
use Rattle.msp_encode.specs.declared.instr.Dst.{Dst}
use Rattle.msp_encode.specs.declared.instr.Dst.TheVariants as dst
use Rattle.msp_encode.specs.declared.instr.Instr.{Instr}
use Rattle.msp_encode.specs.declared.instr.Instr.TheVariants as instr
use Rattle.msp_encode.specs.Spelling.{src_words, Spells, SrcFits, DstFits, InstrFits, TakesWidth, Takes}
use Rattle.msp_encode.specs.Laws.{LegalByCases}
use Rattle.msp_encode.specs.Forms.{writes, is_immediate}
use Rattle.msp_decode.specs.Reading.{NoneBegins}
use Rattle.msp_decode.specs.Function.{reading, ReadingLaw}
use Rattle.code_model.specs.declared.object.Object.{Object}
use Rattle.code_model.specs.declared.parts.Reloc.{Reloc}
use Rattle.code_model.specs.Fields.{fields}
use Rattle.code_model.specs.declared.parts.RelKind.{RelKind}
use Rattle.code_model.specs.declared.guards.Reach.{Reach}
use Rattle.code_model.specs.Guards.{high_word}
use Rattle.insert_model.specs.declared.aim.Aim.{Aim}
use Rattle.insert_model.specs.declared.aim.Aim.TheVariants.{ToPc, ToSp, ToMemory, Elsewhere}
use Rattle.insert_model.specs.declared.line.Line.{Line}
use Rattle.insert_model.specs.declared.piece.Piece.{Piece}
use Rattle.insert_model.specs.Source.{own, own_piece, line_at, with_line, lines_from, lines}
use Rattle.insert_model.specs.Guards.{plain, branch, pop_r4, base, region_guard, store_guard, wide_guard, growth_guard, pop_guard, sp_guard}
use Rattle.insert_model.specs.Units.{is_static, aim, aim_one, is_popped, is_pc, is_plain_pop, into_r4, through_r4, from_r4, popping, setting_sp, writing, changing, calling_value, calling, one_unit, jump_unit, target_offset, unit_of, unit}
use Rattle.insert_laws.specs.Pieces.{moved_src, moved_dst, moved_instr, standing}
use Rattle.insert_laws.proofs.Streams.{FitEach}
use Rattle.kernel_model.specs.declared.entries.TheConstants.{GOES}

abbrev pub AllFit : List Piece → Type 0
AllFit [] = Unit {0}
AllFit (p ∷ ps) = InstrFits p.instr × AllFit ps

pub fit_append : (xs ys : List Piece) → AllFit xs → AllFit ys → AllFit (xs ++ ys)
fit_append [] ys a b = b
fit_append (x ∷ xs) ys a b = (a.0, fit_append xs ys a.1 b)

fit_if : (b : Bool) (x y : List Piece) → AllFit x → AllFit y → AllFit (if b then x else y)
fit_if true x y hx hy = hx
fit_if false x y hx hy = hy

-- ---- guards

base_fits : (n : ℕ) → n < 16 → SrcFits (base n)
base_fits n h = by (nat_eq n 3) refl
  where
    by : (b : Bool) → nat_eq n 3 ≡ b → SrcFits (if b then src.Const Zero else src.Reg n)
    by true e = tt
    by false e = (h, λ same. let f : nat_eq n 3 ≡ true = eq-eqb n 3 same in let g : true ≡ false = sym f ∙ e in cc)

region_fits : (n x high : ℕ) (k : Option RelKind) → n < 16 → AllFit (region_guard n x high k)
region_fits n x high k h = search (rules, base_fits n h)

store_fits : (n x : ℕ) (k : Option RelKind) → n < 16 → AllFit (store_guard n x k)
store_fits n x k h = region_fits n x 0 k h

pub wide_fits : (r : Reach) (n x : ℕ) (k : Option RelKind) → n < 16 → AllFit (wide_guard r n x k)
wide_fits r n x k h = region_fits n x (high_word r) k h

growth_fits : AllFit growth_guard
growth_fits = search rules

pop_fits : AllFit pop_guard
pop_fits = search rules

sp_fits : AllFit sp_guard
sp_fits = search rules

-- ---- units

popping_fits : (op : Op2) (w : Width) (d : Dst) (p : Piece) → DstFits d → InstrFits p.instr → AllFit (popping op w d p)
popping_fits op w d p hd hp =
    let back : AllFit (pop_r4 ∷ branch GOES None ∷ []) = search rules in
    let through : AllFit (pop_r4 ∷ from_r4 op w d p.destination ∷ []) = search rules in
    let own : AllFit (p ∷ []) = (hp, tt) in
    fit_if (is_pc d) (pop_guard ++ pop_r4 ∷ branch GOES None ∷ []) (if is_plain_pop op w d then pop_guard ++ p ∷ [] else pop_guard ++ pop_r4 ∷ from_r4 op w d p.destination ∷ [])
    (fit_append pop_guard (pop_r4 ∷ branch GOES None ∷ []) pop_fits back)
    (fit_if (is_plain_pop op w d) (pop_guard ++ p ∷ []) (pop_guard ++ pop_r4 ∷ from_r4 op w d p.destination ∷ [])
    (fit_append pop_guard (p ∷ []) pop_fits own) (fit_append pop_guard (pop_r4 ∷ from_r4 op w d p.destination ∷ []) pop_fits through))

abbrev AimFits : Aim → Type 0
AimFits ToPc = Unit {0}
AimFits ToSp = Unit {0}
AimFits (ToMemory n x k) = n < 16
AimFits Elsewhere = Unit {0}

absolute_fits : (b : Bool) (x : ℕ) (k : Option RelKind) → AimFits (if b then Elsewhere else ToMemory 3 x k)
absolute_fits true x k = tt
absolute_fits false x k = omega arith

reg_aim_fits : (a b : Bool) → AimFits (if a then ToPc else (if b then ToSp else Elsewhere))
reg_aim_fits true b = tt
reg_aim_fits false true = tt
reg_aim_fits false false = tt

aim_fits : (size : ℕ) (d : Dst) (k : Option RelKind) → DstFits d → AimFits (aim size d k)
aim_fits size (dst.Reg n) k h = reg_aim_fits (nat_eq n 0) (nat_eq n 1)
aim_fits size (dst.Indexed n x) k h = h.0
aim_fits size (dst.Symbolic x) k h = tt
aim_fits size (dst.Absolute x) k h = absolute_fits (is_static size x k) x k

aim_one_fits : (size : ℕ) (s : Src) (k : Option RelKind) → SrcFits s → AimFits (aim_one size s k)
aim_one_fits size (src.Reg n) k h = tt
aim_one_fits size (src.Indexed n x) k h = h.0
aim_one_fits size (src.Symbolic x) k h = tt
aim_one_fits size (src.Absolute x) k h = absolute_fits (is_static size x k) x k
aim_one_fits size (src.Indirect n) k h = h.0
aim_one_fits size (src.AutoInc n) k h = tt
aim_one_fits size (src.Immediate x) k h = tt
aim_one_fits size (src.Const c) k h = tt

setting_fits : (op : Op2) (w : Width) (s : Src) (k : Option RelKind) → SrcFits s → AllFit (setting_sp op w s k)
setting_fits op w s k hs = search rules

writing_fits : (op : Op2) (w : Width) (s : Src) (p : Piece) (a : Aim) → SrcFits s → InstrFits p.instr → AimFits a → AllFit (writing op w s p a)
writing_fits op w s p ToPc hs hp ha =
    let own : AllFit (p ∷ []) = (hp, tt) in
    let over : AllFit (into_r4 Mov Wide s p.source ∷ branch GOES None ∷ []) = search rules in
    fit_if (is_immediate s) (p ∷ []) (into_r4 Mov Wide s p.source ∷ branch GOES None ∷ []) own over
writing_fits op w s p ToSp hs hp ha = setting_fits op w s p.source hs
writing_fits op w s p (ToMemory n x k) hs hp ha =
    let through : AllFit (through_r4 op w s p.source ∷ []) = search rules in fit_append (store_guard n x k) (through_r4 op w s p.source ∷ []) (store_fits n x k ha) through
writing_fits op w s p Elsewhere hs hp ha = (hp, tt)

at_r4_fits : (op : Op1) (w : Width) → TakesWidth op w → InstrFits (instr.One op w (src.Indirect 4))
at_r4_fits op w h = ((omega arith, ((λ e. omega arith), (λ e. omega arith), (λ e. omega arith))), h, tt)

changing_fits : (op : Op1) (w : Width) (p : Piece) (a : Aim) → TakesWidth op w → InstrFits p.instr → AimFits a → AllFit (changing op w p a)
changing_fits op w p ToPc hw hp ha = (hp, tt)
changing_fits op w p ToSp hw hp ha = (hp, tt)
changing_fits op w p (ToMemory n x k) hw hp ha =
    let through : AllFit (plain (instr.One op w (src.Indirect 4)) ∷ []) = (at_r4_fits op w hw, tt) in fit_append (store_guard n x k) (plain (instr.One op w (src.Indirect 4)) ∷ []) (store_fits n x k ha) through
changing_fits op w p Elsewhere hw hp ha = (hp, tt)

calling_fits : (s : Src) (p : Piece) → SrcFits s → InstrFits p.instr → AllFit (calling s p)
calling_fits s p hs hp =
    let own : AllFit (p ∷ []) = (hp, tt) in
    let value : AllFit (calling_value s p.source) = search rules in
    fit_if (is_immediate s) (growth_guard ++ p ∷ []) (calling_value s p.source) (fit_append growth_guard (p ∷ []) growth_fits own) value

one_fits : (size : ℕ) (op : Op1) (w : Width) (s : Src) (p : Piece) → SrcFits s → TakesWidth op w → InstrFits p.instr → AllFit (one_unit size op w s p)
one_fits size Rrc w s p hs hw hp = changing_fits Rrc w p (aim_one size s p.source) hw hp (aim_one_fits size s p.source hs)
one_fits size Swpb w s p hs hw hp = changing_fits Swpb w p (aim_one size s p.source) hw hp (aim_one_fits size s p.source hs)
one_fits size Rra w s p hs hw hp = changing_fits Rra w p (aim_one size s p.source) hw hp (aim_one_fits size s p.source hs)
one_fits size Sxt w s p hs hw hp = changing_fits Sxt w p (aim_one size s p.source) hw hp (aim_one_fits size s p.source hs)
one_fits size Push w s p hs hw hp = let own : AllFit (p ∷ []) = (hp, tt) in fit_append growth_guard (p ∷ []) growth_fits own
one_fits size Call w s p hs hw hp = calling_fits s p hs hp

short_jump : (c : Cond) (n : ℕ) → n < 512 → InstrFits (instr.Jump c (pos n))
short_jump c n h = (omega (arith, ints), omega (arith, ints))

long_jump : (x : ℕ) (c : Cond) → AllFit (jump_unit x c)
long_jump x cond.Ne = (short_jump cond.Ne 1 (omega arith), (short_jump cond.Always 2 (omega arith), ((tt, omega arith), tt)))
long_jump x cond.Eq = (short_jump cond.Eq 1 (omega arith), (short_jump cond.Always 2 (omega arith), ((tt, omega arith), tt)))
long_jump x cond.Nc = (short_jump cond.Nc 1 (omega arith), (short_jump cond.Always 2 (omega arith), ((tt, omega arith), tt)))
long_jump x cond.C = (short_jump cond.C 1 (omega arith), (short_jump cond.Always 2 (omega arith), ((tt, omega arith), tt)))
long_jump x cond.N = (short_jump cond.N 1 (omega arith), (short_jump cond.Always 2 (omega arith), ((tt, omega arith), tt)))
long_jump x cond.Ge = (short_jump cond.Ge 1 (omega arith), (short_jump cond.Always 2 (omega arith), ((tt, omega arith), tt)))
long_jump x cond.L = (short_jump cond.L 1 (omega arith), (short_jump cond.Always 2 (omega arith), ((tt, omega arith), tt)))
long_jump x cond.Always = ((tt, omega arith), tt)

same_either : (b : Bool) (x y : Piece) (i : Instr) → x.instr ≡ i → y.instr ≡ i → (let p : Piece = if b then x else y in p.instr) ≡ i
same_either true x y i ex ey = ex
same_either false x y i ex ey = ey

pub own_instr : (i : Instr) (j k : Option RelKind) → (own_piece i j k).instr ≡ i
own_instr (instr.Two op w s d) j k =
    same_either (nat_eq (length (src_words s)) 0) (record { instr = instr.Two op w s d; source = None; destination = j }) (record { instr = instr.Two op w s d; source = j; destination = k }) (instr.Two op w s d) refl refl
own_instr (instr.One op w s) j k = refl
own_instr instr.Reti j k = refl
own_instr (instr.Jump c n) j k = refl

of_fits : (size at : ℕ) (p : Piece) (i : Instr) → InstrFits i → InstrFits p.instr → AllFit (unit_of size at p i)
of_fits size at p (instr.Two op w s d) h hp =
    let own_fits : AllFit (p ∷ []) = (hp, tt) in
    fit_if (is_popped s) (popping op w d p) (if writes op then writing op w s p (aim size d p.destination) else p ∷ []) (popping_fits op w d p h.1 hp)
    (fit_if (writes op) (writing op w s p (aim size d p.destination)) (p ∷ []) (writing_fits op w s p (aim size d p.destination) h.0 hp (aim_fits size d p.destination h.1)) own_fits)
of_fits size at p (instr.One op w s) h hp = one_fits size op w s p h.0 h.1 hp
of_fits size at p instr.Reti h hp = (hp, tt)
of_fits size at p (instr.Jump c k) h hp = long_jump (target_offset at k) c

pub unit_fits : (size : ℕ) (l : Line) → InstrFits l.instr → AllFit (unit size l)
unfolding unit
unit_fits size l h = of_fits size l.at (own l) l.instr h (subst InstrFits (sym (own_instr l.instr l.second l.third)) h)

-- ---- lines

-- the index of an indexed destination is a word
abbrev pub HasSmallIndex : Instr → Type 0
HasSmallIndex (instr.Two op w s (dst.Indexed n x)) = x < 65536
HasSmallIndex (instr.Two op w s (dst.Reg n)) = Unit {0}
HasSmallIndex (instr.Two op w s (dst.Symbolic x)) = Unit {0}
HasSmallIndex (instr.Two op w s (dst.Absolute x)) = Unit {0}
HasSmallIndex (instr.One op w s) = Unit {0}
HasSmallIndex instr.Reti = Unit {0}
HasSmallIndex (instr.Jump c k) = Unit {0}

-- an instruction as it is read
abbrev pub IsRead : Instr → Type 0
IsRead i = InstrFits i × HasSmallIndex i

abbrev pub LinesFit : List Line → Type 0
LinesFit [] = Unit {0}
LinesFit (l ∷ ls) = IsRead l.instr × LinesFit ls

line_instr : (relocs : List Reloc) (at : ℕ) (i : Instr) → (line_at relocs at i).instr ≡ i
unfolding line_at
line_instr relocs at i = refl

with_line_fits : (relocs : List Reloc) (at have : ℕ) (r : Option (Instr × ℕ)) (after : ℕ → List Line) → MatchOption r (Unit {0}) (λ x. IsRead x.0) → ((n : ℕ) → LinesFit (after n))
    → LinesFit (with_line relocs at have r after)
with_line_fits relocs at have None after h rest = tt
with_line_fits relocs at have (Some x) after h rest = by (nat_le x.1 have)
  where
    by : (b : Bool) → LinesFit (if b then line_at relocs at x.0 ∷ after (x.1 - 1) else [])
    by true = (subst IsRead (sym (line_instr relocs at x.0)) h, rest (x.1 - 1))
    by false = tt

abbrev AllWords : List ℕ → Type 0
AllWords xs = AllByRecursion (λ x. x < 65536) xs

words_taken : (n : ℕ) (xs : List ℕ) → AllWords xs → AllWords (take n xs)
words_taken zero xs h = tt
words_taken (suc n) [] h = tt
words_taken (suc n) (x ∷ xs) h = (h.0, words_taken n xs h.1)

last_word : (xs : List ℕ) (x : ℕ) → AllWords (xs ++ x ∷ []) → x < 65536
last_word [] x h = h.0
last_word (y ∷ xs) x h = last_word xs x h.1

-- the words behind the first are its own
index_read : (i : Instr) (ws : List ℕ) → AllWords ws → Spells i ws → HasSmallIndex i
index_read (instr.Two op w s (dst.Indexed n x)) [] small h = absurd h
index_read (instr.Two op w s (dst.Indexed n x)) (v ∷ ws) small h = last_word (src_words s) x (subst AllWords h.1 small.1)
index_read (instr.Two op w s (dst.Reg n)) ws small h = tt
index_read (instr.Two op w s (dst.Symbolic x)) ws small h = tt
index_read (instr.Two op w s (dst.Absolute x)) ws small h = tt
index_read (instr.One op w s) ws small h = tt
index_read instr.Reti ws small h = tt
index_read (instr.Jump c k) ws small h = tt

legal_read : (w : ℕ) (ws : List ℕ) (r : Option (Instr × ℕ)) → LegalByCases → AllWords ws → MatchOption r (NoneBegins w) (λ x. (x.1 ≤ 3) × Spells x.0 (take x.1 ws))
    → MatchOption r (Unit {0}) (λ x. IsRead x.0)
legal_read w ws None legal small h = tt
legal_read w ws (Some x) legal small h = ((legal x.0).0 (take x.1 ws, h.1), index_read x.0 (take x.1 ws) (words_taken x.1 ws small) h.1)

lines_fit : ReadingLaw → LegalByCases → (relocs : List Reloc) (ws : List ℕ) (at left : ℕ) → ((k : ℕ) → slice_index ws k < 65536) → LinesFit (lines_from relocs at left ws)
unfolding lines_from
lines_fit reads legal relocs [] at left small = tt
lines_fit reads legal relocs (w ∷ ws) at (suc left) small = lines_fit reads legal relocs ws (at + 1) left (λ k. small (suc k))
lines_fit reads legal relocs (w ∷ ws) at zero small =
    with_line_fits relocs at (1 + length ws) (reading w (slice_index ws 0) (slice_index ws 1)) (λ left. lines_from relocs (at + 1) left ws)
    (legal_read w (w ∷ slice_index ws 0 ∷ slice_index ws 1 ∷ []) _ legal (small 0, (small 1, (small 2, tt))) (reads w (slice_index ws 0) (slice_index ws 1) (small 0)))
    (λ left. lines_fit reads legal relocs ws (at + 1) left (λ k. small (suc k)))

pub source_fits : (o : Object) → ReadingLaw → LegalByCases → LinesFit (lines (fields o))
unfolding lines
source_fits o reads legal = lines_fit reads legal o.relocs o.code 0 0 o.form.words_small

-- ---- and they stay legal

src_stays : (go : ℕ → ℕ) (k : Option RelKind) (s : Src) → SrcFits s → SrcFits (moved_src go k s)
src_stays go k (src.Reg n) h = h
src_stays go k (src.Indexed n x) h = h
src_stays go k (src.Symbolic x) h = tt
src_stays go k (src.Absolute x) h = tt
src_stays go k (src.Indirect n) h = h
src_stays go k (src.AutoInc n) h = h
src_stays go k (src.Immediate x) h = tt
src_stays go k (src.Const c) h = tt

dst_stays : (go : ℕ → ℕ) (k : Option RelKind) (d : Dst) → DstFits d → DstFits (moved_dst go k d)
dst_stays go k (dst.Reg n) h = h
dst_stays go k (dst.Indexed n x) h = h
dst_stays go k (dst.Symbolic x) h = tt
dst_stays go k (dst.Absolute x) h = tt

takes_stays : (go : ℕ → ℕ) (k : Option RelKind) (op : Op1) (s : Src) → Takes op s → Takes op (moved_src go k s)
takes_stays go k op (src.Reg n) h = tt
takes_stays go k op (src.Indexed n x) h = tt
takes_stays go k op (src.Symbolic x) h = tt
takes_stays go k op (src.Absolute x) h = tt
takes_stays go k op (src.Indirect n) h = tt
takes_stays go k op (src.AutoInc n) h = tt
takes_stays go k op (src.Immediate x) h = h
takes_stays go k op (src.Const c) h = h

instr_stays : (go : ℕ → ℕ) (j k : Option RelKind) (i : Instr) → InstrFits i → InstrFits (moved_instr go j k i)
instr_stays go j k (instr.Two op w s d) h = (src_stays go j s h.0, dst_stays go k d h.1)
instr_stays go j k (instr.One op w s) h = (src_stays go j s h.0, h.1, takes_stays go j op s h.2)
instr_stays go j k instr.Reti h = tt
instr_stays go j k (instr.Jump c n) h = h

pub standing_fit : (go : ℕ → ℕ) (ps : List Piece) → AllFit ps → FitEach (map (standing go) ps)
unfolding standing
standing_fit go [] h = tt
standing_fit go (p ∷ ps) h = (instr_stays go p.source p.destination p.instr h.0, standing_fit go ps h.1)
