-- The guards' own instructions, read from their words.
use Rattle.std.proofs.Common.{◌≡◌, ℕ, zero, suc, ◌+◌, ◌/◌, ◌%◌, ◌<◌, ◌≤◌, Bool, true, false, List, [], ◌∷◌, ◌++◌, length, get_or, refl, sym, ap, ◌∙◌, subst, arith}
use Rattle.std.specs.Prelude.{pos, ◌==◌}
use Rattle.std.proofs.lemmas.Bool.Decides.{nat_tests}
use Rattle.msp_encode.specs.declared.instr.Width.TheVariants.{Wide}
use Rattle.msp_encode.specs.declared.instr.Op2.TheVariants.{Mov, Add, Cmp}
use Rattle.msp_encode.specs.declared.instr.Cond.TheVariants.{Ne, Nc, C}
use Rattle.msp_encode.specs.declared.instr.Cg.TheVariants.{Zero}
use Rattle.msp_encode.specs.declared.instr.Src.{Src}
use Rattle.msp_encode.specs.declared.instr.Src.TheVariants as src
use Rattle.msp_encode.specs.declared.instr.Dst.TheVariants as dst
use Rattle.msp_encode.specs.declared.instr.Instr.{Instr}
use Rattle.msp_encode.specs.declared.instr.Instr.TheVariants as instr
use Rattle.msp_encode.specs.Spelling.{First, SrcRow, words_after, src_words, dst_words}
use Rattle.code_model.specs.declared.guards.GuardKind.{GuardKind}
use Rattle.code_model.specs.declared.guards.GuardKind.TheVariants as guard
use Rattle.code_model.specs.declared.guards.Slot.{Slot}
use Rattle.code_model.specs.declared.guards.Slot.TheVariants as slot
use Rattle.code_model.specs.Starts.{Begins}
use Rattle.code_model.specs.Guards.{IsLoad, high_word, region_slots, guard_words}
use Rattle.machine_laws.specs.Places.{GuardPlace, TakesAddress, AddsIndex, ComparesLow, JumpsIfLow, ComparesHigh, JumpsIfHigh, StoreFails, StoreRestores, ComparesLimit, JumpsIfRoom, GrowthFails, GrowthRestores, ComparesTop, JumpsIfFilled, PopFails, PopRestores, ComparesNewLow, JumpsIfNewLow, ComparesNewHigh, JumpsIfNewHigh, SpFails, SpRestores, Stores, Grows, Pops, SetsSp, place_offset}
use Rattle.machine_laws.specs.Own as own
use Rattle.node_model.specs.Good.{guard_of, IsOf}

-- the source of a move into R4
abbrev pub load_of : Bool → ℕ → Src
load_of true n = src.Const Zero
load_of false n = src.Reg n

abbrev pub load_src : ℕ → Src
load_src w = load_of (w / 256 % 16 == 3) (w / 256 % 16)

-- the instruction at a place, where word k of the guard is `w k`. At a guarded instruction it says nothing
abbrev pub line : GuardPlace → (ℕ → ℕ) → Instr
line TakesAddress w = instr.Two Mov Wide (load_src (w 1)) (dst.Reg 4)
line AddsIndex w = instr.Two Add Wide (src.Immediate (w 3)) (dst.Reg 4)
line ComparesLow w = instr.Two Cmp Wide (src.Immediate (w 5)) (dst.Reg 4)
line JumpsIfLow w = instr.Jump Nc (pos 3)
line ComparesHigh w = instr.Two Cmp Wide (src.Immediate (w 8)) (dst.Reg 4)
line JumpsIfHigh w = instr.Jump Nc (pos 2)
line StoreFails w = instr.Two Mov Wide (src.Immediate (w 11)) (dst.Reg 0)
line StoreRestores w = instr.Two Mov Wide (src.Reg 5) (dst.Reg 2)
line ComparesLimit w = instr.Two Cmp Wide (src.Absolute (w 2)) (dst.Reg 1)
line JumpsIfRoom w = instr.Jump C (pos 2)
line GrowthFails w = instr.Two Mov Wide (src.Immediate (w 5)) (dst.Reg 0)
line GrowthRestores w = instr.Two Mov Wide (src.Reg 5) (dst.Reg 2)
line ComparesTop w = instr.Two Cmp Wide (src.Reg 1) (dst.Absolute (w 2))
line JumpsIfFilled w = instr.Jump Ne (pos 2)
line PopFails w = instr.Two Mov Wide (src.Immediate (w 5)) (dst.Reg 0)
line PopRestores w = instr.Two Mov Wide (src.Reg 5) (dst.Reg 2)
line ComparesNewLow w = instr.Two Cmp Wide (src.Absolute (w 2)) (dst.Reg 4)
line JumpsIfNewLow w = instr.Jump Nc (pos 3)
line ComparesNewHigh w = instr.Two Cmp Wide (src.Reg 4) (dst.Absolute (w 5))
line JumpsIfNewHigh w = instr.Jump C (pos 2)
line SpFails w = instr.Two Mov Wide (src.Immediate (w 8)) (dst.Reg 0)
line SpRestores w = instr.Two Mov Wide (src.Reg 5) (dst.Reg 2)
line _ w = instr.Reti

-- its number of words
abbrev pub line_words : GuardPlace → ℕ
line_words TakesAddress = 1
line_words AddsIndex = 2
line_words ComparesLow = 2
line_words JumpsIfLow = 1
line_words ComparesHigh = 2
line_words JumpsIfHigh = 1
line_words StoreFails = 2
line_words StoreRestores = 1
line_words ComparesLimit = 2
line_words JumpsIfRoom = 1
line_words GrowthFails = 2
line_words GrowthRestores = 1
line_words ComparesTop = 2
line_words JumpsIfFilled = 1
line_words PopFails = 2
line_words PopRestores = 1
line_words ComparesNewLow = 2
line_words JumpsIfNewLow = 1
line_words ComparesNewHigh = 2
line_words JumpsIfNewHigh = 1
line_words SpFails = 2
line_words SpRestores = 1
line_words _ = 0

-- a place of one of the guard's own instructions
abbrev pub IsLine : GuardPlace → Type 0
IsLine Stores = ⊥
IsLine Grows = ⊥
IsLine Pops = ⊥
IsLine SetsSp = ⊥
IsLine _ = Unit {0}

-- a guard's first word
abbrev pub save : Instr
save = instr.Two Mov Wide (src.Reg 2) (dst.Reg 5)

-- what a slot says of its word
abbrev pub SlotWord : Slot → ℕ → Type 0
SlotWord (slot.Word v) x = x ≡ v
SlotWord slot.Load x = IsLoad x
SlotWord slot.Free x = Unit {0}
SlotWord slot.Low x = Unit {0}
SlotWord (slot.High v) x = Unit {0}

abbrev pub Worded : GuardKind → (ℕ → ℕ) → Type 0
Worded g w = (k : ℕ) → k < length (guard_words g) → SlotWord (get_or (guard_words g) k slot.Free) (w k)

-- the words of a guard that keeps an address in the region are those of the store guard, but the one that HI is added to
region-worded : (high : ℕ) (w : ℕ → ℕ) → ((k : ℕ) → k < 13 → SlotWord (get_or (region_slots high) k slot.Free) (w k)) → Worded guard.Store w
region-worded high w h zero l = h 0 (omega arith)
region-worded high w h (suc zero) l = h 1 (omega arith)
region-worded high w h (suc (suc zero)) l = h 2 (omega arith)
region-worded high w h (suc (suc (suc zero))) l = h 3 (omega arith)
region-worded high w h (suc (suc (suc (suc zero)))) l = h 4 (omega arith)
region-worded high w h (suc (suc (suc (suc (suc zero))))) l = h 5 (omega arith)
region-worded high w h (suc (suc (suc (suc (suc (suc zero)))))) l = h 6 (omega arith)
region-worded high w h (suc (suc (suc (suc (suc (suc (suc zero))))))) l = h 7 (omega arith)
region-worded high w h (suc (suc (suc (suc (suc (suc (suc (suc zero)))))))) l = h 8 (omega arith)
region-worded high w h (suc (suc (suc (suc (suc (suc (suc (suc (suc zero))))))))) l = h 9 (omega arith)
region-worded high w h (suc (suc (suc (suc (suc (suc (suc (suc (suc (suc zero)))))))))) l = h 10 (omega arith)
region-worded high w h (suc (suc (suc (suc (suc (suc (suc (suc (suc (suc (suc zero))))))))))) l = h 11 (omega arith)
region-worded high w h (suc (suc (suc (suc (suc (suc (suc (suc (suc (suc (suc (suc zero)))))))))))) l = h 12 (omega arith)
region-worded high w h (suc (suc (suc (suc (suc (suc (suc (suc (suc (suc (suc (suc (suc k))))))))))))) l = absurd (omega (arith, l))

-- the words of each kind are those of the guard that stands for it
pub worded-as : (k g : GuardKind) (w : ℕ → ℕ) → IsOf k g → Worded k w → Worded g w
worded-as guard.Store guard.Store w of h = h
worded-as (guard.Wide r) guard.Store w of h = region-worded (high_word r) w h
worded-as guard.Load guard.Store w of h = region-worded 0 w h
worded-as guard.Growth guard.Store w of h = absurd of
worded-as guard.Pop guard.Store w of h = absurd of
worded-as guard.Sp guard.Store w of h = absurd of
worded-as k guard.Growth w of h = subst (λ (x : GuardKind). Worded x w) of h
worded-as k guard.Pop w of h = subst (λ (x : GuardKind). Worded x w) of h
worded-as k guard.Sp w of h = subst (λ (x : GuardKind). Worded x w) of h
worded-as k (guard.Wide r) w of h = absurd of
worded-as k guard.Load w of h = absurd of

pub words-as : (k g : GuardKind) → IsOf k g → length (guard_words k) ≡ length (guard_words g)
words-as guard.Store guard.Store of = refl
words-as (guard.Wide r) guard.Store of = refl
words-as guard.Load guard.Store of = refl
words-as guard.Growth guard.Store of = absurd of
words-as guard.Pop guard.Store of = absurd of
words-as guard.Sp guard.Store of = absurd of
words-as k guard.Growth of = ap (λ (x : GuardKind). length (guard_words x)) of
words-as k guard.Pop of = ap (λ (x : GuardKind). length (guard_words x)) of
words-as k guard.Sp of = ap (λ (x : GuardKind). length (guard_words x)) of
words-as k (guard.Wide r) of = absurd of
words-as k guard.Load of = absurd of

-- ---- the load

load-row : (w : ℕ) (b : Bool) → IsLoad w → (w / 256 % 16 == 3) ≡ b → SrcRow (load_of b (w / 256 % 16)) (w / 256 % 16) (w / 16 % 4)
load-row w true h e = (grind (arith, nat_tests), omega (arith, h.1))
load-row w false h e = (refl, omega (arith, h.1), λ (q : w / 256 % 16 ≡ 3). grind (arith, nat_tests))

load-after : (b : Bool) (n : ℕ) → src_words (load_of b n) ++ dst_words (dst.Reg 4) ≡ []
load-after true n = refl
load-after false n = refl

load-takes : (b : Bool) (n : ℕ) → n < 16 → own.IsLoad (load_of b n)
load-takes true n h = tt
load-takes false n h = h

pub load_src-takes : (w : ℕ) → own.IsLoad (load_src w)
load_src-takes w = load-takes (w / 256 % 16 == 3) (w / 256 % 16) (omega arith)

-- ---- instructions of one and two words

pub begins-one : (l : List ℕ) (i : Instr) (w : ℕ) → 1 ≤ length l → get_or l 0 0 ≡ w → First i w → words_after i ≡ [] → Begins l i 1
begins-one [] i w h e f a = absurd (omega arith)
begins-one (x ∷ xs) i w h e f a = (omega arith, (subst (First i) (sym e) f, sym a))

pub begins-two : (l : List ℕ) (i : Instr) (w v : ℕ) → 2 ≤ length l → get_or l 0 0 ≡ w → get_or l 1 0 ≡ v → First i w → words_after i ≡ v ∷ [] → Begins l i 2
begins-two [] i w v h e g f a = absurd (omega arith)
begins-two (x ∷ []) i w v h e g f a = absurd (omega arith)
begins-two (x ∷ y ∷ xs) i w v h e g f a = (omega arith, (subst (First i) (sym e) f, ap (λ (z : ℕ). z ∷ []) g ∙ sym a))

-- ---- each line

pub save-first : First save 16901
save-first = record { op_code = refl; width_bit = refl; source = (refl, refl, λ (e : 2 ≡ 3). absurd (omega arith)); destination = (refl, refl) }

line-first : (p : GuardPlace) (w : ℕ → ℕ) → IsLine p → Worded (guard_of p) w → First (line p w) (w (place_offset p))
line-first TakesAddress w l h = record {
  op_code = (h 1 (omega arith)).0;
  width_bit = omega (arith, (h 1 (omega arith)).1);
  source = load-row (w 1) (w 1 / 256 % 16 == 3) (h 1 (omega arith)) refl;
  destination = (omega (arith, (h 1 (omega arith)).1), omega (arith, (h 1 (omega arith)).1));
}
line-first AddsIndex w l h = subst (First (instr.Two Add Wide (src.Immediate (w 3)) (dst.Reg 4))) (sym (h 2 (omega arith))) record { op_code = refl; width_bit = refl; source = (refl, refl); destination = (refl, refl) }
line-first ComparesLow w l h = subst (First (instr.Two Cmp Wide (src.Immediate (w 5)) (dst.Reg 4))) (sym (h 4 (omega arith))) record { op_code = refl; width_bit = refl; source = (refl, refl); destination = (refl, refl) }
line-first JumpsIfLow w l h = subst (First (instr.Jump Nc (pos 3))) (sym (h 6 (omega arith))) record { form = refl; code = refl; place = refl }
line-first ComparesHigh w l h = subst (First (instr.Two Cmp Wide (src.Immediate (w 8)) (dst.Reg 4))) (sym (h 7 (omega arith))) record { op_code = refl; width_bit = refl; source = (refl, refl); destination = (refl, refl) }
line-first JumpsIfHigh w l h = subst (First (instr.Jump Nc (pos 2))) (sym (h 9 (omega arith))) record { form = refl; code = refl; place = refl }
line-first StoreFails w l h = subst (First (instr.Two Mov Wide (src.Immediate (w 11)) (dst.Reg 0))) (sym (h 10 (omega arith))) record { op_code = refl; width_bit = refl; source = (refl, refl); destination = (refl, refl) }
line-first StoreRestores w l h = subst (First (instr.Two Mov Wide (src.Reg 5) (dst.Reg 2))) (sym (h 12 (omega arith))) record { op_code = refl; width_bit = refl; source = (refl, refl, λ (e : 5 ≡ 3). absurd (omega arith)); destination = (refl, refl) }
line-first ComparesLimit w l h = subst (First (instr.Two Cmp Wide (src.Absolute (w 2)) (dst.Reg 1))) (sym (h 1 (omega arith))) record { op_code = refl; width_bit = refl; source = (refl, refl); destination = (refl, refl) }
line-first JumpsIfRoom w l h = subst (First (instr.Jump C (pos 2))) (sym (h 3 (omega arith))) record { form = refl; code = refl; place = refl }
line-first GrowthFails w l h = subst (First (instr.Two Mov Wide (src.Immediate (w 5)) (dst.Reg 0))) (sym (h 4 (omega arith))) record { op_code = refl; width_bit = refl; source = (refl, refl); destination = (refl, refl) }
line-first GrowthRestores w l h = subst (First (instr.Two Mov Wide (src.Reg 5) (dst.Reg 2))) (sym (h 6 (omega arith))) record { op_code = refl; width_bit = refl; source = (refl, refl, λ (e : 5 ≡ 3). absurd (omega arith)); destination = (refl, refl) }
line-first ComparesTop w l h = subst (First (instr.Two Cmp Wide (src.Reg 1) (dst.Absolute (w 2)))) (sym (h 1 (omega arith))) record { op_code = refl; width_bit = refl; source = (refl, refl, λ (e : 1 ≡ 3). absurd (omega arith)); destination = (refl, refl) }
line-first JumpsIfFilled w l h = subst (First (instr.Jump Ne (pos 2))) (sym (h 3 (omega arith))) record { form = refl; code = refl; place = refl }
line-first PopFails w l h = subst (First (instr.Two Mov Wide (src.Immediate (w 5)) (dst.Reg 0))) (sym (h 4 (omega arith))) record { op_code = refl; width_bit = refl; source = (refl, refl); destination = (refl, refl) }
line-first PopRestores w l h = subst (First (instr.Two Mov Wide (src.Reg 5) (dst.Reg 2))) (sym (h 6 (omega arith))) record { op_code = refl; width_bit = refl; source = (refl, refl, λ (e : 5 ≡ 3). absurd (omega arith)); destination = (refl, refl) }
line-first ComparesNewLow w l h = subst (First (instr.Two Cmp Wide (src.Absolute (w 2)) (dst.Reg 4))) (sym (h 1 (omega arith))) record { op_code = refl; width_bit = refl; source = (refl, refl); destination = (refl, refl) }
line-first JumpsIfNewLow w l h = subst (First (instr.Jump Nc (pos 3))) (sym (h 3 (omega arith))) record { form = refl; code = refl; place = refl }
line-first ComparesNewHigh w l h = subst (First (instr.Two Cmp Wide (src.Reg 4) (dst.Absolute (w 5)))) (sym (h 4 (omega arith))) record { op_code = refl; width_bit = refl; source = (refl, refl, λ (e : 4 ≡ 3). absurd (omega arith)); destination = (refl, refl) }
line-first JumpsIfNewHigh w l h = subst (First (instr.Jump C (pos 2))) (sym (h 6 (omega arith))) record { form = refl; code = refl; place = refl }
line-first SpFails w l h = subst (First (instr.Two Mov Wide (src.Immediate (w 8)) (dst.Reg 0))) (sym (h 7 (omega arith))) record { op_code = refl; width_bit = refl; source = (refl, refl); destination = (refl, refl) }
line-first SpRestores w l h = subst (First (instr.Two Mov Wide (src.Reg 5) (dst.Reg 2))) (sym (h 9 (omega arith))) record { op_code = refl; width_bit = refl; source = (refl, refl, λ (e : 5 ≡ 3). absurd (omega arith)); destination = (refl, refl) }
line-first Stores w l h = absurd l
line-first Grows w l h = absurd l
line-first Pops w l h = absurd l
line-first SetsSp w l h = absurd l

-- a list that has the line's words begins with the line
pub begins-line : (p : GuardPlace) (w : ℕ → ℕ) (l : List ℕ) → IsLine p → Worded (guard_of p) w → line_words p ≤ length l → get_or l 0 0 ≡ w (place_offset p)
    → (line_words p ≡ 2 → get_or l 1 0 ≡ w (place_offset p + 1)) → Begins l (line p w) (line_words p)
begins-line TakesAddress w l t h n e f = begins-one l (line TakesAddress w) (w 1) n e (line-first TakesAddress w t h) (load-after (w 1 / 256 % 16 == 3) (w 1 / 256 % 16))
begins-line AddsIndex w l t h n e f = begins-two l (line AddsIndex w) (w 2) (w 3) n e (f refl) (line-first AddsIndex w t h) refl
begins-line ComparesLow w l t h n e f = begins-two l (line ComparesLow w) (w 4) (w 5) n e (f refl) (line-first ComparesLow w t h) refl
begins-line JumpsIfLow w l t h n e f = begins-one l (line JumpsIfLow w) (w 6) n e (line-first JumpsIfLow w t h) (refl)
begins-line ComparesHigh w l t h n e f = begins-two l (line ComparesHigh w) (w 7) (w 8) n e (f refl) (line-first ComparesHigh w t h) refl
begins-line JumpsIfHigh w l t h n e f = begins-one l (line JumpsIfHigh w) (w 9) n e (line-first JumpsIfHigh w t h) (refl)
begins-line StoreFails w l t h n e f = begins-two l (line StoreFails w) (w 10) (w 11) n e (f refl) (line-first StoreFails w t h) refl
begins-line StoreRestores w l t h n e f = begins-one l (line StoreRestores w) (w 12) n e (line-first StoreRestores w t h) (refl)
begins-line ComparesLimit w l t h n e f = begins-two l (line ComparesLimit w) (w 1) (w 2) n e (f refl) (line-first ComparesLimit w t h) refl
begins-line JumpsIfRoom w l t h n e f = begins-one l (line JumpsIfRoom w) (w 3) n e (line-first JumpsIfRoom w t h) (refl)
begins-line GrowthFails w l t h n e f = begins-two l (line GrowthFails w) (w 4) (w 5) n e (f refl) (line-first GrowthFails w t h) refl
begins-line GrowthRestores w l t h n e f = begins-one l (line GrowthRestores w) (w 6) n e (line-first GrowthRestores w t h) (refl)
begins-line ComparesTop w l t h n e f = begins-two l (line ComparesTop w) (w 1) (w 2) n e (f refl) (line-first ComparesTop w t h) refl
begins-line JumpsIfFilled w l t h n e f = begins-one l (line JumpsIfFilled w) (w 3) n e (line-first JumpsIfFilled w t h) (refl)
begins-line PopFails w l t h n e f = begins-two l (line PopFails w) (w 4) (w 5) n e (f refl) (line-first PopFails w t h) refl
begins-line PopRestores w l t h n e f = begins-one l (line PopRestores w) (w 6) n e (line-first PopRestores w t h) (refl)
begins-line ComparesNewLow w l t h n e f = begins-two l (line ComparesNewLow w) (w 1) (w 2) n e (f refl) (line-first ComparesNewLow w t h) refl
begins-line JumpsIfNewLow w l t h n e f = begins-one l (line JumpsIfNewLow w) (w 3) n e (line-first JumpsIfNewLow w t h) (refl)
begins-line ComparesNewHigh w l t h n e f = begins-two l (line ComparesNewHigh w) (w 4) (w 5) n e (f refl) (line-first ComparesNewHigh w t h) refl
begins-line JumpsIfNewHigh w l t h n e f = begins-one l (line JumpsIfNewHigh w) (w 6) n e (line-first JumpsIfNewHigh w t h) (refl)
begins-line SpFails w l t h n e f = begins-two l (line SpFails w) (w 7) (w 8) n e (f refl) (line-first SpFails w t h) refl
begins-line SpRestores w l t h n e f = begins-one l (line SpRestores w) (w 9) n e (line-first SpRestores w t h) (refl)
begins-line Stores w l t h n e f = absurd t
begins-line Grows w l t h n e f = absurd t
begins-line Pops w l t h n e f = absurd t
begins-line SetsSp w l t h n e f = absurd t
