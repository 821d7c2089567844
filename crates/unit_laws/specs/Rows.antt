-- Where a run of each unit ends, over numbers: the rows of the unit table.
use Rattle.std.specs.Prelude.{◌≡◌, ◌≢◌, ℕ, ◌+◌, ◌-◌, ◌*◌, ◌%◌, ◌<◌, ◌≤◌, ◌⊎◌, true, List, ℤ, pos, if◌then◌else◌}
use Rattle.machine_model.specs.Memory.{word_at, even, IsMemory}
use Rattle.machine_model.specs.Context.{reg, set_reg, IsContext}
use Rattle.machine_model.specs.Operands.{sum_of, low, source_value, after_source}
use Rattle.machine_model.specs.Status.{Flags, with_flags}
use Rattle.machine_model.specs.Alu.{alu}
use Rattle.machine_model.specs.Does.{does, Effect, holds, target}
use Rattle.machine_model.specs.Fetching.{IsFetched}
use Rattle.msp_encode.specs.declared.registers.TheConstants.{PC, SP, SR, CHECKED}
use Rattle.msp_encode.specs.declared.instr.Width.{Width}
use Rattle.msp_encode.specs.declared.instr.Width.TheVariants.{Wide}
use Rattle.msp_encode.specs.declared.instr.Cond.{Cond}
use Rattle.msp_encode.specs.declared.instr.Cond.TheVariants.{Always}
use Rattle.msp_encode.specs.declared.instr.Op1.{Op1}
use Rattle.msp_encode.specs.declared.instr.Op1.TheVariants.{Rrc, Swpb, Rra, Sxt, Push, Call}
use Rattle.msp_encode.specs.declared.instr.Op2.{Op2}
use Rattle.msp_encode.specs.declared.instr.Op2.TheVariants.{Mov}
use Rattle.msp_encode.specs.declared.instr.Src.{Src}
use Rattle.msp_encode.specs.declared.instr.Src.TheVariants as src
use Rattle.msp_encode.specs.declared.instr.Dst.{Dst}
use Rattle.msp_encode.specs.declared.instr.Dst.TheVariants as dst
use Rattle.msp_encode.specs.declared.instr.Instr.{Instr}
use Rattle.msp_encode.specs.declared.instr.Instr.TheVariants as instr
use Rattle.msp_encode.specs.Spelling.{SrcFits}
use Rattle.msp_encode.specs.Forms.{writes, changes}
use Rattle.unit_laws.specs.Running.{held, silent, IsInside, RunsUnit}
use Rattle.unit_laws.specs.Lines.{IsIndexed}
use Rattle.unit_laws.specs.Guards.{WordsAt, store_words, growth_words, pop_words, sp_words}
use Rattle.unit_laws.specs.Frame.{Avoids, InstrAvoids, spread_effect}
use Rattle.unit_laws.specs.Guarded.{IsCell, IsCellOperand, Steps}
use Rattle.kernel_model.specs.declared.map.TheConstants.{STACK_LIMIT, STACK_TOP}
use Rattle.kernel_model.specs.declared.entries.TheConstants.{CALLS, FIRST_ENTRY, GOES, STACK_FAULT, STORE_FAULT}

-- ---- operands that a unit may move

-- neither PC nor R4 or R5
abbrev pub IsFree : ℕ → Type 0
IsFree n = (n ≢ 0) × Avoids n

abbrev pub SrcFree : Src → Type 0
SrcFree (src.Reg n) = IsFree n
SrcFree (src.Indexed n x) = IsFree n
SrcFree (src.Symbolic x) = ⊥
SrcFree (src.Absolute x) = Unit {0}
SrcFree (src.Indirect n) = IsFree n
SrcFree (src.AutoInc n) = IsFree n
SrcFree (src.Immediate x) = Unit {0}
SrcFree (src.Const k) = Unit {0}

abbrev pub DstFree : Dst → Type 0
DstFree (dst.Reg n) = IsFree n
DstFree (dst.Indexed n x) = IsFree n
DstFree (dst.Symbolic x) = ⊥
DstFree (dst.Absolute x) = Unit {0}

-- an instruction whose effect on all but PC doesn't show where it stands, and that goes on behind itself
abbrev pub GoesOn : Instr → Type 0
GoesOn (instr.Two op w s d) = SrcFree s × DstFree d
GoesOn (instr.One Push w s) = SrcFree s
GoesOn (instr.One Call w s) = ⊥
GoesOn (instr.One Rrc w s) = SrcFree s
GoesOn (instr.One Swpb w s) = SrcFree s
GoesOn (instr.One Rra w s) = SrcFree s
GoesOn (instr.One Sxt w s) = SrcFree s
GoesOn instr.Reti = ⊥
GoesOn (instr.Jump c k) = ⊥

-- ---- how a run ends

-- what an instruction of n words does where it ends at an address
abbrev pub ended : (past : ℕ) → (m r : List ℕ) → Instr → (n : ℕ) → Effect
ended past m r i n = does m (set_reg r PC (past - 2 * n)) i n

-- an effect with another PC
abbrev pub entering : Effect → ℕ → Effect
entering e a = record { context = set_reg e.context PC a; written = e.written }

-- all but R4 and R5 is as in an effect
pub record Follows (m r : List ℕ) (first past : ℕ) (e : Effect) : Type 0 where
  pub x : ℕ
  pub y : ℕ
  pub runs : RunsUnit m first past r (spread_effect e x y)

-- PC is at an entry, R4 has a target, and all else but R5 is as in an effect
pub record Hands (m r : List ℕ) (first past : ℕ) (e : Effect) (entry target : ℕ) : Type 0 where
  pub y : ℕ
  pub runs : RunsUnit m first past r (spread_effect (entering e entry) target y)

-- PC is at an entry, and nothing was written. R4, R5 and the four flags of SR are free, and all else is as in a context
pub record Halts (m r : List ℕ) (first past entry : ℕ) (q : List ℕ) : Type 0 where
  pub x : ℕ
  pub y : ℕ
  pub flags : Flags
  pub runs : RunsUnit m first past r (silent (held q entry (with_flags (reg r SR) flags.c flags.z flags.n flags.v) x y))

-- the unit halts where its check fails
pub record Checked (m r : List ℕ) (first past entry : ℕ) (q : List ℕ) (Passes Fails End : Type 0) : Type 0 where
  pub goes : Passes → End
  pub halts : Fails → Halts m r first past entry q

-- ---- where a unit stands

pub record IsAtFirst (m r : List ℕ) (first past : ℕ) : Type 0 where
  pub memory : IsMemory m
  pub context : IsContext r
  pub pc : reg r PC ≡ first
  pub below : past ≤ FIRST_ENTRY

-- `MOV #x,PC`
abbrev pub branch : ℕ → Instr
branch x = instr.Two Mov Wide (src.Immediate x) (dst.Reg PC)

-- `MOV @SP+,R4`, `MOV SP,R4` and `MOV R4,SP`
abbrev pub pop_r4 : Instr
pop_r4 = instr.Two Mov Wide (src.AutoInc SP) (dst.Reg CHECKED)

abbrev pub take_sp : Instr
take_sp = instr.Two Mov Wide (src.Reg SP) (dst.Reg CHECKED)

abbrev pub give_sp : Instr
give_sp = instr.Two Mov Wide (src.Reg CHECKED) (dst.Reg SP)

-- ---- PC behind an instruction

abbrev pub GoesOnLaw : Type 0
GoesOnLaw = (m r : List ℕ) (i : Instr) (n : ℕ) → IsContext r → GoesOn i → reg (does m r i n).context PC ≡ sum_of (reg r PC) (2 * n)

-- a branch and a call of a place go there
pub record GoesTo (m r : List ℕ) (x : ℕ) : Type 0 where
  pub branches : reg (does m r (branch x) 2).context PC ≡ even x
  pub calls : reg (does m r (instr.One Call Wide (src.Immediate x)) 2).context PC ≡ even x

abbrev pub GoesToLaw : Type 0
GoesToLaw = (m r : List ℕ) (x : ℕ) → IsContext r → x < 65536 → GoesTo m r x

-- ---- units without a check

-- an instruction of its own
abbrev pub OwnUnitLaw : Type 0
OwnUnitLaw = (m r : List ℕ) (first past : ℕ) (i : Instr) (n : ℕ) → IsAtFirst m r first past → IsFetched m first i n → past ≡ first + 2 * n
    → (IsInside first past (reg (ended past m r i n).context PC) → ⊥) → Follows m r first past (ended past m r i n)

-- a branch
abbrev pub BranchUnitLaw : Type 0
BranchUnitLaw = (m r : List ℕ) (first past x : ℕ) → IsAtFirst m r first past → IsFetched m first (branch x) 2 → past ≡ first + 4 → x % 2 ≡ 0 → x < 65536
    → (IsInside first past x → ⊥) → RunsUnit m first past r (silent (set_reg r PC x))

-- a jump over a branch
abbrev pub JumpUnitLaw : Type 0
JumpUnitLaw = (m r : List ℕ) (first past x : ℕ) (c : Cond) → IsAtFirst m r first past → IsFetched m first (instr.Jump c (pos 1)) 1 → IsFetched m (first + 2) (instr.Jump Always (pos 2)) 1
    → IsFetched m (first + 4) (branch x) 2 → past ≡ first + 8 → x % 2 ≡ 0 → x < 65536 → (IsInside first past x → ⊥)
    → RunsUnit m first past r (silent (set_reg r PC (if holds c (reg r SR) then x else past)))

-- a jump of its own
abbrev pub ShortJumpUnitLaw : Type 0
ShortJumpUnitLaw = (m r : List ℕ) (first past : ℕ) (c : Cond) (k : ℤ) → IsAtFirst m r first past → IsFetched m first (instr.Jump c k) 1 → past ≡ first + 2
    → RunsUnit m first past r (silent (set_reg r PC (if holds c (reg r SR) then target first k else past)))

-- a computed jump
abbrev pub ComputedUnitLaw : Type 0
ComputedUnitLaw = (m r : List ℕ) (first past : ℕ) (s : Src) (n : ℕ) → IsAtFirst m r first past → IsFetched m first (instr.Two Mov Wide s (dst.Reg CHECKED)) n → IsFetched m (first + 2 * n) (branch GOES) 2
    → past ≡ first + (4 + 2 * n) → SrcFits s → SrcFree s → Hands m r first past (ended past m r (instr.Two Mov Wide s (dst.Reg PC)) n) GOES (source_value Wide s 0 m r)

-- ---- a store guard

-- an address is in the region [lo, hi)
abbrev pub IsIn : (lo hi a : ℕ) → Type 0
IsIn lo hi a = (lo ≤ a) × (a < hi)

abbrev pub IsOut : (lo hi a : ℕ) → Type 0
IsOut lo hi a = (a < lo) ⊎ (hi ≤ a)

-- the words of a store guard of the address that x and register n make
pub record IsAtStore (m r : List ℕ) (first past n x lo hi : ℕ) : Type 0 where
  pub at : IsAtFirst m r first past
  pub words : WordsAt m first 0 (store_words n x lo hi)
  pub register : IsIndexed n
  pub index : x < 65536
  pub lo_word : lo < 65536
  pub hi_word : hi < 65536

-- `op src,x(Rn)`
abbrev pub StoreUnitLaw : Type 0
StoreUnitLaw = (m r : List ℕ) (first past n x lo hi : ℕ) (op : Op2) (w : Width) (s : Src) (d : Dst) (k : ℕ) → IsAtStore m r first past n x lo hi
    → IsFetched m (first + 26) (instr.Two op w s (dst.Indexed CHECKED 0)) k → past ≡ first + (26 + 2 * k) → SrcFree s → IsCell d n x → (Steps s n → ⊥)
    → Checked m r first past STORE_FAULT r (IsIn lo hi (sum_of x (reg r n))) (IsOut lo hi (sum_of x (reg r n))) (Follows m r first past (ended past m r (instr.Two op w s d) k))

-- RRC, RRA, SWPB and SXT
abbrev pub ChangeUnitLaw : Type 0
ChangeUnitLaw = (m r : List ℕ) (first past n x lo hi : ℕ) (op : Op1) (w : Width) (s : Src) (k : ℕ) → IsAtStore m r first past n x lo hi
    → IsFetched m (first + 26) (instr.One op w (src.Indirect CHECKED)) 1 → past ≡ first + 28 → changes op ≡ true → IsCellOperand s n x → 1 ≤ k → k ≤ 2
    → Checked m r first past STORE_FAULT r (IsIn lo hi (sum_of x (reg r n))) (IsOut lo hi (sum_of x (reg r n))) (Follows m r first past (ended past m r (instr.One op w s) k))

-- ---- a growth guard

-- PUSH, and CALL of a place
abbrev pub GrowthUnitLaw : Type 0
GrowthUnitLaw = (m r : List ℕ) (first past : ℕ) (i : Instr) (n : ℕ) → IsAtFirst m r first past → WordsAt m first 0 growth_words → IsFetched m (first + 14) i n → past ≡ first + (14 + 2 * n) → 1 ≤ n
    → InstrAvoids i → (IsInside first past (reg (ended past m r i n).context PC) → ⊥)
    → Checked m r first past STACK_FAULT r (word_at m STACK_LIMIT ≤ reg r SP) (reg r SP < word_at m STACK_LIMIT) (Follows m r first past (ended past m r i n))

-- a computed call
abbrev pub CalleeUnitLaw : Type 0
CalleeUnitLaw = (m r : List ℕ) (first past : ℕ) (s : Src) (n : ℕ) → IsAtFirst m r first past → IsFetched m first (instr.Two Mov Wide s (dst.Reg CHECKED)) n → 1 ≤ n → WordsAt m (first + 2 * n) 0 growth_words
    → IsFetched m (first + (14 + 2 * n)) (instr.One Call Wide (src.Immediate CALLS)) 2 → past ≡ first + (18 + 2 * n) → SrcFits s → SrcFree s → (Steps s 1 → ⊥)
    → Checked m r first past STACK_FAULT (after_source Wide s r) (word_at m STACK_LIMIT ≤ reg r SP) (reg r SP < word_at m STACK_LIMIT) (Hands m r first past (ended past m r (instr.One Call Wide s) n) CALLS (source_value Wide s 0 m r))

-- ---- a pop guard

-- `MOV @SP+,Rn` of a word
abbrev pub PopUnitLaw : Type 0
PopUnitLaw = (m r : List ℕ) (first past : ℕ) (i : Instr) (n : ℕ) → IsAtFirst m r first past → WordsAt m first 0 pop_words → IsFetched m (first + 14) i n → past ≡ first + (14 + 2 * n) → 1 ≤ n
    → InstrAvoids i → (IsInside first past (reg (ended past m r i n).context PC) → ⊥)
    → Checked m r first past STACK_FAULT r (reg r SP ≢ word_at m STACK_TOP) (reg r SP ≡ word_at m STACK_TOP) (Follows m r first past (ended past m r i n))

-- `op @SP+,dst` otherwise
abbrev pub PopIntoUnitLaw : Type 0
PopIntoUnitLaw = (m r : List ℕ) (first past : ℕ) (op : Op2) (w : Width) (d : Dst) (n : ℕ) → IsAtFirst m r first past → WordsAt m first 0 pop_words → IsFetched m (first + 14) pop_r4 1
    → IsFetched m (first + 16) (instr.Two op w (src.Reg CHECKED) d) n → past ≡ first + (16 + 2 * n) → 1 ≤ n → DstFree d
    → Checked m r first past STACK_FAULT r (reg r SP ≢ word_at m STACK_TOP) (reg r SP ≡ word_at m STACK_TOP) (Follows m r first past (ended past m r (instr.Two op w (src.AutoInc SP) d) n))

-- a return
abbrev pub ReturnUnitLaw : Type 0
ReturnUnitLaw = (m r : List ℕ) (first past : ℕ) → IsAtFirst m r first past → WordsAt m first 0 pop_words → IsFetched m (first + 14) pop_r4 1 → IsFetched m (first + 16) (branch GOES) 2 → past ≡ first + 20
    → Checked m r first past STACK_FAULT r (reg r SP ≢ word_at m STACK_TOP) (reg r SP ≡ word_at m STACK_TOP)
    (Hands m r first past (ended past m r (instr.Two Mov Wide (src.AutoInc SP) (dst.Reg PC)) 1) GOES (source_value Wide (src.AutoInc SP) 0 m r))

-- ---- an SP guard

-- what `op src,SP` gives SP, with bit 0 as it stands
abbrev pub new_sp : (m r : List ℕ) → Op2 → Width → Src → ℕ
new_sp m r op w s = (alu op w (source_value w s 0 m r) (low w (reg r SP)) (reg r SR)).value

-- from the current limit to the current top
abbrev pub IsWithin : (m : List ℕ) → ℕ → Type 0
IsWithin m v = (word_at m STACK_LIMIT ≤ v) × (v ≤ word_at m STACK_TOP)

abbrev pub IsBeyond : (m : List ℕ) → ℕ → Type 0
IsBeyond m v = (v < word_at m STACK_LIMIT) ⊎ (word_at m STACK_TOP < v)

-- `op src,SP`
abbrev pub SetSpUnitLaw : Type 0
SetSpUnitLaw = (m r : List ℕ) (first past : ℕ) (op : Op2) (w : Width) (s : Src) (n : ℕ) → IsAtFirst m r first past → IsFetched m first take_sp 1 → IsFetched m (first + 2) (instr.Two op w s (dst.Reg CHECKED)) n → 1 ≤ n
    → WordsAt m (first + (2 + 2 * n)) 0 sp_words → IsFetched m (first + (22 + 2 * n)) give_sp 1 → past ≡ first + (24 + 2 * n) → writes op ≡ true → SrcFits s → SrcFree s → (Steps s 1 → ⊥)
    → Checked m r first past STACK_FAULT (after_source w s r) (IsWithin m (new_sp m r op w s)) (IsBeyond m (new_sp m r op w s)) (Follows m r first past (ended past m r (instr.Two op w s (dst.Reg SP)) n))

-- ---- a context with another PC

-- it is a context too
pub record PcMoves (r : List ℕ) (pc : ℕ) : Type 0 where
  pub context : IsContext (set_reg r PC pc)
  pub there : reg (set_reg r PC pc) PC ≡ even pc

abbrev pub PcMovesLaw : Type 0
PcMovesLaw = (r : List ℕ) (pc : ℕ) → IsContext r → pc < 65536 → PcMoves r pc

-- ---- the place of an instruction

-- two effects that differ in PC at most
pub record SameButPc (e f : Effect) : Type 0 where
  pub context : set_reg e.context PC 0 ≡ set_reg f.context PC 0
  pub written : e.written ≡ f.written

-- where an instruction that goes on stands doesn't show in what it does, but for PC
abbrev pub PlaceLaw : Type 0
PlaceLaw = (m r : List ℕ) (p q : ℕ) (i : Instr) (n : ℕ) → GoesOn i → SameButPc (does m (set_reg r PC p) i n) (does m (set_reg r PC q) i n)
