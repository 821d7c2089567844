-- What each rule refuses.
use Rattle.std.specs.Prelude.{◌≡◌, ℕ, ◌+◌, ◌*◌, ◌%◌, ◌≤◌, ◌⊎◌, List, length, ℤ, pos, ◌+ℤ◌, bit_and}
use Rattle.std.specs.List.{Contains}
use Rattle.msp_encode.specs.declared.registers.TheConstants.{PC, SP, SR}
use Rattle.msp_encode.specs.declared.instr.Src.{Src}
use Rattle.msp_encode.specs.declared.instr.Src.TheVariants as src
use Rattle.msp_encode.specs.declared.instr.Dst.{Dst}
use Rattle.msp_encode.specs.declared.instr.Dst.TheVariants as dst
use Rattle.msp_encode.specs.declared.instr.Instr.{Instr}
use Rattle.msp_encode.specs.declared.instr.Instr.TheVariants as instr
use Rattle.msp_encode.specs.Spelling.{src_words}
use Rattle.msp_encode.specs.Forms.{Writes, Changes, Stacks, IsMov, IsWide, IsBisOrBic, IsCall, DstIs, Pops, IsImmediate, IsReti, IsJmp, WritesReg, const_value}
use Rattle.code_model.specs.declared.object.Object.{Object}
use Rattle.code_model.specs.declared.parts.Export.{Export}
use Rattle.kernel_model.specs.declared.entries.TheConstants.{CALLS, EMITS, GOES, LEAVE, STACK_FAULT, STORE_FAULT, TICKS}
use Rattle.kernel_model.specs.declared.kinds.Kind.{Kind}
use Rattle.kernel_model.specs.declared.kinds.Kind.TheVariants.{App, Module}
use Rattle.code_model.specs.declared.parts.RelKind.{RelKind}
use Rattle.code_model.specs.declared.parts.RelKind.TheVariants.{Code, Data}
use Rattle.code_model.specs.declared.guards.GuardKind.{GuardKind}
use Rattle.code_model.specs.declared.guards.GuardKind.TheVariants as guard
use Rattle.code_model.specs.declared.rules.Rule.{Rule}
use Rattle.code_model.specs.declared.rules.Rule.TheVariants as rule
use Rattle.code_model.specs.Starts.{Stands, Start, Bad}
use Rattle.code_model.specs.Relocs.{HasReloc, Unrelocated}
use Rattle.code_model.specs.Statics.{InStatic}
use Rattle.code_model.specs.Guards.{Guarded, Own, UnitStart}

abbrev pub number : Rule → ℕ
number rule.Spelled = 1
number rule.Reti = 2
number rule.Pc = 3
number rule.Sp = 4
number rule.Sr = 5
number rule.Store = 6
number rule.Static = 7
number rule.Pop = 8
number rule.Push = 9
number rule.Target = 10
number rule.Jump = 11
number rule.End = 12
number rule.Reloc = 13
number rule.Entry = 14

-- ---- forms of instructions

-- `MOV #imm,PC`, whose first word is 4030
abbrev pub IsBranch : Instr → Type 0
IsBranch (instr.Two op w s d) = IsMov op × IsWide w × IsImmediate s × DstIs d PC
IsBranch _ = ⊥

-- no bit outside 0107
abbrev pub IsFlags : ℕ → Type 0
IsFlags x = bit_and x 0xFEF8 ≡ 0

-- a constant or an unrelocated immediate within the flags
abbrev pub NamesFlags : Object → ℕ → Src → Type 0
NamesFlags o at (src.Const c) = IsFlags (const_value c)
NamesFlags o at (src.Immediate x) = Unrelocated o.relocs (at + 1) × IsFlags x
NamesFlags o at _ = ⊥

abbrev pub ChangesFlags : Object → ℕ → Instr → Type 0
ChangesFlags o at (instr.Two op w s d) = IsBisOrBic op × IsWide w × NamesFlags o at s
ChangesFlags o at _ = ⊥

abbrev pub IsMemoryDst : Dst → Type 0
IsMemoryDst (dst.Indexed n x) = Unit {0}
IsMemoryDst (dst.Symbolic x) = Unit {0}
IsMemoryDst _ = ⊥

abbrev pub IsMemorySrc : Src → Type 0
IsMemorySrc (src.Indexed n x) = Unit {0}
IsMemorySrc (src.Symbolic x) = Unit {0}
IsMemorySrc (src.Indirect n) = Unit {0}
IsMemorySrc (src.AutoInc n) = Unit {0}
IsMemorySrc _ = ⊥

-- memory is written through an indexed, symbolic or indirect operand
abbrev pub WritesMemory : Instr → Type 0
WritesMemory (instr.Two op w s d) = Writes op × IsMemoryDst d
WritesMemory (instr.One op w s) = Changes op × IsMemorySrc s
WritesMemory _ = ⊥

-- an absolute operand that isn't in the static part, whose word is at this place
abbrev pub IsWildDst : Object → ℕ → Dst → Type 0
IsWildDst o at (dst.Absolute x) = InStatic o at x → ⊥
IsWildDst o at _ = ⊥

abbrev pub IsWildSrc : Object → ℕ → Src → Type 0
IsWildSrc o at (src.Absolute x) = InStatic o at x → ⊥
IsWildSrc o at _ = ⊥

abbrev pub WritesWild : Object → ℕ → Instr → Type 0
WritesWild o at (instr.Two op w s d) = Writes op × IsWildDst o (at + 1 + length (src_words s)) d
WritesWild o at (instr.One op w s) = Changes op × IsWildSrc o (at + 1) s
WritesWild o at _ = ⊥

-- @SP+ is read
abbrev pub ReadsStack : Instr → Type 0
ReadsStack (instr.Two op w s d) = Pops s SP
ReadsStack (instr.One op w s) = Pops s SP
ReadsStack _ = ⊥

abbrev pub IsPushOrCall : Instr → Type 0
IsPushOrCall (instr.One op w s) = Stacks op
IsPushOrCall _ = ⊥

-- ---- targets

abbrev pub IsJumpEntry : Kind → ℕ → Type 0
IsJumpEntry App x = (x ≡ STORE_FAULT) ⊎ ((x ≡ STACK_FAULT) ⊎ (x ≡ GOES))
IsJumpEntry Module x = (x ≡ STORE_FAULT) ⊎ ((x ≡ STACK_FAULT) ⊎ ((x ≡ GOES) ⊎ (x ≡ LEAVE)))

-- for an application F006, F008 and so on up to F024
abbrev pub IsCallEntry : Kind → ℕ → Type 0
IsCallEntry App x = (CALLS ≤ x) × (x ≤ EMITS) × (x % 2 ≡ 0)
IsCallEntry Module x = (x ≡ CALLS) ⊎ (x ≡ TICKS)

unfoldable pub IsUnitOffset : Object → ℕ → Type 0
IsUnitOffset o x = (t : ℕ) × UnitStart o t × (x ≡ 2 * t)

-- the operand's word is at this place
abbrev pub IsBranchTarget : Object → ℕ → Src → Type 0
IsBranchTarget o at (src.Immediate x) = (HasReloc o.relocs at Code × IsUnitOffset o x) ⊎ (Unrelocated o.relocs at × IsJumpEntry o.kind x)
IsBranchTarget o at _ = ⊥

abbrev pub IsCallTarget : Object → ℕ → Src → Type 0
IsCallTarget o at (src.Immediate x) = (HasReloc o.relocs at Code × IsUnitOffset o x) ⊎ (Unrelocated o.relocs at × IsCallEntry o.kind x)
IsCallTarget o at _ = ⊥

abbrev pub TransferMissesTarget : Object → ℕ → Instr → Type 0
TransferMissesTarget o at (instr.Two op w s d) = IsBranch (instr.Two op w s d) × (IsBranchTarget o (at + 1) s → ⊥)
TransferMissesTarget o at (instr.One op w s) = IsCall op × (IsCallTarget o (at + 1) s → ⊥)
TransferMissesTarget o at _ = ⊥

unfoldable pub IsJumpTarget : Object → ℕ → ℤ → Type 0
IsJumpTarget o at k = (t : ℕ) × UnitStart o t × (pos t ≡ pos (at + 1) +ℤ k)

abbrev pub JumpMissesUnit : Object → ℕ → Instr → Type 0
JumpMissesUnit o at (instr.Jump c k) = IsJumpTarget o at k → ⊥
JumpMissesUnit o at _ = ⊥

abbrev pub RunsOff : Object → ℕ → Instr → ℕ → Type 0
RunsOff o at i n = (at + n ≡ length o.code) × (IsJmp i → ⊥) × (IsBranch i → ⊥)

-- ---- relocations

abbrev pub IsData : RelKind → Type 0
IsData Data = Unit {0}
IsData _ = ⊥

abbrev pub SrcCarries : Src → RelKind → Type 0
SrcCarries (src.Immediate x) k = Unit {0}
SrcCarries (src.Absolute x) k = IsData k
SrcCarries (src.Indexed n x) k = IsData k
SrcCarries _ k = ⊥

abbrev pub DstCarries : Dst → RelKind → Type 0
DstCarries (dst.Absolute x) k = IsData k
DstCarries (dst.Indexed n x) k = IsData k
DstCarries _ k = ⊥

-- word m of the instruction, counted from 0, may have a relocation of this kind
abbrev pub Carries : Instr → ℕ → RelKind → Type 0
Carries (instr.Two op w s d) m k = ((m ≡ 1) × SrcCarries s k) ⊎ ((m ≡ 1 + length (src_words s)) × DstCarries d k)
Carries (instr.One op w s) m k = (m ≡ 1) × SrcCarries s k
Carries _ m k = ⊥

-- the instruction that starts at a place may have such a relocation on its word m
pub record CarriesFrom (o : Object) (start m : ℕ) (k : RelKind) : Type 0 where
  pub starts : Start o.code start
  pub instr : Instr
  pub words : ℕ
  pub stands : Stands o.code start instr words
  pub carries : Carries instr m k

pub record IsRightWord (o : Object) (at : ℕ) (k : RelKind) : Type 0 where
  pub start : ℕ
  pub word : ℕ
  pub is : at ≡ start + word
  pub from : CarriesFrom o start word k

-- ---- the rules

-- the guards that keep stores in the region
abbrev pub KeepsStores : GuardKind → Type 0
KeepsStores guard.Store = Unit {0}
KeepsStores (guard.Wide r) = Unit {0}
KeepsStores _ = ⊥

-- an instruction that such a guard serves
unfoldable pub IsGuardedStore : Object → ℕ → Type 0
IsGuardedStore o at = (g : GuardKind) × (KeepsStores g × Guarded o at g)

-- an instruction of n words at a place breaks the rule
abbrev pub Breaks : Rule → Object → ℕ → Instr → ℕ → Type 0
Breaks rule.Reti o at i n = IsReti i
Breaks rule.Pc o at i n = WritesReg i PC × (IsBranch i → ⊥)
Breaks rule.Sp o at i n = WritesReg i SP × (Guarded o at guard.Sp → ⊥)
Breaks rule.Sr o at i n = WritesReg i SR × (ChangesFlags o at i → ⊥)
Breaks rule.Store o at i n = WritesMemory i × (IsGuardedStore o at → ⊥)
Breaks rule.Static o at i n = WritesWild o at i
Breaks rule.Pop o at i n = ReadsStack i × (Guarded o at guard.Pop → ⊥)
Breaks rule.Push o at i n = IsPushOrCall i × (Guarded o at guard.Growth → ⊥)
Breaks rule.Target o at i n = TransferMissesTarget o at i
Breaks rule.Jump o at i n = JumpMissesUnit o at i
Breaks rule.End o at i n = RunsOff o at i n
Breaks _ o at i n = ⊥

-- an instruction that starts at a place breaks the rule
pub record BreaksAt (r : Rule) (o : Object) (at : ℕ) : Type 0 where
  pub start : Start o.code at
  pub instr : Instr
  pub words : ℕ
  pub stands : Stands o.code at instr words
  pub breaks : Breaks r o at instr words

-- so does one that is none of a guard's own
abbrev pub BreaksFree : Rule → Object → ℕ → Type 0
BreaksFree r o at = (Own o at → ⊥) × BreaksAt r o at

pub record HasWrongReloc (o : Object) (at : ℕ) : Type 0 where
  pub kind : RelKind
  pub has : HasReloc o.relocs at kind
  pub wrong : IsRightWord o at kind → ⊥

unfoldable pub IsExported : List Export → ℕ → Type 0
IsExported exports at = (e : Export) × Contains exports e × (e.offset ≡ 2 * at)

-- the entry of an application, or the offset of an export
abbrev pub IsNamed : Object → ℕ → Type 0
IsNamed o at = ((o.kind ≡ App) × (o.entry ≡ 2 * at)) ⊎ IsExported o.exports at

abbrev pub Refuses : Rule → Object → ℕ → Type 0
Refuses rule.Spelled o at = Bad o.code at
Refuses rule.Reti o at = BreaksAt rule.Reti o at
Refuses rule.Pc o at = BreaksFree rule.Pc o at
Refuses rule.Sp o at = BreaksFree rule.Sp o at
Refuses rule.Sr o at = BreaksFree rule.Sr o at
Refuses rule.Store o at = BreaksFree rule.Store o at
Refuses rule.Static o at = BreaksFree rule.Static o at
Refuses rule.Pop o at = BreaksFree rule.Pop o at
Refuses rule.Push o at = BreaksFree rule.Push o at
Refuses rule.Target o at = BreaksFree rule.Target o at
Refuses rule.Jump o at = BreaksFree rule.Jump o at
Refuses rule.End o at = BreaksAt rule.End o at
Refuses rule.Reloc o at = HasWrongReloc o at
Refuses rule.Entry o at = IsNamed o at × (UnitStart o at → ⊥)
