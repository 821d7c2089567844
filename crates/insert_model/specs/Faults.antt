-- What is wrong with a source object, and where.
use Rattle.std.specs.Prelude.{◌≡◌, ◌≢◌, ℕ, ◌+◌, ◌*◌, ◌<◌, ◌≤◌, ◌⊎◌, ◌==◌, if◌then◌else◌, List, [], ◌∷◌, ◌++◌, length, ℤ, pos, ◌+ℤ◌, false, Option, None, Some, MatchOption, Result, Ok, Err}
use Rattle.std.specs.List.{Any}
use Rattle.msp_encode.specs.declared.registers.TheConstants.{PC, SP, SR, CHECKED, KEPT_STATUS}
use Rattle.msp_encode.specs.declared.instr.Src.{Src}
use Rattle.msp_encode.specs.declared.instr.Src.TheVariants as src
use Rattle.msp_encode.specs.declared.instr.Dst.{Dst}
use Rattle.msp_encode.specs.declared.instr.Dst.TheVariants as dst
use Rattle.msp_encode.specs.declared.instr.Instr.{Instr}
use Rattle.msp_encode.specs.declared.instr.Instr.TheVariants as instr
use Rattle.msp_encode.specs.Spelling.{src_words, dst_words}
use Rattle.code_model.specs.declared.object.TheConstants.{CODE_WORDS_MAX}
use Rattle.code_model.specs.declared.object.Object.{Object}
use Rattle.code_model.specs.declared.parts.Export.{Export}
use Rattle.code_model.specs.declared.parts.Reloc.{Reloc}
use Rattle.kernel_model.specs.declared.entries.TheConstants.{CALLS, GOES}
use Rattle.kernel_model.specs.declared.kinds.Kind.{Kind}
use Rattle.kernel_model.specs.declared.kinds.Kind.TheVariants.{App}
use Rattle.code_model.specs.declared.parts.RelKind.{RelKind}
use Rattle.code_model.specs.declared.parts.RelKind.TheVariants.{Code}
use Rattle.code_model.specs.Fields.{fields}
use Rattle.code_model.specs.Starts.{Start, Bad}
use Rattle.code_model.specs.Rules.{IsFlags, IsJumpEntry, IsCallEntry, Carries}
use Rattle.code_model.specs.Verdicts.{AllSpelled}
use Rattle.insert_model.specs.declared.fault.InsertKind.{InsertKind}
use Rattle.insert_model.specs.declared.fault.InsertKind.TheVariants.{NotDecoded, UsesCheckRegister, Forbidden, BadTarget, TooLarge}
use Rattle.insert_model.specs.declared.fault.InsertFault.{InsertFault}
use Rattle.insert_model.specs.declared.fault.InsertFault.TheVariants.{At, Memory}
use Rattle.insert_model.specs.declared.line.Line.{Line}
use Rattle.insert_model.specs.declared.piece.Piece.{Piece}
use Rattle.msp_encode.specs.Spelled.{count}
use Rattle.msp_encode.specs.Forms.{Writes, Changes, Stacks, IsMov, IsWide, SrcIs, DstIs, Pops, IsReti, WritesReg, IsBisOrBic, const_value, IsCall, IsJmp}
use Rattle.insert_model.specs.Source.{word_in, lines, own}
use Rattle.insert_model.specs.Units.{static_bytes}
use Rattle.insert_model.specs.Groups.{Group, groups}
use Rattle.insert_model.specs.Layout.{units, final, final_units}
use Rattle.insert_model.specs.Inserted.{inserted}

abbrev pub number : InsertKind → ℕ
number NotDecoded = 1
number UsesCheckRegister = 2
number Forbidden = 3
number BadTarget = 4
number TooLarge = 5

-- ---- an operand names R4 or R5

abbrev pub IsCheck : ℕ → Type 0
IsCheck n = (n ≡ CHECKED) ⊎ (n ≡ KEPT_STATUS)

abbrev pub SrcUsesCheck : Src → Type 0
SrcUsesCheck (src.Reg n) = IsCheck n
SrcUsesCheck (src.Indexed n x) = IsCheck n
SrcUsesCheck (src.Indirect n) = IsCheck n
SrcUsesCheck (src.AutoInc n) = IsCheck n
SrcUsesCheck _ = ⊥

abbrev pub DstUsesCheck : Dst → Type 0
DstUsesCheck (dst.Reg n) = IsCheck n
DstUsesCheck (dst.Indexed n x) = IsCheck n
DstUsesCheck _ = ⊥

abbrev pub UsesCheck : Instr → Type 0
UsesCheck (instr.Two op w s d) = SrcUsesCheck s ⊎ DstUsesCheck d
UsesCheck (instr.One op w s) = SrcUsesCheck s
UsesCheck _ = ⊥

-- ---- a form that has no unit

-- a constant or an unrelocated immediate with flags alone
abbrev pub NamesFlags : Src → Option RelKind → Type 0
NamesFlags (src.Const c) k = IsFlags (const_value c)
NamesFlags (src.Immediate x) k = (k ≡ None) × IsFlags x
NamesFlags _ k = ⊥

-- BIS or BIC of a word, of flags alone
abbrev pub ChangesFlags : Instr → Option RelKind → Type 0
ChangesFlags (instr.Two op w s d) k = IsBisOrBic op × IsWide w × NamesFlags s k
ChangesFlags _ k = ⊥

-- a MOV of a word to PC
abbrev pub SetsPc : Instr → Type 0
SetsPc (instr.Two op w s d) = IsMov op × IsWide w × DstIs d PC
SetsPc _ = ⊥

-- PC is read in register mode, by a source or by a destination that isn't moved to
abbrev pub ReadsPc : Instr → Type 0
ReadsPc (instr.Two op w s d) = SrcIs s PC ⊎ (DstIs d PC × (IsMov op → ⊥))
ReadsPc (instr.One op w s) = SrcIs s PC
ReadsPc _ = ⊥

abbrev pub IsSymbolicSrc : Src → Type 0
IsSymbolicSrc (src.Symbolic x) = Unit {0}
IsSymbolicSrc _ = ⊥

abbrev pub IsSymbolicDst : Dst → Type 0
IsSymbolicDst (dst.Symbolic x) = Unit {0}
IsSymbolicDst _ = ⊥

abbrev pub HasSymbolic : Instr → Type 0
HasSymbolic (instr.Two op w s d) = IsSymbolicSrc s ⊎ IsSymbolicDst d
HasSymbolic (instr.One op w s) = IsSymbolicSrc s
HasSymbolic _ = ⊥

abbrev pub IsAutoInc : Src → Type 0
IsAutoInc (src.AutoInc n) = Unit {0}
IsAutoInc _ = ⊥

abbrev pub IsSpecial : Src → Type 0
IsSpecial s = SrcIs s PC ⊎ (SrcIs s SP ⊎ SrcIs s SR)

-- RRC, RRA, SWPB or SXT on PC, SP or SR, or through autoincrement
abbrev pub HasBadOperand : Instr → Type 0
HasBadOperand (instr.One op w s) = Changes op × (IsSpecial s ⊎ IsAutoInc s)
HasBadOperand _ = ⊥

abbrev pub IsMemory : Dst → Type 0
IsMemory (dst.Reg n) = ⊥
IsMemory _ = Unit {0}

abbrev pub IsNoPopTarget : Dst → Type 0
IsNoPopTarget d = DstIs d SP ⊎ (DstIs d SR ⊎ IsMemory d)

-- @SP+ is the source of PUSH, of CALL, or of an operation that writes SP, SR or memory
abbrev pub HasForbiddenPop : Instr → Type 0
HasForbiddenPop (instr.Two op w s d) = Pops s SP × Writes op × IsNoPopTarget d
HasForbiddenPop (instr.One op w s) = Stacks op × Pops s SP
HasForbiddenPop _ = ⊥

-- the source is @Rn+ and the destination X(Rn)
abbrev pub StepsBase : Src → Dst → Type 0
StepsBase (src.AutoInc n) (dst.Indexed m x) = n ≡ m
StepsBase _ _ = ⊥

abbrev pub HasForbiddenStore : Instr → Type 0
HasForbiddenStore (instr.Two op w s d) = Writes op × StepsBase s d
HasForbiddenStore _ = ⊥

-- the relocation of a word of the line, counted from 0
abbrev pub kind_of_word : Line → ℕ → Option RelKind
kind_of_word l m = if m == 0 then l.first else (if m == 1 then l.second else l.third)

-- a word has a relocation that it may not have
abbrev pub IsWrongWord : Line → ℕ → Type 0
IsWrongWord l m = MatchOption (kind_of_word l m) ⊥ (λ k. Carries l.instr m k → ⊥)

abbrev pub IsWrongWithin : Line → ℕ → Type 0
IsWrongWithin l m = (m < count l.instr) × IsWrongWord l m

-- so has one of its words, which are at most three
abbrev pub HasWrongWord : Line → Type 0
HasWrongWord l = IsWrongWithin l 0 ⊎ (IsWrongWithin l 1 ⊎ IsWrongWithin l 2)

-- RETI, or a write of SR or PC that no unit has
abbrev pub HasForbiddenWrite : Line → Type 0
HasForbiddenWrite l = IsReti l.instr ⊎ ((WritesReg l.instr SR × (ChangesFlags l.instr l.second → ⊥)) ⊎ (WritesReg l.instr PC × (SetsPc l.instr → ⊥)))

-- an operand that no unit has
abbrev pub HasForbiddenRead : Line → Type 0
HasForbiddenRead l = ReadsPc l.instr ⊎ (HasSymbolic l.instr ⊎ HasBadOperand l.instr)

abbrev pub IsForbidden : Line → Type 0
IsForbidden l = HasForbiddenWrite l ⊎ (HasForbiddenRead l ⊎ (HasForbiddenPop l.instr ⊎ (HasForbiddenStore l.instr ⊎ HasWrongWord l)))

-- ---- a target that isn't one

-- the offset of a start
unfoldable pub IsStartOffset : List ℕ → ℕ → Type 0
IsStartOffset code x = (t : ℕ) × Start code t × (x ≡ 2 * t)

-- a start so many words behind the jump at a place
unfoldable pub IsJumpStart : List ℕ → ℕ → ℤ → Type 0
IsJumpStart code at k = (t : ℕ) × Start code t × (pos t ≡ pos (at + 1) +ℤ k)

abbrev pub JumpMisses : List ℕ → ℕ → Instr → Type 0
JumpMisses code at (instr.Jump c k) = IsJumpStart code at k → ⊥
JumpMisses code at _ = ⊥

-- what source may name: F004 and F006 are for units alone
abbrev pub IsSourceJump : Kind → ℕ → Type 0
IsSourceJump kind x = IsJumpEntry kind x × (x ≢ GOES)

abbrev pub IsSourceCall : Kind → ℕ → Type 0
IsSourceCall kind x = IsCallEntry kind x × (x ≢ CALLS)

-- a word with this relocation names a start
abbrev pub NamesStart : List ℕ → ℕ → Option RelKind → Type 0
NamesStart code x k = (k ≡ Some Code) × IsStartOffset code x

abbrev pub IsSourceTarget : Object → ℕ → Option RelKind → Type 0
IsSourceTarget o x k = NamesStart o.code x k ⊎ ((k ≡ None) × IsSourceJump o.kind x)

abbrev pub IsSourceCallee : Object → ℕ → Option RelKind → Type 0
IsSourceCallee o x k = NamesStart o.code x k ⊎ ((k ≡ None) × IsSourceCall o.kind x)

-- what goes to PC is a constant, or an immediate that is no target
abbrev pub MissesTarget : Object → Src → Option RelKind → Type 0
MissesTarget o (src.Immediate x) k = IsSourceTarget o x k → ⊥
MissesTarget o (src.Const c) k = Unit {0}
MissesTarget o _ k = ⊥

abbrev pub MissesCallee : Object → Src → Option RelKind → Type 0
MissesCallee o (src.Immediate x) k = IsSourceCallee o x k → ⊥
MissesCallee o _ k = ⊥

-- a MOV to PC or a CALL
abbrev pub TransferMisses : Object → Line → Instr → Type 0
TransferMisses o l (instr.Two op w s d) = SetsPc (instr.Two op w s d) × MissesTarget o s l.second
TransferMisses o l (instr.One op w s) = IsCall op × MissesCallee o s l.second
TransferMisses o l _ = ⊥

-- an operand's word to which the code's address is added isn't a start's offset
abbrev pub WordMisses : List ℕ → Option RelKind → List ℕ → Type 0
WordMisses code k [] = ⊥
WordMisses code k (x ∷ xs) = (k ≡ Some Code) × (IsStartOffset code x → ⊥)

abbrev pub OperandsMiss : List ℕ → Piece → Instr → Type 0
OperandsMiss code p (instr.Two op w s d) = WordMisses code p.source (src_words s) ⊎ WordMisses code p.destination (dst_words d)
OperandsMiss code p (instr.One op w s) = WordMisses code p.source (src_words s)
OperandsMiss code p _ = ⊥

abbrev pub PieceMisses : List ℕ → Piece → Type 0
PieceMisses code p = OperandsMiss code p p.instr

-- the last instruction is neither JMP nor a MOV to PC
abbrev pub RunsOut : List ℕ → Line → Type 0
RunsOut code l = (l.at + count l.instr ≡ length code) × (IsJmp l.instr → ⊥) × (SetsPc l.instr → ⊥)

abbrev pub GoesWrong : Object → Line → Type 0
GoesWrong o l = JumpMisses o.code l.at l.instr ⊎ (TransferMisses o l l.instr ⊎ (PieceMisses o.code (own l) ⊎ RunsOut o.code l))

-- ---- where a fault is

-- a line has a fault of a kind
abbrev pub LineHas : InsertKind → Object → Line → Type 0
LineHas NotDecoded o l = ⊥
LineHas UsesCheckRegister o l = UsesCheck l.instr
LineHas Forbidden o l = IsForbidden l
LineHas BadTarget o l = GoesWrong o l
LineHas TooLarge o l = ⊥

-- one of these lines has it, at an offset
unfoldable pub LinesHave : Object → List Line → InsertKind → ℕ → Type 0
LinesHave o ls k x = Any (λ (l : Line). (x ≡ 2 * l.at) × LineHas k o l) ls

-- a relocation of static data adds the code's address to a word that isn't a start's offset. Its offset is counted on from the
-- code's end
abbrev pub DatumMisses : Object → Reloc → ℕ → Type 0
DatumMisses o r x = (r.in_code ≡ false) × (r.kind ≡ Code) × (IsStartOffset o.code (word_in o.init r.offset) → ⊥) × (x ≡ 2 * length o.code + r.offset)

unfoldable pub DataMiss : Object → List Reloc → ℕ → Type 0
DataMiss o rs x = Any (λ (r : Reloc). DatumMisses o r x) rs

abbrev pub EntryMisses : Object → ℕ → Type 0
EntryMisses o x = (o.kind ≡ App) × (IsStartOffset o.code o.entry → ⊥) × (x ≡ o.entry)

abbrev pub ExportMisses : Object → Export → ℕ → Type 0
ExportMisses o e x = (IsStartOffset o.code e.offset → ⊥) × (x ≡ e.offset)

unfoldable pub ExportsMiss : Object → List Export → ℕ → Type 0
ExportsMiss o es x = Any (λ (e : Export). ExportMisses o e x) es

-- a fault of the middle three kinds at an offset
abbrev pub Hits : Object → InsertKind → ℕ → Type 0
Hits o k x = LinesHave o (lines (fields o)) k x ⊎ ((k ≡ BadTarget) × (EntryMisses o x ⊎ (ExportsMiss o o.exports x ⊎ DataMiss o o.relocs x)))

abbrev pub NoHit : Object → Type 0
NoHit o = (k : InsertKind) (x : ℕ) → Hits o k x → ⊥

-- a lesser offset comes before a greater, and at one offset a lesser kind before a greater
abbrev pub Precedes : (k : InsertKind) (x : ℕ) (j : InsertKind) (y : ℕ) → Type 0
Precedes k x j y = (x < y) ⊎ ((x ≡ y) × (number k ≤ number j))

pub record IsFirst (o : Object) (k : InsertKind) (x : ℕ) : Type 0 where
  pub hit : Hits o k x
  pub first : (j : InsertKind) (y : ℕ) → Hits o j y → Precedes k x j y

-- the most words of code
unfoldable pub most_words : ℕ
most_words = CODE_WORDS_MAX

-- the units of the groups before this one fit, and its own passes the most words. The offset is that of the group's first
-- instruction
pub record Passes (o : Object) (x : ℕ) : Type 0 where
  pub before : List Group
  pub group : Group
  pub after : List Group
  pub are : groups (fields o) ≡ before ++ group ∷ after
  pub is : x ≡ 2 * group.head.at
  pub fits : length (units (final (fields o)) (static_bytes (fields o)) before) ≤ most_words
  pub passes : most_words < length (units (final (fields o)) (static_bytes (fields o)) (before ++ group ∷ []))

-- ---- the answer

pub record IsUndecoded (o : Object) (x : ℕ) : Type 0 where
  pub place : ℕ
  pub bad : Bad o.code place
  pub is : x ≡ 2 * place

-- one of the middle three kinds is the first fault
pub record IsFirstFault (o : Object) (k : InsertKind) (x : ℕ) : Type 0 where
  pub spelled : AllSpelled o
  pub first : IsFirst o k x

pub record IsTooLarge (o : Object) (x : ℕ) : Type 0 where
  pub spelled : AllSpelled o
  pub clean : NoHit o
  pub passes : Passes o x

-- where an instruction isn't spelled, that alone decides, and the size decides only where nothing else does
abbrev pub IsFault : Object → InsertKind → ℕ → Type 0
IsFault o NotDecoded x = IsUndecoded o x
IsFault o UsesCheckRegister x = IsFirstFault o UsesCheckRegister x
IsFault o Forbidden x = IsFirstFault o Forbidden x
IsFault o BadTarget x = IsFirstFault o BadTarget x
IsFault o TooLarge x = IsTooLarge o x

pub record IsInserted (o q : Object) : Type 0 where
  pub spelled : AllSpelled o
  pub clean : NoHit o
  pub fits : length (final_units (fields o)) ≤ most_words
  pub is : fields q ≡ inserted o

abbrev pub IsAnswer : Object → Result Object InsertFault → Type 0
IsAnswer o (Ok q) = IsInserted o q
IsAnswer o (Err (At k x)) = IsFault o k x
IsAnswer o (Err Memory) = Unit {0}

-- the same answer, unless memory runs out
abbrev pub SameAnswer : (a b : Result Object InsertFault) → Type 0
SameAnswer (Err Memory) b = Unit {0}
SameAnswer (Ok p) (Err Memory) = Unit {0}
SameAnswer (Err (At k x)) (Err Memory) = Unit {0}
SameAnswer (Ok p) (Ok q) = p ≡ q
SameAnswer (Err (At k x)) (Err (At j y)) = (k ≡ j) × (x ≡ y)
SameAnswer (Ok p) (Err (At k x)) = ⊥
SameAnswer (Err (At k x)) (Ok p) = ⊥
