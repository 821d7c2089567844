-- Laws of the checker's definitions.
use Rattle.std.specs.Prelude.{◌≡◌, ℕ, ◌+◌, ◌<◌, ◌≤◌, List, length, ℤ}
use Rattle.msp_encode.specs.declared.instr.Op1.{Op1}
use Rattle.msp_encode.specs.declared.instr.Op2.{Op2}
use Rattle.msp_encode.specs.declared.instr.Width.{Width}
use Rattle.msp_encode.specs.declared.instr.Cond.{Cond}
use Rattle.msp_encode.specs.declared.instr.Src.{Src}
use Rattle.msp_encode.specs.declared.instr.Dst.{Dst}
use Rattle.msp_encode.specs.declared.instr.Instr.{Instr}
use Rattle.msp_encode.specs.declared.instr.Instr.TheVariants as instr
use Rattle.msp_encode.specs.Forms.{IsCall}
use Rattle.code_model.specs.declared.object.Object.{Object}
use Rattle.code_model.specs.declared.guards.GuardKind.{GuardKind}
use Rattle.code_model.specs.declared.verdict.Verdict.{Verdict}
use Rattle.code_model.specs.Starts.{Stands, Start}
use Rattle.code_model.specs.Guards.{Guarded, Own, Interior, UnitStart, most_served}
use Rattle.code_model.specs.Rules.{IsNamed, IsBranch, IsBranchTarget, IsCallTarget, IsJumpTarget}
use Rattle.code_model.specs.Verdicts.{IsAccepted, IsVerdict, SameVerdict}
use Rattle.code_model.specs.Dangers.{DangersGuarded}

-- ---- starts

-- one instruction of one length stands at a place
pub record IsSame (i j : Instr) (m n : ℕ) : Type 0 where
  pub instr : i ≡ j
  pub words : m ≡ n

abbrev pub OneStands : Type 0
OneStands = (code : List ℕ) (at : ℕ) (i j : Instr) (m n : ℕ) → Stands code at i m → Stands code at j n → IsSame i j m n

-- behind the instruction at a start the next start lies, if the code goes on there
abbrev pub NextStart : Type 0
NextStart = (code : List ℕ) (at : ℕ) (i : Instr) (n : ℕ) → Start code at → Stands code at i n → at + n < length code → Start code (at + n)

-- and no start lies between
abbrev pub StartsApart : Type 0
StartsApart = (code : List ℕ) (a b : ℕ) (i : Instr) (n : ℕ) → Start code a → Stands code a i n → Start code b → a < b → a + n ≤ b

-- ---- guards

-- the instruction just before an interior place is among the words of the same guard
abbrev pub BeforeInterior : Type 0
BeforeInterior = (o : Object) (at a b : ℕ) (g : GuardKind) (i : Instr) (n : ℕ) (h : Guarded o a g) → h.first < at → at ≤ a
    → Start o.code b → Stands o.code b i n → b + n ≡ at → h.first ≤ b

pub record IsOneGuard (o : Object) (a b : ℕ) (g k : GuardKind) (h : Guarded o a g) (j : Guarded o b k) : Type 0 where
  pub kind : g ≡ k
  pub first : h.first ≡ j.first

-- two guards, with the instructions that they serve, share a place p only where they are one
abbrev pub GuardsApart : Type 0
GuardsApart = (o : Object) (a b p : ℕ) (g k : GuardKind) (h : Guarded o a g) (j : Guarded o b k)
    → h.first ≤ p → p ≤ a → j.first ≤ p → p ≤ b → IsOneGuard o a b g k h j

-- where a unit start's instruction goes on to a place behind a guard's first, it is that guard's first
abbrev pub GoesOnFirst : Type 0
GoesOnFirst = (o : Object) (at a : ℕ) (g : GuardKind) (i : Instr) (n : ℕ) (h : Guarded o a g) → UnitStart o at → Stands o.code at i n
    → h.first < at + n → at + n ≤ a → at ≡ h.first

-- the guard of an instruction serves what stands behind it too
pub record GoesOn (o : Object) (at : ℕ) (g : GuardKind) (h : Guarded o at g) : Type 0 where
  pub guarded : Guarded o (at + h.words) g
  pub first : guarded.first ≡ h.first

-- what stands behind a guarded instruction is served by the same guard, where it is interior
abbrev pub GuardedGoesOn : Type 0
GuardedGoesOn = (o : Object) (at : ℕ) (g : GuardKind) (h : Guarded o at g) → Interior o (at + h.words) → GoesOn o at g h

-- behind the instruction of a guard that serves no other a unit starts, if the code goes on there
abbrev pub GuardedLeaves : Type 0
GuardedLeaves = (o : Object) (at : ℕ) (g : GuardKind) (h : Guarded o at g) → most_served g ≡ 1 → at + h.words < length o.code → UnitStart o (at + h.words)

-- a guarded instruction is none of a guard's own
abbrev pub GuardedFree : Type 0
GuardedFree = (o : Object) (at : ℕ) (g : GuardKind) → Guarded o at g → Own o at → ⊥

-- ---- accepted objects

-- a jump that is none of a guard's own goes to a unit start
abbrev pub JumpLands : Type 0
JumpLands = (o : Object) (units : List ℕ) (at n : ℕ) (c : Cond) (k : ℤ) → IsAccepted o units → Start o.code at → Stands o.code at (instr.Jump c k) n
    → (Own o at → ⊥) → IsJumpTarget o at k

-- a branch goes to a unit start or an entry that branches may go to
abbrev pub BranchLands : Type 0
BranchLands = (o : Object) (units : List ℕ) (at n : ℕ) (op : Op2) (w : Width) (s : Src) (d : Dst) → IsAccepted o units → Start o.code at
    → Stands o.code at (instr.Two op w s d) n → (Own o at → ⊥) → IsBranch (instr.Two op w s d) → IsBranchTarget o (at + 1) s

-- a call goes to a unit start or an entry that calls may go to
abbrev pub CallLands : Type 0
CallLands = (o : Object) (units : List ℕ) (at n : ℕ) (op : Op1) (w : Width) (s : Src) → IsAccepted o units → Start o.code at
    → Stands o.code at (instr.One op w s) n → (Own o at → ⊥) → IsCall op → IsCallTarget o (at + 1) s

-- the entry and the exports are unit starts
abbrev pub NamedUnits : Type 0
NamedUnits = (o : Object) (units : List ℕ) (at : ℕ) → IsAccepted o units → IsNamed o at → UnitStart o at

-- each dangerous instruction is guarded
abbrev pub AcceptedGuarded : Type 0
AcceptedGuarded = (o : Object) (units : List ℕ) → IsAccepted o units → DangersGuarded o

-- an object has one verdict
abbrev pub OneVerdict : Type 0
OneVerdict = (o : Object) (u v : Verdict) → IsVerdict o u → IsVerdict o v → SameVerdict u v
