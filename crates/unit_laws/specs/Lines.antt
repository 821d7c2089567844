-- The lines of the guards, and what each does.
use Rattle.std.specs.Prelude.{◌≡◌, ℕ, ◌+◌, ◌*◌, ◌%◌, ◌<◌, ◌≤◌, ◌⊎◌, ◌==◌, nat_le, if◌then◌else◌, List, pos}
use Rattle.machine_model.specs.Memory.{word_at}
use Rattle.machine_model.specs.Context.{reg, IsContext}
use Rattle.machine_model.specs.Status.{carry, is_zero}
use Rattle.machine_model.specs.Operands.{sum_of}
use Rattle.machine_model.specs.Alu.{alu}
use Rattle.machine_model.specs.Does.{does, holds}
use Rattle.msp_encode.specs.declared.registers.TheConstants.{PC, SP, SR, CHECKED, KEPT_STATUS}
use Rattle.msp_encode.specs.declared.instr.Width.TheVariants.{Wide}
use Rattle.msp_encode.specs.declared.instr.Cg.TheVariants.{Zero}
use Rattle.msp_encode.specs.declared.instr.Op2.TheVariants.{Mov, Add, Cmp}
use Rattle.msp_encode.specs.declared.instr.Src.{Src}
use Rattle.msp_encode.specs.declared.instr.Src.TheVariants as src
use Rattle.msp_encode.specs.declared.instr.Dst.TheVariants as dst
use Rattle.msp_encode.specs.declared.instr.Cond.{Cond}
use Rattle.msp_encode.specs.declared.instr.Instr.{Instr}
use Rattle.msp_encode.specs.declared.instr.Instr.TheVariants as instr
use Rattle.unit_laws.specs.Running.{held, silent}
use Rattle.kernel_model.specs.declared.map.TheConstants.{STACK_LIMIT, STACK_TOP}

pub data Line : Type 0 where
  -- `MOV SR,R5`, 4205
  Saves : Line
  -- `MOV Rn,R4`, 4n04, or `MOV #0,R4`, 4304, for n 3
  Loads : (n : ℕ) → Line
  -- `ADD #x,R4`, 5034 x
  Adds : (x : ℕ) → Line
  -- `CMP #v,R4`, 9034 v
  Compares : (v : ℕ) → Line
  -- `CMP &0200,SP`, 9211 0200
  ComparesSp : Line
  -- `CMP SP,&0202`, 9182 0202
  ComparesTop : Line
  -- `CMP &0200,R4`, 9214 0200
  ComparesNew : Line
  -- `CMP R4,&0202`, 9482 0202
  ComparesNewTop : Line
  -- a jump forward over k words
  Jumps : Cond → (k : ℕ) → Line
  -- `MOV #v,PC`, 4030 v
  Branches : (v : ℕ) → Line
  -- `MOV R5,SR`, 4502
  Restores : Line

-- R3 reads 0
abbrev pub load : ℕ → Src
load n = if n == 3 then src.Const Zero else src.Reg n

abbrev pub instr_of : Line → Instr
instr_of Saves = instr.Two Mov Wide (src.Reg SR) (dst.Reg KEPT_STATUS)
instr_of (Loads n) = instr.Two Mov Wide (load n) (dst.Reg CHECKED)
instr_of (Adds x) = instr.Two Add Wide (src.Immediate x) (dst.Reg CHECKED)
instr_of (Compares v) = instr.Two Cmp Wide (src.Immediate v) (dst.Reg CHECKED)
instr_of ComparesSp = instr.Two Cmp Wide (src.Absolute STACK_LIMIT) (dst.Reg SP)
instr_of ComparesTop = instr.Two Cmp Wide (src.Reg SP) (dst.Absolute STACK_TOP)
instr_of ComparesNew = instr.Two Cmp Wide (src.Absolute STACK_LIMIT) (dst.Reg CHECKED)
instr_of ComparesNewTop = instr.Two Cmp Wide (src.Reg CHECKED) (dst.Absolute STACK_TOP)
instr_of (Jumps c k) = instr.Jump c (pos k)
instr_of (Branches v) = instr.Two Mov Wide (src.Immediate v) (dst.Reg PC)
instr_of Restores = instr.Two Mov Wide (src.Reg KEPT_STATUS) (dst.Reg SR)

abbrev pub words_of : Line → ℕ
words_of Saves = 1
words_of (Loads n) = 1
words_of (Adds x) = 2
words_of (Compares v) = 2
words_of ComparesSp = 2
words_of ComparesTop = 2
words_of ComparesNew = 2
words_of ComparesNewTop = 2
words_of (Jumps c k) = 1
words_of (Branches v) = 2
words_of Restores = 1

-- a register that an address is made of in source code: SP, R3 for 0, or R6 to R15
abbrev pub IsIndexed : ℕ → Type 0
IsIndexed n = (n ≡ 1) ⊎ ((n ≡ 3) ⊎ ((6 ≤ n) × (n < 16)))

abbrev pub IsLine : Line → Type 0
IsLine Saves = Unit {0}
IsLine (Loads n) = IsIndexed n
IsLine (Adds x) = x < 65536
IsLine (Compares v) = v < 65536
IsLine ComparesSp = Unit {0}
IsLine ComparesTop = Unit {0}
IsLine ComparesNew = Unit {0}
IsLine ComparesNewTop = Unit {0}
IsLine (Jumps c k) = Unit {0}
IsLine (Branches v) = v % 2 ≡ 0
IsLine Restores = Unit {0}

-- SR after s was compared with d
abbrev pub compared : (s d sr : ℕ) → ℕ
compared s d sr = (alu Cmp Wide s d sr).status

-- ---- the four registers after a line

abbrev pub pc_after : Line → (pc sr : ℕ) → ℕ
pc_after Saves pc sr = pc + 2
pc_after (Loads n) pc sr = pc + 2
pc_after (Adds x) pc sr = pc + 4
pc_after (Compares v) pc sr = pc + 4
pc_after ComparesSp pc sr = pc + 4
pc_after ComparesTop pc sr = pc + 4
pc_after ComparesNew pc sr = pc + 4
pc_after ComparesNewTop pc sr = pc + 4
pc_after (Jumps c k) pc sr = if holds c sr then pc + (2 + 2 * k) else pc + 2
pc_after (Branches v) pc sr = v
pc_after Restores pc sr = pc + 2

abbrev pub sr_after : Line → (m r : List ℕ) → (sr x y : ℕ) → ℕ
sr_after Saves m r sr x y = sr
sr_after (Loads n) m r sr x y = sr
sr_after (Adds v) m r sr x y = (alu Add Wide v x sr).status
sr_after (Compares v) m r sr x y = compared v x sr
sr_after ComparesSp m r sr x y = compared (word_at m STACK_LIMIT) (reg r SP) sr
sr_after ComparesTop m r sr x y = compared (reg r SP) (word_at m STACK_TOP) sr
sr_after ComparesNew m r sr x y = compared (word_at m STACK_LIMIT) x sr
sr_after ComparesNewTop m r sr x y = compared x (word_at m STACK_TOP) sr
sr_after (Jumps c k) m r sr x y = sr
sr_after (Branches v) m r sr x y = sr
sr_after Restores m r sr x y = y

abbrev pub r4_after : Line → (r : List ℕ) → (x : ℕ) → ℕ
r4_after Saves r x = x
r4_after (Loads n) r x = reg r n
r4_after (Adds v) r x = sum_of v x
r4_after (Compares v) r x = x
r4_after ComparesSp r x = x
r4_after ComparesTop r x = x
r4_after ComparesNew r x = x
r4_after ComparesNewTop r x = x
r4_after (Jumps c k) r x = x
r4_after (Branches v) r x = x
r4_after Restores r x = x

abbrev pub r5_after : Line → (sr y : ℕ) → ℕ
r5_after Saves sr y = sr
r5_after (Loads n) sr y = y
r5_after (Adds x) sr y = y
r5_after (Compares v) sr y = y
r5_after ComparesSp sr y = y
r5_after ComparesTop sr y = y
r5_after ComparesNew sr y = y
r5_after ComparesNewTop sr y = y
r5_after (Jumps c k) sr y = y
r5_after (Branches v) sr y = y
r5_after Restores sr y = y

-- a line writes nothing, and leaves the other registers
abbrev pub LineLaw : Type 0
LineLaw = (l : Line) (m r : List ℕ) (pc sr x y : ℕ) → IsContext r → IsContext (held r pc sr x y) → IsLine l → pc_after l pc sr < 65536
    → does m (held r pc sr x y) (instr_of l) (words_of l) ≡ silent (held r (pc_after l pc sr) (sr_after l m r sr x y) (r4_after l r x) (r5_after l sr y))

-- what a comparison of two words tells
pub record Tells (s d sr : ℕ) : Type 0 where
  pub least : carry (compared s d sr) ≡ nat_le s d
  pub same : is_zero (compared s d sr) ≡ (d == s)

abbrev pub ComparedLaw : Type 0
ComparedLaw = (s d sr : ℕ) → s < 65536 → d < 65536 → Tells s d sr
