-- Instructions that are dangerous outside of a guard.
use Rattle.std.specs.Prelude.{ℕ, ◌+◌, ◌⊎◌, length}
use Rattle.msp_encode.specs.declared.registers.TheConstants.{PC, SP, SR}
use Rattle.msp_encode.specs.declared.instr.Src.{Src}
use Rattle.msp_encode.specs.declared.instr.Src.TheVariants as src
use Rattle.msp_encode.specs.declared.instr.Dst.{Dst}
use Rattle.msp_encode.specs.declared.instr.Dst.TheVariants as dst
use Rattle.msp_encode.specs.declared.instr.Instr.{Instr}
use Rattle.msp_encode.specs.declared.instr.Instr.TheVariants as instr
use Rattle.msp_encode.specs.Spelling.{src_words}
use Rattle.msp_encode.specs.Forms.{Writes, Changes, Pops, IsReti, WritesReg}
use Rattle.code_model.specs.declared.object.Object.{Object}
use Rattle.code_model.specs.Starts.{Stands, Start}
use Rattle.code_model.specs.Guards.{Interior}
use Rattle.code_model.specs.Rules.{IsBranch, ChangesFlags, WritesMemory, ReadsStack, IsPushOrCall, IsBranchTarget}
use Rattle.code_model.specs.Statics.{InStatic}

abbrev pub IsAbsoluteDst : Dst → Type 0
IsAbsoluteDst (dst.Absolute x) = Unit {0}
IsAbsoluteDst _ = ⊥

abbrev pub IsAbsoluteSrc : Src → Type 0
IsAbsoluteSrc (src.Absolute x) = Unit {0}
IsAbsoluteSrc _ = ⊥

abbrev pub WritesAbsolute : Instr → Type 0
WritesAbsolute (instr.Two op w s d) = Writes op × IsAbsoluteDst d
WritesAbsolute (instr.One op w s) = Changes op × IsAbsoluteSrc s
WritesAbsolute _ = ⊥

-- `MOV #imm,PC` with an allowed target
abbrev pub IsGoodBranch : Object → ℕ → Instr → Type 0
IsGoodBranch o at (instr.Two op w s d) = IsBranch (instr.Two op w s d) × IsBranchTarget o (at + 1) s
IsGoodBranch o at _ = ⊥

abbrev pub IsStaticDst : Object → ℕ → Dst → Type 0
IsStaticDst o at (dst.Absolute x) = InStatic o at x
IsStaticDst o at _ = ⊥

abbrev pub IsStaticSrc : Object → ℕ → Src → Type 0
IsStaticSrc o at (src.Absolute x) = InStatic o at x
IsStaticSrc o at _ = ⊥

-- an absolute operand in the static part is written, and @SP+ isn't read
abbrev pub IsStaticWrite : Object → ℕ → Instr → Type 0
IsStaticWrite o at (instr.Two op w s d) = Writes op × IsStaticDst o (at + 1 + length (src_words s)) d × (Pops s SP → ⊥)
IsStaticWrite o at (instr.One op w s) = Changes op × IsStaticSrc o (at + 1) s
IsStaticWrite o at _ = ⊥

-- what an instruction does that may be dangerous
abbrev pub Acts : Instr → Type 0
Acts i = WritesMemory i ⊎ (WritesAbsolute i ⊎ (WritesReg i PC ⊎ (WritesReg i SP ⊎ (WritesReg i SR ⊎ (ReadsStack i ⊎ (IsPushOrCall i ⊎ IsReti i))))))

pub record IsDangerous (o : Object) (at : ℕ) (i : Instr) : Type 0 where
  pub acts : Acts i
  pub no_branch : IsGoodBranch o at i → ⊥
  pub no_flags : ChangesFlags o at i × WritesReg i SR → ⊥
  pub no_static : IsStaticWrite o at i → ⊥

-- each start whose instruction is dangerous is interior
abbrev pub DangersGuarded : Object → Type 0
DangersGuarded o = (at : ℕ) (i : Instr) (n : ℕ) → Start o.code at → Stands o.code at i n → IsDangerous o at i → Interior o at
