-- Nothing is wrong with the lines of a block at its place.
use Rattle.std.proofs.Common.{◌≡◌, ℕ, ◌+◌, ◌<◌, List, [], ◌∷◌, length, Option, None, Some, refl, sym, ap, subst, ◌∙◌, arith}
use Rattle.msp_encode.specs.declared.instr.Op2.TheVariants.{Mov, Add, Xor}
use Rattle.msp_encode.specs.declared.instr.Instr.{Instr}
use Rattle.code_model.specs.declared.object.Object.{Object}
use Rattle.kernel_model.specs.declared.kinds.Kind.TheVariants.{App}
use Rattle.code_model.specs.declared.parts.RelKind.{RelKind}
use Rattle.code_model.specs.declared.parts.RelKind.TheVariants.{Code, Data}
use Rattle.code_model.specs.declared.parts.Reloc.{Reloc}
use Rattle.code_model.specs.Starts.{Start}
use Rattle.insert_model.specs.declared.line.Line.{Line}
use Rattle.msp_encode.specs.Spelled.{count}
use Rattle.insert_model.specs.Source.{kind_at, kind_within, line_at}
use Rattle.insert_model.specs.Faults.{IsStartOffset}
use Rattle.insert_laws.specs.Shapes.{IsCleanLine}
use Rattle.insert_laws.proofs.CleanLines.{AllClean}
use Rattle.gen_model.specs.declared.block.Block as blocks
use Rattle.gen_model.specs.declared.block.Block.TheVariants as block
use Rattle.gen_model.specs.Blocks.{words}
use Rattle.gen_laws.specs.Instructions.{instrs, Suits}
use Rattle.gen_laws.proofs.SecondWords.{KindsAre}
use Rattle.gen_laws.proofs.CleanLines.{line_of, no_code_none, no_code_data, registers_clean, immediate_clean, keep_clean, store_clean, push_clean, pop_clean, halve_clean, skip_clean, emit_clean, restart_clean}

-- the lines of instructions, the first of which stands at a place
abbrev pub lines_for : List Reloc → ℕ → List Instr → List Line
lines_for relocs at [] = []
lines_for relocs at (i ∷ is) = line_at relocs at i ∷ lines_for relocs (at + count i) is

line_is : (relocs : List Reloc) (at : ℕ) (i : Instr) (k : Option RelKind) → kind_at relocs at ≡ None → kind_within relocs at (count i) 1 ≡ k → kind_within relocs at (count i) 2 ≡ None
    → line_at relocs at i ≡ line_of at i k
unfolding line_at
line_is relocs at i k e f g = λ t. record { at = at; instr = i; first = e t; second = f t; third = g t }

-- a block is followed by another
pub record GoesOn (o : Object) (end : ℕ) : Type 0 where
  pub inside : end < length o.code
  pub start : Start o.code end

-- but for the last
abbrev pub After : Object → ℕ → blocks.Block → Type 0
After o at block.Restart = Unit {0}
After o at b = GoesOn o (at + length (words b))

pub goes_on : (o : Object) (at : ℕ) (b : blocks.Block) → GoesOn o (at + length (words b)) → After o at b
goes_on o at (block.Set to value) h = h
goes_on o at (block.Add from to) h = h
goes_on o at (block.Xor from to) h = h
goes_on o at (block.Keep from place) h = h
goes_on o at (block.Store from place) h = h
goes_on o at (block.Pass from to) h = h
goes_on o at (block.Halve to) h = h
goes_on o at (block.Skip from to) h = h
goes_on o at (block.Emit from) h = h
goes_on o at block.Restart h = tt

-- a block at its place
pub record Placed (o : Object) (at : ℕ) (b : blocks.Block) : Type 0 where
  pub kinds_are : KindsAre o.relocs at b
  pub after : After o at b
  pub begin : IsStartOffset o.code 0
  pub app : o.kind ≡ App

module _ (o : Object) where
  -- a line of one word, and one of two
  short : (at : ℕ) (i : Instr) → count i ≡ 1 → kind_at o.relocs at ≡ None → IsCleanLine o (line_of at i None) → IsCleanLine o (line_at o.relocs at i)
  short at i c e h = subst (IsCleanLine o) (sym (line_is o.relocs at i None e (ap (λ (n : ℕ). kind_within o.relocs at n 1) c) (ap (λ (n : ℕ). kind_within o.relocs at n 2) c))) h

  long : (at : ℕ) (i : Instr) (k : Option RelKind) → count i ≡ 2 → kind_at o.relocs at ≡ None → kind_at o.relocs (at + 1) ≡ k → IsCleanLine o (line_of at i k) → IsCleanLine o (line_at o.relocs at i)
  long at i k c e f h = subst (IsCleanLine o) (sym (line_is o.relocs at i k e (ap (λ (n : ℕ). kind_within o.relocs at n 1) c ∙ f) (ap (λ (n : ℕ). kind_within o.relocs at n 2) c))) h

  pub block_clean : (at : ℕ) (b : blocks.Block) → Suits b → Placed o at b → AllClean o (lines_for o.relocs at (instrs b))
  block_clean at (block.Set to value) s p =
      (long at _ None refl p.kinds_are.first (p.kinds_are.next (omega arith)) (immediate_clean o at Mov value to None no_code_none s p.after.inside), tt)
  block_clean at (block.Add from to) s p = (short at _ refl p.kinds_are.first (registers_clean o at Add from to s.0 s.1 p.after.inside), tt)
  block_clean at (block.Xor from to) s p = (short at _ refl p.kinds_are.first (registers_clean o at Xor from to s.0 s.1 p.after.inside), tt)
  block_clean at (block.Keep from place) s p = (long at _ (Some Data) refl p.kinds_are.first (p.kinds_are.next (omega arith)) (keep_clean o at from place s.0 p.after.inside), tt)
  block_clean at (block.Store from place) s p = (
    long at _ (Some Data) refl p.kinds_are.first (p.kinds_are.next (omega arith))
        (immediate_clean o at Mov place 12 (Some Data) no_code_data (record { least = omega arith; most = omega arith }) (omega (arith, p.after.inside))),
    (
      long (at + 2) _ None refl (p.kinds_are.more (at + 2) (omega arith) (omega arith)) (p.kinds_are.more (at + 2 + 1) (omega arith) (omega arith))
          (store_clean o (at + 2) from s (omega (arith, p.after.inside))),
      tt,
    ),
  )
  block_clean at (block.Pass from to) s p = (
    short at _ refl p.kinds_are.first (push_clean o at from s.0 (omega (arith, p.after.inside))),
    (short (at + 1) _ refl (p.kinds_are.next (omega arith)) (pop_clean o (at + 1) to s.1 (omega (arith, p.after.inside))), tt),
  )
  block_clean at (block.Halve to) s p = (short at _ refl p.kinds_are.first (halve_clean o at to s p.after.inside), tt)
  block_clean at (block.Skip from to) s p = (
    short at _ refl p.kinds_are.first (skip_clean o at p.after.start (omega (arith, p.after.inside))),
    (short (at + 1) _ refl (p.kinds_are.next (omega arith)) (registers_clean o (at + 1) Mov from to s.0 s.1 (omega (arith, p.after.inside))), tt),
  )
  block_clean at (block.Emit from) s p = (
    short at _ refl p.kinds_are.first (registers_clean o at Mov from 12 s (record { least = omega arith; most = omega arith }) (omega (arith, p.after.inside))),
    (
      long (at + 1) _ None refl (p.kinds_are.next (omega arith)) (p.kinds_are.more (at + 1 + 1) (omega arith) (omega arith))
          (emit_clean o (at + 1) p.app (omega (arith, p.after.inside))),
      tt,
    ),
  )
  block_clean at block.Restart s p = (long at _ (Some Code) refl p.kinds_are.first (p.kinds_are.next (omega arith)) (restart_clean o at p.begin), tt)
