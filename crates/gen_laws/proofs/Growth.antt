-- How many words the units of a block have.
use Rattle.std.proofs.Common.{◌≡◌, ℕ, ◌+◌, ◌*◌, ◌≤◌, nat_eq, nat_le, if◌then◌else◌, Bool, true, false, List, [], ◌∷◌, ◌++◌, length, map, pos, Option, refl, ap, ◌∙◌, length-append, arith, rules}
use Rattle.std.specs.List.{range_with_len}
use Rattle.std.proofs.lemmas.List.Concat.{flat_map-append}
use Rattle.std.proofs.lemmas.List.FromFn.{length-map-range_with_len}
use Rattle.msp_encode.specs.declared.instr.Op2.{Op2}
use Rattle.msp_encode.specs.declared.instr.Op2.TheVariants.{Mov, Add, Xor}
use Rattle.msp_encode.specs.declared.instr.Op1.TheVariants.{Rra, Push, Call}
use Rattle.msp_encode.specs.declared.instr.Cond.TheVariants.{Ne}
use Rattle.msp_encode.specs.declared.instr.Width.TheVariants.{Wide}
use Rattle.msp_encode.specs.declared.instr.Src.{Src}
use Rattle.msp_encode.specs.declared.instr.Src.TheVariants as src
use Rattle.msp_encode.specs.declared.instr.Dst.TheVariants as dst
use Rattle.msp_encode.specs.declared.instr.Instr.TheVariants as instr
use Rattle.msp_encode.specs.Forms.{writes}
use Rattle.code_model.specs.declared.parts.RelKind.{RelKind}
use Rattle.code_model.specs.declared.parts.Reloc.{Reloc}
use Rattle.code_model.specs.Fields.{Fields}
use Rattle.insert_model.specs.declared.aim.Aim.TheVariants.{ToMemory, Elsewhere}
use Rattle.insert_model.specs.declared.line.Line.{Line}
use Rattle.insert_model.specs.declared.piece.Piece.{Piece}
use Rattle.insert_model.specs.Words.{piece_words, unit_words}
use Rattle.insert_model.specs.Source.{line_at, own}
use Rattle.insert_model.specs.Guards.{pop_guard}
use Rattle.insert_model.specs.Units.{static_bytes, aim, is_static, is_popped, writing, popping, two_unit, unit}
use Rattle.insert_model.specs.Laws.{line_units}
use Rattle.insert_laws.specs.Pieces.{size_of}
use Rattle.gen_model.specs.declared.block.Block as blocks
use Rattle.gen_model.specs.declared.block.Block.TheVariants as block
use Rattle.gen_model.specs.Generated as gen
use Rattle.gen_laws.specs.Instructions.{instrs, all_instrs, IsFree, Suits, AllSuit}
use Rattle.gen_laws.proofs.CleanBlocks.{lines_for}
use Rattle.gen_laws.proofs.MadeLines.{lines_apart}
use Rattle.kernel_model.specs.declared.entries.TheConstants.{EMITS}

-- ---- one instruction

-- the words of a line's unit
grown : ℕ → Line → ℕ
grown size l = length (unit_words (unit size l))

not_pc : (n : ℕ) → IsFree n → nat_eq n 0 ≡ false
not_pc n h = let g : 6 ≤ n = h.least in search rules

not_sp : (n : ℕ) → IsFree n → nat_eq n 1 ≡ false
not_sp n h = let g : 6 ≤ n = h.least in search rules

from_six : (n : ℕ) → IsFree n → nat_le 6 n ≡ true
from_six n h = let g : 6 ≤ n = h.least in search rules

free_aim : (size to : ℕ) (k : Option RelKind) → IsFree to → aim size (dst.Reg to) k ≡ Elsewhere
free_aim size to k t = rw (not_pc to t, not_sp to t) refl

plain_two : (size : ℕ) (op : Op2) (s : Src) (to : ℕ) (p : Piece) → is_popped s ≡ false → writes op ≡ true → IsFree to → two_unit size op Wide s (dst.Reg to) p ≡ p ∷ []
plain_two size op s to p e f t = rw (e, f, free_aim size to p.destination t) refl

-- the most words of a block's units
abbrev pub growth : blocks.Block → ℕ
growth (block.Set to value) = 2
growth block.Restart = 2
growth b = 17

abbrev pub growth_of : List blocks.Block → ℕ
growth_of [] = 0
growth_of (b ∷ bs) = growth b + growth_of bs

module _ (f : Fields) (relocs : List Reloc) where
  abbrev size : ℕ
  size = static_bytes f

  registers_grown : (at : ℕ) (op : Op2) (from to : ℕ) → writes op ≡ true → IsFree to → grown size (line_at relocs at (instr.Two op Wide (src.Reg from) (dst.Reg to))) ≡ 1
  unfolding grown unit line_at unit_words piece_words
  registers_grown at op from to w t = ap (λ (ps : List Piece). length (unit_words ps)) (plain_two size op (src.Reg from) to _ refl w t)

  immediate_grown : (at : ℕ) (op : Op2) (x to : ℕ) → writes op ≡ true → IsFree to → grown size (line_at relocs at (instr.Two op Wide (src.Immediate x) (dst.Reg to))) ≡ 2
  unfolding grown unit line_at unit_words piece_words
  immediate_grown at op x to w t = ap (λ (ps : List Piece). length (unit_words ps)) (plain_two size op (src.Immediate x) to _ refl w t)

  keep_grown : (at from x : ℕ) → grown size (line_at relocs at (instr.Two Mov Wide (src.Reg from) (dst.Absolute x))) ≤ 15
  unfolding grown unit line_at unit_words piece_words
  keep_grown at from x = by (is_static size x (line_at relocs at (instr.Two Mov Wide (src.Reg from) (dst.Absolute x))).second)
    where
      by : (b : Bool)
          → length (unit_words (writing Mov Wide (src.Reg from) (own (line_at relocs at (instr.Two Mov Wide (src.Reg from) (dst.Absolute x)))) (if b then Elsewhere else ToMemory 3 x (own (line_at relocs at (instr.Two Mov Wide (src.Reg from) (dst.Absolute x)))).destination))) ≤ 15
      by true = omega arith
      by false = omega arith

  store_grown : (at from : ℕ) → grown size (line_at relocs at (instr.Two Mov Wide (src.Reg from) (dst.Indexed 12 0))) ≡ 15
  unfolding grown unit line_at unit_words piece_words
  store_grown at from = refl

  push_grown : (at from : ℕ) → grown size (line_at relocs at (instr.One Push Wide (src.Reg from))) ≡ 8
  unfolding grown unit line_at unit_words piece_words
  push_grown at from = refl

  pop_unit : (to : ℕ) (p : Piece) → IsFree to → popping Mov Wide (dst.Reg to) p ≡ pop_guard ++ p ∷ []
  pop_unit to p t = rw (not_pc to t, from_six to t) refl

  pop_grown : (at to : ℕ) → IsFree to → grown size (line_at relocs at (instr.Two Mov Wide (src.AutoInc 1) (dst.Reg to))) ≡ 8
  unfolding grown unit line_at unit_words piece_words
  pop_grown at to t = ap (λ (ps : List Piece). length (unit_words ps)) (pop_unit to _ t)

  halve_grown : (at to : ℕ) → grown size (line_at relocs at (instr.One Rra Wide (src.Reg to))) ≡ 1
  unfolding grown unit line_at unit_words piece_words
  halve_grown at to = refl

  skip_grown : (at : ℕ) → grown size (line_at relocs at (instr.Jump Ne (pos 1))) ≡ 4
  unfolding grown unit line_at unit_words piece_words
  skip_grown at = refl

  emit_grown : (at : ℕ) → grown size (line_at relocs at (instr.One Call Wide (src.Immediate EMITS))) ≡ 9
  unfolding grown unit line_at unit_words piece_words
  emit_grown at = refl

  restart_grown : (at : ℕ) → grown size (line_at relocs at (instr.Two Mov Wide (src.Immediate 0) (dst.Reg 0))) ≡ 2
  unfolding grown unit line_at unit_words piece_words
  restart_grown at = refl

  -- ---- a block

  line_and : (l : Line) (ls : List Line) → length (line_units f (l ∷ ls)) ≡ grown size l + length (line_units f ls)
  unfolding line_units grown
  line_and l ls = length-append (unit_words (unit size l)) (line_units f ls)

  no_lines : length (line_units f []) ≡ 0
  unfolding line_units
  no_lines = refl

  one_line : (l : Line) → length (line_units f (l ∷ [])) ≡ grown size l
  one_line l = omega (arith, line_and l [], no_lines)

  two_lines : (l m : Line) → length (line_units f (l ∷ m ∷ [])) ≡ grown size l + grown size m
  two_lines l m = omega (arith, line_and l (m ∷ []), one_line m)

  block_grown : (at : ℕ) (b : blocks.Block) → Suits b → length (line_units f (lines_for relocs at (instrs b))) ≤ growth b
  block_grown at (block.Set to value) s = omega (arith, one_line (line_at relocs at (instr.Two Mov Wide (src.Immediate value) (dst.Reg to))), immediate_grown at Mov value to refl s)
  block_grown at (block.Add from to) s = omega (arith, one_line (line_at relocs at (instr.Two Add Wide (src.Reg from) (dst.Reg to))), registers_grown at Add from to refl s.1)
  block_grown at (block.Xor from to) s = omega (arith, one_line (line_at relocs at (instr.Two Xor Wide (src.Reg from) (dst.Reg to))), registers_grown at Xor from to refl s.1)
  block_grown at (block.Keep from place) s = omega (arith, one_line (line_at relocs at (instr.Two Mov Wide (src.Reg from) (dst.Absolute place))), keep_grown at from place)
  block_grown at (block.Store from place) s =
      omega (
        arith,
        two_lines (line_at relocs at (instr.Two Mov Wide (src.Immediate place) (dst.Reg 12))) (line_at relocs (at + 2) (instr.Two Mov Wide (src.Reg from) (dst.Indexed 12 0))),
        immediate_grown at Mov place 12 refl (record { least = omega arith; most = omega arith }),
        store_grown (at + 2) from,
      )
  block_grown at (block.Pass from to) s =
      omega (
        arith,
        two_lines (line_at relocs at (instr.One Push Wide (src.Reg from))) (line_at relocs (at + 1) (instr.Two Mov Wide (src.AutoInc 1) (dst.Reg to))),
        push_grown at from,
        pop_grown (at + 1) to s.1,
      )
  block_grown at (block.Halve to) s = omega (arith, one_line (line_at relocs at (instr.One Rra Wide (src.Reg to))), halve_grown at to)
  block_grown at (block.Skip from to) s =
      omega (
        arith,
        two_lines (line_at relocs at (instr.Jump Ne (pos 1))) (line_at relocs (at + 1) (instr.Two Mov Wide (src.Reg from) (dst.Reg to))),
        skip_grown at,
        registers_grown (at + 1) Mov from to refl s.1,
      )
  block_grown at (block.Emit from) s =
      omega (
        arith,
        two_lines (line_at relocs at (instr.Two Mov Wide (src.Reg from) (dst.Reg 12))) (line_at relocs (at + 1) (instr.One Call Wide (src.Immediate EMITS))),
        registers_grown at Mov from 12 refl (record { least = omega arith; most = omega arith }),
        emit_grown (at + 1),
      )
  block_grown at block.Restart s = omega (arith, one_line (line_at relocs at (instr.Two Mov Wide (src.Immediate 0) (dst.Reg 0))), restart_grown at)

  -- ---- all blocks

  units_append : (xs ys : List Line) → length (line_units f (xs ++ ys)) ≡ length (line_units f xs) + length (line_units f ys)
  unfolding line_units
  units_append xs ys = ap length (flat_map-append (λ (l : Line). unit_words (unit size l)) xs ys) ∙ length-append (line_units f xs) (line_units f ys)

  pub blocks_grown : (at : ℕ) (bs : List blocks.Block) → AllSuit bs → length (line_units f (lines_for relocs at (all_instrs bs))) ≤ growth_of bs
  unfolding all_instrs
  blocks_grown at [] s = omega (arith, no_lines)
  blocks_grown at (b ∷ bs) s =
      omega (
        arith,
        ap (λ (ls : List Line). length (line_units f ls)) (lines_apart relocs at (instrs b) (all_instrs bs)),
        units_append (lines_for relocs at (instrs b)) (lines_for relocs (at + size_of (instrs b)) (all_instrs bs)),
        block_grown at b s.0,
        blocks_grown (at + size_of (instrs b)) bs s.1,
      )

-- ---- the blocks of a number

growth_append : (xs ys : List blocks.Block) → growth_of (xs ++ ys) ≡ growth_of xs + growth_of ys
growth_append [] ys = omega arith
growth_append (x ∷ xs) ys = omega (arith, growth_append xs ys)

growth_most : (b : blocks.Block) → growth b ≤ 17
growth_most (block.Set to value) = omega arith
growth_most (block.Add from to) = omega arith
growth_most (block.Xor from to) = omega arith
growth_most (block.Keep from place) = omega arith
growth_most (block.Store from place) = omega arith
growth_most (block.Pass from to) = omega arith
growth_most (block.Halve to) = omega arith
growth_most (block.Skip from to) = omega arith
growth_most (block.Emit from) = omega arith
growth_most block.Restart = omega arith

growth_each : (bs : List blocks.Block) → growth_of bs ≤ 17 * length bs
growth_each [] = omega arith
growth_each (b ∷ bs) = omega (arith, growth_most b, growth_each bs)

settings_growth : (n : ℕ) → growth_of (gen.settings n 0 6) ≡ 12
unfolding gen.settings
settings_growth n = refl

drawn_growth : (n j many : ℕ) → growth_of (gen.drawn_blocks n j many) ≤ 17 * many
unfolding gen.drawn_blocks
drawn_growth n j many = omega (arith, growth_each (map (gen.drawn n) (range_with_len j many)), length-map-range_with_len (gen.drawn n) j many)

pub all_growth : (n : ℕ) → growth_of (gen.blocks n) ≤ 7664
unfolding gen.blocks
all_growth n =
    let last : growth_of (block.Restart ∷ []) ≡ 2 = refl in
    omega (
      arith,
      growth_append (gen.settings n 0 6) (gen.drawn_blocks n 0 450 ++ block.Restart ∷ []),
      growth_append (gen.drawn_blocks n 0 450) (block.Restart ∷ []),
      settings_growth n,
      drawn_growth n 0 450,
      last,
    )
