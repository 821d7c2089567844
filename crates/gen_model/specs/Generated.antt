-- The source object of a number.
use Rattle.std.specs.Prelude.{ℕ, ◌+◌, ◌*◌, List, [], ◌∷◌, ◌++◌, length, map}
use Rattle.std.specs.List.{flat_map, range_with_len}
use Rattle.kernel_model.specs.declared.kinds.Kind.TheVariants.{App}
use Rattle.code_model.specs.declared.parts.Reloc.{Reloc}
use Rattle.code_model.specs.Fields.{Fields, fields_by}
use Rattle.gen_model.specs.declared.block.Block.{Block}
use Rattle.gen_model.specs.declared.block.Block.TheVariants.{Set, Restart}
use Rattle.gen_model.specs.Draws.{draw}
use Rattle.gen_model.specs.Blocks.{words, relocs_at, chosen}

-- ---- the blocks

-- draw k, below 6, sets register 6 + k
abbrev pub setting : (n k : ℕ) → Block
setting n k = Set (6 + k) (draw n k)

-- block j has three of the draws behind those
abbrev pub drawn : (n j : ℕ) → Block
drawn n j = chosen (draw n (6 + 3 * j)) (draw n (7 + 3 * j)) (draw n (8 + 3 * j))

-- so many settings and drawn blocks, the first of which is setting k or block j
unfoldable pub settings : (n k many : ℕ) → List Block
settings n k many = map (setting n) (range_with_len k many)

unfoldable pub drawn_blocks : (n j many : ℕ) → List Block
drawn_blocks n j many = map (drawn n) (range_with_len j many)

unfoldable pub blocks : ℕ → List Block
blocks n = settings n 0 6 ++ (drawn_blocks n 0 450 ++ Restart ∷ [])

-- ---- their words and relocations

unfoldable pub code_of : List Block → List ℕ
code_of bs = flat_map words bs

-- of blocks the first of which stands at a place
unfoldable pub relocs_from : (at : ℕ) → List Block → List Reloc
relocs_from at [] = []
relocs_from at (b ∷ bs) = relocs_at at b ++ relocs_from (at + length (words b)) bs

-- ---- the object

abbrev pub fields_of : List Block → Fields
fields_of bs = fields_by App 1 (code_of bs) [] 64 256 1 0 (relocs_from 0 bs) []

-- an application of one thread, whose code goes round for ever
unfoldable pub generated : ℕ → Fields
generated n = fields_of (blocks n)
