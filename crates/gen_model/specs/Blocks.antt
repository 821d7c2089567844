-- The words of blocks, their relocations, and which block three draws give.
use Rattle.std.specs.Prelude.{ℕ, ◌+◌, ◌*◌, ◌%◌, ◌==◌, if◌then◌else◌, true, List, [], ◌∷◌, Option, None, Some}
use Rattle.code_model.specs.declared.parts.RelKind.{RelKind}
use Rattle.code_model.specs.declared.parts.RelKind.TheVariants.{Code, Data}
use Rattle.code_model.specs.declared.parts.Reloc.{Reloc}
use Rattle.gen_model.specs.declared.block.Block.{Block}
use Rattle.gen_model.specs.declared.block.Block.TheVariants.{Set, Add, Xor, Keep, Store, Pass, Halve, Skip, Emit, Restart}
use Rattle.kernel_model.specs.declared.entries.TheConstants.{EMITS}

abbrev pub words : Block → List ℕ
words (Set to value) = (0x4030 + to) ∷ value ∷ []
words (Add from to) = (0x5000 + 256 * from + to) ∷ []
words (Xor from to) = (0xE000 + 256 * from + to) ∷ []
words (Keep from place) = (0x4082 + 256 * from) ∷ place ∷ []
words (Store from place) = 0x403C ∷ place ∷ (0x408C + 256 * from) ∷ 0x0000 ∷ []
words (Pass from to) = (0x1200 + from) ∷ (0x4130 + to) ∷ []
words (Halve to) = (0x1100 + to) ∷ []
words (Skip from to) = 0x2001 ∷ (0x4000 + 256 * from + to) ∷ []
words (Emit from) = (0x400C + 256 * from) ∷ 0x12B0 ∷ EMITS ∷ []
words Restart = 0x4030 ∷ 0x0000 ∷ []

-- the relocation of a block's second word. No other word of a block has one
abbrev pub second : Block → Option RelKind
second (Set to value) = None
second (Add from to) = None
second (Xor from to) = None
second (Keep from place) = Some Data
second (Store from place) = Some Data
second (Pass from to) = None
second (Halve to) = None
second (Skip from to) = None
second (Emit from) = None
second Restart = Some Code

-- a relocation of the code word at a place
abbrev pub of_word : (at : ℕ) → RelKind → Reloc
of_word at k = record { in_code = true; kind = k; offset = 2 * at }

-- the relocations of a block that stands at a place, the number of its first word
abbrev pub second_at : (at : ℕ) → Option RelKind → List Reloc
second_at at None = []
second_at at (Some k) = of_word (at + 1) k ∷ []

abbrev pub relocs_at : (at : ℕ) → Block → List Reloc
relocs_at at b = second_at at (second b)

-- one of R6 to R11
abbrev pub register : ℕ → ℕ
register x = 6 + x % 6

-- an even offset below 64
abbrev pub place : ℕ → ℕ
place x = 2 * (x % 32)

-- the block of three draws, by the first
abbrev pub chosen_by : (kind b c : ℕ) → Block
chosen_by kind b c =
    if kind == 0 then Add (register c) (register b)
    else (if kind == 1 then Xor (register c) (register b)
    else (if kind == 2 then Keep (register c) (place b)
    else (if kind == 3 then Store (register b) (place c)
    else (if kind == 4 then Pass (register c) (register b)
    else (if kind == 5 then Halve (register b)
    else (if kind == 6 then Skip (register c) (register b)
    else Emit (register c)))))))

unfoldable pub chosen : (a b c : ℕ) → Block
chosen a b c = chosen_by (a % 8) b c
