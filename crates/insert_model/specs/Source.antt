-- The source instructions of an object, each at its place.
use Rattle.std.specs.Prelude.{ℕ, zero, suc, ◌+◌, ◌-◌, ◌*◌, ◌==◌, ◌&&◌, nat_le, nat_lt, if◌then◌else◌, List, [], ◌∷◌, length, slice_index, Option, None, Some}
use Rattle.std.specs.List.{fold}
use Rattle.msp_encode.specs.declared.instr.Instr.{Instr}
use Rattle.msp_encode.specs.declared.instr.Instr.TheVariants as instr
use Rattle.msp_encode.specs.Spelling.{src_words}
use Rattle.msp_decode.specs.Function.{reading}
use Rattle.code_model.specs.declared.parts.Reloc.{Reloc}
use Rattle.code_model.specs.declared.parts.RelKind.{RelKind}
use Rattle.code_model.specs.Fields.{Fields}
use Rattle.insert_model.specs.declared.line.Line.{Line}
use Rattle.insert_model.specs.declared.piece.Piece.{Piece}
use Rattle.msp_encode.specs.Spelled.{count}

-- ---- relocations of code words

-- what stands on the code word at a place, after what was known
abbrev pub on_word : ℕ → Option RelKind → Reloc → Option RelKind
on_word at known r = if r.in_code && (r.offset == 2 * at) then Some r.kind else known

-- the relocation of the code word at a place, if it has one
unfoldable pub kind_at : List Reloc → ℕ → Option RelKind
kind_at relocs at = fold (on_word at) None relocs

-- that of word m of the n words from a place on
abbrev pub kind_within : List Reloc → (at n m : ℕ) → Option RelKind
kind_within relocs at n m = if nat_lt m n then kind_at relocs (at + m) else None

-- ---- static data

-- the word at an offset of bytes
abbrev pub word_in : List ℕ → ℕ → ℕ
word_in bs d = slice_index bs d + 256 * slice_index bs (d + 1)

-- ---- lines

unfoldable pub line_at : List Reloc → ℕ → Instr → Line
line_at relocs at i = record { at = at; instr = i; first = kind_at relocs at; second = kind_within relocs at (count i) 1; third = kind_within relocs at (count i) 2 }

-- a line that has at most so many words, and those after it
abbrev pub with_line : List Reloc → (at have : ℕ) → Option (Instr × ℕ) → (ℕ → List Line) → List Line
with_line relocs at have None after = []
with_line relocs at have (Some x) after = if nat_le x.1 have then line_at relocs at x.0 ∷ after (x.1 - 1) else []

-- The lines of the words from a place on, the first `left` of which are an earlier line's. They end where no instruction is spelled
unfoldable pub lines_from : List Reloc → (at left : ℕ) → List ℕ → List Line
lines_from relocs at left [] = []
lines_from relocs at (suc left) (w ∷ ws) = lines_from relocs (at + 1) left ws
lines_from relocs at zero (w ∷ ws) = with_line relocs at (1 + length ws) (reading w (slice_index ws 0) (slice_index ws 1)) (λ left. lines_from relocs (at + 1) left ws)

unfoldable pub lines : Fields → List Line
lines f = lines_from f.relocs 0 0 f.code

-- ---- a line's instruction as it stands

-- an instruction, and the relocations of its second and third word
abbrev pub own_piece : Instr → (second third : Option RelKind) → Piece
own_piece (instr.Two op w s d) j k =
    if length (src_words s) == 0 then record { instr = instr.Two op w s d; source = None; destination = j } else record { instr = instr.Two op w s d; source = j; destination = k }
own_piece (instr.One op w s) j k = record { instr = instr.One op w s; source = j; destination = None }
own_piece instr.Reti j k = record { instr = instr.Reti; source = None; destination = None }
own_piece (instr.Jump c n) j k = record { instr = instr.Jump c n; source = None; destination = None }

abbrev pub own : Line → Piece
own l = own_piece l.instr l.second l.third
