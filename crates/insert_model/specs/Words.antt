-- The words of a piece with their relocations.
use Rattle.std.specs.Prelude.{List, [], ◌∷◌, ◌++◌, map, Option, None, ℕ}
use Rattle.std.specs.List.{flat_map}
use Rattle.msp_encode.specs.declared.instr.Instr.{Instr}
use Rattle.msp_encode.specs.declared.instr.Instr.TheVariants as instr
use Rattle.msp_encode.specs.Spelling.{src_words, dst_words}
use Rattle.msp_encode.specs.Spelled.{first_word}
use Rattle.code_model.specs.declared.parts.RelKind.{RelKind}
use Rattle.insert_model.specs.declared.piece.Piece.{Piece}
use Rattle.insert_model.specs.declared.piece.Word.{Word}

abbrev pub with_kind : Option RelKind → List ℕ → List Word
with_kind k xs = map (λ x. record { value = x; kind = k }) xs

abbrev pub operand_words : Instr → (source destination : Option RelKind) → List Word
operand_words (instr.Two op w s d) j k = with_kind j (src_words s) ++ with_kind k (dst_words d)
operand_words (instr.One op w s) j k = with_kind j (src_words s)
operand_words instr.Reti j k = []
operand_words (instr.Jump c n) j k = []

unfoldable pub piece_words : Piece → List Word
piece_words p = record { value = first_word p.instr; kind = None } ∷ operand_words p.instr p.source p.destination

-- the words of pieces, one after another
unfoldable pub unit_words : List Piece → List Word
unit_words ps = flat_map piece_words ps
