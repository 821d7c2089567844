-- A worked object: a store through R6 and a jump back to it.
use Rattle.std.proofs.Common.{◌≡◌, ℕ, List, [], ◌∷◌, true, refl}
use Rattle.msp_decode.specs.Function.{reading, read_instr, read_two, read_one, read_jump}
use Rattle.kernel_model.specs.declared.kinds.Kind.TheVariants.{App}
use Rattle.code_model.specs.declared.parts.Reloc.{Reloc}
use Rattle.code_model.specs.declared.parts.RelKind.TheVariants.{Code, Lo, Hi}
use Rattle.code_model.specs.Fields.{Fields, fields_by}
use Rattle.msp_encode.specs.Spelled.{two_word, one_word, jump_word}
use Rattle.insert_model.specs.Words.{piece_words, unit_words}
use Rattle.insert_model.specs.Source.{kind_at, line_at, lines_from, lines}
use Rattle.insert_model.specs.Units.{static_bytes, unit}
use Rattle.insert_model.specs.Groups.{later, groups_from, groups}
use Rattle.insert_model.specs.Layout.{line_unit, unit_in, units, before, words_before, place_map, final, sized, is_short, final_units}
use Rattle.insert_model.specs.Inserted.{with_guards}

abbrev pub store_and_jump : Fields
store_and_jump = fields_by App 1 (0x4786 ∷ 0x0000 ∷ 0x3FFD ∷ []) [] 2 16 1 0 [] []

abbrev pub guarded_words : List ℕ
guarded_words = 0x4205 ∷ 0x4604 ∷ 0x5034 ∷ 0x0000 ∷ 0x9034 ∷ 0x0000 ∷ 0x2803 ∷ 0x9034 ∷ 0x0000 ∷ 0x2802 ∷ 0x4030 ∷ 0xF000 ∷ 0x4502
    ∷ 0x4784 ∷ 0x0000 ∷ 0x4030 ∷ 0x0000 ∷ []

abbrev pub guarded_relocs : List Reloc
guarded_relocs = record { in_code = true; kind = Lo; offset = 0x000A } ∷ record { in_code = true; kind = Hi; offset = 0x0010 }
    ∷ record { in_code = true; kind = Code; offset = 0x0020 } ∷ []

pub store_and_jump-guarded : with_guards store_and_jump ≡ fields_by App 1 guarded_words [] 2 16 1 0 guarded_relocs []
unfolding with_guards units before words_before place_map final sized is_short final_units line_unit unit_in later groups_from groups lines lines_from line_at kind_at piece_words unit_words unit
    static_bytes two_word one_word jump_word reading read_instr read_two read_one read_jump
store_and_jump-guarded = refl
