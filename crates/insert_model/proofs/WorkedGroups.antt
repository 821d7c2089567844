-- Worked objects of version 2: a group of two stores, what ends a group, and how far a jump of one word reaches.
use Rattle.std.proofs.Common.{◌≡◌, ℕ, List, [], ◌∷◌, length, map, true, false, negsuc, pos, refl}
use Rattle.msp_decode.specs.Function.{reading, read_instr, read_two, read_one, read_jump}
use Rattle.kernel_model.specs.declared.kinds.Kind.TheVariants.{App}
use Rattle.code_model.specs.declared.parts.Reloc.{Reloc}
use Rattle.code_model.specs.declared.parts.RelKind.TheVariants.{Data, Lo, Hi}
use Rattle.code_model.specs.Fields.{Fields, fields_by}
use Rattle.msp_encode.specs.Spelled.{two_word, one_word, jump_word}
use Rattle.insert_model.specs.Words.{piece_words, unit_words}
use Rattle.insert_model.specs.Source.{kind_at, line_at, lines_from, lines}
use Rattle.insert_model.specs.Units.{static_bytes, unit}
use Rattle.insert_model.specs.Groups.{is_target, run, greatest, later, Group, members, groups_from, groups}
use Rattle.insert_model.specs.Layout.{line_unit, beside, wide_unit, unit_in, units, before, words_before, place_map, span_between, is_near, is_short, sized, final, final_units}
use Rattle.insert_model.specs.Inserted.{with_guards}

abbrev of_words : List ℕ → List Reloc → Fields
of_words ws rs = fields_by App 2 ws [] 2 16 1 0 rs []

-- ---- two stores through R6 and a jump back to the first

abbrev two_stores : Fields
two_stores = of_words (0x4786 ∷ 0x0000 ∷ 0x4886 ∷ 0x0002 ∷ 0x3FFB ∷ []) []

abbrev guarded_words : List ℕ
guarded_words = 0x4205 ∷ 0x4604 ∷ 0x5034 ∷ 0x0000 ∷ 0x9034 ∷ 0x0000 ∷ 0x2803 ∷ 0x9034 ∷ 0xFFFE ∷ 0x2802 ∷ 0x4030 ∷ 0xF000 ∷ 0x4502
    ∷ 0x4784 ∷ 0x0000 ∷ 0x4884 ∷ 0x0002 ∷ 0x3FEE ∷ []

abbrev guarded_relocs : List Reloc
guarded_relocs = record { in_code = true; kind = Lo; offset = 0x000A } ∷ record { in_code = true; kind = Hi; offset = 0x0010 } ∷ []

two_stores-guarded : with_guards two_stores ≡ of_words guarded_words guarded_relocs
unfolding with_guards units before words_before place_map final sized is_short is_near span_between final_units line_unit unit_in wide_unit beside is_target run greatest later groups_from groups lines lines_from line_at
    kind_at piece_words unit_words unit static_bytes two_word one_word jump_word reading read_instr read_two read_one read_jump
two_stores-guarded = refl

-- ---- groups

-- how many instructions each group has
sizes : Fields → List ℕ
sizes f = map (λ (g : Group). length (members g)) (groups f)

module _ where
  -- five stores, and a jump to the first: four are a group
  five : sizes (of_words (0x4786 ∷ 0 ∷ 0x4786 ∷ 2 ∷ 0x4786 ∷ 4 ∷ 0x4786 ∷ 6 ∷ 0x4786 ∷ 2 ∷ 0x3FF5 ∷ []) []) ≡ 4 ∷ 1 ∷ 1 ∷ []
  unfolding sizes is_target run greatest later groups_from groups lines lines_from line_at kind_at two_word one_word jump_word reading read_instr read_two read_one read_jump
  five = refl

  -- a jump to the second
  target : sizes (of_words (0x4786 ∷ 0 ∷ 0x4786 ∷ 2 ∷ 0x3FFD ∷ []) []) ≡ 1 ∷ 1 ∷ 1 ∷ []
  unfolding sizes is_target run greatest later groups_from groups lines lines_from line_at kind_at two_word one_word jump_word reading read_instr read_two read_one read_jump
  target = refl

  -- R7 instead of R6
  register : sizes (of_words (0x4786 ∷ 0 ∷ 0x4787 ∷ 2 ∷ 0x3FFB ∷ []) []) ≡ 1 ∷ 1 ∷ 1 ∷ []
  unfolding sizes is_target run greatest later groups_from groups lines lines_from line_at kind_at two_word one_word jump_word reading read_instr read_two read_one read_jump
  register = refl

  -- differences of 8 and of 3
  far : sizes (of_words (0x4786 ∷ 0 ∷ 0x4786 ∷ 8 ∷ 0x3FFB ∷ []) []) ≡ 1 ∷ 1 ∷ 1 ∷ []
  unfolding sizes is_target run greatest later groups_from groups lines lines_from line_at kind_at two_word one_word jump_word reading read_instr read_two read_one read_jump
  far = refl

  odd : sizes (of_words (0x47C6 ∷ 0 ∷ 0x47C6 ∷ 3 ∷ 0x3FFB ∷ []) []) ≡ 1 ∷ 1 ∷ 1 ∷ []
  unfolding sizes is_target run greatest later groups_from groups lines lines_from line_at kind_at two_word one_word jump_word reading read_instr read_two read_one read_jump
  odd = refl

  -- the static part's address is added to one of the two indices
  moved : sizes (of_words (0x4786 ∷ 0 ∷ 0x4786 ∷ 2 ∷ 0x3FFB ∷ []) (record { in_code = true; kind = Data; offset = 2 } ∷ [])) ≡ 1 ∷ 1 ∷ 1 ∷ []
  unfolding sizes is_target run greatest later groups_from groups lines lines_from line_at kind_at two_word one_word jump_word reading read_instr read_two read_one read_jump
  moved = refl

  -- two stores at one index are no group; of five, where the last is elsewhere, the first stands alone
  same : sizes (of_words (0x4786 ∷ 0 ∷ 0x4786 ∷ 0 ∷ 0x3FFB ∷ []) []) ≡ 1 ∷ 1 ∷ 1 ∷ []
  unfolding sizes is_target run greatest later groups_from groups lines lines_from line_at kind_at two_word one_word jump_word reading read_instr read_two read_one read_jump
  same = refl

  fifth : sizes (of_words (0x4786 ∷ 0 ∷ 0x4786 ∷ 0 ∷ 0x4786 ∷ 0 ∷ 0x4786 ∷ 0 ∷ 0x4786 ∷ 2 ∷ 0x3FF5 ∷ []) []) ≡ 1 ∷ 4 ∷ 1 ∷ []
  unfolding sizes is_target run greatest later groups_from groups lines lines_from line_at kind_at two_word one_word jump_word reading read_instr read_two read_one read_jump
  fifth = refl

  -- a comparison ends a group
  compared : sizes (of_words (0x4786 ∷ 0 ∷ 0x9786 ∷ 2 ∷ 0x4786 ∷ 4 ∷ 0x3FF9 ∷ []) []) ≡ 1 ∷ 1 ∷ 1 ∷ 1 ∷ []
  unfolding sizes is_target run greatest later groups_from groups lines lines_from line_at kind_at two_word one_word jump_word reading read_instr read_two read_one read_jump
  compared = refl

  -- the differences count over a wrap: 65,534 and 2 are 4 apart
  wrap : sizes (of_words (0x4786 ∷ 0xFFFE ∷ 0x4786 ∷ 2 ∷ 0x3FFB ∷ []) []) ≡ 2 ∷ 1 ∷ []
  unfolding sizes is_target run greatest later groups_from groups lines lines_from line_at kind_at two_word one_word jump_word reading read_instr read_two read_one read_jump
  wrap = refl

-- ---- jumps

-- 511 and 512 words ahead, 512 and 513 back
ahead : (is_near 100 612 ≡ true) × ((is_near 100 613 ≡ false) × ((span_between 100 612 ≡ pos 511) × (span_between 100 613 ≡ pos 512)))
unfolding is_near span_between
ahead = (refl, (refl, (refl, refl)))

back : (is_near 611 100 ≡ true) × ((is_near 612 100 ≡ false) × ((span_between 611 100 ≡ negsuc 511) × (span_between 612 100 ≡ negsuc 512)))
unfolding is_near span_between
back = (refl, (refl, (refl, refl)))
