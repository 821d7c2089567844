-- The words of the object of 0, against words that were worked out apart.
use Rattle.std.proofs.Common.{◌≡◌, ℕ, true, List, [], ◌∷◌, refl}
use Rattle.code_model.specs.declared.parts.RelKind.TheVariants.{Data}
use Rattle.code_model.specs.declared.parts.Reloc.{Reloc}
use Rattle.gen_model.specs.Draws.{state, draw}
use Rattle.gen_model.specs.Blocks.{chosen}
use Rattle.gen_model.specs.Generated.{settings, drawn_blocks, code_of, relocs_from}

-- the six settings
pub zero-settings : code_of (settings 0 0 6) ≡ 0x4036 ∷ 0x3C6E ∷ 0x4037 ∷ 0x4750 ∷ 0x4038 ∷ 0xD1CC ∷ 0x4039 ∷ 0xAAF9 ∷ 0x403A ∷ 0x6252 ∷ 0x403B ∷ 0x9F2E ∷ []
unfolding state draw settings code_of
zero-settings = refl

-- the first 13 blocks, among which each kind is
abbrev zero_words : List ℕ
zero_words = 0x2001 ∷ 0x470B ∷ 0x5708 ∷ 0x403C ∷ 0x0034 ∷ 0x4A8C ∷ 0x0000 ∷ 0x2001 ∷ 0x4707 ∷ 0x4A0C ∷ 0x12B0 ∷ 0xF024 ∷ 0x1108 ∷ 0x1107 ∷ 0x403C ∷ 0x0026 ∷ 0x468C ∷ 0x0000 ∷ 0x110B ∷ 0xEB0A ∷ 0x403C ∷ 0x0004 ∷ 0x488C ∷ 0x0000 ∷ 0x1208 ∷ 0x4136 ∷ 0x4782 ∷ 0x0024 ∷ []

pub zero-blocks : code_of (drawn_blocks 0 0 13) ≡ zero_words
unfolding state draw chosen drawn_blocks code_of
zero-blocks = refl

-- their relocations, behind the settings
abbrev of_data : ℕ → Reloc
of_data at = record { in_code = true; kind = Data; offset = at }

pub zero-relocs : relocs_from 12 (drawn_blocks 0 0 13) ≡ of_data 32 ∷ of_data 54 ∷ of_data 66 ∷ of_data 78 ∷ []
unfolding state draw chosen drawn_blocks relocs_from
zero-relocs = refl
