-- Sources worked out by hand, which the definitions compute.
use Rattle.std.proofs.Common.{◌≡◌, ℕ, List, [], ◌∷◌, ◌++◌, codes, Ok, Err, true, false, refl}
use Rattle.kernel_model.specs.declared.kinds.Kind.TheVariants.{App, Module}
use Rattle.code_model.specs.declared.parts.RelKind.TheVariants as rel
use Rattle.code_model.specs.declared.parts.Reloc.{Reloc}
use Rattle.code_model.specs.declared.parts.RelKind.{RelKind}
use Rattle.code_model.specs.Fields.{fields_by}
use Rattle.asm_model.specs.declared.fault.AsmKind.TheVariants as kind
use Rattle.asm_model.specs.FirstPass.{fault}
use Rattle.asm_model.specs.Assembled.{assembled, is_whole}
use Rattle.asm_model.specs.Lines.{without_return, lines_of}
use Rattle.asm_model.specs.Words.{trimmed_start, trimmed_end, first_word, behind_word, body_of, has_colon, before_colon, behind_colon, operands_of, word_is}
use Rattle.asm_model.specs.Numbers.{is_decimal, is_hexadecimal, size_of, numeral_of, numeral_fits, numeral_word, is_between, byte_fits}
use Rattle.asm_model.specs.Names.{has_name_form, numbered_register, register_of, is_reserved, is_label, name_of, value_of, is_taken}
use Rattle.asm_model.specs.Expressions.{number_alone, added, name_plus, over_name, expression_of}
use Rattle.asm_model.specs.Operands.{address_of, distance_of, hash_operand, at_operand, indexed_operand, plain_operand, operand_of}
use Rattle.asm_model.specs.Mnemonics.{two_of, one_of, condition_of, constant_of, single_of, alone_of, form_of, mnemonic_of, directive_of, keyword_of}
use Rattle.asm_model.specs.Instructions.{generated, operation, label_of, instruction_of}
use Rattle.asm_model.specs.Drafts.{first_progress, grown}
use Rattle.asm_model.specs.Directives.{application_of, module_of, equate, entry_of, export_of, section_from, datum_of, are_data, data_fit, data_pieces, data_room, space_of, version_of}
use Rattle.asm_model.specs.FirstPass.{take_instruction, take_data, take_directive, take_statement, take_labelled, take_body, take_line}
use Rattle.msp_encode.specs.Spelled.{spelling, two_word, one_word, jump_word}
use Rattle.asm_model.specs.SecondPass.{settle, put_operation, put_jump, put_word, start_of, put_piece}

-- a line and its LF
abbrev line : List ℕ → List ℕ
line bytes = bytes ++ 10 ∷ []

abbrev in_code : RelKind → ℕ → Reloc
in_code k at = record { in_code = true; kind = k; offset = at }

abbrev in_data : RelKind → ℕ → Reloc
in_data k at = record { in_code = false; kind = k; offset = at }

-- a jump to itself
pub self_jump-assembled : assembled (line (codes ".app 16 1") ++ (line (codes ".entry s") ++ (line (codes "s: JMP s")))) ≡ Ok (fields_by App 1 (0x3FFF ∷ []) [] 0 16 1 0 [] [])
unfolding assembled is_whole without_return lines_of trimmed_start trimmed_end first_word behind_word body_of has_colon before_colon behind_colon operands_of word_is is_decimal is_hexadecimal size_of numeral_of numeral_fits numeral_word is_between byte_fits has_name_form numbered_register register_of is_reserved is_label name_of value_of is_taken number_alone added name_plus over_name expression_of address_of distance_of hash_operand at_operand indexed_operand plain_operand operand_of two_of one_of condition_of constant_of single_of alone_of form_of mnemonic_of directive_of keyword_of generated operation label_of instruction_of first_progress grown application_of module_of equate entry_of export_of section_from datum_of are_data data_fit data_pieces data_room space_of take_instruction take_data version_of take_directive take_statement take_labelled take_body take_line spelling two_word one_word jump_word settle put_operation put_jump put_word start_of put_piece
self_jump-assembled = refl

-- the third line's first word is no mnemonic
pub unknown_word-assembled : assembled (line (codes ".app 16 1") ++ (line (codes ".entry s") ++ (line (codes "s: FOO R6")))) ≡ Err (fault 3 kind.UnknownWord)
unfolding assembled is_whole without_return lines_of trimmed_start trimmed_end first_word behind_word body_of has_colon before_colon behind_colon operands_of word_is is_decimal is_hexadecimal size_of numeral_of numeral_fits numeral_word is_between byte_fits has_name_form numbered_register register_of is_reserved is_label name_of value_of is_taken number_alone added name_plus over_name expression_of address_of distance_of hash_operand at_operand indexed_operand plain_operand operand_of two_of one_of condition_of constant_of single_of alone_of form_of mnemonic_of directive_of keyword_of generated operation label_of instruction_of first_progress grown application_of module_of equate entry_of export_of section_from datum_of are_data data_fit data_pieces data_room space_of take_instruction take_data version_of take_directive take_statement take_labelled take_body take_line spelling two_word one_word jump_word settle put_operation put_jump put_word start_of put_piece
unknown_word-assembled = refl

-- nothing but a header and an entry
pub no_code-assembled : assembled (line (codes ".app 16 1") ++ (line (codes ".entry s"))) ≡ Err (fault 0 kind.BadDirective)
unfolding assembled is_whole without_return lines_of trimmed_start trimmed_end first_word behind_word body_of has_colon before_colon behind_colon operands_of word_is is_decimal is_hexadecimal size_of numeral_of numeral_fits numeral_word is_between byte_fits has_name_form numbered_register register_of is_reserved is_label name_of value_of is_taken number_alone added name_plus over_name expression_of address_of distance_of hash_operand at_operand indexed_operand plain_operand operand_of two_of one_of condition_of constant_of single_of alone_of form_of mnemonic_of directive_of keyword_of generated operation label_of instruction_of first_progress grown application_of module_of equate entry_of export_of section_from datum_of are_data data_fit data_pieces data_room space_of take_instruction take_data version_of take_directive take_statement take_labelled take_body take_line spelling two_word one_word jump_word settle put_operation put_jump put_word start_of put_piece
no_code-assembled = refl

-- the entry is defined nowhere, and a jump before it leads nowhere either
pub no_label-assembled : assembled (line (codes ".app 16 1") ++ (line (codes "JMP s") ++ (line (codes ".entry s")))) ≡ Err (fault 2 kind.NoLabel)
unfolding assembled is_whole without_return lines_of trimmed_start trimmed_end first_word behind_word body_of has_colon before_colon behind_colon operands_of word_is is_decimal is_hexadecimal size_of numeral_of numeral_fits numeral_word is_between byte_fits has_name_form numbered_register register_of is_reserved is_label name_of value_of is_taken number_alone added name_plus over_name expression_of address_of distance_of hash_operand at_operand indexed_operand plain_operand operand_of two_of one_of condition_of constant_of single_of alone_of form_of mnemonic_of directive_of keyword_of generated operation label_of instruction_of first_progress grown application_of module_of equate entry_of export_of section_from datum_of are_data data_fit data_pieces data_room space_of take_instruction take_data version_of take_directive take_statement take_labelled take_body take_line spelling two_word one_word jump_word settle put_operation put_jump put_word start_of put_piece
no_label-assembled = refl

-- 5 is no constant, 8 is one
pub constants-assembled : assembled (line (codes ".app 16 1") ++ (line (codes ".entry s") ++ (line (codes "s: mov #1,r6") ++ (line (codes "MOV #5,R6") ++ (line (codes "CMP #8,R6") ++ (line (codes "PUSH #8") ++ (line (codes "CALL #8") ++ (line (codes "NOP") ++ (line (codes "RETI")))))))))) ≡ Ok (fields_by App 1 (0x4316 ∷ 0x4036 ∷ 5 ∷ 0x9236 ∷ 0x1232 ∷ 0x12B0 ∷ 8 ∷ 0x4303 ∷ 0x1300 ∷ []) [] 0 16 1 0 [] [])
unfolding assembled is_whole without_return lines_of trimmed_start trimmed_end first_word behind_word body_of has_colon before_colon behind_colon operands_of word_is is_decimal is_hexadecimal size_of numeral_of numeral_fits numeral_word is_between byte_fits has_name_form numbered_register register_of is_reserved is_label name_of value_of is_taken number_alone added name_plus over_name expression_of address_of distance_of hash_operand at_operand indexed_operand plain_operand operand_of two_of one_of condition_of constant_of single_of alone_of form_of mnemonic_of directive_of keyword_of generated operation label_of instruction_of first_progress grown application_of module_of equate entry_of export_of section_from datum_of are_data data_fit data_pieces data_room space_of take_instruction take_data version_of take_directive take_statement take_labelled take_body take_line spelling two_word one_word jump_word settle put_operation put_jump put_word start_of put_piece
constants-assembled = refl

-- labels of each section, the ends of the region, and a number by name
pub addresses-assembled : assembled (line (codes ".module") ++ (line (codes ".equ two 2") ++ (line (codes ".export 3 f") ++ (line (codes ".zero") ++ (line (codes "z: .space 4") ++ (line (codes ".data") ++ (line (codes "w: .word f+2, -1 ,z") ++ (line (codes ".byte 255,-128") ++ (line (codes ".code") ++ (line (codes "f: MOV z+2(R5),&w") ++ (line (codes "MOV #LO+2,R6") ++ (line (codes "PUSH #two") ++ (line (codes "MOV f,R6")))))))))))))) ≡ Ok (fields_by Module 1 (0x4592 ∷ 10 ∷ 0 ∷ 0x4036 ∷ 2 ∷ 0x1223 ∷ 0x4016 ∷ 0xFFF2 ∷ []) (2 ∷ 0 ∷ 255 ∷ 255 ∷ 8 ∷ 0 ∷ 255 ∷ 128 ∷ []) 4 0 0 0 (in_code rel.Data 2 ∷ in_code rel.Data 4 ∷ in_code rel.Lo 8 ∷ in_data rel.Code 0 ∷ in_data rel.Data 4 ∷ []) (record { number = 3; offset = 0 } ∷ []))
unfolding assembled is_whole without_return lines_of trimmed_start trimmed_end first_word behind_word body_of has_colon before_colon behind_colon operands_of word_is is_decimal is_hexadecimal size_of numeral_of numeral_fits numeral_word is_between byte_fits has_name_form numbered_register register_of is_reserved is_label name_of value_of is_taken number_alone added name_plus over_name expression_of address_of distance_of hash_operand at_operand indexed_operand plain_operand operand_of two_of one_of condition_of constant_of single_of alone_of form_of mnemonic_of directive_of keyword_of generated operation label_of instruction_of first_progress grown application_of module_of equate entry_of export_of section_from datum_of are_data data_fit data_pieces data_room space_of take_instruction take_data version_of take_directive take_statement take_labelled take_body take_line spelling two_word one_word jump_word settle put_operation put_jump put_word start_of put_piece
addresses-assembled = refl

-- a data label as the target of a jump
pub by_kind-assembled : assembled (line (codes ".app 16 1") ++ (line (codes ".entry s") ++ (line (codes ".data") ++ (line (codes "w: .byte 1") ++ (line (codes ".code") ++ (line (codes "s: JMP w"))))))) ≡ Err (fault 6 kind.BadOperand)
unfolding assembled is_whole without_return lines_of trimmed_start trimmed_end first_word behind_word body_of has_colon before_colon behind_colon operands_of word_is is_decimal is_hexadecimal size_of numeral_of numeral_fits numeral_word is_between byte_fits has_name_form numbered_register register_of is_reserved is_label name_of value_of is_taken number_alone added name_plus over_name expression_of address_of distance_of hash_operand at_operand indexed_operand plain_operand operand_of two_of one_of condition_of constant_of single_of alone_of form_of mnemonic_of directive_of keyword_of generated operation label_of instruction_of first_progress grown application_of module_of equate entry_of export_of section_from datum_of are_data data_fit data_pieces data_room space_of take_instruction take_data version_of take_directive take_statement take_labelled take_body take_line spelling two_word one_word jump_word settle put_operation put_jump put_word start_of put_piece
by_kind-assembled = refl

-- an operand too many comes before a number out of its range
pub range_last-assembled : assembled (line (codes ".app 16 1") ++ (line (codes ".entry s") ++ (line (codes "s: MOV #65536,R6,R7")))) ≡ Err (fault 3 kind.BadOperand)
unfolding assembled is_whole without_return lines_of trimmed_start trimmed_end first_word behind_word body_of has_colon before_colon behind_colon operands_of word_is is_decimal is_hexadecimal size_of numeral_of numeral_fits numeral_word is_between byte_fits has_name_form numbered_register register_of is_reserved is_label name_of value_of is_taken number_alone added name_plus over_name expression_of address_of distance_of hash_operand at_operand indexed_operand plain_operand operand_of two_of one_of condition_of constant_of single_of alone_of form_of mnemonic_of directive_of keyword_of generated operation label_of instruction_of first_progress grown application_of module_of equate entry_of export_of section_from datum_of are_data data_fit data_pieces data_room space_of take_instruction take_data version_of take_directive take_statement take_labelled take_body take_line spelling two_word one_word jump_word settle put_operation put_jump put_word start_of put_piece
range_last-assembled = refl
