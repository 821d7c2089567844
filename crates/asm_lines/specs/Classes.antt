-- The classes of bytes by which a text is cut and tested.
use Rattle.std.specs.Prelude.{ℕ, ◌==◌, Bool}
use Rattle.std.specs.Char.{is_ascii_digit, is_ascii_hexdigit}
use Rattle.asm_model.specs.Lines.{is_text_byte}
use Rattle.asm_model.specs.Words.{is_blank, is_not_blank, is_blank_or_colon}
use Rattle.asm_model.specs.Names.{is_name_byte}
use Rattle.asm_model.specs.Expressions.{is_sign}
use Rattle.asm_lines.specs.declared.bytes.Class.{Class}
use Rattle.asm_lines.specs.declared.bytes.Class.TheVariants as class

abbrev pub passes : Class → ℕ → Bool
passes (class.Byte c) b = b == c
passes class.Blank b = is_blank b
passes class.NotBlank b = is_not_blank b
passes class.BlankOrColon b = is_blank_or_colon b
passes class.Sign b = is_sign b
passes class.Text b = is_text_byte b
passes class.Name b = is_name_byte b
passes class.Digit b = is_ascii_digit b
passes class.HexDigit b = is_ascii_hexdigit b
