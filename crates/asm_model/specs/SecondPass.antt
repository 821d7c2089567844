-- The second pass: the words and relocations of each piece, where all names are known.
use Rattle.std.specs.Prelude.{ℕ, ◌+◌, ◌-◌, ◌*◌, ◌/◌, ◌%◌, ◌&&◌, not, nat_le, nat_lt, Bool, true, false, List, [], ◌∷◌, ◌++◌, length, Option, Some, None, is_some, Result, Ok, Err, ℤ, pos, ◌-ℤ◌, if◌then◌else◌}
use Rattle.msp_encode.specs.declared.instr.Cond.{Cond}
use Rattle.msp_encode.specs.declared.instr.Src.{Src}
use Rattle.msp_encode.specs.declared.instr.Src.TheVariants as src
use Rattle.msp_encode.specs.declared.instr.Dst.{Dst}
use Rattle.msp_encode.specs.declared.instr.Dst.TheVariants as dst
use Rattle.msp_encode.specs.declared.instr.Instr.{Instr}
use Rattle.msp_encode.specs.declared.instr.Instr.TheVariants as instr
use Rattle.msp_encode.specs.Spelling.{src_words}
use Rattle.code_model.specs.declared.parts.RelKind.{RelKind}
use Rattle.code_model.specs.declared.parts.RelKind.TheVariants as rel
use Rattle.code_model.specs.declared.parts.Reloc.{Reloc}
use Rattle.code_model.specs.declared.parts.Export.{Export}
use Rattle.asm_model.specs.declared.fault.AsmKind.{AsmKind}
use Rattle.asm_model.specs.declared.fault.AsmKind.TheVariants.{NoLabel, BadOperand, JumpRange}
use Rattle.asm_model.specs.declared.name.Name.{Name}
use Rattle.asm_model.specs.declared.name.Value.{Value}
use Rattle.asm_model.specs.declared.name.Value.TheVariants as value
use Rattle.asm_model.specs.declared.expression.Base.{Base}
use Rattle.asm_model.specs.declared.expression.Base.TheVariants as base
use Rattle.asm_model.specs.declared.operand.Use.{Use}
use Rattle.asm_model.specs.declared.operand.Use.TheVariants as uses
use Rattle.asm_model.specs.declared.piece.Piece.{Piece}
use Rattle.asm_model.specs.declared.piece.Piece.TheVariants as piece
use Rattle.asm_model.specs.declared.piece.Placed.{Placed}
use Rattle.asm_model.specs.declared.progress.Progress.{Progress}
use Rattle.asm_model.specs.Names.{value_of}
use Rattle.asm_model.specs.Drafts.{Draft}
use Rattle.asm_model.specs.FirstPass.{Fault, behind_line}
use Rattle.msp_encode.specs.Spelled.{spelling}

-- all names, and how many code words and initialised bytes there are
pub record Known : Type 0 where
  pub names : List (Name × Value)
  pub code : ℕ
  pub initialised : ℕ

abbrev pub known_from : List (Name × Value) → Progress → Known
known_from names p = record { names = names; code = p.code; initialised = p.initialised }

abbrev pub known_by : Draft → Known
known_by d = known_from d.names d.progress

-- ---- the word of an operand

abbrev pub source_use : Src → Use
source_use (src.Reg r) = uses.Nothing
source_use (src.Indexed r x) = uses.Address
source_use (src.Symbolic x) = uses.Distance
source_use (src.Absolute x) = uses.Address
source_use (src.Indirect r) = uses.Nothing
source_use (src.AutoInc r) = uses.Nothing
source_use (src.Immediate x) = uses.Immediate
source_use (src.Const c) = uses.Nothing

abbrev pub destination_use : Dst → Use
destination_use (dst.Reg r) = uses.Nothing
destination_use (dst.Indexed r x) = uses.Address
destination_use (dst.Symbolic x) = uses.Distance
destination_use (dst.Absolute x) = uses.Address

-- what a base stands for: None is no label
abbrev pub is_known : List (Name × Value) → Base → Bool
is_known names base.Number = true
is_known names base.Lo = true
is_known names base.Hi = true
is_known names (base.Label name) = is_some (value_of names name)

abbrev pub is_place_of_code : Option Value → Bool
is_place_of_code None = false
is_place_of_code (Some (value.Number k)) = false
is_place_of_code (Some (value.Code at)) = true
is_place_of_code (Some (value.Initialised at)) = false
is_place_of_code (Some (value.Zeroed at)) = false

abbrev pub is_place_of_data : Option Value → Bool
is_place_of_data None = false
is_place_of_data (Some (value.Number k)) = false
is_place_of_data (Some (value.Code at)) = false
is_place_of_data (Some (value.Initialised at)) = true
is_place_of_data (Some (value.Zeroed at)) = true

-- a label of the kind that is needed
abbrev pub label_suits : Use → Option Value → Bool
label_suits uses.Immediate v = true
label_suits uses.Address v = is_place_of_data v
label_suits uses.Distance v = is_place_of_code v
label_suits uses.Nothing v = true

abbrev pub suits : List (Name × Value) → Use → Base → Bool
suits names u base.Number = true
suits names u base.Lo = true
suits names u base.Hi = true
suits names u (base.Label name) = label_suits u (value_of names name)

-- a label's offset: zeroed bytes come behind all initialised ones
abbrev pub offset_in : ℕ → Option Value → ℕ
offset_in initialised None = 0
offset_in initialised (Some (value.Number k)) = k
offset_in initialised (Some (value.Code word)) = 2 * word
offset_in initialised (Some (value.Initialised at)) = at
offset_in initialised (Some (value.Zeroed at)) = initialised + at

-- the word at an offset, of a label: its offset with the number, or the distance to there
abbrev pub label_word : Use → (at target word : ℕ) → ℕ
label_word uses.Immediate at target word = (target + word) % 65536
label_word uses.Address at target word = (target + word) % 65536
label_word uses.Distance at target word = ((target + word) + (65536 - at)) % 65536
label_word uses.Nothing at target word = word

abbrev pub placed_word : Known → Use → ℕ → Base → ℕ → ℕ
placed_word k u at base.Number word = word
placed_word k u at base.Lo word = word
placed_word k u at base.Hi word = word
placed_word k u at (base.Label name) word = label_word u at (offset_in k.initialised (value_of k.names name)) word

abbrev pub place_relocation : Bool → RelKind
place_relocation true = rel.Code
place_relocation false = rel.Data

abbrev pub label_relocation : Use → Option Value → Option RelKind
label_relocation uses.Immediate v = Some (place_relocation (is_place_of_code v))
label_relocation uses.Address v = Some rel.Data
label_relocation uses.Distance v = None
label_relocation uses.Nothing v = None

abbrev pub relocation : List (Name × Value) → Use → Base → Option RelKind
relocation names uses.Nothing b = None
relocation names u base.Number = None
relocation names u base.Lo = Some rel.Lo
relocation names u base.Hi = Some rel.Hi
relocation names u (base.Label name) = label_relocation u (value_of names name)

-- the relocation of the word at an offset, if it has one
abbrev pub relocation_at : Bool → ℕ → Option RelKind → List Reloc
relocation_at in_code at None = []
relocation_at in_code at (Some k) = record { in_code = in_code; kind = k; offset = at } ∷ []

-- ---- instructions

abbrev pub source_with : Src → ℕ → Src
source_with (src.Reg r) w = src.Reg r
source_with (src.Indexed r x) w = src.Indexed r w
source_with (src.Symbolic x) w = src.Symbolic w
source_with (src.Absolute x) w = src.Absolute w
source_with (src.Indirect r) w = src.Indirect r
source_with (src.AutoInc r) w = src.AutoInc r
source_with (src.Immediate x) w = src.Immediate w
source_with (src.Const c) w = src.Const c

abbrev pub destination_with : Dst → ℕ → Dst
destination_with (dst.Reg r) w = dst.Reg r
destination_with (dst.Indexed r x) w = dst.Indexed r w
destination_with (dst.Symbolic x) w = dst.Symbolic w
destination_with (dst.Absolute x) w = dst.Absolute w

-- the word that an operand has, or 0
abbrev pub source_word : Src → ℕ
source_word (src.Reg r) = 0
source_word (src.Indexed r x) = x
source_word (src.Symbolic x) = x
source_word (src.Absolute x) = x
source_word (src.Indirect r) = 0
source_word (src.AutoInc r) = 0
source_word (src.Immediate x) = x
source_word (src.Const c) = 0

abbrev pub destination_word : Dst → ℕ
destination_word (dst.Reg r) = 0
destination_word (dst.Indexed r x) = x
destination_word (dst.Symbolic x) = x
destination_word (dst.Absolute x) = x

-- the words of an operand at an offset, with all names known
abbrev pub placed_source : Known → ℕ → Base → Src → Src
placed_source k at b s = source_with s (placed_word k (source_use s) at b (source_word s))

abbrev pub placed_destination : Known → ℕ → Base → Dst → Dst
placed_destination k at b d = destination_with d (placed_word k (destination_use d) at b (destination_word d))

-- a source's word stands behind the instruction's, and a destination's behind the source's
abbrev pub behind_source : ℕ → Src → ℕ
behind_source at s = at + 2 + 2 * length (src_words s)

-- what an instruction is, with its relocations
pub record Settled : Type 0 where
  pub instr : Instr
  pub relocs : List Reloc

abbrev pub settled : Instr → List Reloc → Settled
settled i relocs = record { instr = i; relocs = relocs }

-- an instruction at an offset, with all names known
unfoldable pub settle : Known → ℕ → Base → Base → Instr → Settled
settle k at s d (instr.Two op width source destination) =
    settled (instr.Two op width (placed_source k (at + 2) s source) (placed_destination k (behind_source at source) d destination))
    (relocation_at true (at + 2) (relocation k.names (source_use source) s) ++ relocation_at true (behind_source at source) (relocation k.names (destination_use destination) d))
settle k at s d (instr.One op width source) =
    settled (instr.One op width (placed_source k (at + 2) s source)) (relocation_at true (at + 2) (relocation k.names (source_use source) s))
settle k at s d instr.Reti = settled instr.Reti []
settle k at s d (instr.Jump condition offset) = settled (instr.Jump condition offset) []

-- both names are of the kind that their operands need
abbrev pub instr_suits : List (Name × Value) → Base → Base → Instr → Bool
instr_suits names s d (instr.Two op width source destination) = suits names (source_use source) s && suits names (destination_use destination) d
instr_suits names s d (instr.One op width source) = suits names (source_use source) s
instr_suits names s d instr.Reti = true
instr_suits names s d (instr.Jump condition offset) = true

-- from -512 to 511 words, counted from behind the jump
abbrev pub in_reach : (at target : ℕ) → Bool
in_reach at target = nat_le (at + 2) (target + 1024) && nat_le target (at + 1024)

abbrev pub jump_offset : (at target : ℕ) → ℤ
jump_offset at target = pos (target / 2) -ℤ pos (at / 2 + 1)

-- ---- what the pieces give

pub record Output : Type 0 where
  pub code : List ℕ
  pub initialised : List ℕ
  pub code_relocs : List Reloc
  pub data_relocs : List Reloc
  pub entry : ℕ
  pub exports : List Export

abbrev pub empty_output : Output
empty_output = record { code = []; initialised = []; code_relocs = []; data_relocs = []; entry = 0; exports = [] }

-- the offset of the code's end
abbrev pub code_end : Output → ℕ
code_end o = 2 * length o.code

abbrev pub with_instr : Output → Settled → Output
with_instr o s = record { code = o.code ++ spelling s.instr; initialised = o.initialised; code_relocs = o.code_relocs ++ s.relocs; data_relocs = o.data_relocs; entry = o.entry; exports = o.exports }

abbrev pub with_data : Output → List ℕ → List Reloc → Output
with_data o bytes relocs = record { code = o.code; initialised = o.initialised ++ bytes; code_relocs = o.code_relocs; data_relocs = o.data_relocs ++ relocs; entry = o.entry; exports = o.exports }

abbrev pub with_entry : Output → ℕ → Output
with_entry o at = record { code = o.code; initialised = o.initialised; code_relocs = o.code_relocs; data_relocs = o.data_relocs; entry = at; exports = o.exports }

abbrev pub with_export : Output → ℕ → ℕ → Output
with_export o number at = record { code = o.code; initialised = o.initialised; code_relocs = o.code_relocs; data_relocs = o.data_relocs; entry = o.entry; exports = o.exports ++ record { number = number; offset = at } ∷ [] }

-- a word, its low byte first
abbrev pub bytes_of : ℕ → List ℕ
bytes_of w = w % 256 ∷ w / 256 ∷ []

unfoldable pub put_operation : Known → Output → Instr → Base → Base → Result Output AsmKind
put_operation k o i s d =
    if not (is_known k.names s && is_known k.names d) then Err NoLabel
    else if not (instr_suits k.names s d i) then Err BadOperand
    else Ok (with_instr o (settle k (code_end o) s d i))

-- the offset of a code label
abbrev pub code_place : Option Value → Result ℕ AsmKind
code_place None = Err NoLabel
code_place (Some (value.Number n)) = Err BadOperand
code_place (Some (value.Code word)) = Ok (2 * word)
code_place (Some (value.Initialised at)) = Err BadOperand
code_place (Some (value.Zeroed at)) = Err BadOperand

abbrev pub put_jump_to : Output → Cond → Result ℕ AsmKind → Result Output AsmKind
put_jump_to o condition (Err kind) = Err kind
put_jump_to o condition (Ok target) =
    if in_reach (code_end o) target then Ok (with_instr o (settled (instr.Jump condition (jump_offset (code_end o) target)) []))
    else Err JumpRange

unfoldable pub put_jump : Known → Output → Cond → Name → Result Output AsmKind
put_jump k o condition target = put_jump_to o condition (code_place (value_of k.names target))

unfoldable pub put_word : Known → Output → Base → ℕ → Result Output AsmKind
put_word k o b word =
    if is_known k.names b then Ok (with_data o (bytes_of (placed_word k uses.Immediate (length o.initialised) b word)) (relocation_at false (length o.initialised) (relocation k.names uses.Immediate b)))
    else Err NoLabel

-- a place in the code and not at its end
abbrev pub below_end : ℕ → Result ℕ AsmKind → Result ℕ AsmKind
below_end code (Err kind) = Err kind
below_end code (Ok at) = if nat_lt at (2 * code) then Ok at else Err BadOperand

-- where an entry or an export may lead
unfoldable pub start_of : Known → Name → Result ℕ AsmKind
start_of k label = below_end k.code (code_place (value_of k.names label))

abbrev pub enter_at : Output → Result ℕ AsmKind → Result Output AsmKind
enter_at o (Err kind) = Err kind
enter_at o (Ok at) = Ok (with_entry o at)

abbrev pub export_at : Output → ℕ → Result ℕ AsmKind → Result Output AsmKind
export_at o number (Err kind) = Err kind
export_at o number (Ok at) = Ok (with_export o number at)

-- the output with a piece, or the piece's first fault
unfoldable pub put_piece : Known → Output → Piece → Result Output AsmKind
put_piece k o (piece.Operation i s d) = put_operation k o i s d
put_piece k o (piece.Jump condition target) = put_jump k o condition target
put_piece k o (piece.Word b word) = put_word k o b word
put_piece k o (piece.Byte b) = Ok (with_data o (b ∷ []) [])
put_piece k o (piece.Entry label) = enter_at o (start_of k label)
put_piece k o (piece.Export number label) = export_at o number (start_of k label)

-- the output of these pieces behind another, or the first line with a fault
abbrev pub second_pass : Known → List Placed → Output → Result Output Fault
second_pass k [] o = Ok o
second_pass k (p ∷ ps) o = behind_line p.line (put_piece k o p.piece) (λ next. second_pass k ps next)
