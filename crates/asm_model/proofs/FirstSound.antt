-- The first pass keeps drafts sound: instructions.
use Rattle.std.proofs.Common.{◌≡◌, ℕ, ◌+◌, ◌≤◌, nat_le, Bool, true, false, not, ◌&&◌, cond, List, [], ◌∷◌, Option, Some, None, Result, Ok, Err, refl}
use Rattle.msp_encode.specs.declared.instr.Op1.{Op1}
use Rattle.msp_encode.specs.declared.instr.Op2.{Op2}
use Rattle.msp_encode.specs.declared.instr.Width.{Width}
use Rattle.msp_encode.specs.declared.instr.Cond.{Cond}
use Rattle.msp_encode.specs.declared.instr.Instr.{Instr}
use Rattle.msp_encode.specs.declared.instr.Instr.TheVariants as instr
use Rattle.asm_model.specs.declared.fault.AsmKind.{AsmKind}
use Rattle.asm_model.specs.declared.fault.AsmKind.TheVariants as kind
use Rattle.asm_model.specs.declared.name.Name.{Name}
use Rattle.asm_model.specs.declared.name.Value.{Value}
use Rattle.asm_model.specs.declared.expression.Base.{Base}
use Rattle.asm_model.specs.declared.expression.Base.TheVariants as base
use Rattle.asm_model.specs.declared.operand.Operand.{Operand}
use Rattle.asm_model.specs.declared.operand.Source.{Source}
use Rattle.asm_model.specs.declared.operand.Destination.{Destination}
use Rattle.asm_model.specs.declared.mnemonic.MnemonicForm.{MnemonicForm}
use Rattle.asm_model.specs.declared.mnemonic.MnemonicForm.TheVariants as form
use Rattle.asm_model.specs.declared.piece.Piece.{Piece}
use Rattle.asm_model.specs.declared.piece.Piece.TheVariants as piece
use Rattle.asm_model.specs.declared.piece.Placed.{Placed}
use Rattle.asm_model.specs.declared.progress.Progress.{Progress}
use Rattle.asm_model.specs.Operands.{operand_of}
use Rattle.msp_encode.specs.Legality.{takes_constant}
use Rattle.asm_model.specs.Instructions.{is_legal, operation, two_piece, one_piece, source_of, destination_of, constant_source, popped, program_counter, jump_piece, label_of, single_piece, double_piece, piece_of_none, piece_of_one, piece_of_two, instruction_of}
use Rattle.asm_model.specs.Drafts.{Draft, by_progress, grown}
use Rattle.asm_model.specs.Sound.{code_total, initialised_total, entry_total, export_total, least_total, ArePieces, IsSound}
use Rattle.asm_model.proofs.Choices.{if_true, if_not, le_of}
use Rattle.code_model.specs.declared.object.TheConstants.{CODE_WORDS_MAX, STATIC_BYTES_MAX}

-- a sound draft, if there is one
abbrev pub OkSound : Result Draft AsmKind → Type 0
OkSound (Ok d) = IsSound d
OkSound (Err k) = Unit {0}

-- a piece of code
abbrev pub IsCodePiece : Piece → Type 0
IsCodePiece (piece.Operation i source destination) = is_legal i ≡ true
IsCodePiece (piece.Jump condition target) = Unit {0}
IsCodePiece (piece.Word base word) = ⊥
IsCodePiece (piece.Byte b) = ⊥
IsCodePiece (piece.Entry label) = ⊥
IsCodePiece (piece.Export number label) = ⊥

abbrev pub OkCode : Result Piece AsmKind → Type 0
OkCode (Ok p) = IsCodePiece p
OkCode (Err k) = Unit {0}

operation_code : (i : Instr) (s d : Base) (fits : Bool) → OkCode (operation i s d fits)
unfolding operation
operation_code i s d fits =
    if_not OkCode (is_legal i) (Err kind.BadOperand) (cond (not fits) (Err kind.NumberRange) (Ok (piece.Operation i s d))) (λ h. tt)
    (λ h. if_not OkCode fits (Err kind.NumberRange) (Ok (piece.Operation i s d)) (λ k. tt) (λ k. h))

two_code : (op : Op2) (width : Width) (s : Source) (d : Option Destination) → OkCode (two_piece op width s d)
two_code op width s None = tt
two_code op width s (Some d) = operation_code (instr.Two op width s.src d.dst) s.base d.base (s.fits && d.fits)

one_code : (op : Op1) (width : Width) (s : Source) → OkCode (one_piece op width s)
one_code op width s = operation_code (instr.One op width s.src) s.base base.Number s.fits

single_code : (f : MnemonicForm) (width : Width) (o : Option Operand) → OkCode (single_piece f width o)
single_code f width None = tt
single_code (form.One op) width (Some o) = one_code op width (source_of (takes_constant op) o)
single_code (form.Constant op constant) width (Some o) = two_code op width (constant_source constant) (destination_of o)
single_code (form.Twice op) width (Some o) = two_code op width (source_of false o) (destination_of o)
single_code form.Pop width (Some o) = two_code _ width popped (destination_of o)
single_code form.Branch width (Some o) = two_code _ width (source_of false o) program_counter
single_code (form.Two op) width (Some o) = tt
single_code (form.Jump condition) width (Some o) = tt
single_code (form.Alone i) width (Some o) = tt

double_code : (op : Op2) (width : Width) (a b : Option Operand) → OkCode (double_piece op width a b)
double_code op width None b = tt
double_code op width (Some a) None = tt
double_code op width (Some a) (Some b) = two_code op width (source_of true a) (destination_of b)

jump_code : (condition : Cond) (name : Option Name) → OkCode (jump_piece condition name)
jump_code condition None = tt
jump_code condition (Some name) = tt

none_code : (f : MnemonicForm) → OkCode (piece_of_none f)
none_code (form.Alone i) = operation_code i base.Number base.Number true
none_code (form.Two op) = tt
none_code (form.One op) = tt
none_code (form.Jump condition) = tt
none_code (form.Constant op constant) = tt
none_code (form.Twice op) = tt
none_code form.Pop = tt
none_code form.Branch = tt

of_one_code : (names : List (Name × Value)) (f : MnemonicForm) (width : Width) (word : List ℕ) → OkCode (piece_of_one names f width word)
of_one_code names (form.Jump condition) width word = jump_code condition (label_of names word)
of_one_code names (form.Two op) width word = tt
of_one_code names (form.One op) width word = single_code (form.One op) width (operand_of names word)
of_one_code names (form.Constant op constant) width word = single_code (form.Constant op constant) width (operand_of names word)
of_one_code names (form.Twice op) width word = single_code (form.Twice op) width (operand_of names word)
of_one_code names form.Pop width word = single_code form.Pop width (operand_of names word)
of_one_code names form.Branch width word = single_code form.Branch width (operand_of names word)
of_one_code names (form.Alone i) width word = tt

of_two_code : (names : List (Name × Value)) (f : MnemonicForm) (width : Width) (a b : List ℕ) → OkCode (piece_of_two names f width a b)
of_two_code names (form.Two op) width a b = double_code op width (operand_of names a) (operand_of names b)
of_two_code names (form.One op) width a b = tt
of_two_code names (form.Jump condition) width a b = tt
of_two_code names (form.Constant op constant) width a b = tt
of_two_code names (form.Twice op) width a b = tt
of_two_code names form.Pop width a b = tt
of_two_code names form.Branch width a b = tt
of_two_code names (form.Alone i) width a b = tt

pub instruction_code : (names : List (Name × Value)) (f : MnemonicForm) (width : Width) (words : List (List ℕ)) → OkCode (instruction_of names f width words)
unfolding instruction_of
instruction_code names f width [] = none_code f
instruction_code names f width (a ∷ []) = of_one_code names f width a
instruction_code names f width (a ∷ b ∷ []) = of_two_code names f width a b
instruction_code names f width (a ∷ b ∷ c ∷ more) = tt

-- ---- pieces that are added

-- pieces that add so many words of code and bytes of static data, and no entry or export
pub record Adds (at : ℕ) (ps : List Placed) (code initialised : ℕ) : Type 0 where
  pub code_is : code_total ps ≡ code
  pub initialised_is : initialised_total ps ≡ initialised
  pub no_entry : entry_total ps ≡ 0
  pub no_export : export_total ps ≡ 0
  pub same_least : (least : ℕ) → least_total least ps ≡ least
  pub fit : (least : ℕ) → ArePieces at least ps

-- a progress that has grown
pub record Grows (p q : Progress) (code initialised zeroed : ℕ) : Type 0 where
  pub header_is : q.header ≡ p.header
  pub least_is : q.least_export ≡ p.least_export
  pub code_is : q.code ≡ p.code + code
  pub initialised_is : q.initialised ≡ p.initialised + initialised
  pub zeroed_is : q.zeroed ≡ p.zeroed + zeroed
  pub code_most : q.code ≤ CODE_WORDS_MAX
  pub static_most : q.initialised + q.zeroed ≤ STATIC_BYTES_MAX

abbrev pub OkGrows : Progress → ℕ → ℕ → ℕ → Result Progress AsmKind → Type 0
OkGrows p code initialised z (Ok q) = Grows p q code initialised z
OkGrows p code initialised z (Err k) = Unit {0}

pub grown_grows : (p : Progress) (c i z : ℕ) → OkGrows p c i z (grown p c i z)
unfolding grown
grown_grows p c i z =
    let next : Progress = by_progress p true p.section p.entered p.least_export (p.code + c) (p.initialised + i) (p.zeroed + z) in
    let room : Bool = nat_le ((p.initialised + i) + (p.zeroed + z)) STATIC_BYTES_MAX in
    if_true (OkGrows p c i z) (nat_le (p.code + c) CODE_WORDS_MAX) (cond room (Ok next) (Err kind.TooLarge)) (Err kind.TooLarge)
    (λ h. if_true (OkGrows p c i z) room (Ok next) (Err kind.TooLarge)
    (λ k. record { header_is = refl; least_is = refl; code_is = refl; initialised_is = refl; zeroed_is = refl; code_most = le_of (p.code + c) CODE_WORDS_MAX h; static_most = le_of ((p.initialised + i) + (p.zeroed + z)) STATIC_BYTES_MAX k })
    (λ k. tt))
    (λ h. tt)
