-- The words of pieces where their targets have moved.
use Rattle.std.proofs.Common.{◌≡◌, ℕ, List, [], ◌∷◌, ◌++◌, length, map, Option, refl, sym, ap, ◌∙◌, arith}
use Rattle.std.specs.List.{flat_map}
use Rattle.std.proofs.lemmas.List.{length-map, map-append}
use Rattle.std.proofs.lemmas.List.Concat.{flat_map-append}
use Rattle.msp_encode.specs.declared.instr.Src.{Src}
use Rattle.msp_encode.specs.declared.instr.Src.TheVariants as src
use Rattle.msp_encode.specs.declared.instr.Dst.{Dst}
use Rattle.msp_encode.specs.declared.instr.Dst.TheVariants as dst
use Rattle.msp_encode.specs.declared.instr.Instr.{Instr}
use Rattle.msp_encode.specs.declared.instr.Instr.TheVariants as instr
use Rattle.msp_encode.specs.Spelling.{op2_code, op1_code, width_code, src_words, dst_words, words_after}
use Rattle.code_model.specs.declared.parts.RelKind.{RelKind}
use Rattle.code_model.specs.Fields.{Fields}
use Rattle.insert_model.specs.declared.piece.Piece.{Piece}
use Rattle.insert_model.specs.declared.piece.Word.{Word}
use Rattle.msp_encode.specs.Spelled.{src_register, src_mode, dst_register, dst_mode, two_word, one_word, first_word, spelling, count}
use Rattle.insert_model.specs.Words.{with_kind, operand_words, piece_words, unit_words}
use Rattle.insert_model.specs.Units.{static_bytes}
use Rattle.insert_model.specs.Groups.{Group, groups}
use Rattle.insert_model.specs.Layout.{final, final_units, units}
use Rattle.insert_model.specs.Inserted.{moved}
use Rattle.insert_laws.specs.Pieces.{unit_of_group, pieces_of, pieces, moved_src, moved_dst, moved_instr, standing}

-- ---- one piece

src_same : (go : ℕ → ℕ) (k : Option RelKind) (s : Src) → map (moved go) (with_kind k (src_words s)) ≡ src_words (moved_src go k s)
src_same go k (src.Reg n) = refl
src_same go k (src.Indexed n x) = refl
src_same go k (src.Symbolic x) = refl
src_same go k (src.Absolute x) = refl
src_same go k (src.Indirect n) = refl
src_same go k (src.AutoInc n) = refl
src_same go k (src.Immediate x) = refl
src_same go k (src.Const c) = refl

dst_same : (go : ℕ → ℕ) (k : Option RelKind) (d : Dst) → map (moved go) (with_kind k (dst_words d)) ≡ dst_words (moved_dst go k d)
dst_same go k (dst.Reg n) = refl
dst_same go k (dst.Indexed n x) = refl
dst_same go k (dst.Symbolic x) = refl
dst_same go k (dst.Absolute x) = refl

src_register_same : (go : ℕ → ℕ) (k : Option RelKind) (s : Src) → src_register s ≡ src_register (moved_src go k s)
src_register_same go k (src.Reg n) = refl
src_register_same go k (src.Indexed n x) = refl
src_register_same go k (src.Symbolic x) = refl
src_register_same go k (src.Absolute x) = refl
src_register_same go k (src.Indirect n) = refl
src_register_same go k (src.AutoInc n) = refl
src_register_same go k (src.Immediate x) = refl
src_register_same go k (src.Const c) = refl

src_mode_same : (go : ℕ → ℕ) (k : Option RelKind) (s : Src) → src_mode s ≡ src_mode (moved_src go k s)
src_mode_same go k (src.Reg n) = refl
src_mode_same go k (src.Indexed n x) = refl
src_mode_same go k (src.Symbolic x) = refl
src_mode_same go k (src.Absolute x) = refl
src_mode_same go k (src.Indirect n) = refl
src_mode_same go k (src.AutoInc n) = refl
src_mode_same go k (src.Immediate x) = refl
src_mode_same go k (src.Const c) = refl

dst_register_same : (go : ℕ → ℕ) (k : Option RelKind) (d : Dst) → dst_register d ≡ dst_register (moved_dst go k d)
dst_register_same go k (dst.Reg n) = refl
dst_register_same go k (dst.Indexed n x) = refl
dst_register_same go k (dst.Symbolic x) = refl
dst_register_same go k (dst.Absolute x) = refl

dst_mode_same : (go : ℕ → ℕ) (k : Option RelKind) (d : Dst) → dst_mode d ≡ dst_mode (moved_dst go k d)
dst_mode_same go k (dst.Reg n) = refl
dst_mode_same go k (dst.Indexed n x) = refl
dst_mode_same go k (dst.Symbolic x) = refl
dst_mode_same go k (dst.Absolute x) = refl

first_same : (go : ℕ → ℕ) (j k : Option RelKind) (i : Instr) → first_word i ≡ first_word (moved_instr go j k i)
first_same go j k (instr.Two op w s d) =
    λ t. two_word (op2_code op) (width_code w) (src_register_same go j s t) (src_mode_same go j s t) (dst_register_same go k d t) (dst_mode_same go k d t)
first_same go j k (instr.One op w s) = λ t. one_word (op1_code op) (width_code w) (src_register_same go j s t) (src_mode_same go j s t)
first_same go j k instr.Reti = refl
first_same go j k (instr.Jump c n) = refl

operands_same : (go : ℕ → ℕ) (j k : Option RelKind) (i : Instr) → map (moved go) (operand_words i j k) ≡ words_after (moved_instr go j k i)
operands_same go j k (instr.Two op w s d) = map-append (moved go) (with_kind j (src_words s)) (with_kind k (dst_words d)) ∙ (λ t. src_same go j s t ++ dst_same go k d t)
operands_same go j k (instr.One op w s) = src_same go j s
operands_same go j k instr.Reti = refl
operands_same go j k (instr.Jump c n) = refl

pub piece_same : (go : ℕ → ℕ) (p : Piece) → map (moved go) (piece_words p) ≡ spelling (standing go p)
unfolding piece_words spelling standing
piece_same go p = λ t. first_same go p.source p.destination p.instr t ∷ operands_same go p.source p.destination p.instr t

-- an instruction is as long where it stands as its piece
pub count_piece : (go : ℕ → ℕ) (p : Piece) → count (standing go p) ≡ length (piece_words p)
unfolding spelling
count_piece go p = omega (arith, ap length (sym (piece_same go p)), length-map (piece_words p) (moved go))

-- ---- pieces

pub unit_same : (go : ℕ → ℕ) (ps : List Piece) → map (moved go) (unit_words ps) ≡ flat_map spelling (map (standing go) ps)
unfolding unit_words
unit_same go [] = refl
unit_same go (p ∷ ps) = map-append (moved go) (piece_words p) (flat_map piece_words ps) ∙ (λ t. piece_same go p t ++ unit_same go ps t)

-- the words of units, whatever they name
pub units_words : (f : Fields) (gs : List Group) → units (final f) (static_bytes f) gs ≡ unit_words (pieces_of f gs)
unfolding units pieces_of unit_of_group unit_words
units_words f [] = refl
units_words f (g ∷ gs) =
    ap (λ (ws : List Word). unit_words (unit_of_group f g) ++ ws) (units_words f gs) ∙ sym (flat_map-append piece_words (unit_of_group f g) (flat_map (unit_of_group f) gs))

pub final_words : (f : Fields) → final_units f ≡ unit_words (pieces f)
unfolding final_units pieces
final_words f = units_words f (groups f)
