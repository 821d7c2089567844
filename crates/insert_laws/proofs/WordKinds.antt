-- The relocation of an operand's word where its piece stands.
use Rattle.std.proofs.Common.{◌≡◌, ℕ, suc, ◌+◌, List, [], ◌∷◌, ◌++◌, length, Option, None, refl, sym, subst, ap, ◌∙◌, arith}
use Rattle.msp_encode.specs.declared.instr.Op2.{Op2}
use Rattle.msp_encode.specs.declared.instr.Width.{Width}
use Rattle.msp_encode.specs.declared.instr.Src.TheVariants as src
use Rattle.msp_encode.specs.declared.instr.Dst.{Dst}
use Rattle.msp_encode.specs.declared.instr.Instr.{Instr}
use Rattle.msp_encode.specs.declared.instr.Instr.TheVariants as instr
use Rattle.code_model.specs.declared.object.Object.{Object}
use Rattle.code_model.specs.declared.parts.RelKind.{RelKind}
use Rattle.code_model.specs.Relocs.{Unrelocated}
use Rattle.code_model.specs.Rules as code
use Rattle.insert_model.specs.declared.piece.Piece.{Piece}
use Rattle.insert_model.specs.declared.piece.Word.{Word}
use Rattle.insert_model.specs.Words.{operand_words, piece_words, unit_words}
use Rattle.insert_model.specs.Inserted.{moved_value}
use Rattle.insert_model.specs.Faults.{ChangesFlags}
use Rattle.insert_laws.specs.Pieces.{moved_instr}
use Rattle.insert_laws.specs.Laws.{kind_in}
use Rattle.insert_laws.proofs.Guarding.{span, unit_words_append}

kind_behind : (us ws : List Word) (m : ℕ) → kind_in (us ++ ws) (length us + m) ≡ kind_in ws m
kind_behind [] ws m = let e : 0 + m ≡ m = omega arith in ap (kind_in ws) e
kind_behind (u ∷ us) ws m = let e : suc (length us) + m ≡ suc (length us + m) = omega arith in ap (kind_in (u ∷ (us ++ ws))) e ∙ kind_behind us ws m

words_cut : (x : List Piece) (p : Piece) (z : List Piece) → unit_words (x ++ p ∷ z) ≡ unit_words x ++ (piece_words p ++ unit_words z)
unfolding unit_words
words_cut x p z = unit_words_append x (p ∷ z)

-- word m of a piece and of what follows it
pub piece_kind : (x : List Piece) (p : Piece) (z : List Piece) (m : ℕ) → kind_in (unit_words (x ++ p ∷ z)) (span x + m) ≡ kind_in (piece_words p ++ unit_words z) m
unfolding span
piece_kind x p z m = ap (λ (ws : List Word). kind_in ws (length (unit_words x) + m)) (words_cut x p z) ∙ kind_behind (unit_words x) (piece_words p ++ unit_words z) m

-- an immediate is the second word
pub source_kind : (x : List Piece) (p : Piece) (z : List Piece) (op : Op2) (w : Width) (v : ℕ) (d : Dst) → p.instr ≡ instr.Two op w (src.Immediate v) d
    → kind_in (unit_words (x ++ p ∷ z)) (span x + 1) ≡ p.source
unfolding piece_words
source_kind x p z op w v d e = piece_kind x p z 1 ∙ ap (λ (i : Instr). kind_in (operand_words i p.source p.destination ++ unit_words z) 0) e

-- flags stay as they are
pub flags_moved : (go : ℕ → ℕ) (q : Object) (at : ℕ) (i : Instr) (j k : Option RelKind)
    → ((op : Op2) (w : Width) (v : ℕ) (d : Dst) → i ≡ instr.Two op w (src.Immediate v) d → j ≡ None → Unrelocated q.relocs (at + 1)) → ChangesFlags i j → code.ChangesFlags q at (moved_instr go j k i)
flags_moved go q at (instr.Two op w (src.Reg n) d) j k bare h = absurd h.2
flags_moved go q at (instr.Two op w (src.Indexed n x) d) j k bare h = absurd h.2
flags_moved go q at (instr.Two op w (src.Symbolic x) d) j k bare h = absurd h.2
flags_moved go q at (instr.Two op w (src.Absolute x) d) j k bare h = absurd h.2
flags_moved go q at (instr.Two op w (src.Indirect n) d) j k bare h = absurd h.2
flags_moved go q at (instr.Two op w (src.AutoInc n) d) j k bare h = absurd h.2
flags_moved go q at (instr.Two op w (src.Immediate x) d) j k bare h =
    let none : j ≡ None = h.2.0 in (h.0, h.1, (bare op w x d refl none, subst (λ (y : Option RelKind). code.IsFlags (moved_value go x y)) (sym none) h.2.1))
flags_moved go q at (instr.Two op w (src.Const c) d) j k bare h = h
flags_moved go q at (instr.One op w s) j k bare h = absurd h
flags_moved go q at instr.Reti j k bare h = absurd h
flags_moved go q at (instr.Jump c n) j k bare h = absurd h
