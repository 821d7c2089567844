-- Units of several parts.
use Rattle.std.proofs.Common.{◌≡◌, List, [], ◌∷◌, ◌++◌, Option, ap, ◌∙◌}
use Rattle.msp_encode.specs.declared.instr.Op2.{Op2}
use Rattle.msp_encode.specs.declared.instr.Op2.TheVariants.{Mov}
use Rattle.msp_encode.specs.declared.instr.Op1.TheVariants.{Call}
use Rattle.msp_encode.specs.declared.instr.Width.{Width}
use Rattle.msp_encode.specs.declared.instr.Width.TheVariants.{Wide}
use Rattle.msp_encode.specs.declared.instr.Src.{Src}
use Rattle.msp_encode.specs.declared.instr.Src.TheVariants as src
use Rattle.msp_encode.specs.declared.instr.Instr.TheVariants as instr
use Rattle.code_model.specs.declared.parts.RelKind.{RelKind}
use Rattle.insert_model.specs.declared.piece.Piece.{Piece}
use Rattle.insert_model.specs.declared.piece.Word.{Word}
use Rattle.insert_model.specs.Words.{unit_words}
use Rattle.insert_model.specs.Guards.{plain, take_sp, give_sp, sp_guard, growth_guard}
use Rattle.insert_model.specs.Units.{into_r4, setting_sp, calling_value}
use Rattle.check_inserter.proofs.Growing.{both_words}
use Rattle.kernel_model.specs.declared.entries.TheConstants.{CALLS}

pub setting_words : (out a b : List Word) (op : Op2) (w : Width) (s : Src) (k : Option RelKind) (t i e : Piece) (g : List Piece) → t ≡ take_sp → i ≡ into_r4 op w s k → g ≡ sp_guard → e ≡ give_sp
    → a ≡ out ++ unit_words (t ∷ i ∷ g) → b ≡ a ++ unit_words (e ∷ []) → b ≡ out ++ unit_words (setting_sp op w s k)
setting_words out a b op w s k t i e g et ei eg ee ea eb =
    let same : (t ∷ i ∷ g) ++ e ∷ [] ≡ setting_sp op w s k = λ j. (et j ∷ ei j ∷ eg j) ++ ee j ∷ [] in
    both_words out a b (t ∷ i ∷ g) (e ∷ []) ea eb ∙ ap (λ (ps : List Piece). out ++ unit_words ps) same

pub calling_words : (out a b : List Word) (s : Src) (k : Option RelKind) (i e : Piece) (g : List Piece) → i ≡ into_r4 Mov Wide s k → g ≡ growth_guard
    → e ≡ plain (instr.One Call Wide (src.Immediate CALLS)) → a ≡ out ++ unit_words (i ∷ g) → b ≡ a ++ unit_words (e ∷ []) → b ≡ out ++ unit_words (calling_value s k)
calling_words out a b s k i e g ei eg ee ea eb =
    let same : (i ∷ g) ++ e ∷ [] ≡ calling_value s k = λ j. (ei j ∷ eg j) ++ ee j ∷ [] in
    both_words out a b (i ∷ g) (e ∷ []) ea eb ∙ ap (λ (ps : List Piece). out ++ unit_words ps) same
