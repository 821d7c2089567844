-- The rule on the static part refuses no object with guards.
use Rattle.std.proofs.Common.{◌≡◌, ℕ, ◌+◌, ◌*◌, ◌/◌, ◌%◌, ◌<◌, suc, Bool, true, false, List, [], ◌∷◌, ◌++◌, length, fold, slice_set, Option, Some, refl, sym, subst, ap, ◌∙◌, arith}
use Rattle.std.proofs.lemmas.List.{length-set}
use Rattle.msp_encode.specs.declared.instr.Op1.{Op1}
use Rattle.msp_encode.specs.declared.instr.Op2.{Op2}
use Rattle.msp_encode.specs.declared.instr.Width.{Width}
use Rattle.msp_encode.specs.declared.instr.Src.{Src}
use Rattle.msp_encode.specs.declared.instr.Src.TheVariants as src
use Rattle.msp_encode.specs.declared.instr.Dst.TheVariants as dst
use Rattle.msp_encode.specs.declared.instr.Instr.{Instr}
use Rattle.msp_encode.specs.declared.instr.Instr.TheVariants as instr
use Rattle.msp_encode.specs.Spelling.{src_words}
use Rattle.code_model.specs.declared.object.Object.{Object}
use Rattle.code_model.specs.declared.parts.Reloc.{Reloc}
use Rattle.code_model.specs.declared.parts.RelKind.{RelKind}
use Rattle.code_model.specs.declared.parts.RelKind.TheVariants.{Code, Data, Lo, Hi}
use Rattle.code_model.specs.Fields.{Fields, fields}
use Rattle.code_model.specs.Relocs.{HasReloc}
use Rattle.code_model.specs.Rules.{WritesWild}
use Rattle.code_model.specs.Statics.{static_size, InStatic}
use Rattle.insert_model.specs.declared.piece.Piece.{Piece}
use Rattle.insert_model.specs.declared.piece.Word.{Word}
use Rattle.insert_model.specs.Words.{operand_words, piece_words, unit_words}
use Rattle.insert_model.specs.Units.{static_bytes}
use Rattle.insert_model.specs.Layout.{place_map}
use Rattle.insert_model.specs.Inserted.{moved_value, with_word, moved_at, moved_data, with_guards, inserted}
use Rattle.insert_model.specs.Faults.{IsInserted}
use Rattle.insert_laws.specs.Pieces.{moved_src, moved_instr}
use Rattle.insert_laws.specs.Laws.{kind_in}
use Rattle.insert_laws.proofs.Guarding.{span}
use Rattle.insert_laws.proofs.ServedForms.{src_count}
use Rattle.insert_laws.proofs.WordKinds.{piece_kind}
use Rattle.insert_laws.proofs.Tame.{TameInstr}

-- ---- the static part keeps its size

with_word_length : (bs : List ℕ) (d v : ℕ) → length (with_word bs d v) ≡ length bs
with_word_length bs d v = length-set (slice_set bs d (v % 256)) (d + 1) (v / 256) ∙ length-set bs d (v % 256)

moved_at_length : (go : ℕ → ℕ) (bs : List ℕ) (d : ℕ) (k : RelKind) → length (moved_at go bs d k) ≡ length bs
moved_at_length go bs d Code = with_word_length bs d _
moved_at_length go bs d Data = refl
moved_at_length go bs d Lo = refl
moved_at_length go bs d Hi = refl

moved_length : (go : ℕ → ℕ) (bs : List ℕ) (r : Reloc) → length (moved_data go bs r) ≡ length bs
moved_length go bs r = by r.in_code refl
  where
    by : (b : Bool) → r.in_code ≡ b → length (moved_data go bs r) ≡ length bs
    by true e = rw e refl
    by false e = rw e (moved_at_length go bs r.offset r.kind)

pub init_length : (go : ℕ → ℕ) (rs : List Reloc) (bs : List ℕ) → length (fold (moved_data go) bs rs) ≡ length bs
init_length go [] bs = refl
init_length go (r ∷ rs) bs = init_length go rs (moved_data go bs r) ∙ moved_length go bs r

init_stays : (o q : Object) → IsInserted o q → length q.init ≡ length o.init
unfolding inserted with_guards
init_stays o q i = ap (λ (f : Fields). length f.init) i.is ∙ init_length (place_map (fields o)) o.relocs o.init

zeroed_stays : (o q : Object) → IsInserted o q → q.zeroed ≡ o.zeroed
unfolding inserted with_guards
zeroed_stays o q i = ap (λ (f : Fields). f.zeroed) i.is

pub size_stays : (o q : Object) → IsInserted o q → static_size q ≡ static_bytes (fields o)
unfolding static_bytes
size_stays o q i = λ j. (init_stays o q i j + zeroed_stays o q i j + 1) / 2 * 2

-- ---- the word of an absolute operand

behind_source : (op : Op2) (w : Width) (s : Src) (v : ℕ) (j k : Option RelKind) (rest : List Word) → kind_in (operand_words (instr.Two op w s (dst.Absolute v)) j k ++ rest) (length (src_words s)) ≡ k
behind_source op w (src.Reg n) v j k rest = refl
behind_source op w (src.Indexed n x) v j k rest = refl
behind_source op w (src.Symbolic x) v j k rest = refl
behind_source op w (src.Absolute x) v j k rest = refl
behind_source op w (src.Indirect n) v j k rest = refl
behind_source op w (src.AutoInc n) v j k rest = refl
behind_source op w (src.Immediate x) v j k rest = refl
behind_source op w (src.Const c) v j k rest = refl

pub destination_kind : (x : List Piece) (p : Piece) (z : List Piece) (op : Op2) (w : Width) (s : Src) (v : ℕ) → p.instr ≡ instr.Two op w s (dst.Absolute v)
    → kind_in (unit_words (x ++ p ∷ z)) (span x + (1 + length (src_words s))) ≡ p.destination
unfolding piece_words
destination_kind x p z op w s v e =
    piece_kind x p z (1 + length (src_words s))
    ∙ (let n : 1 + length (src_words s) ≡ suc (length (src_words s)) = omega arith in ap (kind_in (piece_words p ++ unit_words z)) n)
    ∙ ap (λ (i : Instr). kind_in (operand_words i p.source p.destination ++ unit_words z) (length (src_words s))) e
    ∙ behind_source op w s v p.source p.destination (unit_words z)

pub operand_kind : (x : List Piece) (p : Piece) (z : List Piece) (op : Op1) (w : Width) (v : ℕ) → p.instr ≡ instr.One op w (src.Absolute v) → kind_in (unit_words (x ++ p ∷ z)) (span x + 1) ≡ p.source
unfolding piece_words
operand_kind x p z op w v e = piece_kind x p z 1 ∙ ap (λ (i : Instr). kind_in (operand_words i p.source p.destination ++ unit_words z) 0) e

-- ---- a tame instruction where it stands

in_static : (go : ℕ → ℕ) (q : Object) (at size v : ℕ) (k : Option RelKind) → size ≡ static_size q → (k ≡ Some Data) → v < size → HasReloc q.relocs at Data → InStatic q at (moved_value go v k)
in_static go q at size v k same e less h = (h, subst (λ (y : Option RelKind). moved_value go v y < static_size q) (sym e) (subst (λ (n : ℕ). v < n) same less))

module _ (go : ℕ → ℕ) (q : Object) (at size : ℕ) (same : size ≡ static_size q) where
  pub tame_stands : (i : Instr) (j k : Option RelKind) → TameInstr size i j k
      → ((op : Op2) (w : Width) (s : Src) (v : ℕ) → i ≡ instr.Two op w s (dst.Absolute v) → k ≡ Some Data → HasReloc q.relocs (at + (1 + length (src_words s))) Data)
      → ((op : Op1) (w : Width) (v : ℕ) → i ≡ instr.One op w (src.Absolute v) → j ≡ Some Data → HasReloc q.relocs (at + 1) Data) → WritesWild q at (moved_instr go j k i) → ⊥
  tame_stands (instr.Two op w s (dst.Reg n)) j k t two one h = h.1
  tame_stands (instr.Two op w s (dst.Indexed n x)) j k t two one h = h.1
  tame_stands (instr.Two op w s (dst.Symbolic x)) j k t two one h = h.1
  tame_stands (instr.Two op w s (dst.Absolute x)) j k t two one h =
      let m = t h.0 in
      let e : at + (1 + length (src_words s)) ≡ at + 1 + length (src_words (moved_src go j s)) = omega (arith, src_count go j s) in
      h.1 (in_static go q (at + 1 + length (src_words (moved_src go j s))) size x k same m.0 m.1 (subst (λ (n : ℕ). HasReloc q.relocs n Data) e (two op w s x refl m.0)))
  tame_stands (instr.One op w (src.Reg n)) j k t two one h = h.1
  tame_stands (instr.One op w (src.Indexed n x)) j k t two one h = h.1
  tame_stands (instr.One op w (src.Symbolic x)) j k t two one h = h.1
  tame_stands (instr.One op w (src.Absolute x)) j k t two one h = let m = t h.0 in h.1 (in_static go q (at + 1) size x j same m.0 m.1 (one op w x refl m.0))
  tame_stands (instr.One op w (src.Indirect n)) j k t two one h = h.1
  tame_stands (instr.One op w (src.AutoInc n)) j k t two one h = h.1
  tame_stands (instr.One op w (src.Immediate x)) j k t two one h = h.1
  tame_stands (instr.One op w (src.Const c)) j k t two one h = h.1
  tame_stands instr.Reti j k t two one h = h
  tame_stands (instr.Jump c n) j k t two one h = h
