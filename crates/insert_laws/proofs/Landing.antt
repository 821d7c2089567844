-- The rule on targets refuses no object with guards.
use Rattle.std.proofs.Common.{◌≡◌, ℕ, ◌+◌, List, ◌∷◌, ◌++◌, Option, None, Some, subst, ap, ◌∙◌}
use Rattle.msp_encode.specs.declared.instr.Op1.{Op1}
use Rattle.msp_encode.specs.declared.instr.Width.{Width}
use Rattle.msp_encode.specs.declared.instr.Src.TheVariants as src
use Rattle.msp_encode.specs.declared.instr.Instr.{Instr}
use Rattle.msp_encode.specs.declared.instr.Instr.TheVariants as instr
use Rattle.code_model.specs.declared.object.Object.{Object}
use Rattle.code_model.specs.declared.parts.RelKind.{RelKind}
use Rattle.code_model.specs.declared.parts.RelKind.TheVariants.{Code}
use Rattle.code_model.specs.Fields.{Fields, fields}
use Rattle.code_model.specs.declared.rules.Rule.TheVariants as rule
use Rattle.code_model.specs.Starts.{Start}
use Rattle.code_model.specs.Relocs.{HasReloc, Unrelocated}
use Rattle.code_model.specs.Rules.{IsUnitOffset, TransferMissesTarget, BreaksAt}
use Rattle.code_laws.specs.Laws.{IsSame}
use Rattle.insert_model.specs.declared.piece.Piece.{Piece}
use Rattle.msp_encode.specs.Spelled.{count}
use Rattle.insert_model.specs.Words.{operand_words, piece_words, unit_words}
use Rattle.insert_model.specs.Groups.{groups}
use Rattle.insert_model.specs.Layout.{place_map}
use Rattle.insert_model.specs.Inserted.{with_guards, inserted}
use Rattle.insert_model.specs.Faults.{IsStartOffset, IsInserted}
use Rattle.insert_laws.specs.Pieces.{pieces, standing, PieceAt}
use Rattle.insert_laws.specs.Laws.{kind_in, PiecesStand, UnitAt, StartsAreUnits, TargetRulePasses}
use Rattle.insert_laws.proofs.CleanGroups.{Premises, all_groups}
use Rattle.insert_laws.proofs.Placed.{pieces_stand}
use Rattle.insert_laws.proofs.GuardWords.{no_reloc, a_reloc}
use Rattle.insert_laws.proofs.Guarding.{span, size_span}
use Rattle.insert_laws.proofs.WordKinds.{piece_kind, source_kind}
use Rattle.insert_laws.proofs.Aimed.{AllAimed, aimed_member, pieces_aimed, aimed_stands}
use Rattle.insert_laws.proofs.FormRules.{words_are}

callee_kind : (x : List Piece) (p : Piece) (z : List Piece) (op : Op1) (w : Width) (v : ℕ) → p.instr ≡ instr.One op w (src.Immediate v) → kind_in (unit_words (x ++ p ∷ z)) (span x + 1) ≡ p.source
unfolding piece_words
callee_kind x p z op w v e = piece_kind x p z 1 ∙ ap (λ (i : Instr). kind_in (operand_words i p.source p.destination ++ unit_words z) 0) e

stays : (o q : Object) → IsInserted o q → q.kind ≡ o.kind
unfolding inserted with_guards
stays o q i = ap (λ (f : Fields). f.kind) i.is

unit_offset : (o q : Object) → ((t : ℕ) → Start o.code t → UnitAt o q t) → (x : ℕ) → IsStartOffset o.code x → IsUnitOffset q (place_map (fields o) x)
unfolding IsStartOffset IsUnitOffset
unit_offset o q all x s = let u : UnitAt o q s.0 = all s.0 s.1 in (u.place, u.unit, ap (place_map (fields o)) s.2 ∙ u.is)

module _ (given : Premises) (units : StartsAreUnits) (o q : Object) (i : IsInserted o q) where
  aimed : AllAimed o (pieces (fields o))
  unfolding pieces
  aimed = pieces_aimed o (groups (fields o)) (all_groups given o q i)

  lands_on : (at : ℕ) (x : List Piece) (p : Piece) (z : List Piece) → pieces (fields o) ≡ x ++ p ∷ z → at ≡ span x → TransferMissesTarget q at (standing (place_map (fields o)) p) → ⊥
  unfolding standing
  lands_on at x p z are place h =
      let kinds : (k : Option RelKind) → kind_in (unit_words (x ++ p ∷ z)) (span x + 1) ≡ k → kind_in (unit_words (pieces (fields o))) (at + 1) ≡ k =
      λ k e. ap (λ (n : ℕ). kind_in (unit_words (pieces (fields o))) (n + 1)) place ∙ ap (λ (ps : List Piece). kind_in (unit_words ps) (span x + 1)) are ∙ e in
      let some : kind_in (unit_words (x ++ p ∷ z)) (span x + 1) ≡ p.source → p.source ≡ Some Code → HasReloc q.relocs (at + 1) Code =
      λ e f. a_reloc o q (unit_words (pieces (fields o))) (words_are o q i) (at + 1) Code (kinds (Some Code) (e ∙ f)) in
      let none : kind_in (unit_words (x ++ p ∷ z)) (span x + 1) ≡ p.source → p.source ≡ None → Unrelocated q.relocs (at + 1) =
      λ e f. no_reloc o q (unit_words (pieces (fields o))) (words_are o q i) (at + 1) (kinds None (e ∙ f)) in
      aimed_stands o q (place_map (fields o)) at (stays o q i) (unit_offset o q (units o q i)) p.instr p.source p.destination (aimed_member o x p z (subst (AllAimed o) are aimed))
      (λ op w v d e. (some (source_kind x p z op w v d e), none (source_kind x p z op w v d e)))
      (λ op w v e. (some (callee_kind x p z op w v e), none (callee_kind x p z op w v e)))
      h

  no_target : (at : ℕ) → BreaksAt rule.Target q at → ⊥
  no_target at b =
      let go : ℕ → ℕ = place_map (fields o) in
      let stand : PiecesStand o q = pieces_stand given o q i in
      let p : PieceAt (fields o) at = stand.starts at b.start in
      let s : IsSame b.instr (standing go p.piece) b.words (count (standing go p.piece)) = given.one q.code at b.instr (standing go p.piece) b.words (count (standing go p.piece)) b.stands (stand.stands at p) in
      lands_on at p.before p.piece p.after p.are (p.place ∙ size_span go p.before) (subst (TransferMissesTarget q at) s.instr b.breaks)

pub target_passes : Premises → StartsAreUnits → TargetRulePasses
target_passes given units o q i at h = no_target given units o q i at h.1
