-- What of a sound draft the second pass needs.
use Rattle.std.proofs.Common.{ℕ, ◌+◌, List, [], ◌∷◌}
use Rattle.asm_model.specs.declared.piece.Piece.{Piece}
use Rattle.asm_model.specs.declared.piece.Piece.TheVariants as piece
use Rattle.asm_model.specs.declared.piece.Placed.{Placed}
use Rattle.asm_model.specs.Drafts.{initialised_bytes}
use Rattle.asm_model.specs.Sound.{IsSoundPiece, ArePieces, least_behind}
use Rattle.msp_asm.specs.Given.{IsLegalPiece}

abbrev pub AreLegal : List Placed → Type 0
AreLegal [] = Unit {0}
AreLegal (p ∷ ps) = IsLegalPiece p.piece × AreLegal ps

legal_piece : (at least : ℕ) (p : Piece) → IsSoundPiece at least p → IsLegalPiece p
legal_piece at least (piece.Operation i source destination) h = h
legal_piece at least (piece.Jump condition target) h = tt
legal_piece at least (piece.Word base word) h = tt
legal_piece at least (piece.Byte b) h = tt
legal_piece at least (piece.Entry label) h = tt
legal_piece at least (piece.Export number label) h = tt

pub are_legal : (ps : List Placed) (at least : ℕ) → ArePieces at least ps → AreLegal ps
are_legal [] at least h = tt
are_legal (p ∷ ps) at least h = (legal_piece at least p.piece h.0, are_legal ps (at + initialised_bytes p.piece) (least_behind least p.piece) h.1)
