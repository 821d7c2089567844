use Rattle.std.proofs.Common.{subst, ◌↔◌, IsTrue}
use Rattle.insert_model.specs.declared.piece.Piece.{Piece}
use Rattle.insert_model.specs.Faults.{PieceMisses}
use Rattle.source_faults.proofs.Questions.{not_so, last_of_four}
use Rattle.source_faults.proofs.targets.goes_wrong.Goals as goal

pub returns : goal.returns
returns c =
    last_of_four _ _ _ _ _ (not_so _ _ c.jump_misses.ensures c.if-jump_misses.false) (not_so _ _ c.transfer_misses.ensures c.if-transfer_misses.false)
    (not_so _ _ (subst (λ (p : Piece). IsTrue c.piece_misses.result ↔ PieceMisses c.args.o.now.code p) c.own.ensures c.piece_misses.ensures) c.if-piece_misses.false) c.runs_out.ensures
