use Rattle.std.proofs.Common.{◌≡◌, ℕ, length, take, arith, length-take, refl, sym, ap, subst}
use Rattle.edge_io.specs.Steps.{BeginsOf}
use Rattle.edge_io.specs.Turns.{Reads, no_read, next_read}
use Rattle.edge_io.proofs.Progress.{begins_empty, leaves_more, leaves_none, ends_in}
use Rattle.edge_io.proofs.whole.read_all.Goals as goal

pub loop-into-init : goal.loop-into-init
loop-into-init g c =
    let empty : length c.new-got.result ≡ 0 = ap length c.new-got.ensures in
    record {
      begins = begins_empty _ _ _ c.new-got.ensures;
      leaves = leaves_none _ _;
      size = omega arith;
      turns = subst (λ n. Reads g.F.Folder.called c.args.name.now c.args.files.now c.args.files.now n) (sym empty) no_read;
    }

pub loop-into-preserved : goal.loop-into-preserved
loop-into-preserved g c = record {
  begins =
      subst (λ f. BeginsOf f c.args.name.now c.turn.new.got) (sym c.in-Ok.ensures.leaves.files) c.in-Ok.ensures.begins;
  leaves = leaves_more _ _ _ _ _ c.loop-into.invariant.leaves c.in-Ok.ensures.leaves;
  size = omega (arith, length-take {A = ℕ}, c.in-Ok.ensures.grows, c.in-Ok.ensures.size, c.len-in-loop-into.ensures);
  turns =
      subst (λ n. Reads g.F.Folder.called c.args.name.now c.args.files.now c.turn.new.files n) (sym c.in-Ok.ensures.grows) (next_read c.loop-into.invariant.turns c.in-Ok.ensures.calls (omega (arith, c.in-Ok.field-0-test.1)));
}

pub returns-in-Err-clause-calls : goal.returns-in-Err-clause-calls
returns-in-Err-clause-calls g c = record {
  mid = c.loop-into.files;
  total = length c.loop-into.got;
  turns = c.loop-into.invariant.turns;
  bound = c.loop-into.invariant.size;
  ended =
      ends_in g.F.Folder.called c.args.name.now c.loop-into.files c.turn.new.files (length c.loop-into.got) _ (length (take c.min-room.result c.loop-into.into)) c.in-Err.fault c.in-Err.ensures.calls refl (omega (arith, length-take {A = ℕ}, c.len-in-loop-into.ensures));
}
