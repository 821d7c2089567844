use Rattle.std.proofs.Common.{◌≡◌, ℕ, List, length, sym, subst, arith, ap}
use Rattle.machine_model.specs.Pairs.{put_pair}
use Rattle.machine_model.specs.Rising.{Lacks, IsRising}
use Rattle.machine_model.proofs.Placing.{placed, put-rises}
use Rattle.machine_model.proofs.writes.Writes.add.Goals as goal

pub invariant_of-self : goal.invariant_of-self
invariant_of-self c =
    let p : ℕ × ℕ = (c.args.at, c.args.value) in
    let ps : List (ℕ × ℕ) = c.self.inside.pairs.items in
    let placed_in = placed p ps in
    let is : c.insert.new.self.items ≡ put_pair p ps = cc in
    let lacks : Lacks p.0 ps = subst (Lacks p.0) (sym c.self.view_is) c.requires.absent in
    let rises : IsRising (put_pair p ps) = put-rises p ps 0 (omega arith) c.self.invariant.1 lacks in
    (omega (arith, ap length c.self.view_is), subst IsRising (sym is) rises)

pub returns : goal.returns
returns c =
    let placed_in = placed (c.args.at, c.args.value) c.self.inside.pairs.items in
    cc
