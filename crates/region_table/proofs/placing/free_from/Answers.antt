use Rattle.std.proofs.Common.{ℕ, ap, ◌∙◌, sym, arith}
use Rattle.std.proofs.lemmas.Bool.{eq-eqb}
use Rattle.place_model.specs.Placing.{free_from, is_free, row_of}
use Rattle.region_table.proofs.ListLemmas.{find_none, find_first}
use Rattle.region_table.proofs.placing.free_from.Goals as goal

pub returns-then-rows-from-eq-FREE-clause-answer : goal.returns-then-rows-from-eq-FREE-clause-answer
unfolding free_from
returns-then-rows-from-eq-FREE-clause-answer c =
    sym (find_first (λ n. is_free (row_of c.args.rows.now n)) c.args.first c.args.count c.loop-number.number (omega arith) (omega arith) c.loop-number.invariant (ap (λ (i : ℕ). is_free (row_of c.args.rows.now i)) (sym c.from.ensures) ∙ eq-eqb _ _ c.if-rows-from-eq-FREE.true))

pub returns-clause-answer : goal.returns-clause-answer
unfolding free_from
returns-clause-answer c =
    sym (find_none (λ n. is_free (row_of c.args.rows.now n)) c.args.first c.args.count (λ k a b. c.loop-number.invariant k a (omega arith)))
