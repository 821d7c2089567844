use Rattle.static_checker.proofs.PassLemmas.{first_to, gone_on}
use Rattle.static_checker.proofs.pass.pass_instr.Goals as goal

pub first_through-pass-requires-clause-first : goal.first_through-pass-requires-clause-first
first_through-pass-requires-clause-first c = first_to c.args.o.now c.args.pass.now.cursor.at c.args.unit.now c.args.pass.now.first c.requires.next c.requires.gone.first

pub returns-clause-gone : goal.returns-clause-gone
returns-clause-gone c =
    gone_on c.args.o.now c.args.pass.now c.args.unit.now c.go_to-pass.result c.mark_transfer.new.transfers c.first_through-pass.result c.requires.gone c.requires.next
    c.go_to-pass.ensures.is c.go_to-pass.ensures.at c.mark_transfer.ensures c.first_through-pass.ensures
