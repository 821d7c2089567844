use Rattle.read_script.proofs.Counting.{over_most}
use Rattle.read_script.proofs.text.value_up_to.Goals as goal

pub returns-then-value-most-clause-value : goal.returns-then-value-most-clause-value
returns-then-value-most-clause-value c = over_most c.args.most c.loop-i.value c.loop-i.i c.args.digits.now c.loop-i-test.true c.loop-i.invariant.1 c.loop-i.invariant.2 c.if-value-most.true
