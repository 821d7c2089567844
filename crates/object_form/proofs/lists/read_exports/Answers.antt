use Rattle.std.proofs.lemmas.Result.{err_from_is_err_and}
use Rattle.object_form.proofs.EntryLemmas.{exports-begin, exports-go-on, exports-stop}
use Rattle.object_form.proofs.lists.read_exports.Goals as goal

pub loop-k-init : goal.loop-k-init
loop-k-init c = exports-begin c.args.text.now c.args.start c.in_ok-exports.exports c.in_ok-exports.ensures

pub returns-in_err-export : goal.returns-in_err-export
returns-in_err-export c =
    let p = err_from_is_err_and c.from_residual-in_err-export.result c.from_residual-in_err-export.ensures.1 in
    rw (p.1, p.2) (exports-stop c.args.text.now c.args.start c.args.count c.loop-k.k c.loop-k.exports c.loop-k.least _ c.loop-k-test.true c.loop-k.invariant c.in_err-export.ensures)

pub loop-k-preserved : goal.loop-k-preserved
loop-k-preserved c =
    exports-go-on c.args.text.now c.args.start c.loop-k.k c.loop-k.exports c.push.new.self c.loop-k.least c.in_ok-export.export
    c.loop-k.invariant c.in_ok-export.ensures.0 c.in_ok-export.ensures.1.0 c.in_ok-push.ensures.pushed
