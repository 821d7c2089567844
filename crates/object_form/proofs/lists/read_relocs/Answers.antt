use Rattle.std.proofs.lemmas.Result.{err_from_is_err_and}
use Rattle.object_form.proofs.EntryLemmas.{relocs-begin, relocs-go-on, relocs-stop}
use Rattle.object_form.proofs.lists.read_relocs.Goals as goal

pub loop-k-init : goal.loop-k-init
loop-k-init c = relocs-begin c.args.text.now c.args.start c.in_ok-relocs.relocs c.in_ok-relocs.ensures

pub returns-in_err-reloc : goal.returns-in_err-reloc
returns-in_err-reloc c =
    let p = err_from_is_err_and c.from_residual-in_err-reloc.result c.from_residual-in_err-reloc.ensures.1 in
    rw (p.1, p.2) (relocs-stop c.args.text.now c.args.start c.args.count c.loop-k.k c.loop-k.relocs c.loop-k.least _ c.loop-k-test.true c.loop-k.invariant c.in_err-reloc.ensures)

pub loop-k-preserved : goal.loop-k-preserved
loop-k-preserved c =
    relocs-go-on c.args.text.now c.args.start c.loop-k.k c.loop-k.relocs c.push.new.self c.loop-k.least c.in_ok-reloc.key c.in_ok-reloc.reloc
    c.loop-k.invariant c.in_ok-reloc.ensures.0 c.in_ok-reloc.ensures.1.0 c.in_ok-reloc.ensures.1.1 c.in_ok-push.ensures.pushed
