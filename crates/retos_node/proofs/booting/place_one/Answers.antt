use Rattle.std.proofs.Common.{arith}
use Rattle.retos_node.proofs.BootLemmas.{goes_on}
use Rattle.retos_node.proofs.booting.place_one.Goals as goal

pub returns-in-Ok-clause-placed : goal.returns-in-Ok-clause-placed
returns-in-Ok-clause-placed c =
    let a = c.in-Ok.ensures.answer in
    goes_on c.boot_goes_on.ensures c.args.m.now c.load_object.new.m c.args.owner.now c.args.objects.now c.args.i
    (record { object = c.item-item.result.now.object; units = c.item-item.result.now.marks }) c.in-Ok.n a.0
    c.requires.underway c.are_accepted.ensures.fitting (omega (arith, c.requires.number, c.are_accepted.ensures.few))
    c.item-item.ensures.found (record { bytes = c.is_flat.ensures.size; small = c.is_flat.ensures.small })
    (record { places = a.1; number = a.2; loaded = a.3 })

pub returns-in-Err-clause-refused : goal.returns-in-Err-clause-refused
returns-in-Err-clause-refused c =
    c.boot_begins.ensures.refuses c.args.m.now c.args.owner.now c.args.objects.now c.args.i c.requires.underway.system
    (record { object = c.item-item.result.now.object; units = c.item-item.result.now.marks }) c.in-Err.cause
    c.requires.underway.booting c.item-item.ensures.found c.in-Err.ensures.answer.0
