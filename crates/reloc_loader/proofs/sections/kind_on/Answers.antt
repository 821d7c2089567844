use Rattle.std.proofs.Common.{sym, ◌∙◌}
use Rattle.reloc_loader.proofs.Order.{kind_found, none_left}
use Rattle.reloc_loader.proofs.sections.kind_on.Goals as goal

pub returns-in-Some-clause-found : goal.returns-in-Some-clause-found
returns-in-Some-clause-found c =
    (kind_found c.args.o.now c.args.next c.args.in_code c.args.i c.in-Some.reloc c.kind_at.result c.requires.within c.requires.next (sym c.get.ensures ∙ c.in-Some.is) c.kind_at.ensures).finds

pub returns-in-Some-clause-after : goal.returns-in-Some-clause-after
returns-in-Some-clause-after c =
    (kind_found c.args.o.now c.args.next c.args.in_code c.args.i c.in-Some.reloc c.kind_at.result c.requires.within c.requires.next (sym c.get.ensures ∙ c.in-Some.is) c.kind_at.ensures).next

pub returns-in-None-clause-found : goal.returns-in-None-clause-found
returns-in-None-clause-found c = (none_left c.args.o.now c.args.next c.args.in_code c.args.i c.requires.next (sym c.get.ensures ∙ c.in-None.is)).finds

pub returns-in-None-clause-after : goal.returns-in-None-clause-after
returns-in-None-clause-after c = (none_left c.args.o.now c.args.next c.args.in_code c.args.i c.requires.next (sym c.get.ensures ∙ c.in-None.is)).next
