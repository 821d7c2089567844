use Rattle.retos_node.proofs.BootLemmas.{begun_left, begun_registers}
use Rattle.retos_node.proofs.booting.begin.Goals as goal

pub returns-clause-left : goal.returns-clause-left
returns-clause-left c s loading e =
    begun_left c.args.m.now c.start_all.new.m c.dispatch.new.m s c.start_all.ensures.starts loading e c.dispatch.ensures.leaves

pub returns-clause-registers : goal.returns-clause-registers
returns-clause-registers c s loading e =
    begun_registers c.started_is_sound.ensures c.dispatch_is_sound.ensures c.contexts_are_taken.ensures c.args.m.now c.start_all.new.m
    c.dispatch.new.r s c.start_all.ensures.starts loading e c.dispatch.ensures.registers
