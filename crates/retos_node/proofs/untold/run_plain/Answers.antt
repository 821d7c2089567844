use Rattle.std.proofs.Common.{refl}
use Rattle.retos_node.proofs.Standing.{gives_instruction, left_uncounted}
use Rattle.retos_node.proofs.untold.run_plain.Goals as goal

pub returns-clause-gives : goal.returns-clause-gives
returns-clause-gives c = λ s h.
    gives_instruction c.instruction_law.ensures.written c.instruction_law.ensures.stands s c.args.moment.pick c.args.instr.now c.args.words
    c.args.m.now c.exec-writes.new.m c.exec-writes.new.m c.args.r.now c.exec-writes.new.r c.args.moment.step _ h record {
      case = c.requires.plain.case;
      memory = c.exec-writes.ensures.is_memory;
      found = c.requires.plain.found;
      written = c.exec-writes.ensures.memory;
      left = left_uncounted c.exec-writes.new.m _ _ c.requires.plain.no_module;
      regs = c.exec-writes.ensures.context;
      told_is = refl;
    }
