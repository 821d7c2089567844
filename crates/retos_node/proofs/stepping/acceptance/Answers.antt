use Rattle.std.proofs.Common.{rules}
use Rattle.retos_node.proofs.Standing.{gives_acceptance}
use Rattle.retos_node.proofs.stepping.acceptance.Goals as goal

pub returns : goal.returns
returns c s h =
    gives_acceptance c.acceptance_law.ensures.written c.acceptance_law.ensures.stands s c.args.moment.pick c.args.line c.args.m.now
    c.accept-writes.new.m c.put.new.m c.args.r.now c.accept-writes.new.r c.args.moment.step _ h record {
      case = c.requires.case;
      memory = record { bytes = c.is_flat.ensures.size; small = c.is_flat.ensures.small };
      written = c.accept-writes.ensures.memory;
      left = search rules;
      regs = c.accept-writes.ensures.context;
      told_is = cc;
    }
