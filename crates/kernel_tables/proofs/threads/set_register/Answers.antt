use Rattle.kernel_tables.proofs.RegisterLemmas.{leaves_register}
use Rattle.kernel_tables.proofs.Patches.{flat_small}
use Rattle.kernel_tables.proofs.threads.set_register.Goals as goal

pub returns-clause-leaves : goal.returns-clause-leaves
returns-clause-leaves c =
    leaves_register c.args.m.now c.set_word.new.self c.args.t c.args.r c.args.value c.is_flat.ensures.size (flat_small c.args.m.now c.is_flat.ensures.small) c.requires.number c.requires.register
    c.set_word.ensures.patched
