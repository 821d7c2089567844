use Rattle.std.proofs.Common.{replicate, refl}
use Rattle.node_model.specs.Booting.{booted}
use Rattle.retos_node.proofs.BootLemmas.{boots, boots_sound, underway_first}
use Rattle.retos_node.proofs.node.Node.boot.Goals as goal

pub place_all-requires : goal.place_all-requires
place_all-requires c =
    underway_first c.boot_begins.ensures.begins (replicate 65536 0) c.in-Ok.mem c.args.objects.now c.in-Ok.ensures

pub returns-clause-booted : goal.returns-clause-booted
returns-clause-booted c =
    boots c.boot_stands.ensures c.place_all.new.m
    (record { mem = c.begin.new.m; regs = c.begin.new.r; steps = 0; owner = c.place_all.new.owner }) c.args.objects.now
    (record {
      underway = c.in-Ok-place_all.ensures.placed;
      fitting = c.are_accepted.ensures.fitting;
      memory = record { bytes = c.is_flat.ensures.size; small = c.is_flat.ensures.small };
      left = c.begin.ensures.left;
      regs = c.begin.ensures.registers;
      steps = refl;
    })

pub returns-clause-sound : goal.returns-clause-sound
returns-clause-sound c =
    boots_sound c.nodes_are_sound.ensures
    (record { mem = c.begin.new.m; regs = c.begin.new.r; steps = 0; owner = c.place_all.new.owner }) c.args.objects.now
    (booted c.args.objects.now) (returns-clause-booted c)
