use Rattle.std.proofs.Common.{◌+◌, refl}
use Rattle.trace_model.specs.declared.records.Record.{Record}
use Rattle.trace_model.specs.declared.records.Record.TheVariants as told
use Rattle.node_model.specs.Systems.{System}
use Rattle.node_model.specs.Nodes.{Stepped, system_of}
use Rattle.node_model.specs.Steps.{step}
use Rattle.retos_node.specs.Parts.{parts}
use Rattle.retos_node.proofs.Standing.{untold_stepped}
use Rattle.retos_node.proofs.node.Node.idle_untold.Goals as goal

pub returns-clause-step : goal.returns-clause-step
returns-clause-step c s r h =
    untold_stepped c.step_law.ensures c.memory_is_shown.ensures.shown c.raised_is_shown.ensures.none (parts c.args.self.now)
    (parts (record c.args.self.now { steps = c.args.self.now.steps + 1; tail = c.keep_shown.new.self })) c.args.objects.now s c.args.raised c.args.pick
    (told.IdleTurn (c.args.self.now.steps + 1)) r h c.requires.few refl refl c.requires.idles.none c.idle_stands.ensures

pub returns-clause-sound : goal.returns-clause-sound
returns-clause-sound c =
    let s : System = system_of (parts c.args.self.now) c.args.objects.now in
    let shown : Record = told.IdleTurn (c.args.self.now.steps + 1) in
    let next : Stepped _ c.args.objects.now s c.args.raised c.args.pick shown = returns-clause-step c s c.requires.sound.represents c.requires.sound.sound in
    c.nodes_are_sound.ensures _ c.args.objects.now (step s c.args.raised c.args.pick).system next.represents next.sound
