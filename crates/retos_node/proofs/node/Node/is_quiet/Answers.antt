use Rattle.std.proofs.Common.{◌∙◌}
use Rattle.place_model.specs.Settled.{IsSettled}
use Rattle.node_model.specs.Nodes.{system_of}
use Rattle.retos_node.specs.Parts.{parts}
use Rattle.retos_node.proofs.Course.{quiet_is}
use Rattle.retos_node.proofs.node.Node.is_quiet.Goals as goal

pub orderly_queues_hold-requires-clause-laid_out : goal.orderly_queues_hold-requires-clause-laid_out
orderly_queues_hold-requires-clause-laid_out c =
    let settled : IsSettled c.args.self.now.mem =
    c.memory_is_shown.ensures.settled c.args.self.now.mem (system_of (parts c.args.self.now) c.args.objects.now)
    (c.memory_is_shown.ensures.shown (parts c.args.self.now) c.args.objects.now (system_of (parts c.args.self.now) c.args.objects.now)
    c.requires.sound.represents c.requires.sound.sound)
    c.requires.sound.sound in
    settled.laid_out

pub orderly_queues_hold-requires-clause-orderly : goal.orderly_queues_hold-requires-clause-orderly
orderly_queues_hold-requires-clause-orderly c =
    let settled : IsSettled c.args.self.now.mem =
    c.memory_is_shown.ensures.settled c.args.self.now.mem (system_of (parts c.args.self.now) c.args.objects.now)
    (c.memory_is_shown.ensures.shown (parts c.args.self.now) c.args.objects.now (system_of (parts c.args.self.now) c.args.objects.now)
    c.requires.sound.represents c.requires.sound.sound)
    c.requires.sound.sound in
    settled.kernel.orderly

pub returns : goal.returns
returns c = λ s r. c.is_quiet.ensures ∙ quiet_is (parts c.args.self.now) c.args.objects.now c.args.script.now s r
