use Rattle.std.proofs.Common.{sym, ◌∙◌, arith}
use Rattle.kernel_model.specs.Layout.{kernel_of}
use Rattle.retos_node.proofs.Choosing.{idles}
use Rattle.retos_node.proofs.node.Node.idles_untold.Goals as goal

pub returns-in-None : goal.returns-in-None
returns-in-None c h = record {
  none = omega arith;
  all = cc;
  case = idles (kernel_of c.args.self.now.mem) c.args.self.now.regs (sym c.line_to_accept.ensures.value ∙ c.in-None.is) (omega arith);
}
