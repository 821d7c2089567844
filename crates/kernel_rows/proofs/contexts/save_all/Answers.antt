use Rattle.std.proofs.Common.{subst, sym}
use Rattle.kernel_model.specs.Kernel.{Kernel}
use Rattle.kernel_model.specs.Layout.{kernel_of}
use Rattle.place_model.specs.Settled.{IsSettledKernel}
use Rattle.load_model.proofs.Registers.{settled_register}
use Rattle.kernel_rows.proofs.contexts.save_all.Goals as goal

pub loop-n-preserved : goal.loop-n-preserved
loop-n-preserved c = record {
  laid_out = c.set_register.ensures.leaves.laid_out c.loop-n.invariant.laid_out;
  kernel =
      subst (λ (k : Kernel). IsSettledKernel k) (sym c.set_register.ensures.leaves.kernel)
      (settled_register (kernel_of c.loop-n.m) c.args.t c.loop-n.n c.args.word c.requires.number c.loop-n.invariant.kernel);
}
