use Rattle.kernel_model.specs.Layout.{function_bytes}
use Rattle.kernel_tables.proofs.TableLemmas.{leaves_function}
use Rattle.kernel_tables.proofs.domains.set_function.Goals as goal

pub returns : goal.returns
unfolding function_bytes
returns c = leaves_function c.args.m.now c.put_words.new.m c.args.f c.args.row.now c.is_flat.ensures.size c.requires c.put_words.ensures
