use Rattle.kernel_model.specs.Layout.{module_bytes}
use Rattle.kernel_tables.proofs.TableLemmas.{leaves_module}
use Rattle.kernel_tables.proofs.domains.set_module.Goals as goal

pub returns : goal.returns
unfolding module_bytes
returns c = leaves_module c.args.m.now c.put_words.new.m c.args.k c.args.row.now c.is_flat.ensures.size c.requires c.put_words.ensures
