use Rattle.kernel_model.specs.Layout.{app_bytes}
use Rattle.kernel_tables.proofs.TableLemmas.{leaves_app}
use Rattle.kernel_tables.proofs.domains.set_app.Goals as goal

pub returns : goal.returns
unfolding app_bytes
returns c = leaves_app c.args.m.now c.put_words.new.m c.args.a c.args.row.now c.is_flat.ensures.size c.requires c.put_words.ensures
