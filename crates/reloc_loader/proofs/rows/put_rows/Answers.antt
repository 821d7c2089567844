use Rattle.reloc_loader.proofs.RowLemmas.{app_put, module_put}
use Rattle.reloc_loader.proofs.rows.put_rows.Goals as goal

pub returns-in-App : goal.returns-in-App
returns-in-App c = app_put c.args.m.now c.put_app.new.m c.args.o.now c.args.r.now c.in-App.is c.requires c.put_app.ensures

pub returns-in-Module : goal.returns-in-Module
returns-in-Module c = module_put c.args.m.now c.args.o.now c.args.r.now c.in-Module.is c.requires
