use Rattle.std.proofs.Common.{sym}
use Rattle.static_checker.proofs.PlaceLemmas.{export_marked, export_none}
use Rattle.static_checker.proofs.named.mark_export.Goals as goal

pub returns-in-Some : goal.returns-in-Some
returns-in-Some c = export_marked _ _ _ _ _ _ c.in-Some.export c.args.o.now.form.exports_fit (sym c.in-Some.ensures) c.from.ensures c.mark.ensures.marked c.mark.ensures.others

pub returns-in-None : goal.returns-in-None
returns-in-None c = export_none _ _ _ (sym c.in-None.ensures)
