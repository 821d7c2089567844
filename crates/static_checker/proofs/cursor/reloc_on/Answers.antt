use Rattle.std.proofs.Common.{sym}
use Rattle.static_checker.proofs.RelocLemmas.{one_kind, none_at, is_there, past}
use Rattle.static_checker.proofs.CursorLemmas.{below_at, above_at}
use Rattle.static_checker.proofs.cursor.reloc_on.Goals as goal

pub returns-in-Some-clause-found : goal.returns-in-Some-clause-found
returns-in-Some-clause-found c = is_there _ _ _ _ _ c.args.o.now.form.relocs_rise (below_at _ _ _ c.go_to-there.ensures.is c.go_to-there.ensures.at) (above_at _ _ _ c.go_to-there.ensures.is c.go_to-there.ensures.at) (sym c.in-Some.ensures) c.kind_at.ensures

pub returns-in-Some-clause-one : goal.returns-in-Some-clause-one
returns-in-Some-clause-one c = one_kind _ _ c.args.o.now.form.relocs_rise

pub returns-in-None-clause-found : goal.returns-in-None-clause-found
returns-in-None-clause-found c = none_at _ _ _ c.args.o.now.form.relocs_rise (below_at _ _ _ c.go_to-there.ensures.is c.go_to-there.ensures.at) (above_at _ _ _ c.go_to-there.ensures.is c.go_to-there.ensures.at) (λ r is same. past _ _ (sym c.in-None.ensures) is)

pub returns-in-None-clause-one : goal.returns-in-None-clause-one
returns-in-None-clause-one c = one_kind _ _ c.args.o.now.form.relocs_rise
