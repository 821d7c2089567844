use Rattle.msp_encode.specs.Forms.{WritesReg}
use Rattle.code_model.specs.declared.guards.GuardKind.TheVariants as guard
use Rattle.code_model.specs.declared.rules.Rule.TheVariants as rule
use Rattle.code_model.specs.Rules.{WritesMemory, ReadsStack, IsPushOrCall}
use Rattle.static_checker.proofs.LocalLemmas.{by_guard, by_store_guard, as_rule}
use Rattle.static_checker.proofs.local.breaks.Goals as goal

pub returns-in-Sp : goal.returns-in-Sp
returns-in-Sp c =
    as_rule c.args.rule rule.Sp c.args.o.now _ _ c.args.unit.now.spot.instr _ c.in-Sp.is
    (by_guard c.args.o.now c.args.unit.now.spot.at c.args.unit.now.guard guard.Sp (WritesReg c.args.unit.now.spot.instr 1) _ c.requires.here.guard c.breaks_sp.ensures)

pub returns-in-Store : goal.returns-in-Store
returns-in-Store c =
    as_rule c.args.rule rule.Store c.args.o.now _ _ c.args.unit.now.spot.instr _ c.in-Store.is
    (by_store_guard c.args.o.now c.args.unit.now.spot.at c.args.unit.now.guard (WritesMemory c.args.unit.now.spot.instr) _ c.requires.here.guard c.breaks_store.ensures)

pub returns-in-Pop : goal.returns-in-Pop
returns-in-Pop c =
    as_rule c.args.rule rule.Pop c.args.o.now _ _ c.args.unit.now.spot.instr _ c.in-Pop.is
    (by_guard c.args.o.now c.args.unit.now.spot.at c.args.unit.now.guard guard.Pop (ReadsStack c.args.unit.now.spot.instr) _ c.requires.here.guard c.breaks_pop.ensures)

pub returns-in-Push : goal.returns-in-Push
returns-in-Push c =
    as_rule c.args.rule rule.Push c.args.o.now _ _ c.args.unit.now.spot.instr _ c.in-Push.is
    (by_guard c.args.o.now c.args.unit.now.spot.at c.args.unit.now.guard guard.Growth (IsPushOrCall c.args.unit.now.spot.instr) _ c.requires.here.guard c.breaks_push.ensures)
