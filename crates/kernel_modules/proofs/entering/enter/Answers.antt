use Rattle.std.proofs.Common.{◌≡◌, ◌<◌, ◌∙◌, ap, subst, List, ℕ, get_or, arith}
use Rattle.kernel_model.specs.Dispatching.{saved}
use Rattle.kernel_model.specs.Kernel.{Kernel, function_at, module_at}
use Rattle.kernel_model.specs.Layout.{kernel_of}
use Rattle.kernel_model.specs.Modules.{entered}
use Rattle.kernel_model.specs.Queues.{Leaves}
use Rattle.kernel_model.specs.Words.{calling, live, running, with_running_module, with_state}
use Rattle.kernel_model.specs.declared.rows.FnRow.{FnRow}
use Rattle.kernel_model.specs.declared.rows.ModuleRow.{ModuleRow}
use Rattle.kernel_threads.proofs.ChainLemmas.{settled_by}
use Rattle.kernel_modules.proofs.CallLemmas.{IsCallee, callee_is}
use Rattle.kernel_modules.proofs.entering.enter.Goals as goal

pub returns-clause-settled : goal.returns-clause-settled
returns-clause-settled c =
    let m : List ℕ = c.args.m.now in
    let k : Kernel = kernel_of m in
    let r : List ℕ = c.args.r.now in
    let row : c.function-row.result ≡ function_at k (get_or r 12 0) = c.function-row.ensures ∙ ap (λ n. function_at k n) c.get-number.ensures in
    let is : c.function-row.result.module ≡ (function_at k (get_or r 12 0)).module = ap (λ (w : FnRow). w.module) row in
    let left : Leaves m c.call.new.m (entered k r) =
    subst (λ (i : ℕ). Leaves m c.call.new.m (with_running_module (with_state (saved k r) (running k) calling) i)) is c.call.ensures in
    let callee_row : c.module.result ≡ module_at k c.function-row.result.module = c.module.ensures in
    let state : c.module.result.state ≡ (module_at k c.function-row.result.module).state = ap (λ (w : ModuleRow). w.state) callee_row in
    let callee : IsCallee k c.function-row.result.module =
    callee_is k (get_or r 12 0) c.function-row.result.module c.requires.settled.kernel c.requires.known (omega arith) is (λ e. omega arith) (λ e. omega arith) in
    settled_by m c.call.new.m (entered k r) c.requires.settled left
    (c.entered_is_settled.ensures k r c.requires.settled.kernel c.requires.runs c.is_context.ensures.words (subst (λ i. i < 4) is callee.number)
    (subst (λ i. (module_at k i).state ≡ live) is callee.alive))
