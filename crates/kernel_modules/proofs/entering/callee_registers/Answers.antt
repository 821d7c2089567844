use Rattle.std.proofs.Common.{◌≡◌, ◌∙◌, ap, List, ℕ, get_or}
use Rattle.kernel_model.specs.Kernel.{Kernel, function_at}
use Rattle.kernel_model.specs.Layout.{kernel_of}
use Rattle.kernel_model.specs.declared.rows.FnRow.{FnRow}
use Rattle.kernel_modules.proofs.CallLemmas.{begins_with}
use Rattle.kernel_modules.proofs.entering.callee_registers.Goals as goal

pub returns : goal.returns
returns c =
    let k : Kernel = kernel_of c.args.m.now in
    let r : List ℕ = c.args.r.now in
    let row : c.function.result ≡ function_at k (get_or r 12 0) = c.function.ensures ∙ ap (λ n. function_at k n) c.get.ensures in
    begins_with k r c.new-callee.result c.set.new.self c.set-2.new.self c.set-3.new.self c.set-4.new.self c.function.result.address c.get-2.result c.get-3.result
    c.new-callee.ensures c.set.ensures c.set-2.ensures c.set-3.ensures c.set-4.ensures (ap (λ (w : FnRow). w.address) row)
    (c.requires.settled.kernel.functions (get_or r 12 0) c.requires.number) c.get-2.ensures c.get-3.ensures
