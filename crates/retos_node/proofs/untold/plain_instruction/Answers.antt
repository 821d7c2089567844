use Rattle.std.proofs.Common.{◌≡◌, false, ap, sym, ◌∙◌, arith}
use Rattle.machine_model.specs.Memory.{IsMemory}
use Rattle.kernel_model.specs.Layout.{kernel_of}
use Rattle.node_model.specs.Entries.{module_runs}
use Rattle.node_model.specs.Steps.{fetched}
use Rattle.retos_node.proofs.Choosing.{runs_plainly}
use Rattle.retos_node.proofs.Standing.{is_found}
use Rattle.retos_node.proofs.untold.plain_instruction.Goals as goal

pub returns-in-Ok : goal.returns-in-Ok
returns-in-Ok c =
    let m : IsMemory c.args.m.now = record { bytes = c.is_flat.ensures.size; small = c.is_flat.ensures.small } in
    let quiet : module_runs (kernel_of c.args.m.now) ≡ false = sym c.module_runs.ensures ∙ c.if-not-module_runs.true in
    record {
      memory = m;
      case = runs_plainly (kernel_of c.args.m.now) c.args.r.now (sym c.line_to_accept.ensures.value ∙ c.in-None.is) (omega arith) quiet;
      no_module = quiet;
      found = ap (fetched c.args.m.now) (sym c.get-in-None.ensures)
          ∙ is_found c.fetched_where_spelled.ensures c.args.m.now c.get-in-None.result c.in-Ok.instr c.in-Ok.words m c.in-Ok.ensures.right;
      legal = c.in-Ok.ensures.legal;
      size = c.in-Ok.ensures.size;
    }
