use Rattle.std.proofs.Common.{List, subst}
use Rattle.code_model.specs.declared.parts.Reloc.{Reloc}
use Rattle.source_faults.specs.Found.{IsLeast}
use Rattle.source_faults.proofs.Faulty.{DataHit, no_data, data_step, data_end}
use Rattle.source_faults.proofs.faults.first_of_data.Goals as goal

pub loop-reloc-init : goal.loop-reloc-init
loop-reloc-init c = no_data c.args.o.now

pub loop-reloc-preserved : goal.loop-reloc-preserved
loop-reloc-preserved c =
    data_step c.args.o.now c.as_slice-reloc-items.result.now c.loop-reloc.reloc-index _ _ _ _ c.loop-reloc-test.true c.loop-reloc.invariant c.datum_fault.ensures c.lesser-first.ensures

pub returns : goal.returns
returns c =
    subst (λ (rs : List Reloc). IsLeast (DataHit c.args.o.now rs) c.loop-reloc.first) c.as_slice-reloc-items.ensures
    (data_end c.args.o.now c.as_slice-reloc-items.result.now c.loop-reloc.reloc-index _ c.loop-reloc-test.false c.loop-reloc.invariant)
