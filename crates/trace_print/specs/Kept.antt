-- What a tail keeps.
use Rattle.std.specs.Prelude.{List, IsTrue}
use Rattle.std.specs.List.{AllByRecursion}
use Rattle.trace_model.specs.declared.records.Record.{Record}
use Rattle.trace_model.specs.Texts.{is_instr}

-- each is the record of an instruction
abbrev pub AreInstrs : List Record → Type 0
AreInstrs rs = AllByRecursion (λ r. IsTrue (is_instr r)) rs
