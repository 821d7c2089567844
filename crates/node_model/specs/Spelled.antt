-- What a step of an instruction has to do with the words that are seen at PC.
use Rattle.std.specs.Prelude.{◌≡◌, ℕ}
use Rattle.msp_encode.specs.declared.registers.TheConstants.{PC}
use Rattle.msp_encode.specs.declared.instr.Instr.{Instr}
use Rattle.machine_model.specs.Memory.{put_all}
use Rattle.machine_model.specs.Context.{reg}
use Rattle.machine_model.specs.Does.{does}
use Rattle.machine_model.specs.Fetching.{IsFetched}
use Rattle.trace_model.specs.declared.records.Record.{Record}
use Rattle.trace_model.specs.declared.records.Record.TheVariants.{Instr as InstrRecord}
use Rattle.node_model.specs.Systems.{System, seen}

-- the words at PC spell an instruction, and the step is what it does. A step is computed by a decoder that is a function; this says
-- the same by the relation of spelling
pub record DoesSpelled (before after : System) : Type 0 where
  pub instr : Instr
  pub words : ℕ
  pub fetched : IsFetched (seen before) (reg before.context PC) instr words
  pub context : after.context ≡ (does (seen before) before.context instr words).context
  pub memory : after.memory ≡ put_all before.memory (does (seen before) before.context instr words).written

abbrev pub IsSpelled : Record → (before after : System) → Type 0
IsSpelled (InstrRecord n w pc word ws) s t = DoesSpelled s t
IsSpelled _ s t = Unit {0}
