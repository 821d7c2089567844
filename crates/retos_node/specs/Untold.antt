-- A step of which no line tells: an instruction of an application, or a turn of the idle machine.
use Rattle.std.specs.Prelude.{◌≡◌, ℕ, ◌+◌, length, false, List, Some}
use Rattle.msp_encode.specs.declared.registers.TheConstants.{PC}
use Rattle.msp_encode.specs.declared.instr.Instr.{Instr}
use Rattle.msp_encode.specs.Spelling.{Legal, words_after}
use Rattle.machine_model.specs.Context.{reg}
use Rattle.machine_model.specs.Does.{does}
use Rattle.machine_model.specs.Memory.{word_at, IsMemory}
use Rattle.kernel_model.specs.Layout.{kernel_of}
use Rattle.trace_model.specs.declared.records.Record.{Record}
use Rattle.trace_model.specs.declared.records.Record.TheVariants as told
use Rattle.node_model.specs.Entries.{module_runs, who_runs}
use Rattle.node_model.specs.Steps.{IsIdle, Runs, case_of, fetched}
use Rattle.retos_node.specs.declared.node.Node.{Node}

-- the next step runs this instruction, of so many words, and no module runs
pub record IsPlain (m registers : List ℕ) (i : Instr) (words : ℕ) : Type 0 where
  pub memory : IsMemory m
  pub case : case_of (kernel_of m) registers ≡ Runs
  pub no_module : module_runs (kernel_of m) ≡ false
  pub found : fetched m (reg registers PC) ≡ Some (i, words)
  pub legal : Legal i
  pub size : words ≡ 1 + length (words_after i)

-- the record of that step, by its number
abbrev pub plain_record : (m registers : List ℕ) → Instr → (words step : ℕ) → Record
plain_record m r i words step = told.Instr step (who_runs (kernel_of m)) (reg r PC) (word_at m (reg r PC)) (does m r i words).written

-- no line is raised, and nothing is printed of the instruction
pub record IsUntold (n : Node) (raised : ℕ) (i : Instr) (words : ℕ) : Type 0 where
  pub none : raised ≡ 0
  pub all : n.show.all ≡ false
  pub plain : IsPlain n.mem n.regs i words

-- the same of a turn of the idle machine
pub record IdlesUntold (n : Node) (raised : ℕ) : Type 0 where
  pub none : raised ≡ 0
  pub all : n.show.all ≡ false
  pub case : case_of (kernel_of n.mem) n.regs ≡ IsIdle
