-- What the contracts of a node see of it.
use Rattle.std.specs.Prelude.{◌≡◌, ℕ, ◌≤◌, true, false, List, length, Result, Ok, Err}
use Rattle.retos_node.specs.declared.node.Node.{Node}
use Rattle.retos_node.specs.declared.node.BootFault.{BootFault}
use Rattle.retos_node.specs.declared.node.BootFault.TheVariants.{NoRoom, Memory}
use Rattle.retos_node.specs.declared.node.End.{End}
use Rattle.retos_node.specs.declared.node.End.TheVariants.{Limit, Quiet}
use Rattle.trace_model.specs.declared.scripts.Script.{Script}
use Rattle.edge_io.specs.Known.{SinkState, appended, GotPrefix}
use Rattle.std.specs.List.{concat}
use Rattle.edge_io.specs.declared.whole.SinkFault.{SinkFault}
use Rattle.retos_node.specs.Printing.{Writes, CutWrites, trace_lines}
use Rattle.trace_print.specs.Shown.{kept_of}
use Rattle.kernel_model.specs.Locks.{LocksHeld}
use Rattle.node_model.specs.Systems.{System}
use Rattle.node_model.specs.Runs.{Run, run}
use Rattle.node_model.specs.Sound.{IsSound}
use Rattle.load_model.specs.Loading.{Loadable}
use Rattle.node_model.specs.Booting.{booted}
use Rattle.node_model.specs.Nodes.{Parts, Represents, IsBootRefusal, Ran, RanUpTo, IsEnd, trace_text}

abbrev pub parts : Node → Parts
parts n = record { mem = n.mem; regs = n.regs; steps = n.steps; owner = n.owner }

-- a refusal is the model's, at its object; want of memory is free
abbrev pub IsBootFault : List Loadable → BootFault → Type 0
IsBootFault os (NoRoom i why) = IsBootRefusal (booted os) i why
IsBootFault os Memory = Unit {0}

abbrev pub IsRunEnd : Script → Run → End → Type 0
IsRunEnd t r (Limit n e f) = IsEnd t r false n e f
IsRunEnd t r (Quiet n e f) = IsEnd t r true n e f

-- a whole run from each system that the node stood for: it printed all lines, and the node stands for the last system
abbrev pub RunsTo : (old new : Node) → List Loadable → (limit : ℕ) → Script → (o0 o1 : SinkState) → End → Type 0
RunsTo old new os limit t o0 o1 end = (s : System) → Represents (parts old) os s → IsSound s
    → IsRunEnd t (run limit t s) end × Ran (parts new) os limit t s × (o1.bytes ≡ appended o0.bytes (trace_text old.show.all old.show.tail (length os) t s (run limit t s)))

-- a run that a fault of the sink cut: what it got is a prefix, and the node stands for the system of as many steps
abbrev pub RunsUpTo : (old new : Node) → List Loadable → (limit : ℕ) → Script → (o0 o1 : SinkState) → Type 0
RunsUpTo old new os limit t o0 o1 = (s : System) → Represents (parts old) os s → IsSound s
    → RanUpTo (parts new) os limit t s × GotPrefix o0.bytes o1.bytes (trace_text old.show.all old.show.tail (length os) t s (run limit t s))

-- each line was written whole by a write of its own, up to the one that a fault of the sink cut
abbrev pub GoBy : {S E : Type 0} → (S → List ℕ → Result ℕ E → S → Type 0) → (o0 o1 : S) → List (List ℕ) → Result End SinkFault → Type 0
GoBy called o0 o1 lines (Ok end) = Writes called o0 lines o1
GoBy called o0 o1 lines (Err fault) = CutWrites called o0 o1 lines fault

-- these lines are the text
abbrev pub GoesByLines : {S E : Type 0} → (S → List ℕ → Result ℕ E → S → Type 0) → (old : Node) → List Loadable → (limit : ℕ) → Script
    → (o0 o1 : S) → Result End SinkFault → Type 0
GoesByLines called old os limit t o0 o1 result = (s : System) → Represents (parts old) os s → IsSound s
    → (concat (trace_lines old.show (length os) t s (run limit t s)) ≡ trace_text old.show.all old.show.tail (length os) t s (run limit t s))
    × GoBy called o0 o1 (trace_lines old.show (length os) t s (run limit t s)) result

-- at each system of a run from a node's what is promised of owners and waiters holds
abbrev pub HoldLocks : Parts → List Loadable → (limit : ℕ) → Script → Type 0
HoldLocks n os limit t = (s : System) → Represents n os s → IsSound s → (made : ℕ) → made ≤ limit → LocksHeld (run made t s).last.kernel

-- the tail holds the last instructions of the steps that were made
abbrev pub HoldsLast : (old new : Node) → List Loadable → Script → Type 0
HoldsLast old new os t = (s : System) → Represents (parts old) os s → IsSound s → new.tail ≡ kept_of old.show (run new.steps t s).records
