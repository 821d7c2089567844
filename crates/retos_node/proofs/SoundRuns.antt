-- The last system of a sound run.
use Rattle.std.proofs.Common.{List, [], ◌∷◌, subst, sym}
use Rattle.trace_model.specs.declared.records.Record.{Record}
use Rattle.trace_model.specs.declared.scripts.Script.{Script}
use Rattle.node_model.specs.Systems.{System}
use Rattle.node_model.specs.Runs.{next}
use Rattle.node_model.specs.Sound.{IsSound}
use Rattle.node_model.specs.Nodes.{AreSound}

pub sound_last : (t : Script) (s : System) (rs : List Record) (last : System) → AreSound t s rs last → IsSound last
sound_last t s [] last h = subst IsSound (sym h.1) h.0
sound_last t s (r ∷ rs) last h = sound_last t (next t s).system rs last h.1
