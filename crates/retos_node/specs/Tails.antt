-- What a node's tail holds.
use Rattle.std.specs.Prelude.{◌≡◌, ℕ, List, Result}
use Rattle.edge_io.specs.Known.{SinkState}
use Rattle.trace_model.specs.declared.records.Record.{Record}
use Rattle.trace_print.specs.declared.show.Show.{Show}
use Rattle.trace_print.specs.Shown.{kept_of}
use Rattle.retos_node.specs.Printing.{Printed, shown_lines}

-- these records were made and told: their lines were printed, and the tail holds the last instructions among them
pub record AreTold {S E : Type 0} (called : S → List ℕ → Result ℕ E → S → Type 0) (state : S → SinkState) (from to : S) (show : Show) (kept made : List Record) : Type 0 where
  pub printed : Printed called state from to (shown_lines show made)
  pub holds : kept ≡ kept_of show made
