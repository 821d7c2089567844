-- A step's lines, and what the tail holds behind it.
use Rattle.std.proofs.Common.{◌≡◌, ℕ, List, [], ◌∷◌, ◌++◌, Result, ap, ◌∙◌, sym, subst}
use Rattle.edge_io.specs.Known.{SinkState}
use Rattle.edge_io.specs.declared.whole.SinkFault.{SinkFault}
use Rattle.trace_model.specs.declared.records.Record.{Record}
use Rattle.trace_model.specs.Texts.{last_instrs}
use Rattle.trace_print.specs.declared.show.Show.{Show}
use Rattle.retos_node.specs.Printing.{Printed, PrintedUpTo, shown_lines, told_lines}
use Rattle.trace_print.specs.Shown.{kept_of}
use Rattle.retos_node.specs.Tails.{AreTold}
use Rattle.retos_node.proofs.Writing.{printed_then, cut_after, cut_within}
use Rattle.retos_node.proofs.Course.{lines_more, told_as}

-- the tail of a node that shows as the first one does
pub holds_more : (show now : Show) (kept new made : List Record) (r : Record) → now ≡ show → kept ≡ kept_of show made
    → (kept ≡ kept_of now made → new ≡ kept_of now (made ++ r ∷ [])) → new ≡ kept_of show (made ++ r ∷ [])
holds_more show now kept new made r e k more =
    more (k ∙ ap (λ (v : Show). kept_of v made) (sym e)) ∙ ap (λ (v : Show). kept_of v (made ++ r ∷ [])) e

-- one record more was told
pub told_more : {S E : Type 0} (called : S → List ℕ → Result ℕ E → S → Type 0) (state : S → SinkState) (a b c : S)
    (show now : Show) (kept new made : List Record) (r : Record) → now ≡ show → AreTold called state a b show kept made
    → Printed called state b c (told_lines now kept r) → (kept ≡ kept_of now made → new ≡ kept_of now (made ++ r ∷ []))
    → AreTold called state a c show new (made ++ r ∷ [])
told_more called state a b c show now kept new made r e told h more = record {
  printed =
      subst (λ (l : List (List ℕ)). Printed called state a c l) (lines_more show kept made r told.holds)
      (printed_then called state a b c (shown_lines show made) (told_lines show kept r) told.printed
      (subst (λ (v : Show). Printed called state b c (told_lines v kept r)) e h));
  holds = holds_more show now kept new made r e told.holds more;
}

-- the sink failed in the lines of the next one
pub told_cut : {S E : Type 0} (called : S → List ℕ → Result ℕ E → S → Type 0) (state : S → SinkState) (a b c : S)
    (show now : Show) (kept made : List Record) (r : Record) (fault : SinkFault) (all : List (List ℕ)) → now ≡ show
    → AreTold called state a b show kept made → PrintedUpTo called state b c (told_lines now kept r) fault
    → (rest : List (List ℕ)) × ((shown_lines show made ++ told_lines show (last_instrs made) r) ++ rest ≡ all)
    → PrintedUpTo called state a c all fault
told_cut called state a b c show now kept made r fault all e told h rest =
    let lines : PrintedUpTo called state b c (told_lines show (last_instrs made) r) fault =
    subst (λ (l : List (List ℕ)). PrintedUpTo called state b c l fault) (told_as show kept made r told.holds)
    (subst (λ (v : Show). PrintedUpTo called state b c (told_lines v kept r) fault) e h) in
    cut_within called state a c (shown_lines show made ++ told_lines show (last_instrs made) r) rest.0 all fault
    (cut_after called state a b c (shown_lines show made) (told_lines show (last_instrs made) r) fault told.printed lines) rest.1
