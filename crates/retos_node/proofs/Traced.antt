-- A whole run's lines: the placement's, the records', and the end's.
use Rattle.std.proofs.Common.{◌≡◌, ℕ, ◌≤◌, Bool, List, [], ◌∷◌, ◌++◌, length, Result, ap, ◌∙◌, refl, subst, arith}
use Rattle.std.specs.Prelude.{codes, decimal}
use Rattle.edge_io.specs.Known.{SinkState, appended, GotPrefix}
use Rattle.edge_io.specs.declared.whole.SinkFault.{SinkFault}
use Rattle.trace_model.specs.declared.scripts.Script.{Script}
use Rattle.trace_model.specs.Texts.{end_of_line}
use Rattle.kernel_model.specs.Kernel.{Kernel}
use Rattle.kernel_model.specs.Layout.{kernel_of}
use Rattle.load_model.specs.Loading.{Loadable}
use Rattle.node_model.specs.Systems.{System}
use Rattle.node_model.specs.Runs.{Run, is_quiet, emits}
use Rattle.node_model.specs.Sound.{IsSound}
use Rattle.node_model.specs.Nodes.{Parts, Represents, IsEnd, end_line, reason_text, trace_text, most_steps, IsSoundRun, RunLaw, Ran, RanUpTo}
use Rattle.trace_print.specs.declared.show.Show.{Show}
use Rattle.retos_node.specs.declared.running.Counts.{Counts}
use Rattle.retos_node.specs.Printing.{Printed, PrintedUpTo, placement_lines, shown_lines, trace_lines}
use Rattle.retos_node.specs.Underway.{HasReached, HasEnded}
use Rattle.retos_node.proofs.Writing.{printed_then, cut_after, cut_within}
use Rattle.retos_node.proofs.Course.{course_start, reached, trace_is}

-- ---- the lines together

abbrev A : System → ℕ → List (List ℕ)
A s count = placement_lines s.kernel s.owner count

abbrev C : Script → Run → List (List ℕ)
C t r = end_line t r ∷ []

pub whole_lines : {S E : Type 0} (called : S → List ℕ → Result ℕ E → S → Type 0) (state : S → SinkState) (a b c d : S)
    (show : Show) (count : ℕ) (t : Script) (s : System) (r : Run) → Printed called state a b (placement_lines s.kernel s.owner count)
    → Printed called state b c (shown_lines show r.records) → Printed called state c d (end_line t r ∷ [])
    → Printed called state a d (trace_lines show count t s r)
unfolding trace_lines
whole_lines called state a b c d show count t s r h k l =
    printed_then called state a b d (A s count) (shown_lines show r.records ++ C t r) h
    (printed_then called state b c d (shown_lines show r.records) (C t r) k l)

pub cut_placement : {S E : Type 0} (called : S → List ℕ → Result ℕ E → S → Type 0) (state : S → SinkState) (a b : S)
    (show : Show) (count : ℕ) (t : Script) (s : System) (r : Run) (fault : SinkFault)
    → PrintedUpTo called state a b (placement_lines s.kernel s.owner count) fault
    → PrintedUpTo called state a b (trace_lines show count t s r) fault
unfolding trace_lines
cut_placement called state a b show count t s r fault h =
    cut_within called state a b (A s count) (shown_lines show r.records ++ C t r) (A s count ++ (shown_lines show r.records ++ C t r)) fault
    h refl

pub cut_records : {S E : Type 0} (called : S → List ℕ → Result ℕ E → S → Type 0) (state : S → SinkState) (a b c : S)
    (show : Show) (count : ℕ) (t : Script) (s : System) (r : Run) (fault : SinkFault)
    → Printed called state a b (placement_lines s.kernel s.owner count) → PrintedUpTo called state b c (shown_lines show r.records) fault
    → PrintedUpTo called state a c (trace_lines show count t s r) fault
unfolding trace_lines
cut_records called state a b c show count t s r fault h k =
    cut_after called state a b c (A s count) (shown_lines show r.records ++ C t r) fault h
    (cut_within called state b c (shown_lines show r.records) (C t r) (shown_lines show r.records ++ C t r) fault k refl)

pub cut_end : {S E : Type 0} (called : S → List ℕ → Result ℕ E → S → Type 0) (state : S → SinkState) (a b c d : S)
    (show : Show) (count : ℕ) (t : Script) (s : System) (r : Run) (fault : SinkFault)
    → Printed called state a b (placement_lines s.kernel s.owner count) → Printed called state b c (shown_lines show r.records)
    → PrintedUpTo called state c d (end_line t r ∷ []) fault → PrintedUpTo called state a d (trace_lines show count t s r) fault
unfolding trace_lines
cut_end called state a b c d show count t s r fault h k l =
    cut_after called state a b d (A s count) (shown_lines show r.records ++ C t r) fault h
    (cut_after called state b c d (shown_lines show r.records) (C t r) fault k l)

-- ---- what they say of the text

pub text_got : {S E : Type 0} (called : S → List ℕ → Result ℕ E → S → Type 0) (state : S → SinkState) (a b : S)
    (show : Show) (count : ℕ) (t : Script) (s : System) (r : Run) → Printed called state a b (trace_lines show count t s r)
    → (state b).bytes ≡ appended (state a).bytes (trace_text show.all show.tail count t s r)
text_got called state a b show count t s r h =
    h.bytes ∙ ap (λ (x : List ℕ). appended (state a).bytes x) (trace_is show count t s r)

pub text_cut : {S E : Type 0} (called : S → List ℕ → Result ℕ E → S → Type 0) (state : S → SinkState) (a b : S)
    (show : Show) (count : ℕ) (t : Script) (s : System) (r : Run) (fault : SinkFault)
    → PrintedUpTo called state a b (trace_lines show count t s r) fault
    → GotPrefix (state a).bytes (state b).bytes (trace_text show.all show.tail count t s r)
text_cut called state a b show count t s r fault h =
    subst (λ (x : List ℕ). GotPrefix (state a).bytes (state b).bytes x) (trace_is show count t s r) h.bytes

-- ---- the parts

-- the placement is that of the system
pub placement_same : (n : Parts) (os : List Loadable) (s : System) (count : ℕ) → Represents n os s
    → placement_lines (kernel_of n.mem) n.owner count ≡ placement_lines s.kernel s.owner count
placement_same n os s count r =
    ap (λ (k : Kernel). placement_lines k n.owner count) r.kernel ∙ ap (λ (o : List ℕ). placement_lines s.kernel o count) r.owner

pub end_is : (t : Script) (r : Run) (q : Bool) (n e f : ℕ) → IsEnd t r q n e f
    → reason_text q ++ decimal n ++ codes " emits " ++ decimal e ++ codes " faults " ++ decimal f ++ end_of_line ≡ end_line t r
end_is t r q n e f h =
    ap (λ b. reason_text b ++ decimal n ++ codes " emits " ++ decimal e ++ codes " faults " ++ decimal f ++ end_of_line) h.reason
    ∙ ap (λ k. reason_text (is_quiet t r.last) ++ decimal k ++ codes " emits " ++ decimal e ++ codes " faults " ++ decimal f ++ end_of_line)
    h.steps
    ∙ ap (λ k. reason_text (is_quiet t r.last) ++ decimal (length r.records) ++ codes " emits " ++ decimal k ++ codes " faults " ++ decimal f ++ end_of_line)
    h.emit_count
    ∙ ap (λ k. reason_text (is_quiet t r.last) ++ decimal (length r.records) ++ codes " emits " ++ decimal (emits r) ++ codes " faults " ++ decimal k ++ end_of_line)
    h.fault_count

-- ---- what the run promises of the node

run-is-sound : (n : Parts) (os : List Loadable) (limit : ℕ) (t : Script) (s : System) → RunLaw t → n.steps ≡ 0 → limit ≤ most_steps
    → Represents n os s → IsSound s → IsSoundRun limit t s
run-is-sound n os limit t s law e l r h = law limit s h (omega (arith, e, l, r.steps))

pub ran_up_to : (old new : Parts) (os : List Loadable) (limit : ℕ) (t : Script) (s : System) → RunLaw t → old.steps ≡ 0
    → limit ≤ most_steps → Represents old os s → IsSound s → HasReached os limit t s new → RanUpTo new os limit t s
ran_up_to old new os limit t s law e l r h k =
    record { within = k.within; reached = k.reached; sound = run-is-sound old os limit t s law e l r h }

pub ran : (old new : Parts) (os : List Loadable) (limit : ℕ) (t : Script) (s : System) (quiet : Bool) (c : Counts) → RunLaw t
    → old.steps ≡ 0 → limit ≤ most_steps → Represents old os s → IsSound s → HasEnded os limit t s new quiet c → Ran new os limit t s
ran old new os limit t s quiet c law e l r h k = record { last = k.last; sound = run-is-sound old os limit t s law e l r h }

-- before the first step
pub none_made : (n : Parts) (os : List Loadable) (limit : ℕ) (t : Script) (s : System) → n.steps ≡ 0 → Represents n os s → IsSound s
    → HasReached os limit t s n
none_made n os limit t s e r h =
    let none : Counts = record { emits = 0; faults = 0 } in
    reached os limit t s n none (λ made. Unit {0}) (course_start os limit t s n none (λ made. Unit {0}) e r h refl refl tt)

pub placement_as : (n : Parts) (os : List Loadable) (s : System) (m count : ℕ) → m ≡ count → Represents n os s
    → placement_lines (kernel_of n.mem) n.owner m ≡ placement_lines s.kernel s.owner count
placement_as n os s m count e r = ap (λ k. placement_lines (kernel_of n.mem) n.owner k) e ∙ placement_same n os s count r

-- the line of the end
pub end_line_as : (t : Script) (r : Run) (q : Bool) (n e f : ℕ) (line text : List ℕ) → text ≡ line
    → line ≡ reason_text q ++ decimal n ++ codes " emits " ++ decimal e ++ codes " faults " ++ decimal f ++ end_of_line
    → IsEnd t r q n e f → text ∷ [] ≡ end_line t r ∷ []
end_line_as t r q n e f line text same is h = ap (λ (x : List ℕ). x ∷ []) (same ∙ is ∙ end_is t r q n e f h)
