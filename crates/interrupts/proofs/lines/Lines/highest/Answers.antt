use Rattle.std.proofs.Common.{◌≡◌, refl, sym, ap, ◌∙◌}
use Rattle.std.specs.FinSet as set
use Rattle.std.proofs.lemmas.Bool.{true≢false}
use Rattle.interrupts.specs.LineSets.{LineSet, lines_of}
use Rattle.interrupts.proofs.Members.{lines_of-zero, not_empty, highest_is_line, highest_contained, none_higher}
use Rattle.interrupts.proofs.lines.Lines.highest.Goals as goal

pub returns-then-self-eq0-clause-none : goal.returns-then-self-eq0-clause-none
returns-then-self-eq0-clause-none c =
    let empty : c.args.self.now ≡ set.empty = sym c.self.view_is ∙ (ap lines_of c.if-self-eq0.true ∙ lines_of-zero) in
    (λ _. empty, λ _. refl)

pub returns-else-self-eq0-clause-none : goal.returns-else-self-eq0-clause-none
returns-else-self-eq0-clause-none c =
    (λ e. absurd (true≢false e), λ e. absurd (not_empty c.self.inside.word c.ilog2.result c.self.invariant c.ilog2.ensures.power_le c.ilog2.ensures.next_power_gt (c.self.view_is ∙ e)))

pub returns-else-self-eq0-clause-member : goal.returns-else-self-eq0-clause-member
returns-else-self-eq0-clause-member c =
    ap (λ (s : LineSet). set.contains s c.ilog2.result) (sym c.self.view_is)
    ∙ highest_contained c.self.inside.word c.ilog2.result c.self.invariant c.ilog2.ensures.power_le c.ilog2.ensures.next_power_gt

pub returns-else-self-eq0-clause-greatest : goal.returns-else-self-eq0-clause-greatest
returns-else-self-eq0-clause-greatest c =
    λ k h. none_higher c.self.inside.word c.ilog2.result c.ilog2.ensures.next_power_gt k (ap (λ (s : LineSet). set.contains s k) c.self.view_is ∙ h)

pub returns-else-self-eq0-clause-line : goal.returns-else-self-eq0-clause-line
returns-else-self-eq0-clause-line c = highest_is_line c.self.inside.word c.ilog2.result c.self.invariant c.ilog2.ensures.power_le c.ilog2.ensures.next_power_gt
