use Rattle.std.proofs.Common.{arith, sym, ap, ◌∙◌}
use Rattle.std.proofs.lemmas.Result.{err_from_is_err_and}
use Rattle.object_form.specs.Spelling.{object_bytes}
use Rattle.object_form.specs.Faults.{first_form_fault}
use Rattle.object_form.proofs.Named.{read-meets, read-text}
use Rattle.object_form.proofs.Objects.{object-has_no_fault, only-memory}
use Rattle.object_form.proofs.reading.read_object.Goals as goal

pub returns-in_err-head-clause-only : goal.returns-in_err-head-clause-only
returns-in_err-head-clause-only c =
    let p = err_from_is_err_and c.from_residual.result c.from_residual.ensures.1 in
    rw (p.1, p.2) (λ o text. only-memory _ (first_form_fault c.args.text.now) (ap first_form_fault text ∙ object-has_no_fault o) c.in_err-head.ensures)

pub invariant_of-result : goal.invariant_of-result
invariant_of-result c = record { form = read-meets c.args.text.now _ (λ i. omega (arith, c.type_inv.text i)) c.in_ok-head.ensures }

pub returns-clause-found : goal.returns-clause-found
unfolding object_bytes
returns-clause-found c = read-text c.args.text.now _ (λ i. omega (arith, c.type_inv.text i)) c.in_ok-head.ensures

pub returns-clause-only : goal.returns-clause-only
unfolding object_bytes
returns-clause-only c = λ o text. c.one_object_has_a_text.ensures _ o (sym (read-text c.args.text.now _ (λ i. omega (arith, c.type_inv.text i)) c.in_ok-head.ensures) ∙ text)
