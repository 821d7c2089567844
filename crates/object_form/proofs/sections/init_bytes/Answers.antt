use Rattle.std.proofs.Common.{◌≡◌, ℕ, ◌+◌, ◌-◌, ◌≤◌, List, length, take, drop, ap, sym, ◌∙◌, arith, length-drop}
use Rattle.std.proofs.lemmas.List.{get_or-drop}
use Rattle.std.proofs.lemmas.Result.{IfOk-weaker}
use Rattle.object_form.specs.Reading.{byte_at, bytes_from}
use Rattle.object_form.proofs.Blocks.{listed-take}
use Rattle.object_form.proofs.sections.init_bytes.Goals as goal

range-read : (t : List ℕ) (start count : ℕ) → start + count ≤ length t → take (start + count - start) (drop start t) ≡ bytes_from t start count
range-read t start count le =
    let size : start + count - start ≡ count = omega arith in
    ap (λ n. take n (drop start t)) size ∙ sym (listed-take count (λ k. byte_at t (start + k)) (drop start t) 0 (omega (arith, length-drop start t)) (λ k lt. sym (get_or-drop start t k 0)))

pub returns : goal.returns
returns c = IfOk-weaker c.from_slice.result _ _ (λ list same. same ∙ range-read c.args.text.now c.args.start c.args.count c.requires) c.from_slice.ensures
